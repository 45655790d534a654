-- An equipment sheet: document 02, request U2. What a sheet file denotes, and the events that its lines become.
-- Assumes nothing.
use Rattle.std.specs.Prelude.{List, map, ℕ, ◌*◌}
use Rattle.plan.specs.Plan.{Event}
use Rattle.sheet_order.specs.Order.{ordered}

-- a line of equipment: failures in 10^9 hours (FIT), hours of repair, length (1 for a box, kilometres for cable), its set of nodes and its
-- set of links
pub record Line : Type 0 where
  pub fit : ℕ
  pub hours : ℕ
  pub extent : ℕ
  pub nodes : ℕ
  pub links : ℕ

-- a sheet: the counts of nodes and of links, and the lines
pub record Sheet : Type 0 where
  pub nodes : ℕ
  pub links : ℕ
  pub lines : List Line

-- "Its probability in 10^-9 is FIT × hours × length, exactly"
abbrev pub unavailability : Line → ℕ
unavailability l = l.fit * l.hours * l.extent

-- the event of a line
abbrev pub event_of_line : Line → Event
event_of_line l = record { probability = unavailability l; nodes = l.nodes; links = l.links }

-- "The lines become events in falling probability, ties in sheet order, each line used exactly once"
unfoldable pub sheet_events : Sheet → List Event
sheet_events s = ordered (λ (e : Event). e.probability) (map event_of_line s.lines)
