-- The listing of a plan file: document 01, section "Listing", to the byte. 32 is a space, 10 a line feed.
-- Assumes nothing.
use mathlib.Core.List.{List, [], ◌∷◌, ◌++◌, flatten}
use Rattle.std.specs.Prelude.{ℕ, zero, suc, length}
use Rattle.plan.specs.Plan.{Plan}
use Rattle.plan.specs.File.{refusal, plan_of}
use Rattle.network.specs.Outage.{Outage}
use Rattle.walk.specs.Walk.{count, complete, mass_examined}
use Rattle.pairs.specs.Pairs.{table}
use Rattle.bounds.specs.Bounds.{lower_of, upper_of}
use Rattle.text.specs.Decimal.{decimal}

-- a field and the byte after it
unfoldable pub field : ℕ → ℕ → List ℕ
field x end = decimal x ++ (end ∷ [])

-- a line: its fields, "separated by one space, and each line ends with one line feed"
unfoldable pub line : List ℕ → List ℕ
line [] = 10 ∷ []
line (x ∷ []) = field x 10
line (x ∷ y ∷ fields) = field x 32 ++ line (y ∷ fields)

-- the texts of all pairs of n nodes, "ordered by v, then w"
abbrev pub pairs_text : (ℕ → ℕ → List ℕ) → ℕ → List ℕ
pairs_text f n = flatten (table f n)

-- the line of a pair: "v, w, lower, upper"
unfoldable pub pair_line : Outage → Plan → ℕ → ℕ → List ℕ
pair_line out p v w = line (v ∷ w ∷ lower_of out p v w ∷ upper_of out p v w ∷ [])

-- the listing of a plan. "Line 1: nodes, links, events, examined count, complete, E. Then for each pair: v, w, lower, upper."
unfoldable pub plan_text : Outage → Plan → List ℕ
plan_text out p =
    line (p.nodes ∷ length p.links ∷ length p.events ∷ count p ∷ complete p ∷ mass_examined p ∷ [])
    ++ pairs_text (pair_line out p) p.nodes

-- "A refused plan prints only one line: `refused`, a space and its number."
unfoldable pub refused_text : ℕ → List ℕ
refused_text number = 114 ∷ 101 ∷ 102 ∷ 117 ∷ 115 ∷ 101 ∷ 100 ∷ 32 ∷ line (number ∷ [])

-- the text of the answer to a call that is refused with a number, 0 if it is not
unfoldable pub answer_text : Outage → ℕ → Plan → List ℕ
answer_text out zero p = plan_text out p
answer_text out (suc number) p = refused_text (suc number)

-- the listing of a list of bytes
unfoldable pub listing : Outage → List ℕ → List ℕ
listing out b = answer_text out (refusal b) (plan_of b)
