-- The walk for several thresholds: what its loops ask and promise, for each threshold by itself.
-- Assumes nothing.
use Rattle.std.specs.Prelude.{◌≡◌, refl, true, ◌&&◌, List, ℕ, ◌+◌, ◌-◌, ◌*◌, ◌<◌, ◌≤◌, leb, ltb, length, get_or, take}
use Rattle.mass.specs.Split.{whole}
use Rattle.sets.specs.Sets.{bit, joined, digit}
use Rattle.plan.specs.Plan.{Plan}
use Rattle.plan.specs.LentLists.{plan_of_lists}
use Rattle.plan.specs.declared.Header.{Header}
use Rattle.network.specs.Outage.{intact}
use Rattle.walk.specs.Scenario.{scenario_of}
use Rattle.walk.specs.Ends.{End, sum_ends, weighed}
use Rattle.walk.specs.Walk.{count, complete, mass_examined}
use Rattle.pairs.specs.Pairs.{place, pair_count}
use Rattle.bounds.specs.Bounds.{cuts, lower_of}
use Rattle.thresholds_walk.specs.Stack.{shared_to_come}
use Rattle.thresholds_walk.specs.Paths.{SharedWalk, path_ends, own_then_dropped}
use Rattle.thresholds_walk.specs.declared.WorksPath.{WorksPath}
use Rattle.thresholds_sums.specs.declared.PlaceNumbers.{PlaceNumbers}

-- a header with another threshold
abbrev pub with_threshold : Header → ℕ → Header
with_threshold h t = record { nodes = h.nodes; links = h.links; events = h.events; threshold = t; cap = h.cap }

-- the plan of the arrays with the threshold t
abbrev pub plan_with : Header → List ℕ → List ℕ → ℕ → Plan
plan_with h links words t = plan_of_lists (with_threshold h t) links words

-- the plans of several thresholds, which differ in the threshold alone: a header, the arrays of links and events, and the thresholds
pub record Plans : Type 0 where
  pub header : Header
  pub links : List ℕ
  pub words : List ℕ
  pub list : List ℕ

abbrev pub plans_of : Header → List ℕ → List ℕ → List ℕ → Plans
plans_of h links words list = record { header = h; links = links; words = words; list = list }

-- that of threshold i
abbrev pub plan_for : Plans → ℕ → Plan
plan_for ps i = plan_with ps.header ps.links ps.words (get_or ps.list i 0)

-- the first `count` of a list of thresholds are 1 to 10^18 and fall strictly
pub record FallingFirst (count : ℕ) (list : List ℕ) : Type 0 where
  pub few : count ≤ 16
  pub some : (i : ℕ) → i < count → 1 ≤ get_or list i 0
  pub most : (i : ℕ) → i < count → get_or list i 0 ≤ whole
  pub falling : (i j : ℕ) → i < j → j < count → get_or list j 0 < get_or list i 0

-- the numbers of 16 thresholds: for each what is left of its room, how many scenarios it examined, and their mass
abbrev pub place_numbers : List ℕ → List ℕ → List ℕ → PlaceNumbers
place_numbers rooms counts masses = record { rooms = rooms; counts = counts; masses = masses }

-- those of one threshold. `room` is one more than the ends that may still be reached, 0 where more were: so the walk is complete where fewer
-- ends are to come than it says
pub record OwnNumbers : Type 0 where
  pub room : ℕ
  pub count : ℕ
  pub mass : ℕ

abbrev pub numbers_at : PlaceNumbers → ℕ → OwnNumbers
numbers_at n i = record { room = get_or n.rooms i 0; count = get_or n.counts i 0; mass = get_or n.masses i 0 }

-- what was counted so far for one threshold, and what is to come, give its plan's answers. `block` is where its block begins
pub record CountedSoFar (p : Plan) (coming : List End) (o : OwnNumbers) (block : ℕ) (lower : List ℕ) : Type 0 where
  pub counts : o.count + sum_ends (λ s m. 1) (take (o.room - 1) coming) ≡ count p
  pub masses : o.mass + sum_ends (λ s m. m) (take (o.room - 1) coming) ≡ mass_examined p
  pub entries : (v w : ℕ) → v < w → w < p.nodes
      → get_or lower (place p.nodes v w + block) 0 + weighed (λ s. digit (cuts intact p v w s)) (take (o.room - 1) coming) ≡ lower_of intact p v w
  pub below : (v w : ℕ) → v < w → w < p.nodes → get_or lower (place p.nodes v w + block) 0 ≤ o.mass
  pub ends : digit (ltb (length coming) o.room) ≡ complete p

-- the walk of one threshold has ended: its numbers and its block hold its plan's answers
pub record HoldsAnswers (p : Plan) (o : OwnNumbers) (block : ℕ) (lower : List ℕ) : Type 0 where
  pub counts : o.count ≡ count p
  pub masses : o.mass ≡ mass_examined p
  pub entries : (v w : ℕ) → v < w → w < p.nodes → get_or lower (place p.nodes v w + block) 0 ≡ lower_of intact p v w
  pub ends : digit (ltb 0 o.room) ≡ complete p

-- 1 where a path's scenario, with the mass `last`, is examined by the walk with the threshold t, of which so much room is left, else 0
abbrev pub examined_by : ℕ → ℕ → ℕ → ℕ
examined_by t room last = digit (leb t last && leb 2 room)

-- examples: a scenario at its threshold, with room for it; one below the threshold; and one past the cap
example-examined : (examined_by 5 2 5 ≡ 1) × (examined_by 6 2 5 ≡ 0) × (examined_by 5 1 5 ≡ 0)
example-examined = (refl, refl, refl)

-- the blocks and the sums of the first `active` thresholds have room for what a path's scenario adds to them
abbrev pub PathFits : Header → ℕ → WorksPath → List ℕ → List ℕ → List ℕ → Type 0
PathFits h active path list rooms lower =
    (i : ℕ) → i < active → (v w : ℕ) → v < w → w < h.nodes
    → get_or lower (place h.nodes v w + pair_count h.nodes * i) 0 + path.last * examined_by (get_or list i 0) (get_or rooms i 0) path.last ≤ whole

abbrev pub CountsFit : ℕ → WorksPath → List ℕ → PlaceNumbers → Type 0
CountsFit active path list n =
    (i : ℕ) → i < active
    → (get_or n.counts i 0 < 4294967296)
    × (get_or n.masses i 0 + path.last * examined_by (get_or list i 0) (get_or n.rooms i 0) path.last ≤ whole)

-- a set of blocks holds those of the first `active` thresholds whose walks examine a scenario with the mass `last`, and no other
pub record WantedBlocks (list rooms : List ℕ) (active last blocks : ℕ) : Type 0 where
  pub each : (b : ℕ) → b < active → digit (bit blocks b) ≡ examined_by (get_or list b 0) (get_or rooms b 0) last
  pub within : (b : ℕ) → bit blocks b ≡ true → b < active

-- what one path adds to the blocks of the first `active` thresholds, whose rooms are given: its mass, to the entries of the pairs that its
-- scenario's topology disconnects, where the threshold's walk examines it; all else is untouched
pub record PathAdded (ps : Plans) (active : ℕ) (path : WorksPath) (rooms lower lower' : List ℕ) : Type 0 where
  pub sized : length lower' ≡ length lower
  pub each : (i : ℕ) → i < active → (v w : ℕ) → v < w → w < ps.header.nodes
      → get_or lower' (place ps.header.nodes v w + pair_count ps.header.nodes * i) 0
      ≡ get_or lower (place ps.header.nodes v w + pair_count ps.header.nodes * i) 0
      + path.last * examined_by (get_or ps.list i 0) (get_or rooms i 0) path.last
      * digit (cuts intact (plan_of_lists ps.header ps.links ps.words) v w (scenario_of ps.header.events (joined path.low path.high)))
  pub past : (j : ℕ) → pair_count ps.header.nodes * active ≤ j → get_or lower' j 0 ≡ get_or lower j 0

-- a place for each of 16 thresholds
pub record Places (n : PlaceNumbers) : Type 0 where
  pub rooms-size : length n.rooms ≡ 16
  pub counts-size : length n.counts ≡ 16
  pub masses-size : length n.masses ≡ 16

-- place i is the same in both
abbrev pub SamePlace : PlaceNumbers → PlaceNumbers → ℕ → Type 0
SamePlace n n' i =
    (get_or n'.rooms i 0 ≡ get_or n.rooms i 0) × (get_or n'.counts i 0 ≡ get_or n.counts i 0) × (get_or n'.masses i 0 ≡ get_or n.masses i 0)

-- what one path counts for one threshold: its ends come off the room, and its scenario is counted where it is examined
pub record Counted (k : SharedWalk) (t : ℕ) (path : WorksPath) (o o' : OwnNumbers) : Type 0 where
  pub ends : ℕ
  pub are : path_ends k.count t k.words path ≡ own_then_dropped k.count t path ends
  pub none : ends ≡ 0 → path.last < t
  pub left : o'.room ≡ o.room - ends
  pub counted : o'.count ≡ o.count + examined_by t o.room path.last
  pub added : o'.mass ≡ o.mass + path.last * examined_by t o.room path.last

-- and for each of the first `active` thresholds; the other places are untouched
pub record PathCounted (k : SharedWalk) (list : List ℕ) (active : ℕ) (path : WorksPath) (n n' : PlaceNumbers) : Type 0 where
  pub sized : Places n'
  pub each : (i : ℕ) → i < active → Counted k (get_or list i 0) path (numbers_at n i) (numbers_at n' i)
  pub past : (i : ℕ) → active ≤ i → SamePlace n n' i

-- the first `active` thresholds are under way: for each, what was counted so far and what is to come give its plan's answers
pub record AllCountedSoFar (ps : Plans) (active at : ℕ) (stack : List ℕ) (n : PlaceNumbers) (lower : List ℕ) : Type 0 where
  pub each : (i : ℕ) → i < active
      → CountedSoFar (plan_for ps i) (shared_to_come ps.header.events (get_or ps.list i 0) ps.words at stack)
      (numbers_at n i) (pair_count ps.header.nodes * i) lower

-- what is not of the first `active` thresholds is untouched
pub record Kept (h : Header) (active : ℕ) (n : PlaceNumbers) (lower : List ℕ) (n' : PlaceNumbers) (lower' : List ℕ) : Type 0 where
  pub places : (i : ℕ) → active ≤ i → SamePlace n n' i
  pub entries : (j : ℕ) → pair_count h.nodes * active ≤ j → get_or lower' j 0 ≡ get_or lower j 0
  pub sized : length lower' ≡ length lower
  pub arrays : Places n'

-- before the walk: nothing is reached, one more than the cap may be, and the blocks are of zeros
pub record Fresh (h : Header) (count : ℕ) (n : PlaceNumbers) (lower : List ℕ) : Type 0 where
  pub arrays : Places n
  pub fits : pair_count h.nodes * count ≤ length lower
  pub full : (i : ℕ) → i < count → get_or n.rooms i 0 ≡ h.cap + 1
  pub none : (i : ℕ) → get_or n.counts i 0 ≡ 0
  pub empty : (i : ℕ) → get_or n.masses i 0 ≡ 0
  pub zeros : (j : ℕ) → j < pair_count h.nodes * count → get_or lower j 0 ≡ 0

-- after it: each of the first `count` thresholds has its plan's answers, and all else is untouched
pub record AllHoldAnswers (ps : Plans) (count : ℕ) (n : PlaceNumbers) (lower : List ℕ) (n' : PlaceNumbers) (lower' : List ℕ) : Type 0 where
  pub each : (i : ℕ) → i < count → HoldsAnswers (plan_for ps i) (numbers_at n' i) (pair_count ps.header.nodes * i) lower'
  pub kept : Kept ps.header count n lower n' lower'
