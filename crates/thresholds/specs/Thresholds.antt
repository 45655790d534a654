-- Several thresholds in one walk: document 02, request U8.
-- Assumes nothing.
use Rattle.std.specs.Prelude.{Bool, true, not, ◌&&◌, ◌||◌, List, [], ◌∷◌, ◌++◌, map, ℕ, zero, suc, ◌-◌, ◌*◌, ◌<◌, leb, ltb, length, get_or, drop, replicate}
use Rattle.mass.specs.Refusal.{refuse, first}
use Rattle.mass.specs.Split.{whole}
use Rattle.refusals.specs.Tests.{room_test}
use Rattle.plan.specs.Plan.{Plan}
use Rattle.plan.specs.LentLists.{Lent, in_words, lists_number, plan_lent}
use Rattle.plan.specs.declared.Header.{Header}
use Rattle.network.specs.Outage.{intact}
use Rattle.walk.specs.Walk.{count, complete, mass_examined}
use Rattle.pairs.specs.Pairs.{pair_count}
use Rattle.bounds.specs.Bounds.{EnclosesAll}
use Rattle.thresholds.specs.declared.CommonHeader.{CommonHeader}
use Rattle.thresholds.specs.declared.Answered.{Answered}

-- the header of a run with the threshold t
abbrev pub header_at : CommonHeader → ℕ → Header
header_at h t = record { nodes = h.nodes; links = h.links; events = h.events; threshold = t; cap = h.cap }

-- what is lent, with the threshold t
abbrev pub lent_at : CommonHeader → List ℕ → List ℕ → ℕ → Lent
lent_at h links events t = in_words (header_at h t) links events

-- "the same plan with that threshold and the plan's cap"
abbrev pub plan_at : CommonHeader → List ℕ → List ℕ → ℕ → Plan
plan_at h links events t = plan_lent (lent_at h links events t)

-- whether the thresholds of a list are 1 or more, and fall strictly from one that is below `above`
abbrev pub falls : ℕ → List ℕ → Bool
falls above [] = true
falls above (t ∷ later) = leb 1 t && ltb t above && falls t later

-- 23: "an empty list, more than 16, a value outside 1 to 10^18, or one that doesn't fall"
abbrev pub thresholds_test : List ℕ → ℕ
thresholds_test list = refuse (leb (length list) 0 || ltb 16 (length list) || not (falls (suc whole) list)) 23

-- the order: the tests of what is lent, 23, then 12 for each of the two lists of bounds; the call takes no threshold beside the list, so what
-- is lent has the threshold 1, which no test refuses, and there is no 5
unfoldable pub thresholds_number : Lent → List ℕ → ℕ → ℕ → ℕ
thresholds_number l list lower_room upper_room =
    first
    (lists_number l
    ∷ thresholds_test list
    ∷ room_test lower_room (pair_count l.header.nodes * length list)
    ∷ room_test upper_room (pair_count l.header.nodes * length list)
    ∷ [])

-- "the blocks of bounds follow one another .. in the order of the thresholds": f gives the block of one threshold's plan
abbrev pub blocks : (ℕ → List ℕ) → List ℕ → List ℕ
blocks f [] = []
blocks f (t ∷ later) = f t ++ blocks f later

-- the values of the 16 places: one for each threshold, "0 past the last"
abbrev pub places : (ℕ → ℕ) → List ℕ → List ℕ
places f list = map f list ++ replicate (16 - length list) 0

-- the answer of an accepted call: the plan of each threshold has its own count, complete flag and E
abbrev pub answer_of : (ℕ → Plan) → List ℕ → Answered
answer_of plan list =
    record {
      count = places (λ t. count (plan t)) list;
      complete = places (λ t. complete (plan t)) list;
      mass = places (λ t. mass_examined (plan t)) list;
    }

-- of a refusal: all numbers are 0
abbrev pub no_answer : Answered
no_answer = record { count = replicate 16 0; complete = replicate 16 0; mass = replicate 16 0 }

-- what a call hands out, by its number
abbrev pub thresholds_answer : ℕ → (ℕ → Plan) → List ℕ → Answered
thresholds_answer zero plan list = answer_of plan list
thresholds_answer (suc number) plan list = no_answer

-- demand 3 for every pair of every block: that of place i begins at i times the number of pairs
abbrev pub EnclosesBlocks : (ℕ → Plan) → List ℕ → List ℕ → List ℕ → List ℕ → Type 0
EnclosesBlocks plan list lowers uppers counts =
    (i : ℕ) → i < length list
    → EnclosesAll intact (plan (get_or list i 0)) (drop (pair_count (plan (get_or list i 0)).nodes * i) lowers)
    (drop (pair_count (plan (get_or list i 0)).nodes * i) uppers)
    (get_or counts i 0)
