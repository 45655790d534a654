-- "The list's masses sum to E, and bounds taken from it equal those of the run": document 01, section "Further readings of a plan". First of a plan's topology
-- list, then of the entries that the call writes. And when 15 is met.
-- Assumes nothing.
use mathlib.Core.Path.{◌≡◌, refl, ap, ◌∙◌}
use mathlib.Core.List.{List, [], ◌∷◌, ◌++◌}
use Prim.Native.Nat.{ℕ, ◌-◌, ◌*◌, ◌/◌, ◌≤◌, ◌<◌}
use native.Mathlib.Nat.{zero-add}
use native.Mathlib.Omega.{arith}
use lib.ListN.{length, drop}
use lib.Seq.{sets-eq}
use Rattle.mass.proofs.RefusalLaws.{first-none}
use Rattle.mass.specs.Split.{whole}
use Rattle.plan.specs.Plan.{Plan}
use Rattle.plan.specs.LentLists.{Lent, lists_number, plan_of_lists, plan_lent}
use Rattle.plan_layout.proofs.ListLaws.{length-links-of}
use Rattle.plan_lists.proofs.CopyLaws.{lists-fit}
use Rattle.walk.specs.Walk.{first_ends, mass_examined}
use Rattle.bounds.specs.Bounds.{lower_of, upper_of, topology_of, cuts}
use Rattle.topology_list.specs.Entries.{Entry, masses_in, TopologyList, topology_list, entry_words}
use Rattle.topology_list.specs.TopologyList.{topology_after, topology_list_of}
use Rattle.topology_list.specs.Different.{Different, different_of}
use Rattle.topology_list.proofs.ListLaws.{different-placed, never-over, sum-placed, masses-are}
use Rattle.topology_list.specs.ListBounds.{lower_from, upper_from, sum_entries, cut_in}
use Rattle.topology_list.specs.Words.{entries_of}
use Rattle.topology_list.specs.Calls.{topology_list_in, topologies_number, list_after}
use Rattle.topology_list.proofs.EntryLaws.{entry-words-length}
use mathlib.Core.Logic.{◌↔◌}
use native.Mathlib.Decide.{dec_le}
use Rattle.topology_list.proofs.RoomLaws.{room-for-all, no-room-for-all}
use mathlib.Core.Bool.{Bool, not}
use Rattle.sets.specs.Sets.{digit}
use Rattle.network.specs.Outage.{intact}
use Rattle.walk.specs.Ends.{sum_ends, weighed}
use Rattle.topology_list.specs.declared.Topology.{Topology}
use Rattle.topology_list.proofs.ListBounds.{same-cut, same_sum}

module _ (p : Plan) (room : ℕ) (placed-all : (topology_list_of intact room p).number ≡ 0) where
  abbrev entries : List Entry
  entries = (topology_list_of intact room p).entries

  -- where 15 is not met, a sum of mass × weight over the entries is that over the examined scenarios, whatever the weight of a topology
  pub sum_is : (weight : Topology → ℕ) → sum_entries weight entries ≡ sum_ends (λ s m. m * weight (topology_after intact p s)) (first_ends p)
  unfolding topology_list_of
  sum_is weight = sum-placed room (topology_after intact p) weight [] (first_ends p) placed-all ∙ zero-add _

  -- the list's masses sum to E
  pub list-sums : masses_in entries ≡ mass_examined p
  list-sums = masses-are entries ∙ sum_is (λ t. 1) ∙ same_sum _ _ (λ s m. one m) (first_ends p)
    where
      one : (m : ℕ) → m * 1 ≡ m
      one m = omega arith

  module _ (few : p.nodes ≤ 64) (few_links : length p.links ≤ 128) (v w : ℕ) where
    -- a sum of mass × weight by whether the pair is disconnected is that over the examined scenarios
    cut_sum : (weight : Bool → ℕ) → sum_entries (λ t. weight (cut_in p v w t)) entries ≡ weighed (λ s. weight (cuts intact p v w s)) (first_ends p)
    cut_sum weight =
        sum_is (λ t. weight (cut_in p v w t))
        ∙ same_sum _ _
        (λ s m. ap (λ (b : Bool). m * weight b) (same-cut p.nodes p.links (topology_of intact p s).out few few_links v w))
        (first_ends p)

    -- so the bounds of every pair taken from it are the run's
    pub list-lower : lower_from p entries v w ≡ lower_of intact p v w
    list-lower = cut_sum digit

    pub list-upper : upper_from p entries v w ≡ upper_of intact p v w
    list-upper = ap (λ (n : ℕ). whole - n) (cut_sum (λ b. digit (not b)))

module _ (room : ℕ) (p : Plan) where
  -- with an entry for each different topology the list has them all, and with fewer entries 15 is met
  pub never-early : length (different_of intact p) ≤ room → topology_list_of intact room p ≡ topology_list (different_of intact p) 0
  unfolding topology_list_of
  never-early h = room-for-all (topology_after intact p) room [] (first_ends p) h

  pub never-late : room < length (different_of intact p) → (topology_list_of intact room p).number ≡ 15
  unfolding topology_list_of
  never-late h = no-room-for-all (topology_after intact p) room [] (first_ends p) (omega arith) h

  -- 15 is met exactly where there are more of them than entries
  pub full-iff : ((topology_list_of intact room p).number ≡ 15) ↔ (room < length (different_of intact p))
  full-iff = (there, never-late)
    where
      fits : Dec (length (different_of intact p) ≤ room) → (topology_list_of intact room p).number ≡ 15 → room < length (different_of intact p)
      fits (yes h) e = absurd (omega (arith, e, ap (λ (l : TopologyList). l.number) (never-early h)))
      fits (no n) e = omega arith

      there : (topology_list_of intact room p).number ≡ 15 → room < length (different_of intact p)
      there = fits (dec_le (length (different_of intact p)) room)

-- the entries are found again in their words
entries-of-words : (es : List Entry) (r : List ℕ) → entries_of (length es) (entry_words es ++ r) ≡ es
unfolding entries_of entry_words
entries-of-words [] r = refl
entries-of-words (e ∷ es) r = rw (entries-of-words es r)

-- a list never has more entries than room, and no two of them are equal
pub list-room : (room : ℕ) (p : Plan) → length (topology_list_of intact room p).entries ≤ room
unfolding topology_list_of
list-room room p = never-over room (topology_after intact p) [] (first_ends p) (omega arith)

pub list-different : (room : ℕ) (p : Plan) → Different (topology_list_of intact room p).entries
unfolding topology_list_of
list-different room p = different-placed room (topology_after intact p) [] (first_ends p) tt

-- what lists that are not refused leave in the lent list, also at 15: the entries' words, and after them the words that stood there
pub left_behind : (l : Lent) (list : List ℕ) → lists_number l ≡ 0
    → list_after intact l list
    ≡ entry_words (topology_list_in intact l list).entries ++ drop (4 * length (topology_list_in intact l list).entries) list
left_behind l list fine =
    rw fine
    (sets-eq (entry_words entries) list 0 (omega (arith, words, list-room (length list / 4) (plan_lent l)))
    ∙ ap (λ (n : ℕ). entry_words entries ++ drop n list) (zero-add (length (entry_words entries)) ∙ words))
  where
    entries : List Entry
    entries = (topology_list_in intact l list).entries

    words : length (entry_words (topology_list_in intact l list).entries) ≡ 4 * length (topology_list_in intact l list).entries
    words = entry-words-length (topology_list_in intact l list).entries

module _ (l : Lent) (list : List ℕ) (accepted : topologies_number intact l list ≡ 0) where
  abbrev p : Plan
  p = plan_lent l

  -- the entries in the lent list at exit, as many as the answer says (clause `count` of the call)
  abbrev written : List Entry
  written = entries_of (length (topology_list_in intact l list).entries) (list_after intact l list)

  lists-fine : lists_number l ≡ 0
  unfolding topologies_number
  lists-fine = (first-none _ _ accepted).0

  all_placed : (topology_list_in intact l list).number ≡ 0
  unfolding topologies_number
  all_placed = (first-none _ _ (first-none _ _ accepted).1).0

  -- they are the topology list
  pub written_is : written ≡ (topology_list_in intact l list).entries
  written_is =
      ap (entries_of (length (topology_list_in intact l list).entries)) (left_behind l list lists-fine)
      ∙ entries-of-words (topology_list_in intact l list).entries _

  few : p.nodes ≤ 64
  unfolding plan_of_lists
  few = (lists-fit l lists-fine).0.nodes-fit

  few-links : length p.links ≤ 128
  unfolding plan_of_lists
  few-links = omega (arith, length-links-of l.header.links l.links, (lists-fit l lists-fine).0.links-fit)

  -- their masses sum to E
  pub written-sums : masses_in written ≡ mass_examined p
  written-sums = ap masses_in written_is ∙ list-sums p (length list / 4) all_placed

  -- the bounds of every pair taken from them are those of the run
  pub written-lower : (v w : ℕ) → lower_from p written v w ≡ lower_of intact p v w
  written-lower v w =
      ap (λ (es : List Entry). lower_from p es v w) written_is ∙ list-lower p (length list / 4) all_placed few few-links v w

  pub written-upper : (v w : ℕ) → upper_from p written v w ≡ upper_of intact p v w
  written-upper v w =
      ap (λ (es : List Entry). upper_from p es v w) written_is ∙ list-upper p (length list / 4) all_placed few few-links v w
