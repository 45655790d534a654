-- What the topology list leaves in the lent list, from what the walk gave.
-- Assumes nothing.
use Rattle.std.specs.Prelude.{Result}
use mathlib.Core.Path.{◌≡◌, sym, ap, subst, ◌∙◌}
use mathlib.Core.List.{List, ◌++◌}
use Prim.Native.Nat.{ℕ, ◌+◌, ◌*◌, ◌/◌, ◌≤◌}
use native.Mathlib.Omega.{arith}
use lib.ListN.{length, take, drop, take-append-drop}
use lib.Seq.{sets, sets-eq, length-take-le}
use Rattle.mass.specs.declared.refusal.Refusal.{Refusal}
use Rattle.plan.specs.Plan.{Plan}
use Rattle.plan.specs.LentLists.{Lent, plan_of_lists, in_words, lists_number}
use Rattle.plan.specs.declared.Header.{Header}
use Rattle.plan_lists.specs.Taken.{Taken}
use Rattle.network.specs.Outage.{intact}
use Rattle.topology_list.specs.Entries.{TopologyList, entry_words}
use Rattle.topology_list.specs.TopologyList.{topology_list_of}
use Rattle.topology_list.specs.Words.{entries_of, HoldsList}
use Rattle.topology_list.specs.Calls.{topology_list_in, list_after}
use Rattle.topology_list.proofs.EntryLaws.{words_of}

-- the words hold the entries from the start, and stay as they were past the last one
laid-down : (out : TopologyList) (words words' : List ℕ) (q : Result ℕ Refusal) → HoldsList out 0 words words' q
    → words' ≡ sets words 0 (entry_words out.entries)
laid-down out words words' q g = go (length out.entries) g.entries g.room g.others
  where
    zero-less : (k : ℕ) → 0 + k ≡ k
    zero-less k = omega arith

    go : (n : ℕ) → entries_of n words' ≡ out.entries → 4 * n ≤ length words' → drop (4 * n) words' ≡ drop (4 * n) words
        → words' ≡ sets words 0 (entry_words out.entries)
    go n entries room others =
        let is : entry_words out.entries ≡ take (4 * n) words' = ap entry_words (sym entries) ∙ words_of n words' room in
        let long : length (take (4 * n) words') ≡ 4 * n = length-take-le (4 * n) words' room in
        let rest : drop (0 + length (take (4 * n) words')) words ≡ drop (4 * n) words' =
        ap (λ (k : ℕ). drop (0 + k) words) long ∙ ap (λ (k : ℕ). drop k words) (zero-less (4 * n)) ∙ sym others in
        rw is
        (sym (sets-eq (take (4 * n) words') words 0 (omega (arith, room, g.sized))
        ∙ ap (λ (l : List ℕ). take (4 * n) words' ++ l) rest
        ∙ take-append-drop (4 * n) words'))

-- the walk of the arrays that accepted lists were taken into gave the list
module _ (h : Header) (links events list bytes words : List ℕ) (t : Taken h links events bytes words) (list' : List ℕ) (q : Result ℕ Refusal)
    (gave : HoldsList (topology_list_of intact (length list / 4) (plan_of_lists h bytes words)) 0 list list' q) where
  abbrev lent : Lent
  lent = in_words h links events

  pub gave_lent : HoldsList (topology_list_in intact lent list) 0 list list' q
  gave_lent = subst (λ (p : Plan). HoldsList (topology_list_of intact (length list / 4) p) 0 list list' q) t.denoted gave

  pub left_in : 0 ≡ lists_number lent → list' ≡ list_after intact lent list
  left_in z = rw (sym z) (laid-down _ list list' q gave_lent)
