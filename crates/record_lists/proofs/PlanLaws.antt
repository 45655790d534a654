-- A plan given by a list of records uses no record past the first 128: no plan has more events, and a list of records has room for them or not
-- whether or not it is longer.
-- Assumes nothing.
use Rattle.std.specs.Prelude.{Result, Ok, Err, IfOk}
use mathlib.Core.Path.{◌≡◌, refl, sym, ap, ◌∙◌}
use mathlib.Core.Bool.{Bool, true, false}
use mathlib.Core.List.{List, [], ◌∷◌}
use Prim.Native.Nat.{ℕ, zero, suc, ◌*◌, ◌/◌, ◌≤◌, ◌<◌, min}
use native.Mathlib.Omega.{arith}
use borrow.Author.Tests.{ltb-true, ltb-false, lt-ltb, le-ltb}
use lib.Dec.{ltb}
use lib.ListN.{length, take, replicate, length-take}
use lib.Seq.{sets, sets-eq, take_at, take-take}
use Rattle.mass.specs.Refusal.{refuse, first, number_in}
use Rattle.mass.specs.declared.refusal.Refusal.{Refusal}
use Rattle.mass.proofs.RefusalLaws.{first-none}
use Rattle.mass.specs.Split.{certain}
use Rattle.plan.specs.Plan as plan
use Rattle.plan.specs.Plan.{Plan}
use Rattle.plan.specs.Lists.{links_of, events_of}
use Rattle.plan.specs.Layout.{layout}
use Rattle.refusals.specs.Tests.{room_test}
use Rattle.plan.specs.LentLists.{Lent, plan_of_lists, plan_lent, link_list_refusal, event_list_refusal, in_words, lists_number}
use Rattle.plan.specs.Calls.{filled, write_number}
use Rattle.plan.specs.declared.Header.{Header}
use Rattle.refusals.proofs.TestLaws.{Ranges, counts-none, room-none}
use Rattle.plan_lists.proofs.CopyLaws.{same-plan}
use Rattle.plan_writing.proofs.WriterAnswer.{Outcome}
use Rattle.record_lists.specs.Events.{words_of, words_used, in_records}
use Rattle.record_lists.specs.declared.Event.{Event}
use Rattle.record_lists.proofs.EventLaws.{length-words, take_words}

-- the later tests matter only where the first one does not refuse
first-same : (a : ℕ) (xs ys : List ℕ) → (a ≡ 0 → first xs ≡ first ys) → first (a ∷ xs) ≡ first (a ∷ ys)
unfolding first
first-same zero xs ys h = h refl
first-same (suc n) xs ys h = refl

-- two rooms that have room for the same
room-same : (a b k : ℕ) → (b < k → a < k) → (k ≤ b → k ≤ a) → room_test a k ≡ room_test b k
room-same a b k l r = ap (λ (t : Bool). refuse t 12) (go (ltb b k) refl)
  where
    go : (t : Bool) → ltb b k ≡ t → ltb a k ≡ ltb b k
    go true e = lt-ltb a k (l (ltb-true b k e)) ∙ sym (lt-ltb b k (ltb-true b k e))
    go false e = le-ltb a k (r (ltb-false b k e)) ∙ sym (le-ltb b k (ltb-false b k e))

-- the words that `flatten` leaves, and the part of them that a call is given
pub used-words : (es : List Event) (room : List ℕ) → length room ≡ 512
    → take (4 * min (length es) 128) (sets room 0 (words_of (take 128 es))) ≡ words_of (take 128 es)
used-words es room long =
    let n = length-words (take 128 es) in
    let m : length (take 128 es) ≡ min 128 (length es) = length-take 128 es in
    rw (sets-eq (words_of (take 128 es)) room 0 (omega (arith, n, m))) (take_at (words_of (take 128 es)) _ (4 * min (length es) 128) (omega (arith, n, m)))

-- the words of the first 128 records, and of all
module _ (h : Header) (ks : List ℕ) (es : List Event) where
  abbrev few : List ℕ
  few = words_of (take 128 es)

  abbrev all : List ℕ
  all = words_of es

  denote-same : h.events ≤ 128 → h.events ≤ length es → plan_of_lists h ks few ≡ plan_of_lists h ks all
  denote-same c r = same-plan h _ _ _ _ refl (take_words h.events (take 128 es) ∙ ap words_of (take-take h.events 128 es c) ∙ sym (take_words h.events es))

  -- they are refused with the same number
  pub lists-same : lists_number (in_words h ks few) ≡ lists_number (in_records h ks es)
  unfolding lists_number plan_of_lists
  lists-same =
      first-same _ _ _ (λ c.
      let fit : Ranges h.nodes h.links h.events = counts-none _ _ _ c in
      first-same _ _ _ (λ _. first-same _ _ _ (λ _. first-same _ _ _ (λ _.
      ap (λ (t : ℕ). first (t ∷ link_list_refusal h.nodes (links_of h.links ks) ∷ event_list_refusal h.nodes h.links certain (events_of h.events few) ∷ []))
      (room-same (length few / 4) (length es) h.events (λ l. omega (arith, n, m)) (λ l. omega (arith, n, m)))
      ∙ first-same _ _ _ (λ z.
      ap (λ (v : List plan.Event). first (link_list_refusal h.nodes (links_of h.links ks) ∷ event_list_refusal h.nodes h.links certain v ∷ []))
      (ap (λ (p : Plan). p.events) (denote-same fit.events-fit (room-none _ _ z))))))))
    where
      n : length few ≡ 4 * length (take 128 es)
      n = length-words (take 128 es)

      m : length (take 128 es) ≡ min 128 (length es)
      m = length-take 128 es

  -- and denote the same plan where they are not refused
  pub plan-same : lists_number (in_records h ks es) ≡ 0 → plan_of_lists h ks few ≡ plan_of_lists h ks all
  unfolding lists_number
  plan-same e =
      let c = first-none _ _ e in
      let r = first-none _ _ (first-none _ _ (first-none _ _ (first-none _ _ c.1).1).1).1 in
      let fit : Ranges h.nodes h.links h.events = counts-none _ _ _ c.0 in
      denote-same fit.events-fit (room-none _ _ r.0)

  -- so the same is told of them, where a refusal tells nothing of the plan
  pub told-all : {B : Type 0} (f : ℕ → Plan → B) → ((n : ℕ) (p q : Plan) → f (suc n) p ≡ f (suc n) q)
      → f (lists_number (in_words h ks few)) (plan_of_lists h ks few) ≡ f (lists_number (in_records h ks es)) (plan_of_lists h ks all)
  told-all {B} f silent = ap (λ (n : ℕ). f n (plan_of_lists h ks few)) lists-same ∙ go (lists_number (in_records h ks es)) plan-same
    where
      go : (n : ℕ) → (n ≡ 0 → plan_of_lists h ks few ≡ plan_of_lists h ks all) → f n (plan_of_lists h ks few) ≡ f n (plan_of_lists h ks all)
      go zero same = ap (f zero) (same refl)
      go (suc n) same = silent n _ _

-- from records to a call on words: the used part of the words that `flatten` leaves is refused with the number that the records have, 12
-- for a header with more events than records among them
pub bridged : (h : Header) (links : List ℕ) (es : List Event) (room : List ℕ) → length room ≡ 512
    → lists_number (in_words h links (words_used (length es) (sets room 0 (words_of (take 128 es))))) ≡ lists_number (in_records h links es)
bridged h links es room long = ap (λ (ws : List ℕ). lists_number (in_words h links ws)) (used-words es room long) ∙ lists-same h links es

-- computed: three records, all zeros, beside a header with five events. The used part of the words meets 12; all 512 of them would be accepted.
abbrev five : Header
five = record { nodes = 1; links = 0; events = 5; threshold = 1; cap = 1 }

example-bridged : (lists_number (in_words five [] (words_used 3 (replicate 512 0))) ≡ 12) × (lists_number (in_words five [] (replicate 512 0)) ≡ 0)
unfolding lists_number link_list_refusal event_list_refusal links_of events_of first
example-bridged = (refl, refl)

-- a plan written from the words of the first 128 records is that of all of them
module _ (h : Header) (links out left : List ℕ) (es : List Event) (r : Result ℕ Refusal) (o : Outcome (in_words h links (words_of (take 128 es))) out left r) where
  abbrev whole : Lent
  whole = in_records h links es

  same_number : number_in r ≡ write_number whole (length out)
  unfolding write_number first
  same_number = o.0 ∙ told-all h links es (λ n p. first (n ∷ room_test (length out) (length (layout p)) ∷ [])) (λ n p q. refl)

  same_file : number_in r ≡ 0 → plan_of_lists h links (words_of (take 128 es)) ≡ plan_lent whole
  unfolding write_number
  same_file z = plan-same h links es (first-none _ _ (sym same_number ∙ z)).0

  pub written-list : Outcome whole out left r
  written-list = (same_number, (size r o.1.0 same_file, o.1.1 ∙ list (number_in r) same_file))
    where
      size : (r : Result ℕ Refusal)
          → IfOk r (λ n. n ≡ length (layout (plan_of_lists h links (words_of (take 128 es)))))
          → (number_in r ≡ 0 → plan_of_lists h links (words_of (take 128 es)) ≡ plan_lent whole)
          → IfOk r (λ n. n ≡ length (layout (plan_lent whole)))
      size (Ok n) e same = e ∙ ap (λ (p : Plan). length (layout p)) (same refl)
      size (Err x) e same = tt

      list : (n : ℕ) → (n ≡ 0 → plan_of_lists h links (words_of (take 128 es)) ≡ plan_lent whole)
          → filled n (layout (plan_of_lists h links (words_of (take 128 es)))) out ≡ filled n (layout (plan_lent whole)) out
      list zero same = ap (λ (p : Plan). filled 0 (layout p) out) (same refl)
      list (suc n) same = refl
