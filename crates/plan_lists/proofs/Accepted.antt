-- What lists that no test refuses hold.
-- Assumes nothing.
use mathlib.Core.Path.{◌≡◌, ap, ◌∙◌}
use mathlib.Core.Bool.{◌||◌}
use mathlib.Core.List.{List, [], ◌∷◌}
use Prim.Native.Nat.{ℕ, zero, suc, ◌<◌, ◌≤◌}
use native.Mathlib.Omega.{arith}
use borrow.Author.Tests.{leb-false, ltb-false}
use lib.Dec.{leb, ltb}
use lib.ListN.{length}
use Rattle.mass.proofs.RefusalLaws.{refuse-none}
use Rattle.mass.specs.Split.{certain}
use Rattle.plan.specs.Plan.{Link}
use Rattle.refusals.specs.Tests.{ends_test, cap_test}
use Rattle.plan.specs.Lists.{links_of, events_of}
use Rattle.plan.specs.LentLists.{link_list_refusal, plan_refusal, plan_of_lists, in_words, lists_number}
use Rattle.plan.specs.Held.{EndsBelow, Falling, Held}
use Rattle.plan.proofs.HeldLaws.{plan-falling}
use Rattle.plan.specs.declared.Header.{Header}
use Rattle.refusals.proofs.TestLaws.{Ranges, counts-none, or-none}
use Rattle.plan_layout.proofs.LayoutFile.{link-list-none, valid-none, ValidPlan}
use Rattle.plan_layout.proofs.Theorems.{lists-denote}
use Rattle.plan_layout.proofs.ListLaws.{length-links-of, length-events-of}
use Rattle.plan_lists.specs.Taken.{Taken}
use Rattle.plan_lists.proofs.CopyLaws.{byte_copy, word_copy, copies-denote}

ends-none : (nodes low high : ℕ) → ends_test nodes low high ≡ 0 → (low < nodes) × (high < nodes)
ends-none nodes low high e =
    let t = or-none (leb nodes low || leb nodes high) (leb high low) (refuse-none _ 6 e) in
    let u = or-none (leb nodes low) (leb nodes high) t.0 in
    (leb-false nodes low u.0, leb-false nodes high u.1)

ends-below : (nodes : ℕ) (ls : List Link) → link_list_refusal nodes ls ≡ 0 → EndsBelow nodes ls
ends-below nodes [] e i h = absurd (omega arith)
ends-below nodes (l ∷ ls) e zero h = ends-none nodes l.low l.high (link-list-none nodes l ls e).0
ends-below nodes (l ∷ ls) e (suc i) h = ends-below nodes ls (link-list-none nodes l ls e).1 i (omega arith)

cap-few : (cap : ℕ) → cap_test cap ≡ 0 → cap < 4294967296
cap-few cap e =
    let most : cap ≤ 1000000 = ltb-false 1000000 cap (or-none (ltb cap 1) (ltb 1000000 cap) (refuse-none _ 5 e)).1 in
    omega arith

-- what the lists of a valid plan hold
module _ (h : Header) (links words : List ℕ) (good : plan_refusal (plan_of_lists h links words) ≡ 0) where
  valid : ValidPlan (plan_of_lists h links words)
  valid = valid-none (plan_of_lists h links words) good

  -- the counts are in range
  pub plan-counted : Ranges h.nodes h.links h.events
  unfolding plan_of_lists
  plan-counted = counts-none _ _ _ (rw (length-links-of h.links links, length-events-of h.events words) at valid.counts)

  links-below : EndsBelow h.nodes (links_of h.links links)
  unfolding plan_of_lists
  links-below = ends-below h.nodes (links_of h.links links) valid.links

  events-fall : Falling certain (events_of h.events words)
  unfolding plan_of_lists
  events-fall = plan-falling (plan_of_lists h links words) good

  pub plan-held : Held h links words
  plan-held =
      let c = plan-counted in
      record {
        links-held = record { nodes-fit = c.nodes-fit; links-fit = c.links-fit; ends-below = links-below };
        events-fit = c.events-fit;
        falling = events-fall;
      }

  pub plan-cap-small : h.cap < 4294967296
  unfolding plan_of_lists
  plan-cap-small = cap-few h.cap valid.cap

-- accepted lists were taken by copies of their first 256 bytes and 512 words
pub taken : (h : Header) (links events bytes wide : List ℕ) → length bytes ≡ 256 → length wide ≡ 512 → (bytes' wide' : List ℕ)
    → bytes' ≡ byte_copy links bytes → wide' ≡ word_copy events wide → lists_number (in_words h links events) ≡ 0
    → Taken h links events bytes' wide'
taken h links events bytes wide b w bytes' wide' c d z =
    let same : plan_of_lists h bytes' wide' ≡ plan_of_lists h links events = rw (c, d) (copies-denote h links events bytes wide b w z) in
    let good = lists-denote (in_words h links events) z in
    let held' : plan_refusal (plan_of_lists h bytes' wide') ≡ 0 = ap plan_refusal same ∙ good in
    record {
      denoted = same;
      valid = good;
      held = plan-held h bytes' wide' held';
      some-node = (plan-counted h links events good).some;
      cap-small = plan-cap-small h links events good;
    }
