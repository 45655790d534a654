-- Laws of the check of a plan file: the answer of a member, and one step of each loop over the bytes from a position on.
-- Assumes nothing.
use mathlib.Core.Path.{◌≡◌, refl}
use mathlib.Core.List.{List, [], ◌∷◌}
use Prim.Native.Nat.{ℕ, zero, suc, ◌+◌, ◌-◌, ◌≤◌, ◌<◌}
use native.Mathlib.Nat.{add-zero, not-suc-le-zero}
use lib.ListN.{length, get_or, drop}
use lib.Seq.{drop-drop, get_or-drop}
use Rattle.mass.specs.Refusal.{first}
use Rattle.mass.specs.Split.{probability_test}
use Rattle.refusals.specs.Tests.{short_test, ends_test, order_test, member_test, rank, left_test}
use Rattle.plan.specs.File.{links_refusal, member_refusal, members_refusal, event_refusal, events_refusal, event_size, probability_in}
use Rattle.plan.specs.Calls.{element_of}
use Rattle.plan.specs.declared.Element.TheVariants.{Link}
use Rattle.plan.proofs.FileLaws.{suc-sub-one}

-- ---- a member

pub element-link : (kind number : ℕ) → (kind ≡ 0 → ⊥) → Link number ≡ element_of kind number
element-link zero number h = absurd (h refl)
element-link (suc kind) number h = refl

-- a member's tests, from its position on
pub member-step : (nodes links least at : ℕ) (s : List ℕ)
    → member_refusal nodes links least (drop at s)
    ≡ first (short_test (length (drop at s)) 2 ∷ member_test nodes links least (get_or s at 0) (get_or s (at + 1) 0) ∷ [])
unfolding member_refusal
member-step nodes links least at s = rw (get_or-drop at s 0 0, get_or-drop at s 1 0, add-zero)

-- ---- one step of each loop, from a position on

pub links-step : (nodes left at : ℕ) (s : List ℕ) → 0 < left
    → links_refusal nodes left (drop at s)
    ≡ first
    (short_test (length (drop at s)) 2
    ∷ ends_test nodes (get_or s at 0) (get_or s (at + 1) 0)
    ∷ links_refusal nodes (left - 1) (drop (at + 2) s)
    ∷ [])
unfolding links_refusal
links-step nodes zero at s h = absurd (not-suc-le-zero h)
links-step nodes (suc left) at s h = rw (get_or-drop at s 0 0, get_or-drop at s 1 0, add-zero, drop-drop 2 at s, suc-sub-one left)

pub links-none : (nodes left : ℕ) (b : List ℕ) → left ≤ 0 → 0 ≡ links_refusal nodes left b
unfolding links_refusal
links-none nodes zero b h = refl
links-none nodes (suc left) b h = absurd (not-suc-le-zero h)

pub members_step : (nodes links least left at : ℕ) (s : List ℕ) → 0 < left
    → members_refusal nodes links least left (drop at s)
    ≡ first
    (member_refusal nodes links least (drop at s)
    ∷ members_refusal nodes links (rank (get_or s at 0) (get_or s (at + 1) 0) + 1) (left - 1) (drop (at + 2) s)
    ∷ [])
unfolding members_refusal
members_step nodes links least zero at s h = absurd (not-suc-le-zero h)
members_step nodes links least (suc left) at s h = rw (get_or-drop at s 0 0, get_or-drop at s 1 0, add-zero, drop-drop 2 at s, suc-sub-one left)

pub members-none : (nodes links least left : ℕ) (b : List ℕ) → left ≤ 0 → 0 ≡ members_refusal nodes links least left b
unfolding members_refusal
members-none nodes links least zero b h = refl
members-none nodes links least (suc left) b h = absurd (not-suc-le-zero h)

pub event-step : (nodes links before at : ℕ) (s : List ℕ)
    → event_refusal nodes links before (drop at s)
    ≡ first
    (short_test (length (drop at s)) 5
    ∷ probability_test (probability_in (drop at s))
    ∷ order_test before (probability_in (drop at s))
    ∷ members_refusal nodes links 0 (get_or s (at + 4) 0) (drop (at + 5) s)
    ∷ [])
unfolding event_refusal
event-step nodes links before at s = rw (get_or-drop at s 4 0, drop-drop 5 at s)

pub events-step : (nodes links before left at : ℕ) (s : List ℕ) → 0 < left
    → events_refusal nodes links before left (drop at s)
    ≡ first
    (event_refusal nodes links before (drop at s)
    ∷ events_refusal nodes links (probability_in (drop at s)) (left - 1) (drop (at + event_size (drop at s)) s)
    ∷ [])
unfolding events_refusal
events-step nodes links before zero at s h = absurd (not-suc-le-zero h)
events-step nodes links before (suc left) at s h = rw (drop-drop (event_size (drop at s)) at s, suc-sub-one left)

pub events-none : (nodes links before left : ℕ) (b : List ℕ) → left ≤ 0 → left_test (length b) ≡ events_refusal nodes links before left b
unfolding events_refusal
events-none nodes links before zero b h = refl
events-none nodes links before (suc left) b h = absurd (not-suc-le-zero h)
