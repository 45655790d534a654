-- Laws of the check of a plan file: what acceptance says of the bytes that are there, of a member, and of a plan's numbers.
-- Assumes nothing.
use mathlib.Core.Path.{◌≡◌, refl, sym, ◌∙◌}
use mathlib.Core.Bool.{◌||◌}
use mathlib.Core.List.{List}
use Prim.Native.Nat.{ℕ, zero, suc, ◌+◌, ◌-◌, ◌*◌, ◌≤◌, ◌<◌}
use native.Mathlib.Omega.{arith}
use borrow.Author.Tests.{ltb-false, leb-false}
use lib.Dec.{ltb}
use lib.ListN.{length, get_or, drop, length-drop}
use lib.Seq.{get_or-drop}
use Rattle.mass.proofs.RefusalLaws.{first-none, refuse-none}
use Rattle.mass.specs.Split.{certain}
use Rattle.refusals.specs.Tests.{short_test, count_of_kind, rank, counts_test}
use Rattle.plan.specs.File.{header_refusal, links_refusal, member_refusal, members_refusal, event_refusal, events_refusal, event_size}
use Rattle.plan.specs.File.{probability_in, refusal, nodes_in, links_in, events_in}
use Rattle.refusals.proofs.TestLaws.{or-none}
use Rattle.plan.proofs.FileLaws.{suc-sub-one}
use Rattle.plan.proofs.FileLawsSteps.{member-step, links-step, members_step, event-step, events-step}

-- ---- what acceptance says of the bytes that are there

-- r is what the test returned
pub enough : (left need : ℕ) {r : ℕ} → r ≡ short_test left need → r ≡ 0 → need ≤ left
enough left need e z = ltb-false left need (refuse-none _ 0 (sym e ∙ z))

-- `need` bytes are there
pub short-fits : (need at : ℕ) (s : List ℕ) → 0 < need → short_test (length (drop at s)) need ≡ 0 → at + need ≤ length s
short-fits need at s pos e =
    omega (arith, enough (length (drop at s)) need refl e, length-drop at s)

pub header-fits : (b : List ℕ) → header_refusal b ≡ 0 → 20 ≤ length b
unfolding header_refusal
header-fits b e = enough (length b) 20 refl (first-none _ _ e).0

pub plan-fits : (b : List ℕ) → refusal b ≡ 0 → 20 ≤ length b
unfolding refusal
plan-fits b e = header-fits b (first-none _ _ e).0

pub links-fit : (nodes count at : ℕ) (s : List ℕ) → at ≤ length s → links_refusal nodes count (drop at s) ≡ 0 → at + 2 * count ≤ length s
links-fit nodes zero at s h e = omega arith
links-fit nodes (suc count) at s h e =
    let f = first-none _ _ (sym (links-step nodes (suc count) at s (omega arith)) ∙ e) in
    let two : at + 2 ≤ length s = short-fits 2 at s (omega arith) f.0 in
    let more : links_refusal nodes count (drop (at + 2) s) ≡ 0 = rw (suc-sub-one count) at (first-none _ _ (first-none _ _ f.1).1).0 in
    omega (arith, links-fit nodes count (at + 2) s two more)

pub member-fits : (nodes links least at : ℕ) (s : List ℕ) → member_refusal nodes links least (drop at s) ≡ 0 → at + 2 ≤ length s
unfolding member_refusal
member-fits nodes links least at s e = short-fits 2 at s (omega arith) (first-none _ _ e).0

-- the first of the accepted members is accepted, and so are those after it
pub members-accepted : (nodes links least left at : ℕ) (s : List ℕ) → 0 < left → members_refusal nodes links least left (drop at s) ≡ 0
    → (member_refusal nodes links least (drop at s) ≡ 0)
    × (members_refusal nodes links (rank (get_or s at 0) (get_or s (at + 1) 0) + 1) (left - 1) (drop (at + 2) s) ≡ 0)
members-accepted nodes links least left at s h e =
    let f = first-none _ _ (sym (members_step nodes links least left at s h) ∙ e) in (f.0, (first-none _ _ f.1).0)

pub members-fit : (nodes links least count at : ℕ) (s : List ℕ)
    → at ≤ length s → members_refusal nodes links least count (drop at s) ≡ 0 → at + 2 * count ≤ length s
members-fit nodes links least zero at s h e = omega arith
members-fit nodes links least (suc count) at s h e =
    let f = members-accepted nodes links least (suc count) at s (omega arith) e in
    let two : at + 2 ≤ length s = member-fits nodes links least at s f.0 in
    omega (arith, members-fit nodes links (rank (get_or s at 0) (get_or s (at + 1) 0) + 1) count (at + 2) s two (simp (suc-sub-one count) at f.1))

pub event-head : (nodes links before at : ℕ) (s : List ℕ) → event_refusal nodes links before (drop at s) ≡ 0 → at + 5 ≤ length s
unfolding event_refusal
event-head nodes links before at s e = short-fits 5 at s (omega arith) (first-none _ _ e).0

-- the members of an accepted event are accepted
pub event-accepted : (nodes links before at : ℕ) (s : List ℕ) → event_refusal nodes links before (drop at s) ≡ 0
    → members_refusal nodes links 0 (get_or s (at + 4) 0) (drop (at + 5) s) ≡ 0
event-accepted nodes links before at s e =
    (first-none _ _ (first-none _ _ (first-none _ _ (first-none _ _ (sym (event-step nodes links before at s) ∙ e)).1).1).1).0

pub event-fits : (nodes links before at : ℕ) (s : List ℕ) → event_refusal nodes links before (drop at s) ≡ 0 → at + event_size (drop at s) ≤ length s
event-fits nodes links before at s e =
    omega (
      arith,
      members-fit nodes links 0 (get_or s (at + 4) 0) (at + 5) s (event-head nodes links before at s e) (event-accepted nodes links before at s e),
      get_or-drop at s 4 0,
    )

-- the first of the accepted events is accepted, and so are those after it
pub events-accepted : (nodes links before left at : ℕ) (s : List ℕ) → 0 < left → events_refusal nodes links before left (drop at s) ≡ 0
    → (event_refusal nodes links before (drop at s) ≡ 0)
    × (events_refusal nodes links (probability_in (drop at s)) (left - 1) (drop (at + event_size (drop at s)) s) ≡ 0)
events-accepted nodes links before left at s h e =
    let f = first-none _ _ (sym (events-step nodes links before left at s h) ∙ e) in (f.0, (first-none _ _ f.1).0)

-- ---- an accepted member

-- its number is below the count of its kind, and its rank is `least` or more
pub member-accepted : (nodes links least at : ℕ) (s : List ℕ)
    → member_refusal nodes links least (drop at s) ≡ 0
    → (get_or s (at + 1) 0 < count_of_kind nodes links (get_or s at 0)) × (least ≤ rank (get_or s at 0) (get_or s (at + 1) 0))
member-accepted nodes links least at s e =
    let f = first-none _ _ (sym (member-step nodes links least at s) ∙ e) in
    let g = or-none _ _ (refuse-none _ 9 (first-none _ _ f.1).0) in
    (leb-false _ _ g.0, ltb-false _ _ g.1)

-- ---- an accepted plan

-- the counts are in their ranges
pub counts-none : (nodes links events : ℕ) → counts_test nodes links events ≡ 0 → (nodes ≤ 64) × (links ≤ 128) × (events ≤ 128)
counts-none nodes links events e =
    let f = or-none (ltb nodes 1 || ltb 64 nodes || ltb 128 links) (ltb 128 events) (refuse-none _ 3 e) in
    let g = or-none (ltb nodes 1 || ltb 64 nodes) (ltb 128 links) f.0 in
    (ltb-false _ _ (or-none (ltb nodes 1) (ltb 64 nodes) g.0).1, ltb-false _ _ g.1, ltb-false _ _ f.1)

module _ (b : List ℕ) (e : refusal b ≡ 0) where
  pub accepted-header : header_refusal b ≡ 0
  unfolding refusal
  accepted-header = (first-none _ _ e).0

  pub accepted-links : links_refusal (nodes_in b) (links_in b) (drop 20 b) ≡ 0
  unfolding refusal
  accepted-links = (first-none _ _ (first-none _ _ e).1).0

  pub accepted-events : events_refusal (nodes_in b) (links_in b) certain (events_in b) (drop (20 + 2 * links_in b) b) ≡ 0
  unfolding refusal
  accepted-events = (first-none _ _ (first-none _ _ (first-none _ _ e).1).1).0

  pub accepted-there : 20 + 2 * links_in b ≤ length b
  accepted-there = links-fit (nodes_in b) (links_in b) 20 b (header-fits b accepted-header) accepted-links

  pub accepted-counts : (nodes_in b ≤ 64) × (links_in b ≤ 128) × (events_in b ≤ 128)
  unfolding header_refusal
  accepted-counts =
      counts-none (nodes_in b) (links_in b) (events_in b)
      (first-none _ _ (first-none _ _ (first-none _ _ (first-none _ _ accepted-header).1).1).1).0
