-- Laws of the reader's steps: where the position stays, the rank of a member, one turn of the loop that reads members by steps, and what a
-- refused member leaves. Assumes nothing.
use mathlib.Core.Path.{◌≡◌, refl, ◌∙◌}
use mathlib.Core.List.{List, [], ◌∷◌}
use Prim.Native.Nat.{ℕ, zero, suc, ◌+◌, ◌-◌, ◌*◌, ◌≤◌, ◌<◌}
use native.Mathlib.Nat.{add-zero, not-suc-le-zero}
use native.Mathlib.Numerals.{add-one}
use native.Mathlib.Omega.{arith}
use lib.ListN.{length, get_or, drop, set}
use lib.Seq.{drop-drop, get_or-drop, sets}
use Rattle.mass.specs.Refusal.{number}
use Rattle.mass.specs.declared.refusal.Refusal.{Refusal}
use Rattle.mass.proofs.RefusalLaws.{number-some, first-stop}
use Rattle.refusals.specs.Tests.{rank, count_of_kind}
use Rattle.plan.specs.File.{member_refusal, members_refusal}
use Rattle.plan.proofs.FileLaws.{suc-sub-one}
use Rattle.plan.proofs.FileLawsAccepted.{member-accepted}
use Rattle.plan.proofs.FileLawsSteps.{members_step}
use Rattle.record_reading.specs.Steps.{position_after, unless_refused, ranks_given}

-- ---- a step

-- where a member is refused the position stays
pub stays : (n at : ℕ) → 0 < n → position_after n at ≡ at
stays zero at h = absurd (not-suc-le-zero h)
stays (suc n) at h = refl

-- a refusal's number, as an order
pub number_positive : (r : Refusal) → 0 < number r
number_positive r = go (number r) (number-some r)
  where
    go : (n : ℕ) → (n ≡ 0 → ⊥) → 0 < n
    go zero h = absurd (h refl)
    go (suc n) h = omega arith

-- the rank of a member that is given: no less than what is asked, and below 512
pub rank-bounds : (nodes links least at : ℕ) (s : List ℕ) → member_refusal nodes links least (drop at s) ≡ 0 → get_or s (at + 1) 0 < 256
    → (least ≤ rank (get_or s at 0) (get_or s (at + 1) 0)) × (rank (get_or s at 0) (get_or s (at + 1) 0) < 512)
rank-bounds nodes links least at s e low =
    let m = member-accepted nodes links least at s e in (m.1, go (get_or s at 0) m.0)
  where
    go : (kind : ℕ) → get_or s (at + 1) 0 < count_of_kind nodes links kind → rank kind (get_or s (at + 1) 0) < 512
    go zero h = omega (arith, low)
    go (suc zero) h = omega (arith, low)
    go (suc (suc kind)) h = absurd (not-suc-le-zero h)

-- ---- one turn of the loop

pub ranks-more : (nodes links least left at : ℕ) (s : List ℕ) → 0 < left → member_refusal nodes links least (drop at s) ≡ 0
    → ranks_given nodes links least left (drop at s)
    ≡ rank (get_or s at 0) (get_or s (at + 1) 0) ∷ ranks_given nodes links (rank (get_or s at 0) (get_or s (at + 1) 0) + 1) (left - 1) (drop (at + 2) s)
unfolding ranks_given
ranks-more nodes links least zero at s h e = absurd (not-suc-le-zero h)
ranks-more nodes links least (suc left) at s h e = rw (e, get_or-drop at s 0 0, get_or-drop at s 1 0, add-zero, drop-drop 2 at s, suc-sub-one left)

-- a member is refused, or none is left
pub ranks-stop : (nodes links least left : ℕ) (b : List ℕ) → (member_refusal nodes links least b ≡ 0 → ⊥) → ranks_given nodes links least left b ≡ []
unfolding ranks_given
ranks-stop nodes links least zero b n = refl
ranks-stop nodes links least (suc left) b n = go (member_refusal nodes links least b) _ n
  where
    go : (number : ℕ) (list : List ℕ) → (number ≡ 0 → ⊥) → unless_refused number list ≡ []
    go zero list h = absurd (h refl)
    go (suc number) list h = refl

pub ranks-none : (nodes links least left : ℕ) (b : List ℕ) → left ≤ 0 → ranks_given nodes links least left b ≡ []
unfolding ranks_given
ranks-none nodes links least zero b h = refl
ranks-none nodes links least (suc left) b h = absurd (not-suc-le-zero h)

-- a rank is laid down, and the position moves past its member: what is still to come, from the next place on
pub laid_more : (list more ranks : List ℕ) (done r : ℕ) → ranks ≡ r ∷ more → sets (set list done r) (done + 1) more ≡ sets list done ranks
laid_more list more ranks done r e = rw (e, add-one done)

pub moved_more : (at r : ℕ) (more ranks : List ℕ) → ranks ≡ r ∷ more → at + 2 + 2 * length more ≡ at + 2 * length ranks
moved_more at r more ranks e = rw e (omega arith)

-- nothing is to come
pub laid_none : (list ranks : List ℕ) (done : ℕ) → ranks ≡ [] → list ≡ sets list done ranks
laid_none list ranks done e = rw e

pub moved_none : (at : ℕ) (ranks : List ℕ) → ranks ≡ [] → at ≡ at + 2 * length ranks
moved_none at ranks e = rw e (omega arith)

-- ---- a member is refused

module _ (nodes links least left at : ℕ) (s : List ℕ) (h : 0 < member_refusal nodes links least (drop at s)) where
  some : member_refusal nodes links least (drop at s) ≡ 0 → ⊥
  some z = omega (arith, z, h)

  -- the members from it on are refused with its number
  pub refused_there : 0 < left → members_refusal nodes links least left (drop at s) ≡ member_refusal nodes links least (drop at s)
  refused_there more = members_step nodes links least left at s more ∙ first-stop _ _ some

  -- no rank of them is laid down, and the position moves past none
  pub refused_laid : (list : List ℕ) (done : ℕ) → sets list done (ranks_given nodes links least left (drop at s)) ≡ list
  refused_laid list done = rw (ranks-stop nodes links least left (drop at s) some)

  pub refused_passed : length (ranks_given nodes links least left (drop at s)) ≡ 0
  refused_passed = rw (ranks-stop nodes links least left (drop at s) some)

-- what closes the goals of members of which one is refused
pub ruleset member_refused = (number_positive, stays, refused_there, refused_laid, refused_passed)
