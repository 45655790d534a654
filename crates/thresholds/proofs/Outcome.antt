-- What the call for several thresholds answers, and leaves in the lists of bounds.
-- Assumes nothing.
use mathlib.Core.Path.{◌≡◌, ap, subst, fun_ext, ◌∙◌}
use mathlib.Core.List.{List}
use Prim.Native.Nat.{ℕ}
use lib.Seq.{sets}
use Rattle.plan.specs.Plan.{Plan}
use Rattle.plan.specs.LentLists.{plan_of_lists}
use Rattle.plan.specs.declared.Header.{Header}
use Rattle.network.specs.Outage.{intact}
use Rattle.bounds.specs.Bounds.{lower_list, upper_list}
use Rattle.thresholds_sums.specs.Walked.{plan_with}
use Rattle.thresholds.specs.Thresholds.{header_at, plan_at, blocks, answer_of, EnclosesBlocks}
use Rattle.thresholds.specs.declared.CommonHeader.{CommonHeader}
use Rattle.thresholds.specs.declared.Answered.{Answered}

-- ---- the plans of the thresholds

-- the plan goes by the lists alone, whatever the threshold
pub same-plans : (h : CommonHeader) (links events bytes words : List ℕ)
    → plan_of_lists (header_at h 1) bytes words ≡ plan_of_lists (header_at h 1) links events
    → plan_with (header_at h 1) bytes words ≡ plan_at h links events
unfolding plan_of_lists
same-plans h links events bytes words e =
    fun_ext (λ t. λ i. record { nodes = h.nodes; links = (e i).links; events = (e i).events; threshold = t; cap = h.cap })

-- ---- the call

module _ (h : CommonHeader) (links events list lower upper : List ℕ) (r : Answered) (lower' upper' : List ℕ) where
  -- an answer, with what it leaves in the lists of bounds, for the plans of the thresholds
  abbrev pub Promised : (ℕ → Plan) → Type 0
  Promised plans =
      (r ≡ answer_of plans list)
      × ((lower' ≡ sets lower 0 (blocks (λ t. lower_list intact (plans t)) list))
      × ((upper' ≡ sets upper 0 (blocks (λ t. upper_list intact (plans t)) list))
      × EnclosesBlocks plans list lower' upper' r.count))

  -- the walk of the arrays that accepted lists were taken into filled the two lists
  pub call-done : (x : Header) (bytes words : List ℕ) → x ≡ header_at h 1
      → plan_of_lists (header_at h 1) bytes words ≡ plan_of_lists (header_at h 1) links events
      → Promised (plan_with x bytes words) → Promised (plan_at h links events)
  call-done x bytes words same denoted d =
      subst Promised (ap (λ (y : Header). plan_with y bytes words) same ∙ same-plans h links events bytes words denoted) d
