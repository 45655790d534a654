-- From step to step over dropped ends, to the next relevant one or to the last end that may be reached.
-- Assumes nothing.
use mathlib.Core.Path.{◌≡◌, refl, ap, sym, ◌∙◌}
use mathlib.Core.List.{List, ◌++◌}
use Prim.Native.Nat.{ℕ, suc, ◌+◌, ◌-◌, ◌≤◌, ◌<◌, min}
use native.Mathlib.Decide.{dec_lt}
use native.Mathlib.Nat.{zero-add}
use native.Mathlib.Omega.{arith}
use lib.ListN.{drop, replicate}
use mathlib.Core.Bool.{true≢false}
use Rattle.std.specs.Prelude.{Option, None, Some}
use Rattle.std.specs.Option.{IsNone}
use Rattle.std.proofs.lemmas.Option.{none-some}
use Rattle.walk.specs.Ends.{End, dropped}
use Rattle.walk.specs.Stack.{to_come, pending_mass, Stack}
use Rattle.walk.specs.Steps.{StepTaken, Delayed, Descended}
use Rattle.walk.specs.declared.Descent.{Descent}
use Rattle.walk.specs.declared.Examined.{Examined}
use Rattle.walk.proofs.Dropped.{runs-add}
use Rattle.walk.proofs.Resume.{none-to-come}

none_of : (o : Option Examined) → IsNone o → o ≡ None
none_of None e = refl
none_of (Some x) e = absurd (true≢false e)

-- on the way: so many dropped ends were passed, the others are to come, and no more mass is pending
pub record Passing (count threshold : ℕ) (words : List ℕ) (at₀ : ℕ) (stack₀ : List ℕ) (allowed at left : ℕ) (stack : List ℕ) : Type 0 where
  pub passed : ℕ
  pub ends : to_come count threshold words at₀ stack₀ ≡ replicate passed dropped ++ to_come count threshold words at stack
  pub counted : allowed ≡ passed + left
  pub held : Stack count at stack
  pub lighter : pending_mass (drop at stack) ≤ pending_mass (drop at₀ stack₀)

pub starts : (count threshold : ℕ) (words : List ℕ) (allowed at : ℕ) (stack : List ℕ) → Stack count at stack
    → Passing count threshold words at stack allowed at allowed stack
starts count threshold words allowed at stack s = record { passed = 0; ends = refl; counted = sym (zero-add allowed); held = s; lighter = omega arith }

module _ (count threshold : ℕ) (words : List ℕ) (at₀ : ℕ) (stack₀ : List ℕ) (allowed at left : ℕ) (stack : List ℕ)
    (g : Passing count threshold words at₀ stack₀ allowed at left stack) where
  -- none is handed out: no more may be reached, or none is to come
  pub none_found : (at < 512 → 0 < left → ⊥) → StepTaken count threshold words at₀ stack₀ allowed stack (record { at = at; left = left; found = None })
  none_found over =
      record {
        passed = g.passed;
        ends = g.ends;
        counted = omega (arith, g.counted);
        ended = λ same (some : 0 < left). rw (last some) (none-to-come count threshold words stack g.held.sized);
        held = g.held;
        light = λ x (clash : None ≡ Some x). absurd (none-some x clash);
        decided = λ x (clash : None ≡ Some x). absurd (none-some x clash);
        lighter = omega (arith, g.lighter);
      }
    where
      last : 0 < left → at ≡ 512
      last some = step (dec_lt at 512)
        where
          step : Dec (at < 512) → at ≡ 512
          step (yes h) = absurd (over h some)
          step (no h) = omega (arith, g.held.within)

  -- a descent
  module _ (some : 0 < left) (stack₁ : List ℕ) (d : Descent) (s : Descended count threshold words (to_come count threshold words at stack) (pending_mass (drop at stack)) stack₁ d) where
    -- to dropped ends: so many as may be reached are passed, the others are laid down
    module _ (e : IsNone d.end) (passed : ℕ) (reached : passed ≡ min (d.dropped + 1) left) (stack₂ : List ℕ) (top : ℕ)
        (laid : Delayed (d.dropped - (passed - 1)) d.at stack₁ stack₂ top) where
      abbrev rest : List End
      rest = to_come count threshold words d.at stack₁

      split : suc d.dropped ≡ passed + (d.dropped - (passed - 1))
      split = omega (arith, reached, some)

      parts : to_come count threshold words at stack ≡ replicate passed dropped ++ to_come count threshold words top stack₂
      parts =
          rw (none_of d.end e) at s.ends
          ∙ ap (λ (n : ℕ). replicate n dropped ++ rest) split
          ∙ sym (runs-add passed (d.dropped - (passed - 1)) rest)
          ∙ ap (λ l. replicate passed dropped ++ l) (sym (laid.ahead count threshold words s.held))

      pub further : Passing count threshold words at₀ stack₀ allowed top (left - passed) stack₂
      further =
          record {
            passed = g.passed + passed;
            ends = g.ends ∙ ap (λ l. replicate g.passed dropped ++ l) parts ∙ runs-add g.passed passed (to_come count threshold words top stack₂);
            counted = omega (arith, g.counted, reached);
            held = laid.held count s.held;
            lighter = omega (arith, g.lighter, s.lighter, laid.same count s.held);
          }
