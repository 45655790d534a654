-- Laws of lists laid down in parts.
-- Assumes nothing.
use mathlib.Core.Path.{◌≡◌, ◌∙◌}
use mathlib.Core.List.{List, ◌++◌, append_assoc}
use Prim.Native.Nat.{ℕ, ◌+◌, ◌<◌}
use native.Mathlib.Numerals.{add-one}
use native.Mathlib.Omega.{arith}
use lib.ListN.{length, get_or, set, take, length-append}
use lib.Seq.{sets, take-suc, length-take-le}
use Rattle.plan_lists.proofs.ListLaws.{sets_then, sets-append}

-- one more element laid down
pub copy-next : (from to out : List ℕ) (at i : ℕ) → out ≡ sets to at (take i from) → i < length from
    → set out (at + i) (get_or from i 0) ≡ sets to at (take (i + 1) from)
copy-next from to out at i e h =
    let n : length (take i from) ≡ i = length-take-le i from (omega arith) in
    rw (e, add-one, take-suc from i 0, sets-append, n)

-- five lists laid down, each after the one before
pub five-laid : (s s₁ s₂ s₃ s₄ a b c d e : List ℕ) (i j k l : ℕ) → s₁ ≡ sets s 0 a → s₂ ≡ sets s₁ i b → s₃ ≡ sets s₂ j c → s₄ ≡ sets s₃ k d
    → i ≡ length a → j ≡ i + length b → k ≡ j + length c → l ≡ k + length d → sets s₄ l e ≡ sets s 0 (a ++ (b ++ (c ++ (d ++ e))))
five-laid s s₁ s₂ s₃ s₄ a b c d e i j k l e₁ e₂ e₃ e₄ hi hj hk hl =
    let n₂ = length-append a b in
    let n₃ = length-append (a ++ b) c in
    let n₄ = length-append (a ++ b ++ c) d in
    let f₂ : s₂ ≡ sets s 0 (a ++ b) = e₂ ∙ sets_then a b s s₁ 0 i e₁ (omega arith) in
    let f₃ : s₃ ≡ sets s 0 (a ++ b ++ c) = e₃ ∙ sets_then (a ++ b) c s s₂ 0 j f₂ (omega arith) in
    let f₄ : s₄ ≡ sets s 0 (a ++ b ++ c ++ d) = e₄ ∙ sets_then (a ++ b ++ c) d s s₃ 0 k f₃ (omega arith) in
    sets_then (a ++ b ++ c ++ d) e s s₄ 0 l f₄ (omega arith) ∙ simp append_assoc
