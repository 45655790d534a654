-- Laws of numbers of several bytes.
-- Assumes nothing.
use mathlib.Core.Path.{◌≡◌, refl, sym, ap, ◌∙◌}
use mathlib.Core.List.{List, [], ◌∷◌, ◌++◌, append_assoc}
use Prim.Native.Nat.{ℕ, suc, ◌+◌, ◌-◌, ◌*◌, ◌^◌, ◌≤◌, ◌<◌}
use native.Mathlib.Nat.{pow-le-pow_right, pow-suc}
use native.Mathlib.Omega.{arith}
use lib.ListN.{length, length-append}
use Rattle.plan.specs.Layout.{value}

pub suc-sub-one : (n : ℕ) → suc n - 1 ≡ n
suc-sub-one n = omega arith

-- the last bytes of a number are taken, and the next one is the last of those that are left: they leave room for it, and with it their
-- number is below 256 for each of them
module _ (rest left taken part : List ℕ) (byte sum : ℕ) (e : rest ≡ left ++ byte ∷ []) (w : rest ++ taken ≡ part) (n : sum ≡ value taken) (b : sum < 256 ^ length taken) where
  pub number_fits : length part ≤ 8 → sum < 2 ^ 56
  number_fits most =
      let l : length rest ≡ length left + 1 = rw (e, length-append left (byte ∷ [])) refl in
      let k : length taken ≤ 7 = omega (arith, ap length w, length-append rest taken) in
      let m : 256 ^ length taken ≤ 256 ^ 7 = pow-le-pow_right {n = 256} (omega arith) {i = length taken} {j = 7} k in
      omega arith

  pub number_step : byte < 256 → (more : ℕ) → more ≡ byte + 256 * sum
      → (whole : List ℕ) × (left ++ whole ≡ part) × (more ≡ value whole) × (more < 256 ^ length whole)
  unfolding value
  number_step small more m =
      let p : 256 ^ suc (length taken) ≡ 256 ^ length taken * 256 = pow-suc 256 (length taken) in
      (byte ∷ taken, sym (append_assoc left (byte ∷ []) taken) ∙ (ap (λ (l : List ℕ). l ++ taken) (sym e) ∙ w), m ∙ ap (λ (k : ℕ). byte + 256 * k) n, rw p (omega arith))
