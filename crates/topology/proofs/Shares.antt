-- A law for a run over the components: what is left of the nodes shrinks.
-- Assumes nothing.
use mathlib.Core.Path.{◌≡◌, refl, sym, ap, ◌∙◌}
use mathlib.Core.Bool.{Bool, true, false, not, ◌&&◌, ◌||◌}
use Prim.Native.Nat.{ℕ, ◌+◌, ◌<◌}
use native.Mathlib.Omega.{arith}
use lib.Bits.{bit_and, bit_or, or_disjoint}
use Rattle.sets.specs.Sets.{bit}
use Rattle.sets.proofs.Laws.{bit-none, bit-or, bit-and, bit-pos, bits-same}
use Rattle.sets.proofs.Bools.{and_left, and_right, and_both, clash, not_so}

-- a set that grows is a larger number
disjoint : (a b : ℕ) → ((j : ℕ) → bit b j ≡ true → bit a j ≡ false) → bit_or a b ≡ a + b
disjoint a b apart = or_disjoint a b (bits-same _ 0 (λ j. bit-and a b j ∙ none j (bit b j) refl ∙ sym (bit-none j)))
  where
    none : (j : ℕ) (x : Bool) → bit b j ≡ x → (bit a j && x) ≡ false
    none j true e = ap (λ (y : Bool). y && true) (apart j e)
    none j false e = not_so (bit a j && false) (λ t. clash (and_right (bit a j) false t) refl)

grows : (a b c : ℕ) → ((j : ℕ) → bit c j ≡ (bit a j || bit b j)) → ((j : ℕ) → bit b j ≡ true → bit a j ≡ false) → c ≡ a + b
grows a b c law apart = bits-same c (bit_or a b) (λ j. law j ∙ sym (bit-or a b j)) ∙ disjoint a b apart

-- a set that loses an element is a smaller number
pub shrinks : (left part rest t : ℕ) → ((j : ℕ) → bit rest j ≡ (bit left j && not (bit part j))) → bit left t ≡ true → bit part t ≡ true → rest < left
shrinks left part rest t law l p = omega (arith, grows rest (bit_and left part) left whole apart, bit-pos (bit_and left part) t (bit-and left part t ∙ and_both (bit left t) (bit part t) l p))
  where
    cases : (x y : Bool) → x ≡ ((x && not y) || (x && y))
    cases true true = refl
    cases true false = refl
    cases false y = refl

    whole : (j : ℕ) → bit left j ≡ (bit rest j || bit (bit_and left part) j)
    whole j = rw (law j, bit-and left part j) (cases (bit left j) (bit part j))

    apart : (j : ℕ) → bit (bit_and left part) j ≡ true → bit rest j ≡ false
    apart j e =
        let both = sym (bit-and left part j) ∙ e in
        rw (law j, and_left (bit left j) (bit part j) both, and_right (bit left j) (bit part j) both)
