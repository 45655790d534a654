-- Laws of the conditional figure: which step of F rounds, and that no figure is a NaN.
-- Assumes nothing.
use Rattle.std.specs.Prelude.{Option, Some}
use mathlib.Core.Path.{◌≡◌, refl, sym, ap, subst, ◌∙◌}
use mathlib.Core.Bool.{Bool, true, false, not, cond, true≢false}
use mathlib.Core.Logic.{inl, inr}
use Prim.Native.Nat.{ℕ, zero, suc, ◌+◌, ◌*◌, ◌/◌, ◌%◌, ◌^◌, ◌≤◌, ◌<◌}
use native.Mathlib.Nat.{zero-lt-suc, mul-one, mul_assoc, mul-pos, lt_of_lt_of_le, mul-mul-mul_comm, eq-zero-or-pos}
use native.Mathlib.Omega.{arith}
use lib.Dec.{T, lit≤, ltb, eqb, ltb→lt, eqb→eq}
use lib.Pow.{pow-add, pow_mono, shl_lt}
use lib.Ieee.{Float, nan, inf, fin, Format, binary64, prec, emax, low, unlike, up, down, odd, units, round, add, sum, mul, div, of_int}
use lib.Ieee.{is_nan, le}
use lib.Ieee.Fits.{down_pos, round_is}
use lib.Ieee.Exact.{HasValue, round_exact}
use lib.Ieee.Order.{round_mono}
use lib.Ieee.Scale.{round_same, finite}
use lib.Ieee.Back.{round_whole}
use lib.Ieee.Positive.{positive, positive-finite, positive_of_value, between}
use Rattle.mass.specs.Split.{certain, whole}
use Rattle.readings.specs.Figure.{float, float_of, shares_of, floats_in, Numbers}
use Rattle.readings.specs.declared.Shares.{Shares}

-- ---- sums and products of floats that are whole numbers

module _ (m g n e a b : ℕ) (p : m * 1 ≡ a * e) (q : n * 1 ≡ b * g) where
  sum-cross : (m * g + n * e) * 1 ≡ (a + b) * (e * g)
  sum-cross = omega (arith, ap (λ (x : ℕ). x * g) p, ap (λ (x : ℕ). x * e) q)

  product-cross : m * n * 1 ≡ a * b * (e * g)
  product-cross =
      mul-one (m * n)
      ∙ ap (λ (x : ℕ). x * n) (sym (mul-one m) ∙ p)
      ∙ ap (λ (x : ℕ). a * e * x) (sym (mul-one n) ∙ q)
      ∙ mul-mul-mul_comm a e b g

module _ (f : Format) (a b : ℕ) where
  sum-at : (x y : Float) → HasValue x false a 1 → HasValue y false b 1 → add f x y ≡ round f false (a + b) 1
  unfolding add sum
  sum-at nan y h k = absurd h
  sum-at (inf s) y h k = absurd h
  sum-at (fin s m e) nan h k = absurd k
  sum-at (fin s m e) (inf t) h k = absurd k
  sum-at (fin true m e) (fin t n d) h k = absurd (true≢false h.0)
  sum-at (fin false m e) (fin true n d) h k = absurd (true≢false k.0)
  sum-at (fin false m e) (fin false n d) h k =
      round_same f false (m * up e * down d + n * up d * down e) (down e * down d) (a + b) 1 (mul-pos (down_pos e) (down_pos d)) (zero-lt-suc 0)
      (sum-cross (m * up e) (down d) (n * up d) (down e) a b h.1 k.1)

  product_at : (x y : Float) → HasValue x false a 1 → HasValue y false b 1 → mul f x y ≡ round f false (a * b) 1
  unfolding mul
  product_at nan y h k = absurd h
  product_at (inf s) y h k = absurd h
  product_at (fin s m e) nan h k = absurd k
  product_at (fin s m e) (inf t) h k = absurd k
  product_at (fin true m e) (fin t n d) h k = absurd (true≢false h.0)
  product_at (fin false m e) (fin true n d) h k = absurd (true≢false k.0)
  product_at (fin false m e) (fin false n d) h k =
      round_same f false (m * up e * (n * up d)) (down e * down d) (a * b) 1 (mul-pos (down_pos e) (down_pos d)) (zero-lt-suc 0)
      (product-cross (m * up e) (down d) (n * up d) (down e) a b h.1 k.1)

float_is : (n : ℕ) → float n ≡ round binary64 false n 1
unfolding of_int
float_is n = refl

-- ---- the steps of F

-- law: a whole number up to 2^53 is a float exactly, so the quotient and the remainder of a mass are
pub small-exact : (n : ℕ) → n ≤ 2 ^ 53 → HasValue (float n) false n 1
small-exact n h = subst (λ (x : Float). HasValue x false n 1) (sym (float_is n)) (round_whole binary64 false n h)

-- a × 10^9 is a × 1,953,125 × 2^9, and the first product is below 2^53
pub billions-exact : (a : ℕ) → a ≤ certain → HasValue (float (a * certain)) false (a * certain) 1
billions-exact a h =
    subst (λ (x : Float). HasValue x false (a * certain) 1) (sym (float_is (a * certain)))
    (round_exact binary64 false (a * certain) 1 (a * 1953125) (9 + low binary64) (zero-lt-suc 0) few
    (lt_of_lt_of_le (shl_lt 53 (9 + low binary64) few) (pow_mono {i = 53 + (9 + low binary64)} {j = low binary64 + suc (emax binary64)} (lit≤ tt)))
    (same (2 ^ low binary64) (2 ^ (9 + low binary64)) (pow-add 2 9 (low binary64))))
  where
    few : a * 1953125 < 2 ^ 53
    few = omega arith

    same : (l k : ℕ) → k ≡ 512 * l → a * certain * l ≡ a * 1953125 * k * 1
    same l k e = ap (λ (x : ℕ). x * l) split ∙ mul_assoc (a * 1953125) 512 l ∙ ap (λ (x : ℕ). a * 1953125 * x) (sym e) ∙ sym (mul-one (a * 1953125 * k))
      where
        split : a * certain ≡ a * 1953125 * 512
        split = omega arith

module _ (m : ℕ) (light : m ≤ whole) where
  -- law: the product is exact
  pub product-exact : HasValue (mul binary64 (float (m / certain)) (float certain)) false (m / certain * certain) 1
  product-exact =
      subst (λ (x : Float). HasValue x false (m / certain * certain) 1)
      (float_is (m / certain * certain) ∙ sym (product_at binary64 (m / certain) certain _ _ (small-exact (m / certain) (omega arith)) (small-exact certain (omega arith))))
      (billions-exact (m / certain) (omega arith))

  -- law: only the sum rounds, so F(m) is the float nearest to m
  pub rounds-once : float_of m ≡ float m
  unfolding float_of
  rounds-once =
      sum-at binary64 (m / certain * certain) (m % certain) _ _ product-exact (small-exact (m % certain) (omega arith))
      ∙ ap (λ (x : ℕ). round binary64 false x 1) whole_again
      ∙ sym (float_is m)
    where
      whole_again : m / certain * certain + m % certain ≡ m
      whole_again = omega arith

-- ---- no figure is a NaN

-- what is rounded is no NaN
odd_number : (d : ℕ) (s : Bool) (q k l : ℕ) → T (not (is_nan (odd d s q k l)))
unfolding odd is_nan
odd_number d s zero k l = tt
odd_number d s (suc q) k l = tt

units_number : (f : Format) (s : Bool) (q k : ℕ) → T (not (is_nan (units f s q k)))
unfolding units is_nan
units_number f s q k = go (ltb (q * 2 ^ k) (2 ^ (low f + suc (emax f))))
  where
    go : (b : Bool) → T (not (is_nan (cond b (odd (suc (prec f)) s q k (low f)) (inf s))))
    go true = odd_number (suc (prec f)) s q k (low f)
    go false = tt

round_number : (f : Format) (s : Bool) (num den : ℕ) → T (not (is_nan (round f s num den)))
round_number f s num den = subst (λ (x : Float). T (not (is_nan x))) (sym (round_is f s num den)) (units_number f s _ _)

-- law: a whole number as a float is no NaN
pub float-number : (n : ℕ) → T (not (is_nan (float n)))
float-number n = subst (λ (x : Float). T (not (is_nan x))) (sym (float_is n)) (round_number binary64 false n 1)

-- a finite float over one that is finite and above zero
quotient-number : (f : Format) (x y : Float) → T (finite x) → T (positive y) → T (not (is_nan (div f x y)))
unfolding div
quotient-number f nan y p q = absurd p
quotient-number f (inf s) y p q = absurd p
quotient-number f (fin s m e) nan p q = absurd q
quotient-number f (fin s m e) (inf t) p q = absurd q
quotient-number f (fin s m e) (fin true n d) p q = absurd q
quotient-number f (fin s m e) (fin false n d) p q = go (eqb n 0) (eqb→eq n 0)
  where
    go : (b : Bool) → (T b → n ≡ 0)
        → T (not (is_nan (cond b (cond (eqb m 0) nan (inf (unlike s false))) (round f (unlike s false) (m * up e * down d) (n * up d * down e)))))
    go true h = absurd (let z : n ≡ 0 = h tt in let some : 0 < n = ltb→lt 0 n q in omega arith)
    go false h = round_number f (unlike s false) (m * up e * down d) (n * up d * down e)

value-finite : (x : Float) (s : Bool) (a c : ℕ) → HasValue x s a c → T (finite x)
value-finite nan s a c h = absurd h
value-finite (inf t) s a c h = absurd h
value-finite (fin t m e) s a c h = tt

-- one whole is a float exactly
whole-exact : HasValue (float whole) false whole 1
whole-exact = billions-exact certain (omega arith)

whole-positive : T (positive (float whole))
whole-positive = positive_of_value (float whole) whole 1 whole-exact (omega arith)

-- a larger number gives a float that is no smaller
rising : (a b : ℕ) → a ≤ b → T (le (float a) (float b))
unfolding of_int
rising a b h = round_mono binary64 a 1 b 1 (zero-lt-suc 0) (zero-lt-suc 0) (omega arith)

module _ (m : ℕ) (light : m ≤ whole) where
  -- F of a mass above 0 is above zero: it lies between F(1) and F(10^18)
  mass-positive : 0 < m → T (positive (float_of m))
  mass-positive some =
      subst (λ (x : Float). T (positive x)) (sym (rounds-once m light))
      (between (float 1) (float m) (float whole)
      (positive_of_value (float 1) 1 1 (small-exact 1 (omega arith)) (omega arith))
      whole-positive
      (rising 1 m some)
      (rising m whole light))

  mass-finite : T (finite (float_of m))
  mass-finite = elim (eq-zero-or-pos m) [ inl z ↦ none z | inr some ↦ positive-finite (float_of m) (mass-positive some) ]
    where
      none : m ≡ 0 → T (finite (float_of m))
      none z =
          subst (λ (x : Float). T (finite x)) (sym (rounds-once m light))
          (value-finite (float m) false m 1 (small-exact m (omega arith)))

-- law: neither float of a figure is a NaN
pub shares-numbers : (lower examined : ℕ) → lower ≤ whole → examined ≤ whole → 0 < examined
    → T (not (is_nan (shares_of lower examined).disconnected)) × T (not (is_nan (shares_of lower examined).examined))
shares-numbers lower examined l e some = (
  quotient-number binary64 (float_of lower) (float_of examined) (mass-finite lower l) (mass-positive examined e some),
  quotient-number binary64 (float_of examined) (float whole) (mass-finite examined e) whole-positive,
)

-- law: so the bits of a figure that was given may be taken
pub given-numbers : (r : Option Shares) (s : Shares) → r ≡ Some s → Numbers (floats_in r) → T (not (is_nan s.disconnected)) × T (not (is_nan s.examined))
given-numbers r s e n = let m = subst (λ (x : Option Shares). Numbers (floats_in x)) e n in (m.0, m.1.0)
