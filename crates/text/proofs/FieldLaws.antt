-- Texts laid down one after the other, and the fields and lines of the listing.
-- Assumes nothing.
use mathlib.Core.Path.{◌≡◌, refl, ap, ◌∙◌}
use mathlib.Core.List.{List, [], ◌∷◌, ◌++◌}
use Prim.Native.Nat.{ℕ, ◌+◌, ◌/◌, ◌%◌, ◌<◌, ◌≤◌}
use native.Mathlib.Omega.{arith}
use lib.ListN.{length, set, length-append}
use lib.Seq.{sets}
use Rattle.plan_lists.proofs.ListLaws.{sets_then}
use Rattle.text.specs.Decimal.{decimal}
use Rattle.text.proofs.DecimalLaws.{decimal-small, decimal-large}
use Rattle.text.specs.Listing.{field, line, refused_text}

-- a text laid down from a position on, and where the next one goes
abbrev pub TextLaid : List ℕ → ℕ → List ℕ → List ℕ → ℕ → Type 0
TextLaid out at text out' next = (out' ≡ sets out at text) × (next ≡ at + length text)

-- one text after another
pub then : (out out₁ out₂ : List ℕ) (at i j : ℕ) (a b : List ℕ) → TextLaid out at a out₁ i → TextLaid out₁ i b out₂ j → TextLaid out at (a ++ b) out₂ j
then out out₁ out₂ at i j a b e f =
    (f.0 ∙ sets_then a b out out₁ at i e.0 e.1, rw length-append (omega (arith, e.1, f.1)))

-- one byte after a text
pub then-byte : (out out₁ : List ℕ) (at i byte : ℕ) (a : List ℕ) → TextLaid out at a out₁ i → TextLaid out at (a ++ (byte ∷ [])) (set out₁ i byte) (i + 1)
then-byte out out₁ at i byte a e = then out out₁ (set out₁ i byte) at i (i + 1) a (byte ∷ []) e (refl, refl)

-- ---- a number

pub small-laid : (out : List ℕ) (at x : ℕ) → x < 10 → TextLaid out at (decimal x) (set out at (48 + x)) (at + 1)
small-laid out at x h = rw (decimal-small x h) (refl, refl)

pub large-laid : (out out₁ : List ℕ) (at i x : ℕ) → 10 ≤ x → TextLaid out at (decimal (x / 10)) out₁ i → TextLaid out at (decimal x) (set out₁ i (48 + x % 10)) (i + 1)
large-laid out out₁ at i x h e = rw (decimal-large x h) (then-byte out out₁ at i (48 + x % 10) (decimal (x / 10)) e)

pub small-long : (x : ℕ) → x < 10 → length (decimal x) ≡ 1
small-long x h = ap length (decimal-small x h)

pub large-long : (x : ℕ) → 10 ≤ x → length (decimal x) ≡ length (decimal (x / 10)) + 1
large-long x h = ap length (decimal-large x h) ∙ length-append (decimal (x / 10)) _

-- ---- a field, a line

pub field-laid : (out out₁ : List ℕ) (at i x end : ℕ) → TextLaid out at (decimal x) out₁ i → TextLaid out at (field x end) (set out₁ i end) (i + 1)
unfolding field
field-laid out out₁ at i x end e = then-byte out out₁ at i end (decimal x) e

pub field-long : (x end : ℕ) → length (field x end) ≡ length (decimal x) + 1
unfolding field
field-long x end = length-append (decimal x) (end ∷ [])

module _ (a b c d : ℕ) where
  pub line-long : length (line (a ∷ b ∷ c ∷ d ∷ []))
      ≡ length (field a 32) + (length (field b 32) + (length (field c 32) + length (field d 10)))
  unfolding line
  line-long =
      rw (length-append (field a 32) _, length-append (field b 32) _, length-append (field c 32) _)

  pub line-laid : (out out₁ out₂ out₃ out₄ : List ℕ) (at i j k l : ℕ)
      → TextLaid out at (field a 32) out₁ i → TextLaid out₁ i (field b 32) out₂ j → TextLaid out₂ j (field c 32) out₃ k → TextLaid out₃ k (field d 10) out₄ l
      → TextLaid out at (line (a ∷ b ∷ c ∷ d ∷ [])) out₄ l
  unfolding line
  line-laid out out₁ out₂ out₃ out₄ at i j k l e₁ e₂ e₃ e₄ =
      then out out₁ out₄ at i l (field a 32) (field b 32 ++ (field c 32 ++ field d 10)) e₁
      (then out₁ out₂ out₄ i j l (field b 32) (field c 32 ++ field d 10) e₂ (then out₂ out₃ out₄ j k l (field c 32) (field d 10) e₃ e₄))

-- ---- the line of a refused plan

pub refused-long : (n : ℕ) → length (refused_text n) ≡ 8 + length (field n 10)
unfolding refused_text line
refused-long n = omega arith

pub refused-laid : (out out₁ : List ℕ) (r n : ℕ)
    → TextLaid (set (set (set (set (set (set (set (set out 0 114) 1 101) 2 102) 3 117) 4 115) 5 101) 6 100) 7 32) 8 (field n 10) out₁ r
    → (out₁ ≡ sets out 0 (refused_text n)) × (r ≡ length (refused_text n))
unfolding refused_text line
refused-laid out out₁ r n e = (e.0, omega (arith, e.1))

-- ---- the first line

module _ (a b c d e f : ℕ) where
  pub head-long : length (line (a ∷ b ∷ c ∷ d ∷ e ∷ f ∷ [])) ≡ length (field a 32) + (length (field b 32) + length (line (c ∷ d ∷ e ∷ f ∷ [])))
  unfolding line
  head-long = rw (length-append (field a 32) _, length-append (field b 32) _)

  pub head-laid : (out out₁ out₂ out₃ : List ℕ) (i j k : ℕ)
      → TextLaid out 0 (field a 32) out₁ i → TextLaid out₁ i (field b 32) out₂ j → TextLaid out₂ j (line (c ∷ d ∷ e ∷ f ∷ [])) out₃ k
      → (out₃ ≡ sets out 0 (line (a ∷ b ∷ c ∷ d ∷ e ∷ f ∷ []))) × (k ≡ length (line (a ∷ b ∷ c ∷ d ∷ e ∷ f ∷ [])))
  unfolding line
  head-laid out out₁ out₂ out₃ i j k e₁ e₂ e₃ =
      let l =
      then out out₁ out₃ 0 i k (field a 32) (field b 32 ++ line (c ∷ d ∷ e ∷ f ∷ [])) e₁
      (then out₁ out₂ out₃ i j k (field b 32) (line (c ∷ d ∷ e ∷ f ∷ [])) e₂ e₃) in
      (l.0, omega (arith, l.1))
