-- The links that the elements of a word name: one element at a time, and the links of two words as one set.
-- Assumes nothing.
use mathlib.Core.Path.{◌≡◌, sym, ap, ap₂, ◌∙◌, subst}
use mathlib.Core.Bool.{Bool, true, false, ◌&&◌, ◌||◌}
use mathlib.Core.List.{List}
use mathlib.Core.Logic.{◌⊎◌, inl, inr, ⊎_elim}
use Prim.Native.Nat.{ℕ, ◌+◌, ◌-◌, ◌^◌, ◌<◌}
use native.Mathlib.Omega.{arith}
use native.Mathlib.Decide.{dec_lt}
use native.Mathlib.Nat.{zero-add}
use Rattle.sets.specs.Sets.{bit, joined, any_below}
use Rattle.sets.specs.Elements.{LowestTaken}
use Rattle.sets.proofs.Laws.{bit-none, bit_below, bit-joined-low, bit-joined-high}
use Rattle.sets.proofs.Bools.{and_left, and_right, and_both, or-either, or_left, or_right, clash, not_so, same_bool, any_found, any_here}
use Rattle.sets.proofs.Taken.{other_in, lowest_or}
use Rattle.network.specs.Topology.{has_ends}
use Rattle.network.specs.Table.{link_in, joined_by}

-- ---- one element of a word

module _ (p : ℕ → Bool) {left found rest : ℕ} (t : LowestTaken left found rest) where
  -- p holds of an element, exactly where it holds of the one taken out or of one of the others
  pub any-rest : any_below (λ j. bit left j && p j) 64 ≡ (p found || any_below (λ j. bit rest j && p j) 64)
  any-rest = same_bool _ _ out back
    where
      other : (j : ℕ) → j < 64 → p j ≡ true → (j ≡ found) ⊎ (bit rest j ≡ true) → (p found || any_below (λ j. bit rest j && p j) 64) ≡ true
      other j l e (inl s) = or_left (p found) _ (ap p (sym s) ∙ e)
      other j l e (inr r) = or_right (p found) _ (any_here (λ j. bit rest j && p j) 64 j l (and_both (bit rest j) (p j) r e))

      out : any_below (λ j. bit left j && p j) 64 ≡ true → (p found || any_below (λ j. bit rest j && p j) 64) ≡ true
      out e =
          let f = any_found (λ j. bit left j && p j) 64 e in
          other f.0 f.1 (and_right (bit left f.0) _ f.2) (lowest_or t f.0 (and_left (bit left f.0) _ f.2))

      among : any_below (λ j. bit rest j && p j) 64 ≡ true → any_below (λ j. bit left j && p j) 64 ≡ true
      among e =
          let f = any_found (λ j. bit rest j && p j) 64 e in
          any_here (λ j. bit left j && p j) 64 f.0 f.1
          (and_both (bit left f.0) _ (other_in t f.0 (and_left (bit rest f.0) _ f.2)) (and_right (bit rest f.0) _ f.2))

      back : (p found || any_below (λ j. bit rest j && p j) 64) ≡ true → any_below (λ j. bit left j && p j) 64 ≡ true
      back e =
          ⊎_elim
          (λ h. any_here (λ j. bit left j && p j) 64 found t.within (and_both (bit left found) (p found) t.found h))
          among
          (or-either (p found) _ e)

-- of the empty set it holds of none
pub any_none : (p : ℕ → Bool) (left : ℕ) → left ≡ 0 → any_below (λ j. bit left j && p j) 64 ≡ false
any_none p left e = not_so _ none
  where
    none : any_below (λ j. bit left j && p j) 64 ≡ true → ⊥
    none h =
        let f = any_found (λ j. bit left j && p j) 64 h in
        clash (and_left (bit left f.0) _ f.2) (ap (λ (x : ℕ). bit x f.0) e ∙ bit-none f.0)

-- ---- two words

-- an operation on sets of one word, word by word
module _ (g : Bool → Bool → Bool) (a b c d low high : ℕ) (fa : a < 2 ^ 64) (fc : c < 2 ^ 64) (fl : low < 2 ^ 64)
    (one : (j : ℕ) → bit low j ≡ g (bit a j) (bit c j))
    (other : (j : ℕ) → bit high j ≡ g (bit b j) (bit d j))
  where
    By : ℕ → Type 0
    By i = bit (joined low high) i ≡ g (bit (joined a b) i) (bit (joined c d) i)

    pub joined_by_lem : (i : ℕ) → bit (joined low high) i ≡ g (bit (joined a b) i) (bit (joined c d) i)
    unfolding By
    joined_by_lem i = at (dec_lt i 64)
      where
        later : (m : ℕ) → By (64 + m)
        later m = bit-joined-high 64 low high m fl ∙ other m ∙ sym (ap₂ g (bit-joined-high 64 a b m fa) (bit-joined-high 64 c d m fc))

        at : Dec (i < 64) → By i
        at (yes l) = bit-joined-low 64 low high i fl l ∙ one i ∙ sym (ap₂ g (bit-joined-low 64 a b i fa l) (bit-joined-low 64 c d i fc l))
        at (no n) =
            let e : 64 + (i - 64) ≡ i = omega arith in
            subst By e (later (i - 64))

module _ (low high : ℕ) (fl : low < 2 ^ 64) (fh : high < 2 ^ 64) where
  -- an element of the low word, and one of the high word, in the set of both
  pub in-low-word : (i : ℕ) → bit low i ≡ true → bit (joined low high) (0 + i) ≡ true
  in-low-word i e = ap (bit (joined low high)) (zero-add i) ∙ bit-joined-low 64 low high i fl (bit_below low 64 i fl e) ∙ e

  pub in-high-word : (i : ℕ) → bit high i ≡ true → bit (joined low high) (64 + i) ≡ true
  in-high-word i e = bit-joined-high 64 low high i fl ∙ e

  module _ (bytes : List ℕ) (v w : ℕ) where
    -- a link of either word that joins v and w is a link of the set of both
    pub two-found : (joined_by bytes 0 low v w || joined_by bytes 64 high v w) ≡ true → (i : ℕ) × (bit (joined low high) i ≡ true) × (has_ends (link_in bytes i) v w ≡ true)
    two-found e = ⊎_elim lower upper (or-either (joined_by bytes 0 low v w) (joined_by bytes 64 high v w) e)
      where
        lower : joined_by bytes 0 low v w ≡ true → (i : ℕ) × (bit (joined low high) i ≡ true) × (has_ends (link_in bytes i) v w ≡ true)
        lower h =
            let f = any_found (λ i. bit low i && has_ends (link_in bytes (0 + i)) v w) 64 h in
            (0 + f.0, in-low-word f.0 (and_left (bit low f.0) _ f.2), and_right (bit low f.0) _ f.2)

        upper : joined_by bytes 64 high v w ≡ true → (i : ℕ) × (bit (joined low high) i ≡ true) × (has_ends (link_in bytes i) v w ≡ true)
        upper h =
            let f = any_found (λ i. bit high i && has_ends (link_in bytes (64 + i)) v w) 64 h in
            (64 + f.0, in-high-word f.0 (and_left (bit high f.0) _ f.2), and_right (bit high f.0) _ f.2)

    Here : ℕ → Type 0
    Here i = bit (joined low high) i ≡ true → has_ends (link_in bytes i) v w ≡ true → (joined_by bytes 0 low v w || joined_by bytes 64 high v w) ≡ true

    pub two_here : (i : ℕ) → bit (joined low high) i ≡ true → has_ends (link_in bytes i) v w ≡ true → (joined_by bytes 0 low v w || joined_by bytes 64 high v w) ≡ true
    unfolding Here
    two_here i = at (dec_lt i 64)
      where
        lower : i < 64 → Here i
        lower l b e =
            or_left (joined_by bytes 0 low v w) _
            (any_here (λ i. bit low i && has_ends (link_in bytes (0 + i)) v w) 64 i l (and_both (bit low i) _ (sym (bit-joined-low 64 low high i fl l) ∙ b) (ap (λ (x : ℕ). has_ends (link_in bytes x) v w) (zero-add i) ∙ e)))

        upper : (m : ℕ) → Here (64 + m)
        upper m b e =
            let h : bit high m ≡ true = sym (bit-joined-high 64 low high m fl) ∙ b in
            or_right (joined_by bytes 0 low v w) _
            (any_here (λ i. bit high i && has_ends (link_in bytes (64 + i)) v w) 64 m (bit_below high 64 m fh h) (and_both (bit high m) _ h e))

        at : Dec (i < 64) → Here i
        at (yes l) = lower l
        at (no n) =
            let e : 64 + (i - 64) ≡ i = omega arith in
            subst Here e (upper (i - 64))
