-- Laws of the order by falling key, of one element more and of a list put among others: as long as the list, falling, a rearrangement of it, elements
-- of equal key in their old order, and what holds of every element.
-- Assumes nothing.
use mathlib.Core.Path.{◌≡◌, refl, sym, ap, ◌∙◌}
use mathlib.Core.Bool.{Bool, true, false}
use mathlib.Core.List.Perm
use mathlib.Core.List.{List, [], ◌∷◌, ◌++◌, append-nil, Perm, perm_middle}
use Prim.Native.Nat.{ℕ, suc, ◌+◌, ◌<◌, ◌≤◌}
use native.Mathlib.Decide.{ℕ_discrete}
use native.Mathlib.Omega.{arith}
use borrow.Author.Tests.{ltb-true, ltb-false, eq-eqb, ne_eqb}
use lib.Dec.{ltb}
use lib.ListN.{length, take, drop, take-append-drop}
use lib.Seq.{append_snoc}
use Rattle.sheet_order.specs.Order.{place_of, with_element, ordered_with, ordered}
use Rattle.sheet_order.specs.Falling.{FallingFrom, AtMost, having}

-- every element has the property P
abbrev pub Every : {A : Type 0} → (A → Type 0) → List A → Type 0
Every P [] = Unit {0}
Every P (x ∷ xs) = P x × Every P xs

module _ {A : Type 0} (key : A → ℕ) where
  -- ---- one element placed

  -- where the list is empty
  pub with-nil : (x : A) → with_element key x [] ≡ x ∷ []
  unfolding with_element place_of
  with-nil x = refl

  -- where the first key is below
  pub with-here : (x y : A) (ys : List A) → ltb (key y) (key x) ≡ true → with_element key x (y ∷ ys) ≡ x ∷ y ∷ ys
  unfolding with_element place_of
  with-here x y ys e = rw e

  -- where the first key is not below
  pub with-later : (x y : A) (ys : List A) → ltb (key y) (key x) ≡ false → with_element key x (y ∷ ys) ≡ y ∷ with_element key x ys
  unfolding with_element place_of
  with-later x y ys e = rw e

  -- ---- as many elements

  -- one element more
  pub length-with : (x : A) (xs : List A) → length (with_element key x xs) ≡ suc (length xs)
  length-with x [] = ap length (with-nil x)
  length-with x (y ∷ ys) = go (ltb (key y) (key x)) refl (length-with x ys)
    where
      go : (b : Bool) → ltb (key y) (key x) ≡ b → length (with_element key x ys) ≡ suc (length ys)
          → length (with_element key x (y ∷ ys)) ≡ suc (suc (length ys))
      go true e rest = ap length (with-here x y ys e)
      go false e rest = ap length (with-later x y ys e) ∙ ap suc rest

  pub length-ordered-with : (done xs : List A) → length (ordered_with key done xs) ≡ length done + length xs
  unfolding ordered_with
  length-ordered-with done [] = omega arith
  length-ordered-with done (x ∷ xs) = omega (arith, length-ordered-with (with_element key x done) xs, length-with x done)

  -- as many elements as before
  pub length-ordered : (xs : List A) → length (ordered key xs) ≡ length xs
  length-ordered xs = omega (arith, length-ordered-with [] xs)

  -- ---- what holds of every element

  pub every-with : (P : A → Type 0) (x : A) (xs : List A) → P x → Every P xs → Every P (with_element key x xs)
  every-with P x [] h all = rw (with-nil x) (h, tt)
  every-with P x (y ∷ ys) h all = go (ltb (key y) (key x)) refl (every-with P x ys h all.1)
    where
      go : (b : Bool) → ltb (key y) (key x) ≡ b → Every P (with_element key x ys) → Every P (with_element key x (y ∷ ys))
      go true e rest = rw (with-here x y ys e) (h, all)
      go false e rest = rw (with-later x y ys e) (all.0, rest)

  pub every-ordered-with : (P : A → Type 0) (done xs : List A) → Every P done → Every P xs → Every P (ordered_with key done xs)
  unfolding ordered_with
  every-ordered-with P done [] some all = some
  every-ordered-with P done (x ∷ xs) some all =
      every-ordered-with P (with_element key x done) xs (every-with P x done all.0 some) all.1

  -- what holds of every element holds of every element in order
  pub every-ordered : (P : A → Type 0) (xs : List A) → Every P xs → Every P (ordered key xs)
  every-ordered P xs all = every-ordered-with P [] xs tt all

  -- ---- falling keys

  pub falling-weaken : (low high : ℕ) (xs : List A) → low ≤ high → FallingFrom key low xs → FallingFrom key high xs
  falling-weaken low high [] h f = tt
  falling-weaken low high (x ∷ xs) h f = (omega (arith, f.0), f.1)

  -- a list that falls still does with one element more in its place
  pub with-falling : (k : ℕ) (x : A) (xs : List A) → key x ≤ k → FallingFrom key k xs → FallingFrom key k (with_element key x xs)
  with-falling k x [] h f = rw (with-nil x) (h, tt)
  with-falling k x (y ∷ ys) h f = go (ltb (key y) (key x)) refl (λ low. with-falling (key y) x ys low f.1)
    where
      go : (b : Bool) → ltb (key y) (key x) ≡ b → (key x ≤ key y → FallingFrom key (key y) (with_element key x ys))
          → FallingFrom key k (with_element key x (y ∷ ys))
      go true e rest = rw (with-here x y ys e) (h, (omega (arith, ltb-true (key y) (key x) e), f.1))
      go false e rest = rw (with-later x y ys e) (f.0, rest (ltb-false (key y) (key x) e))

  pub ordered-with-falling : (k : ℕ) (done xs : List A) → FallingFrom key k done → AtMost key k xs
      → FallingFrom key k (ordered_with key done xs)
  unfolding ordered_with
  ordered-with-falling k done [] f most = f
  ordered-with-falling k done (x ∷ xs) f most =
      ordered-with-falling k (with_element key x done) xs (with-falling k x done most.0 f) most.1

  -- ---- each element exactly once

  pub with-rearranged : (x : A) (xs : List A) → Perm (x ∷ xs) (with_element key x xs)
  unfolding with_element
  with-rearranged x xs =
      let p = place_of key (key x) xs in
      Perm.symm (rw (take-append-drop p xs) at (perm_middle {a = x} (take p xs) (drop p xs)))

  pub ordered-with-rearranged : (done xs : List A) → Perm (done ++ xs) (ordered_with key done xs)
  unfolding ordered_with
  ordered-with-rearranged done [] = rw (append-nil done) (Perm.refl done)
  ordered-with-rearranged done (x ∷ xs) =
      Perm.trans (perm_middle {a = x} done xs)
      (Perm.trans (Perm.append_right xs (with-rearranged x done)) (ordered-with-rearranged (with_element key x done) xs))

  -- ---- equal keys in their old order

  pub having-nil : (k : ℕ) → having key k [] ≡ []
  unfolding having
  having-nil k = refl

  pub having-yes : (k : ℕ) (x : A) (xs : List A) → key x ≡ k → having key k (x ∷ xs) ≡ x ∷ having key k xs
  unfolding having
  having-yes k x xs e = rw (eq-eqb (key x) k e)

  pub having-no : (k : ℕ) (x : A) (xs : List A) → (key x ≡ k → ⊥) → having key k (x ∷ xs) ≡ having key k xs
  unfolding having
  having-no k x xs n = rw (ne_eqb (key x) k n)

  pub having-append : (k : ℕ) (xs ys : List A) → having key k (xs ++ ys) ≡ having key k xs ++ having key k ys
  having-append k [] ys = unfold having in refl
  having-append k (x ∷ xs) ys = go (ℕ_discrete (key x) k) (having-append k xs ys)
    where
      go : Dec (key x ≡ k) → having key k (xs ++ ys) ≡ having key k xs ++ having key k ys
          → having key k (x ∷ (xs ++ ys)) ≡ having key k (x ∷ xs) ++ having key k ys
      go (yes e) rest = rw (having-yes k x (xs ++ ys) e, having-yes k x xs e, rest)
      go (no n) rest = rw (having-no k x (xs ++ ys) n, having-no k x xs n, rest)

  -- no element that falls from a lower key has key k
  pub having-none : (k low : ℕ) (xs : List A) → low < k → FallingFrom key low xs → having key k xs ≡ []
  having-none k low [] h f = unfold having in refl
  having-none k low (x ∷ xs) h f =
      let less : key x < k = omega (arith, f.0) in
      having-no k x xs (λ e. omega arith) ∙ having-none k (key x) xs less f.1

  -- an element is placed behind all of its key
  pub with-stable : (k top : ℕ) (x : A) (xs : List A) → FallingFrom key top xs
      → having key k (with_element key x xs) ≡ having key k (xs ++ (x ∷ []))
  with-stable k top x [] f = ap (having key k) (with-nil x)
  with-stable k top x (y ∷ ys) f = go (ltb (key y) (key x)) refl (with-stable k (key y) x ys f.1)
    where
      before : ltb (key y) (key x) ≡ true → Dec (key x ≡ k) → having key k (x ∷ y ∷ ys) ≡ having key k ((y ∷ ys) ++ (x ∷ []))
      before e (yes same) =
          let less : key y < k = omega (arith, ltb-true (key y) (key x) e) in
          let none : having key k (y ∷ ys) ≡ [] = having-none k (key y) (y ∷ ys) less (omega arith, f.1) in
          having-yes k x (y ∷ ys) same
          ∙ ap (λ (r : List A). x ∷ r) none
          ∙ sym (having-append k (y ∷ ys) (x ∷ []) ∙ rw (none, having-yes k x [] same, having-nil k))
      before e (no other) =
          having-no k x (y ∷ ys) other
          ∙ sym (having-append k (y ∷ ys) (x ∷ []) ∙ rw (having-no k x [] other, having-nil k) (append-nil (having key k (y ∷ ys))))

      after : Dec (key y ≡ k) → having key k (with_element key x ys) ≡ having key k (ys ++ (x ∷ []))
          → having key k (y ∷ with_element key x ys) ≡ having key k (y ∷ (ys ++ (x ∷ [])))
      after (yes e) rest = rw (having-yes k y (with_element key x ys) e, having-yes k y (ys ++ (x ∷ [])) e, rest)
      after (no n) rest = rw (having-no k y (with_element key x ys) n, having-no k y (ys ++ (x ∷ [])) n, rest)

      go : (b : Bool) → ltb (key y) (key x) ≡ b → having key k (with_element key x ys) ≡ having key k (ys ++ (x ∷ []))
          → having key k (with_element key x (y ∷ ys)) ≡ having key k ((y ∷ ys) ++ (x ∷ []))
      go true e rest = ap (having key k) (with-here x y ys e) ∙ before e (ℕ_discrete (key x) k)
      go false e rest = ap (having key k) (with-later x y ys e) ∙ after (ℕ_discrete (key y) k) rest

  pub ordered-with-stable : (k top : ℕ) (done xs : List A) → FallingFrom key top done
      → having key k (ordered_with key done xs) ≡ having key k (done ++ xs)
  unfolding ordered_with
  ordered-with-stable k top done [] f = rw (append-nil done)
  ordered-with-stable k top done (x ∷ xs) f =
      let wider = falling-weaken top (top + key x) done (omega arith) f in
      ordered-with-stable k (top + key x) (with_element key x done) xs (with-falling (top + key x) x done (omega arith) wider)
      ∙ having-append k (with_element key x done) xs
      ∙ ap (λ (r : List A). r ++ having key k xs) (with-stable k top x done f)
      ∙ sym (having-append k (done ++ (x ∷ [])) xs)
      ∙ ap (having key k) (append_snoc done x xs)
