-- Laws of the elements of a set, word by word, and of the members of one kind.
-- Assumes nothing.
use mathlib.Core.Path.{◌≡◌, refl, sym, ap, ◌∙◌}
use mathlib.Core.Bool.{Bool, true, false, cond}
use mathlib.Core.List.{List, [], ◌∷◌, ◌++◌, append_assoc}
use Prim.Native.Nat.{ℕ, zero, suc, ◌+◌, ◌-◌, ◌*◌, ◌/◌, ◌%◌, ◌^◌, ◌≤◌, ◌<◌}
use native.Mathlib.Nat.{add-zero, zero-add}
use native.Mathlib.Numerals.{add-one}
use native.Mathlib.Omega.{arith}
use lib.Dec.{eqb}
use lib.ListN.{length, length-append}
use Rattle.plan_lists.proofs.ListLaws.{less_one}
use Rattle.sets.specs.Sets.{joined}
use Rattle.plan.specs.Layout.{elements, member_bytes}

-- the lowest element, if it is there, then the others
pub elements-next : (count from s : ℕ) → elements (suc count) from s ≡ elements 1 from s ++ elements count (suc from) (s / 2)
unfolding elements
elements-next count from s = next (eqb (s % 2) 1) from (elements count (suc from) (s / 2))
  where
    next : (b : Bool) (i : ℕ) (others : List ℕ) → cond b (i ∷ others) others ≡ cond b (i ∷ []) [] ++ others
    next true i others = refl
    next false i others = refl

-- the lowest bit counts the lowest element
pub length-one : (from s : ℕ) → length (elements 1 from s) ≡ s % 2
unfolding elements
length-one from s = one (s % 2) (omega arith)
  where
    one : (n : ℕ) → n < 2 → length (cond (eqb n 1) (from ∷ []) []) ≡ n
    one zero h = refl
    one (suc zero) h = refl
    one (suc (suc n)) h = absurd (omega arith)

-- how many elements: the lowest bit and the other bits', whatever they stand for
pub length-next : (count from s : ℕ) → length (elements (suc count) from s) ≡ s % 2 + length (elements count (suc from) (s / 2))
length-next count from s = rw (elements-next count from s, length-append, length-one)

pub length_from : (count from other s : ℕ) → length (elements count from s) ≡ length (elements count other s)
unfolding elements
length_from zero from other s = refl
length_from (suc count) from other s =
    length-next count from s
    ∙ ap (λ (n : ℕ). s % 2 + n) (length_from count (suc from) (suc other) (s / 2))
    ∙ sym (length-next count other s)

-- the same, of a count that is not 0
pub elements-left : (left from s : ℕ) → 0 < left → elements left from s ≡ elements 1 from s ++ elements (left - 1) (from + 1) (s / 2)
elements-left zero from s h = absurd (omega arith)
elements-left (suc left) from s h = rw (less_one, add-one) (elements-next left from s)

pub elements-end : (left from s : ℕ) → left ≤ 0 → elements left from s ≡ []
unfolding elements
elements-end zero from s h = refl
elements-end (suc left) from s h = absurd (omega arith)

-- the lowest bit is not set, or set
pub one_none : (number s : ℕ) → s % 2 ≡ 0 → elements 1 number s ≡ []
unfolding elements
one_none number s e = rw e

pub one-some : (number s : ℕ) → (s % 2 ≡ 0 → ⊥) → elements 1 number s ≡ number ∷ []
unfolding elements
one-some number s n = let e : s % 2 ≡ 1 = one (s % 2) n (omega arith) in rw e
  where
    one : (m : ℕ) → (m ≡ 0 → ⊥) → m < 2 → m ≡ 1
    one zero k h = absurd (k refl)
    one (suc zero) k h = refl
    one (suc (suc m)) k h = absurd (omega arith)

-- no more elements than bits
pub length_most : (count from s : ℕ) → length (elements count from s) ≤ count
unfolding elements
length_most zero from s = omega arith
length_most (suc count) from s = omega (arith, length-next count from s, length_most count (suc from) (s / 2))

-- the elements of a set of two words: those of the low word, then those of the high one
elements-joined : (low_bits bits from low high : ℕ) → low < 2 ^ low_bits
    → elements (low_bits + bits) from (high * 2 ^ low_bits + low) ≡ elements low_bits from low ++ elements bits (from + low_bits) high
unfolding elements
elements-joined zero bits from low high h =
    let e : high * 1 + low ≡ high = omega arith in
    rw (e, zero-add, add-zero)
elements-joined (suc k) bits from low high h =
    let p : 2 ^ suc k ≡ 2 * 2 ^ k = omega arith in
    let d : (high * 2 ^ suc k + low) / 2 ≡ high * 2 ^ k + low / 2 = omega (arith, ap (λ (x : ℕ). high * x) p) in
    let m : (high * 2 ^ suc k + low) % 2 ≡ low % 2 = omega (arith, ap (λ (x : ℕ). high * x) p) in
    let n : suc k + bits ≡ suc (k + bits) = omega arith in
    let f : suc from + k ≡ from + suc k = omega arith in
    let later : elements (k + bits) (suc from) ((high * 2 ^ suc k + low) / 2) ≡ elements k (suc from) (low / 2) ++ elements bits (from + suc k) high
    = rw (d, ← f) (elements-joined k bits (suc from) (low / 2) high (omega arith)) in
    rw (n, elements-next (k + bits) from, elements-next k from low, later, m, append_assoc)

pub link-elements : (low high : ℕ) → low < 2 ^ 64 → elements 128 0 (joined low high) ≡ elements 64 0 low ++ elements 64 64 high
link-elements low high h = elements-joined 64 64 0 low high h

-- how many members an event of four words has
pub members-counted : (nodes low high : ℕ) → low < 2 ^ 64
    → length (elements 64 0 nodes) + length (elements 128 0 (joined low high))
    ≡ length (elements 64 0 nodes) + length (elements 64 0 low) + length (elements 64 0 high)
members-counted nodes low high h = rw (link-elements low high h, length-append, length_from 64 64 0 high) (omega arith)

pub member_bytes-append : (kind : ℕ) (a b : List ℕ) → member_bytes kind (a ++ b) ≡ member_bytes kind a ++ member_bytes kind b
unfolding member_bytes
member_bytes-append kind [] b = refl
member_bytes-append kind (i ∷ a) b = ap (λ (bytes : List ℕ). kind ∷ i ∷ bytes) (member_bytes-append kind a b)

pub length-member_bytes : (kind : ℕ) (is : List ℕ) → length (member_bytes kind is) ≡ 2 * length is
unfolding member_bytes
length-member_bytes kind [] = refl
length-member_bytes kind (i ∷ is) = omega (arith, length-member_bytes kind is)

pub length-members-left : (left number s : ℕ) → 0 < left
    → length (elements left number s) ≡ length (elements 1 number s) + length (elements (left - 1) (number + 1) (s / 2))
length-members-left left number s h = rw (elements-left left number s h, length-append)
