-- Links laid down one after another, words of full events, and a file laid down in three parts.
-- Assumes nothing.
use mathlib.Core.Path.{◌≡◌, ap, ◌∙◌}
use mathlib.Core.List.{List, [], ◌++◌, append_assoc, append-nil}
use Prim.Native.Nat.{ℕ, ◌+◌, ◌*◌, ◌/◌, ◌%◌, ◌<◌}
use native.Mathlib.Omega.{arith}
use borrow.Author.Count.{below_more}
use lib.ListN.{length, get_or, take, drop, set, length-append, drop_of_length-le}
use lib.Seq.{sets, sets-eq, take_at, drop_at, lt-length-set, get_or-set_same, get_or-set_other}
use Rattle.plan_lists.proofs.ListLaws.{sets_then}
use Rattle.trials_vectors.specs.Data.{LinksUpTo}

-- a link laid down after the first i
module _ (links : List ℕ) (i a b : ℕ) (room : 2 * i + 1 < length links) where
  laid : List ℕ
  laid = set (set links (2 * i) a) (2 * i + 1) b

  other : (j : ℕ) → j < 2 * i → get_or laid j 0 ≡ get_or links j 0
  unfolding laid
  other j h =
      get_or-set_other (set links (2 * i) a) (2 * i + 1) j b 0 (λ e. omega arith)
      ∙ get_or-set_other links (2 * i) j a 0 (λ e. omega arith)

  low : get_or laid (2 * i) 0 ≡ a
  unfolding laid
  low =
      get_or-set_other (set links (2 * i) a) (2 * i + 1) (2 * i) b 0 (λ e. omega arith)
      ∙ get_or-set_same links (2 * i) a 0 (omega arith)

  high : get_or laid (2 * i + 1) 0 ≡ b
  unfolding laid
  high = get_or-set_same (set links (2 * i) a) (2 * i + 1) b 0 (lt-length-set links (2 * i) a room)

  pub link-more : a ≡ i / 3 → b ≡ 43 + i % 21 → LinksUpTo i links → LinksUpTo (i + 1) (set (set links (2 * i) a) (2 * i + 1) b)
  unfolding laid
  link-more ea eb before =
      below_more (λ (k : ℕ). (get_or laid (2 * k) 0 ≡ k / 3) × (get_or laid (2 * k + 1) 0 ≡ 43 + k % 21)) i
      (λ k h. (other (2 * k) (omega arith) ∙ (before k h).0, other (2 * k + 1) (omega arith) ∙ (before k h).1))
      (low ∙ ea, high ∙ eb)

-- the probability of a full event laid down after the first i; the words of the sets stay
module _ (words : List ℕ) (i q full : ℕ) (room : 4 * i < length words) where
  pub probability-more : ((k : ℕ) → k < i → get_or words (4 * k) 0 ≡ q) → (k : ℕ) → k < i + 1 → get_or (set words (4 * i) q) (4 * k) 0 ≡ q
  probability-more before =
      below_more (λ (k : ℕ). get_or (set words (4 * i) q) (4 * k) 0 ≡ q) i
      (λ k h. get_or-set_other words (4 * i) (4 * k) q 0 (λ e. omega arith) ∙ before k h)
      (get_or-set_same words (4 * i) q 0 room)

  pub sets-stay : ((j : ℕ) → j < 512 → (j % 4 ≡ 0 → ⊥) → get_or words j 0 ≡ full)
      → (j : ℕ) → j < 512 → (j % 4 ≡ 0 → ⊥) → get_or (set words (4 * i) q) j 0 ≡ full
  sets-stay before j h n = get_or-set_other words (4 * i) j q 0 (λ e. n (omega arith)) ∙ before j h n

-- a list laid down over one as long
sets-all : (l vs : List ℕ) → length vs ≡ length l → sets l 0 vs ≡ vs
sets-all l vs e =
    let d : drop (0 + length vs) l ≡ [] = drop_of_length-le l {i = 0 + length vs} (omega arith) in
    sets-eq vs l 0 (omega arith) ∙ (ap (λ (r : List ℕ). vs ++ r) d ∙ append-nil vs)

-- three lists laid down, each after the one before, over one that is as long as the three
pub three-laid : (s s₁ s₂ a b c : List ℕ) (i j : ℕ) → s₁ ≡ sets s 0 a → s₂ ≡ sets s₁ i b → i ≡ length a → j ≡ i + length b
    → length s ≡ j + length c → sets s₂ j c ≡ a ++ b ++ c
three-laid s s₁ s₂ a b c i j e₁ e₂ hi hj hs =
    let n = length-append a b in
    let m = length-append (a ++ b) c in
    let f : s₂ ≡ sets s 0 (a ++ b) = e₂ ∙ sets_then a b s s₁ 0 i e₁ (omega arith) in
    sets_then (a ++ b) c s s₂ 0 j f (omega arith) ∙ sets-all s (a ++ b ++ c) (omega arith)

-- the parts of what three lists make
pub first_part : (a b c : List ℕ) (i : ℕ) → length a ≡ i → take i (a ++ b ++ c) ≡ a
first_part a b c i e = rw append_assoc (take_at a (b ++ c) i e)

pub second-part : (a b c : List ℕ) (i k : ℕ) → length a ≡ i → length b ≡ k → take k (drop i (a ++ b ++ c)) ≡ b
second-part a b c i k e f = rw (append_assoc, drop_at a (b ++ c) i e) (take_at b c k f)

pub third-part : (a b c : List ℕ) (j : ℕ) → length (a ++ b) ≡ j → drop j (a ++ b ++ c) ≡ c
third-part a b c j e = drop_at (a ++ b) c j e
