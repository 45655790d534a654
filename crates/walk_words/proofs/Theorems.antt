-- The definitions fit together: a walk has as many words as they say, and is the one that its words stand for.
-- Assumes nothing.
use mathlib.Core.Path.{◌≡◌, refl, ap, ◌∙◌}
use mathlib.Core.List.{List, [], ◌∷◌, ◌++◌, map, append_assoc}
use Prim.Native.Nat.{ℕ, suc, ◌+◌, ◌≤◌, ◌<◌, ◌%◌}
use native.Mathlib.Nat.{mod-eq_of_lt}
use native.Mathlib.Omega.{arith}
use lib.ListN.{length, get_or, take, drop, length-append}
use lib.Seq.{sets, sets-eq, take_at, drop_at, drop-drop}
use Rattle.walk_state.specs.declared.Walk.{Walk}
use Rattle.walk_words.specs.WalkWords.{walk_length, walk_words, walk_of}

-- the arrays' lengths, and the range of a link byte: every value of the type `Walk` has these
pub record Sized (w : Walk) : Type 0 where
  pub links : length w.links ≡ 256
  pub events : length w.events ≡ 512
  pub stack : length w.stack ≡ 512
  pub sums : length w.sums ≡ 2016
  pub bytes : (i : ℕ) → get_or w.links i 0 < 256

-- the words are as many as the definition says
pub length-words : (w : Walk) → Sized w → length (walk_words w) ≡ walk_length
unfolding walk_words
length-words w z = simp length-append (omega (arith, z))

-- bytes are their own lowest eight bits
bytes-kept : (l : List ℕ) → ((i : ℕ) → get_or l i 0 < 256) → map (λ (x : ℕ). x % 256) l ≡ l
bytes-kept [] h = refl
bytes-kept (x ∷ l) h = rw (mod-eq_of_lt (h 0), bytes-kept l (λ i. h (suc i)))

-- each part of four that follow one another
module _ (a b c d rest : List ℕ) where
  abbrev parts : List ℕ
  parts = a ++ (b ++ (c ++ d)) ++ rest

  joined : parts ≡ a ++ (b ++ (c ++ (d ++ rest)))
  joined = simp append_assoc

  first_of : take (length a) parts ≡ a
  first_of = rw joined (take_at a _ _ refl)

  second-of : take (length b) (drop (length a) parts) ≡ b
  second-of = rw (joined, drop_at a _ (length a) refl) (take_at b _ _ refl)

  third_of : take (length c) (drop (length a + length b) parts) ≡ c
  third_of = rw (joined, ← drop-drop, drop_at a _ (length a) refl, drop_at b _ (length b) refl) (take_at c _ _ refl)

  fourth-of : take (length d) (drop (length a + length b + length c) parts) ≡ d
  fourth-of =
      rw (joined, ← drop-drop, ← drop-drop, drop_at a _ (length a) refl, drop_at b _ (length b) refl, drop_at c _ (length c) refl)
      (take_at d _ _ refl)

-- a walk is the one that its words stand for, whatever comes after them
pub unpacked : (w : Walk) → Sized w → (rest : List ℕ) → walk_of (walk_words w ++ rest) ≡ w
unfolding walk_words walk_of
unpacked w z rest =
    let body = parts w.links w.events w.stack w.sums rest in
    let l : take 256 body ≡ w.links = rw z.links at (first_of w.links w.events w.stack w.sums rest) in
    let e : take 512 (drop 256 body) ≡ w.events = rw (z.links, z.events) at (second-of w.links w.events w.stack w.sums rest) in
    let k : take 512 (drop 768 body) ≡ w.stack = rw (z.links, z.events, z.stack) at (third_of w.links w.events w.stack w.sums rest) in
    let m : take 2016 (drop 1280 body) ≡ w.sums
    = rw (z.links, z.events, z.stack, z.sums) at (fourth-of w.links w.events w.stack w.sums rest) in
    rw (l, e, k, m, bytes-kept w.links z.bytes)

-- so is a walk that was laid down at the start of a list
pub laid-again : (w : Walk) → Sized w → (s : List ℕ) → walk_length ≤ length s → walk_of (sets s 0 (walk_words w)) ≡ w
laid-again w z s h = ap walk_of (sets-eq (walk_words w) s 0 (omega (arith, length-words w z))) ∙ unpacked w z _
