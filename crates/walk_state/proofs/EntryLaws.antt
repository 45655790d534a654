-- The test of a stack's entries and of the sums, word by word.
-- Assumes nothing.
use mathlib.Core.Path.{◌≡◌, refl, ap, sym, ◌∙◌}
use mathlib.Core.Bool.{Bool, true, false, ◌&&◌}
use mathlib.Core.List.{List}
use Prim.Native.Nat.{ℕ, ◌+◌, ◌-◌, ◌*◌, ◌^◌, ◌≤◌, ◌<◌}
use native.Mathlib.Omega.{arith}
use borrow.Author.Tests.{lt-ltb, le-ltb, le-leb, lt-leb, leb-true, leb-false}
use lib.Dec.{ltb, leb}
use lib.ListN.{length, get_or, drop, length-drop, drop_of_length-le}
use native.Mathlib.Decide.{dec_lt}
use Rattle.std.specs.Bool.{MatchBool}
use Rattle.std.specs.List.{AllWithin, HoldsAt}
use Rattle.std.proofs.lemmas.List.Recursion.{and_from_places, and_fails_at}
use Rattle.sets.specs.Sets.{joined}
use Rattle.sets.proofs.Bools.{and_left, and_right}
use Rattle.walk.specs.Stack.{entry_mass}
use Rattle.walk.proofs.Words.{words-at}
use Rattle.walk.proofs.StackLaws.{mass-run, mass-branch}
use Rattle.walk_state.specs.Sound.{sound_entry, sound_entries, none_above}

-- the two kinds of an entry
module _ (count room depth mass low high below : ℕ) where
  pub entry-run : 128 < depth → sound_entry count room depth mass low high below ≡ ltb 0 mass
  unfolding sound_entry
  entry-run h = rw (lt-ltb 128 depth h, sound_entry)

  pub entry-branch : depth ≤ 128 → sound_entry count room depth mass low high below
      ≡ (leb depth count && (leb mass room && (ltb low (2 ^ 64) && (ltb (joined low high) (2 ^ depth) && leb below (4 * depth)))))
  unfolding sound_entry
  entry-branch h = rw (le-ltb 128 depth h, sound_entry)

-- a pending branch, test by test
module _ (count room depth mass low high below : ℕ) (few : depth ≤ 128) where
  pub too-deep : count < depth → false ≡ sound_entry count room depth mass low high below
  too-deep h = rw (entry-branch count room depth mass low high below few, lt-leb depth count h)

  module _ (deep : depth ≤ count) where
    pub too-heavy : room < mass → false ≡ sound_entry count room depth mass low high below
    too-heavy h = rw (entry-branch count room depth mass low high below few, le-leb depth count deep, lt-leb mass room h)

    module _ (light : mass ≤ room) (word : low < 2 ^ 64) where
      pub too_wide : leb (2 ^ depth) (joined low high) ≡ true → false ≡ sound_entry count room depth mass low high below
      too_wide h =
          rw (
            entry-branch count room depth mass low high below few,
            le-leb depth count deep,
            le-leb mass room light,
            lt-ltb low (2 ^ 64) word,
            le-ltb (joined low high) (2 ^ depth) (leb-true (2 ^ depth) (joined low high) h),
          )

      pub last-test : leb (2 ^ depth) (joined low high) ≡ false → leb below (4 * depth) ≡ sound_entry count room depth mass low high below
      last-test h =
          rw (
            entry-branch count room depth mass low high below few,
            le-leb depth count deep,
            le-leb mass room light,
            lt-ltb low (2 ^ 64) word,
            lt-ltb (joined low high) (2 ^ depth) (leb-false (2 ^ depth) (joined low high) h),
          )

-- a test of several: one that fails decides, one that holds leaves the others
pub stops : (a b : Bool) {x : Bool} → x ≡ (a && b) → a ≡ false → false ≡ x
stops a b e h = sym (e ∙ ap (λ (t : Bool). t && b) h)

pub goes : (a b : Bool) {x : Bool} → x ≡ (a && b) → a ≡ true → x ≡ b
goes a b e h = e ∙ ap (λ (t : Bool). t && b) h

-- the next entry of a stack
module _ (count left : ℕ) (stack : List ℕ) (size : length stack ≡ 512) (i : ℕ) where
  -- the words of the entry, and what is under it
  abbrev depth : ℕ
  depth = get_or stack i 0

  abbrev mass : ℕ
  mass = get_or stack (i + 1) 0

  abbrev here : Bool
  here = sound_entry count left depth mass (get_or stack (i + 2) 0) (get_or stack (i + 3) 0) (508 - i)

  abbrev under : Bool
  under = sound_entries count (left - entry_mass depth mass) (drop (i + 4) stack)

  next : i + 4 ≤ 512 → sound_entries count left (drop i stack) ≡ (here && under)
  unfolding sound_entries
  next h =
      rw (words-at stack i (omega arith))
      (ap (λ (n : ℕ). sound_entry count left depth mass (get_or stack (i + 2) 0) (get_or stack (i + 3) 0) n && under) below)
    where
      below : length (drop (i + 4) stack) ≡ 508 - i
      below = omega (arith, length-drop (i + 4) stack)

  pub entries-stop : i + 4 ≤ 512 → here ≡ false → false ≡ sound_entries count left (drop i stack)
  entries-stop h e = stops here under (next h) e

  pub entries-go : i + 4 ≤ 512 → here ≡ true → sound_entries count left (drop i stack) ≡ under
  entries-go h e = goes here under (next h) e

  pub entries-end : 512 ≤ i → sound_entries count left (drop i stack) ≡ true
  unfolding sound_entries
  entries-end h = rw (drop_of_length-le stack {i = i} (omega arith))

-- a sound entry's mass is at most the room
pub entry-fits : (count room depth mass low high below : ℕ) → sound_entry count room depth mass low high below ≡ true → entry_mass depth mass ≤ room
entry-fits count room depth mass low high below e = step (dec_lt 128 depth)
  where
    step : Dec (128 < depth) → entry_mass depth mass ≤ room
    step (yes h) = rw (mass-run depth mass h) (omega arith)
    step (no h) =
        let few : depth ≤ 128 = omega arith in
        let all = sym (entry-branch count room depth mass low high below few) ∙ e in
        rw (mass-branch depth mass few) (leb-true mass room (and_left _ _ (and_right (leb depth count) _ all)))

-- each sum is tested, or one is above
pub above-is : (most : ℕ) (sums : List ℕ) (r : Bool)
    → MatchBool r (AllWithin (λ x. x ≤ most) sums 0 (length sums)) ((k : ℕ) × (k < length sums) × HoldsAt (λ x. most < x) sums k)
    → r ≡ none_above most sums
unfolding none_above
above-is most sums true h = sym (and_from_places (none_above most) (λ x. leb x most) refl (λ _ _. refl) sums 0 (λ i l. le-leb (get_or sums i 0) most (h i 0 (omega arith) l)))
above-is most sums false h = sym (and_fails_at (none_above most) (λ x. leb x most) refl (λ _ _. refl) sums h.0 0 h.1 (lt-leb (get_or sums h.0 0) most (h.2 0)))
