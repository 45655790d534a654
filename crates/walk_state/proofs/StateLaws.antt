-- What the test of a state says of its stack and its sums, and that what a walk leaves in them passes it.
-- Assumes nothing.
use mathlib.Core.Path.{◌≡◌, refl, sym, ◌∙◌}
use mathlib.Core.Bool.{true}
use mathlib.Core.List.{List, [], ◌∷◌}
use Prim.Native.Nat.{ℕ, zero, suc, ◌-◌, ◌*◌, ◌^◌, ◌≤◌, ◌<◌}
use native.Mathlib.Decide.{dec_lt}
use native.Mathlib.Omega.{arith}
use borrow.Author.Tests.{lt-ltb, ltb-true, le-leb, leb-true}
use lib.Dec.{ltb, leb}
use lib.ListN.{length, get_or}
use Rattle.mass.specs.Split.{whole}
use Rattle.sets.specs.Sets.{joined}
use Rattle.sets.proofs.Bools.{and_left, and_right, and_both, clash}
use Rattle.walk.specs.Stack.{SoundBranch, SoundEntry, SoundEntries, entry_mass, pending_mass}
use Rattle.walk.proofs.StackLaws.{mass-run, mass-branch}
use Rattle.walk_state.specs.Sound.{sound_entry, sound_entries, none_above}
use Rattle.walk_state.proofs.EntryLaws.{entry-run, entry-branch}

-- ---- an entry

module _ (count room depth mass low high below : ℕ) where
  branch-is : depth ≤ 128 → room ≤ whole → sound_entry count room depth mass low high below ≡ true
      → SoundBranch count depth mass low high below × (mass ≤ room)
  branch-is few light e =
      let a = sym (entry-branch count room depth mass low high below few) ∙ e in
      let b = and_right (leb depth count) _ a in
      let c = and_right (leb mass room) _ b in
      let d = and_right (ltb low (2 ^ 64)) _ c in
      let fits : mass ≤ room = leb-true mass room (and_left _ _ b) in (
        record {
          deep = leb-true depth count (and_left _ _ a);
          light = omega arith;
          word = ltb-true low (2 ^ 64) (and_left _ _ c);
          decided = ltb-true (joined low high) (2 ^ depth) (and_left _ _ d);
          room = leb-true below (4 * depth) (and_right (ltb (joined low high) (2 ^ depth)) _ d);
        },
        fits,
      )

  entry-is : room ≤ whole → sound_entry count room depth mass low high below ≡ true
      → SoundEntry count depth mass low high below × (entry_mass depth mass ≤ room)
  entry-is light e = step (dec_lt 128 depth)
    where
      step : Dec (128 < depth) → SoundEntry count depth mass low high below × (entry_mass depth mass ≤ room)
      step (yes h) = (
        record {
          run = λ (z : 128 < depth). ltb-true 0 mass (sym (entry-run count room depth mass low high below h) ∙ e);
          branch = λ (z : depth ≤ 128). absurd (omega arith);
        },
        rw (mass-run depth mass h) (omega arith),
      )
      step (no h) =
          let few : depth ≤ 128 = omega arith in
          let b = branch-is few light e in (
            record { run = λ (z : 128 < depth). absurd (omega arith); branch = λ (z : depth ≤ 128). b.0 },
            rw (mass-branch depth mass few) b.1,
          )

  entry-pass : SoundEntry count depth mass low high below → entry_mass depth mass ≤ room → sound_entry count room depth mass low high below ≡ true
  entry-pass s fits = step (dec_lt 128 depth)
    where
      step : Dec (128 < depth) → sound_entry count room depth mass low high below ≡ true
      step (yes h) = entry-run count room depth mass low high below h ∙ lt-ltb 0 mass (s.run h)
      step (no h) =
          let few : depth ≤ 128 = omega arith in
          let b = s.branch few in
          entry-branch count room depth mass low high below few
          ∙ and_both (leb depth count) _ (le-leb depth count b.deep)
          (and_both (leb mass room) _ (le-leb mass room (rw (mass-branch depth mass few) at fits))
          (and_both (ltb low (2 ^ 64)) _ (lt-ltb low (2 ^ 64) b.word)
          (and_both (ltb (joined low high) (2 ^ depth)) _ (lt-ltb (joined low high) (2 ^ depth) b.decided) (le-leb below (4 * depth) b.room))))

-- ---- the entries of a stack

pub entries-are : (count room : ℕ) (words : List ℕ) → room ≤ whole → sound_entries count room words ≡ true
    → SoundEntries count words × (pending_mass words ≤ room)
unfolding sound_entries
entries-are count room [] light e = (tt, omega arith)
entries-are count room (a ∷ []) light e = absurd (clash e refl)
entries-are count room (a ∷ b ∷ []) light e = absurd (clash e refl)
entries-are count room (a ∷ b ∷ c ∷ []) light e = absurd (clash e refl)
entries-are count room (a ∷ b ∷ c ∷ d ∷ rest) light e =
    let initial = entry-is count room a b c d (length rest) light (and_left (sound_entry count room a b c d (length rest)) _ e) in
    let later = entries-are count (room - entry_mass a b) rest (omega arith) (and_right (sound_entry count room a b c d (length rest)) _ e) in
    ((initial.0, later.0), omega (arith, initial.1, later.1))

pub entries-pass : (count room : ℕ) (words : List ℕ) → SoundEntries count words → pending_mass words ≤ room → sound_entries count room words ≡ true
unfolding sound_entries
entries-pass count room [] s fits = refl
entries-pass count room (a ∷ []) s fits = absurd s
entries-pass count room (a ∷ b ∷ []) s fits = absurd s
entries-pass count room (a ∷ b ∷ c ∷ []) s fits = absurd s
entries-pass count room (a ∷ b ∷ c ∷ d ∷ rest) s fits =
    and_both (sound_entry count room a b c d (length rest)) _ (entry-pass count room a b c d (length rest) s.0 (omega arith))
    (entries-pass count (room - entry_mass a b) rest s.1 (omega arith))

-- ---- the sums

pub below-is : (most : ℕ) (list : List ℕ) → none_above most list ≡ true → (i : ℕ) → get_or list i 0 ≤ most
unfolding none_above
below-is most [] e i = omega arith
below-is most (x ∷ list) e zero = leb-true x most (and_left _ _ e)
below-is most (x ∷ list) e (suc i) = below-is most list (and_right (leb x most) _ e) i

pub below-pass : (most : ℕ) (list : List ℕ) → ((i : ℕ) → get_or list i 0 ≤ most) → none_above most list ≡ true
unfolding none_above
below-pass most [] h = refl
below-pass most (x ∷ list) h = and_both (leb x most) _ (le-leb x most (h 0)) (below-pass most list (λ i. h (suc i)))
