-- The test of a state: test by test, and what it says as a whole.
-- Assumes nothing.
use mathlib.Core.Path.{◌≡◌, refl, sym, ◌∙◌}
use mathlib.Core.Bool.{Bool, true, false, ◌&&◌}
use Prim.Native.Nat.{ℕ, ◌-◌, ◌%◌, ◌≤◌, ◌<◌}
use borrow.Author.Tests.{eq-eqb, ne_eqb, eqb-true, le-leb, lt-leb, leb-true}
use lib.Dec.{leb, eqb}
use lib.ListN.{drop}
use Rattle.mass.specs.Split.{whole}
use Rattle.sets.proofs.Bools.{and_left, and_right, and_both}
use Rattle.plan.specs.LentLists.{plan_refusal, plan_of_lists}
use Rattle.walk_state.specs.Sound.{sound_entries, none_above, sound_numbers, sound}
use Rattle.walk_state.specs.declared.Walk.{Walk}
use Rattle.walk_state.proofs.EntryLaws.{stops, goes}

-- ---- the numbers

module _ (cap at reached count : ℕ) where
  pub more-examined : reached < count → false ≡ sound_numbers cap at reached count
  unfolding sound_numbers
  more-examined h = rw (lt-leb count reached h)

  module _ (few : count ≤ reached) where
    pub past-cap : cap < reached → false ≡ sound_numbers cap at reached count
    unfolding sound_numbers
    past-cap h = rw (le-leb count reached few, lt-leb reached cap h)

    module _ (under : reached ≤ cap) where
      pub no-entry : (at % 4 ≡ 0 → ⊥) → false ≡ sound_numbers cap at reached count
      unfolding sound_numbers
      no-entry h = rw (le-leb count reached few, le-leb reached cap under, ne_eqb (at % 4) 0 h)

      pub last-number : at % 4 ≡ 0 → leb at 512 ≡ sound_numbers cap at reached count
      unfolding sound_numbers
      last-number h = rw (le-leb count reached few, le-leb reached cap under, eq-eqb (at % 4) 0 h)

  pub numbers-are : sound_numbers cap at reached count ≡ true → (count ≤ reached) × (reached ≤ cap) × (at % 4 ≡ 0) × (at ≤ 512)
  unfolding sound_numbers
  numbers-are e =
      let b = and_right (leb count reached) _ e in
      let c = and_right (leb reached cap) _ b in (
        leb-true count reached (and_left _ _ e),
        leb-true reached cap (and_left _ _ b),
        eqb-true (at % 4) 0 (and_left _ _ c),
        leb-true at 512 (and_right (eqb (at % 4) 0) _ c),
      )

-- ---- a whole state

-- what the test says of a state
pub record SoundWalk (w : Walk) : Type 0 where
  pub valid : plan_refusal (plan_of_lists w.header w.links w.events) ≡ 0
  pub few : w.count ≤ w.reached
  pub under-cap : w.reached ≤ w.header.cap
  pub fours : w.at % 4 ≡ 0
  pub within : w.at ≤ 512
  pub light : w.mass ≤ whole
  pub entries : sound_entries w.header.events (whole - w.mass) (drop w.at w.stack) ≡ true
  pub below : none_above w.mass w.sums ≡ true

module _ (w : Walk) where
  abbrev lists : Bool
  lists = eqb (plan_refusal (plan_of_lists w.header w.links w.events)) 0

  abbrev numbers : Bool
  numbers = sound_numbers w.header.cap w.at w.reached w.count

  abbrev entries : Bool
  entries = sound_entries w.header.events (whole - w.mass) (drop w.at w.stack)

  abbrev sums : Bool
  sums = none_above w.mass w.sums

  tests : sound w ≡ (lists && (numbers && (leb w.mass whole && (entries && sums))))
  unfolding sound
  tests = refl

  pub lists-fail : (plan_refusal (plan_of_lists w.header w.links w.events) ≡ 0 → ⊥) → false ≡ sound w
  lists-fail h = stops lists _ tests (ne_eqb _ 0 h)

  module _ (valid : plan_refusal (plan_of_lists w.header w.links w.events) ≡ 0) where
    second : sound w ≡ (numbers && (leb w.mass whole && (entries && sums)))
    second = goes lists _ tests (eq-eqb _ 0 valid)

    pub numbers-fail : numbers ≡ false → false ≡ sound w
    numbers-fail h = stops numbers _ second h

    module _ (passed : numbers ≡ true) where
      third : sound w ≡ (leb w.mass whole && (entries && sums))
      third = goes numbers _ second passed

      pub mass-fails : whole < w.mass → false ≡ sound w
      mass-fails h = stops (leb w.mass whole) _ third (lt-leb w.mass whole h)

      module _ (light : w.mass ≤ whole) where
        fourth : sound w ≡ (entries && sums)
        fourth = goes (leb w.mass whole) _ third (le-leb w.mass whole light)

        pub entries-fail : entries ≡ false → false ≡ sound w
        entries-fail h = stops entries _ fourth h

        pub sums-decide : entries ≡ true → sums ≡ sound w
        sums-decide h = sym (goes entries _ fourth h)

  pub sound-is : sound w ≡ true → SoundWalk w
  sound-is e =
      let all = sym tests ∙ e in
      let n = and_right lists _ all in
      let k = numbers-are _ _ _ _ (and_left numbers _ n) in
      let m = and_right numbers _ n in
      let s = and_right (leb w.mass whole) _ m in
      record {
        valid = eqb-true _ 0 (and_left lists _ all);
        few = k.0;
        under-cap = k.1;
        fours = k.2;
        within = k.3;
        light = leb-true w.mass whole (and_left _ _ m);
        entries = and_left entries _ s;
        below = and_right entries _ s;
      }

  pub sound-pass : SoundWalk w → sound w ≡ true
  sound-pass s =
      tests
      ∙ and_both lists _ (eq-eqb _ 0 s.valid)
      (and_both numbers _ (sym (last-number _ _ _ _ s.few s.under-cap s.fours) ∙ le-leb w.at 512 s.within)
      (and_both (leb w.mass whole) _ (le-leb w.mass whole s.light) (and_both entries _ s.entries s.below)))
