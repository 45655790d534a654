-- The test of a state: whether fields that are set to anything may be gone on with. Every state that an accepted begin and go-ons lead to
-- passes it (`walk-sound` in panel/proofs/Theorems.antt).
-- Assumes nothing.
use Rattle.std.specs.Prelude.{◌≡◌, refl, Bool, true, false, ◌&&◌, List, [], ◌∷◌, ℕ, ◌-◌, ◌*◌, ◌%◌, ◌^◌, ltb, leb, eqb, length, drop}
use Rattle.mass.specs.Split.{whole}
use Rattle.sets.specs.Sets.{joined}
use Rattle.plan.specs.LentLists.{plan_refusal, plan_of_lists}
use Rattle.walk.specs.Stack.{entry_mass}
use Rattle.walk_state.specs.declared.Walk.{Walk}

-- four words of a stack, with `below` words under them: one dropped end or more; or a pending branch of at most `room` mass, of whose
-- events (`count` in all) the first `depth` are decided, its failing ones among these, with no more entries under it than events are
-- decided
unfoldable pub sound_entry : ℕ → ℕ → ℕ → ℕ → ℕ → ℕ → ℕ → Bool
sound_entry count room depth mass low high below =
    elim (ltb 128 depth) [
      | true ↦ ltb 0 mass
      | false ↦ leb depth count && (leb mass room && (ltb low (2 ^ 64) && (ltb (joined low high) (2 ^ depth) && leb below (4 * depth))))
    ]

-- the entries of a stack, their pending branches of at most `room` mass together
unfoldable pub sound_entries : ℕ → ℕ → List ℕ → Bool
sound_entries count room [] = true
sound_entries count room (a ∷ []) = false
sound_entries count room (a ∷ b ∷ []) = false
sound_entries count room (a ∷ b ∷ c ∷ []) = false
sound_entries count room (depth ∷ mass ∷ low ∷ high ∷ rest) =
    sound_entry count room depth mass low high (length rest) && sound_entries count (room - entry_mass depth mass) rest

-- examples: the root alone; a branch after three events where there are two; more mass than there is room for; an entry of no dropped end
example-entries : (sound_entries 2 whole (0 ∷ whole ∷ 0 ∷ 0 ∷ []) ≡ true)
    × (sound_entries 2 whole (3 ∷ whole ∷ 0 ∷ 0 ∷ []) ≡ false)
    × (sound_entries 2 (whole - 1) (0 ∷ whole ∷ 0 ∷ 0 ∷ []) ≡ false)
    × (sound_entries 2 whole (129 ∷ 0 ∷ 0 ∷ 0 ∷ []) ≡ false)
unfolding sound_entries sound_entry entry_mass
example-entries = (refl, refl, refl, refl)

-- no number of a list is above `most`
unfoldable pub none_above : ℕ → List ℕ → Bool
none_above most [] = true
none_above most (x ∷ list) = leb x most && none_above most list

-- example: 7 is at most 7, and 8 is not
example-above : (none_above 7 (3 ∷ 7 ∷ []) ≡ true) × (none_above 7 (3 ∷ 8 ∷ []) ≡ false)
unfolding none_above
example-above = (refl, refl)

-- no more scenarios were examined than ends reached, no more ends reached than the cap, and the stack begins at an entry
unfoldable pub sound_numbers : ℕ → ℕ → ℕ → ℕ → Bool
sound_numbers cap at reached count = leb count reached && (leb reached cap && (eqb (at % 4) 0 && leb at 512))

-- examples: 5 ends of a cap of 9, 4 of them examined; more examined than reached; more reached than the cap; a stack that begins inside an
-- entry
example-numbers : (sound_numbers 9 508 5 4 ≡ true) × (sound_numbers 9 508 5 6 ≡ false)
    × (sound_numbers 4 508 5 4 ≡ false) × (sound_numbers 9 507 5 4 ≡ false)
unfolding sound_numbers
example-numbers = (refl, refl, refl, refl)

-- a state that may be gone on with: its plan meets no refusal, its numbers are sound, what it has and what is pending are at most one whole
-- together, and no pair has more than it has
unfoldable pub sound : Walk → Bool
sound w =
    eqb (plan_refusal (plan_of_lists w.header w.links w.events)) 0
    && (sound_numbers w.header.cap w.at w.reached w.count
    && (leb w.mass whole
    && (sound_entries w.header.events (whole - w.mass) (drop w.at w.stack) && none_above w.mass w.sums)))
