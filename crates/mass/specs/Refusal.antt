-- A refusal of document 01 ("Refused") is a number, and 0 says that there is none.
-- A test gives its number where it refuses; a call's order of tests is the first that is not 0; the call's answer follows from that number.
-- Assumes nothing.
use Rattle.std.specs.Prelude.{Bool, true, false, List, [], ◌∷◌, map, ℕ, zero, suc, Result, Ok, Err}
use Rattle.mass.specs.declared.refusal.Refusal.{Refusal}
use Rattle.mass.specs.declared.refusal.Refusal.TheVariants as refusal

-- a test that holds refuses with its number
abbrev pub refuse : Bool → ℕ → ℕ
refuse true number = number
refuse false number = 0

-- the first number of the list that is not 0, and 0 where there is none
unfoldable pub first : List ℕ → ℕ
first [] = 0
first (zero ∷ later) = first later
first (suc number ∷ later) = suc number

-- the first number that a test gives, of the elements of a list in their order
abbrev pub each : {A : Type 0} → (A → ℕ) → List A → ℕ
each test list = first (map test list)

-- the number of each refusal
abbrev pub number : Refusal → ℕ
number refusal.BytesEnd = 1
number refusal.Mark = 2
number refusal.Version = 3
number refusal.Counts = 4
number refusal.Threshold = 5
number refusal.Cap = 6
number refusal.LinkEnds = 7
number refusal.Probability = 8
number refusal.Order = 9
number refusal.Member = 10
number refusal.BytesLeft = 11
number refusal.Room = 12
number refusal.Pair = 13
number refusal.NoWitness = 14
number refusal.ListFull = 15
number refusal.Mass = 16
number refusal.Product = 17
number refusal.Lines = 18
number refusal.Quota = 19
number refusal.Terms = 20
number refusal.Window = 21
number refusal.Minute = 22
number refusal.Thresholds = 23

-- the number of an answer: 0 where it gives what was asked for
abbrev pub number_in : {T : Type 0} → Result T Refusal → ℕ
number_in (Ok given) = 0
number_in (Err refused) = number refused
