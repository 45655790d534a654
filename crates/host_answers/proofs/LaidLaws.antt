-- Laws of words laid down at the start of a lent list.
-- Assumes nothing.
use mathlib.Core.Path.{◌≡◌, refl}
use mathlib.Core.List.{List, [], ◌∷◌}
use Prim.Native.Nat.{ℕ, suc, ◌+◌, ◌<◌}
use native.Mathlib.Nat.{zero-add}
use native.Mathlib.Numerals.{add-one}
use native.Mathlib.Omega.{arith}
use lib.ListN.{length, get_or, take, set}
use lib.Seq.{sets, take-suc, length-take-le}
use Rattle.plan_lists.proofs.ListLaws.{sets-append}
use Rattle.host_answers.specs.Laid.{laid}

-- entries further along are those of the list's tail
sets-tail : (x : ℕ) (list : List ℕ) (i : ℕ) (numbers : List ℕ) → sets (x ∷ list) (suc i) numbers ≡ x ∷ sets list i numbers
sets-tail x list i [] = refl
sets-tail x list i (a ∷ numbers) = sets-tail x (set list i a) (suc i) numbers

-- law: with no number the list is as it was; a list with no entry stays so; else the first number stands first, and the others are laid
-- down in the tail
pub laid_none : (list : List ℕ) → laid [] list ≡ list
laid_none list = refl

pub laid-full : (numbers : List ℕ) → laid numbers [] ≡ []
laid-full numbers = full 0 numbers
  where
    full : (i : ℕ) (numbers : List ℕ) → sets [] i numbers ≡ []
    full i [] = refl
    full i (a ∷ numbers) = full (suc i) numbers

pub laid_next : (a x : ℕ) (numbers list : List ℕ) → laid (a ∷ numbers) (x ∷ list) ≡ a ∷ laid numbers list
laid_next a x numbers list = sets-tail a list 0 numbers

-- law: one value more is laid down
pub laid_more : (values list laid' : List ℕ) (i : ℕ) → laid' ≡ sets list 0 (take i values) → i < length values
    → set laid' i (get_or values i 0) ≡ sets list 0 (take (i + 1) values)
laid_more values list laid' i e h =
    let n : length (take i values) ≡ i = length-take-le i values (omega arith) in
    rw (e, add-one, take-suc values i 0, sets-append, n, zero-add)
