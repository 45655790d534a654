-- Laws of the first refusal met, and of the answer that follows from its number.
-- Assumes nothing.
use Rattle.std.specs.Prelude.{Result, Ok, Err, IfOk, OnOk}
use Rattle.std.specs.Result.{IsErr, IsErrAnd}
use Rattle.std.proofs.lemmas.Result.{err_from_is_err_and}
use mathlib.Core.Path.{◌≡◌, refl, sym, ap, ◌∙◌}
use mathlib.Core.Bool.{Bool, true, false}
use mathlib.Core.List.{List, [], ◌∷◌, ◌++◌}
use Prim.Native.Nat.{ℕ, zero, suc, ◌-◌}
use lib.ListN.{get_or}
use native.Mathlib.Omega.{arith}
use Rattle.mass.specs.Refusal.{refuse, first, number, number_in}
use Rattle.mass.specs.declared.refusal.Refusal.{Refusal}
use Rattle.mass.specs.declared.refusal.Refusal.TheVariants as refusal

-- law: a test that does not refuse leaves the decision to the later ones
pub first-skip : (number : ℕ) (later : List ℕ) → number ≡ 0 → first (number ∷ later) ≡ first later
unfolding first
first-skip number later e = rw e

-- law: a test that refuses decides
pub first-stop : (number : ℕ) (later : List ℕ) → (number ≡ 0 → ⊥) → first (number ∷ later) ≡ number
unfolding first
first-stop zero later n = absurd (n refl)
first-stop (suc number) later n = refl

-- law: nothing is refused exactly where no test refuses
pub first-none : (number : ℕ) (later : List ℕ) → first (number ∷ later) ≡ 0 → (number ≡ 0) × (first later ≡ 0)
unfolding first
first-none zero later e = (refl, e)
first-none (suc number) later e = absurd (nothing number e)
  where
    nothing : (n : ℕ) → suc n ≡ 0 → ⊥
    nothing n h = omega arith

-- law: a test that gives 0 does not hold
pub refuse-none : (test : Bool) (number : ℕ) → refuse test (suc number) ≡ 0 → test ≡ false
refuse-none true number e = absurd (nothing e)
  where
    nothing : suc number ≡ 0 → ⊥
    nothing h = omega arith
refuse-none false number e = refl

-- law: a refusal has a number that is not 0
pub number-some : (r : Refusal) → number r ≡ 0 → ⊥
number-some refusal.BytesEnd e = absurd (omega arith)
number-some refusal.Mark e = absurd (omega arith)
number-some refusal.Version e = absurd (omega arith)
number-some refusal.Counts e = absurd (omega arith)
number-some refusal.Threshold e = absurd (omega arith)
number-some refusal.Cap e = absurd (omega arith)
number-some refusal.LinkEnds e = absurd (omega arith)
number-some refusal.Probability e = absurd (omega arith)
number-some refusal.Order e = absurd (omega arith)
number-some refusal.Member e = absurd (omega arith)
number-some refusal.BytesLeft e = absurd (omega arith)
number-some refusal.Room e = absurd (omega arith)
number-some refusal.Pair e = absurd (omega arith)
number-some refusal.NoWitness e = absurd (omega arith)
number-some refusal.ListFull e = absurd (omega arith)
number-some refusal.Mass e = absurd (omega arith)
number-some refusal.Product e = absurd (omega arith)
number-some refusal.Lines e = absurd (omega arith)
number-some refusal.Quota e = absurd (omega arith)
number-some refusal.Terms e = absurd (omega arith)
number-some refusal.Window e = absurd (omega arith)
number-some refusal.Minute e = absurd (omega arith)
number-some refusal.Thresholds e = absurd (omega arith)

-- law: a refusal that a test gives has the test's number, and the test holds
pub refused-by : (test : Bool) (n : ℕ) (r : Refusal) → number r ≡ refuse test n → (test ≡ true) × (number r ≡ n)
refused-by true n r e = (refl, e)
refused-by false n r e = absurd (number-some r e)

-- ---- the order of tests, for code that ends with the first `Err`

-- law: a test that refuses decides
pub stops : (r : Refusal) {n : ℕ} (later : List ℕ) → number r ≡ n → number r ≡ first (n ∷ later)
stops r later e = e ∙ sym (first-stop _ later (λ z. number-some r (e ∙ z)))

-- law: a test that passes leaves the decision to the later ones
pub passes : {x n : ℕ} (later : List ℕ) → 0 ≡ n → x ≡ first later → x ≡ first (n ∷ later)
passes {n = n} later z e = e ∙ sym (first-skip n later (sym z))

-- law: the last test decides
pub last : {x n : ℕ} → x ≡ n → x ≡ first (n ∷ [])
unfolding first
last {x} {n} e = go n e
  where
    go : (n : ℕ) → x ≡ n → x ≡ first (n ∷ [])
    go zero h = h
    go (suc n) h = h

-- law: a `?` that hands a refusal on has its number
pub hands-on : {T : Type 0} {n : ℕ} (r : Refusal) (result : Result T Refusal) → IsErr result × IsErrAnd result (λ y. y ≡ r) → number r ≡ n → number_in result ≡ n
hands-on r result e h = let p = err_from_is_err_and result e.1 in rw (p.1, p.2) h

-- law: what holds where the number is 0 holds of an answer that is given
pub when-given : {T P : Type 0} (result : Result T Refusal) → (number_in result ≡ 0 → P) → OnOk result P
when-given (Ok given) h = h refl
when-given (Err r) h = tt

-- ---- answers that are one

-- the refusals in the order of their numbers, from 1 on
abbrev every : List Refusal
every =
    refusal.BytesEnd ∷ refusal.Mark ∷ refusal.Version ∷ refusal.Counts ∷ refusal.Threshold ∷ refusal.Cap ∷
    refusal.LinkEnds ∷ refusal.Probability ∷ refusal.Order ∷ refusal.Member ∷ refusal.BytesLeft ∷ refusal.Room ∷
    refusal.Pair ∷ refusal.NoWitness ∷ refusal.ListFull ∷ refusal.Mass ∷ refusal.Product ∷ refusal.Lines ∷
    refusal.Quota ∷ refusal.Terms ∷ refusal.Window ∷ refusal.Minute ∷ refusal.Thresholds ∷ []

-- the refusal with a number
abbrev numbered : ℕ → Refusal
numbered n = get_or every (n - 1) refusal.BytesEnd

numbered_is : (r : Refusal) → numbered (number r) ≡ r
numbered_is refusal.BytesEnd = refl
numbered_is refusal.Mark = refl
numbered_is refusal.Version = refl
numbered_is refusal.Counts = refl
numbered_is refusal.Threshold = refl
numbered_is refusal.Cap = refl
numbered_is refusal.LinkEnds = refl
numbered_is refusal.Probability = refl
numbered_is refusal.Order = refl
numbered_is refusal.Member = refl
numbered_is refusal.BytesLeft = refl
numbered_is refusal.Room = refl
numbered_is refusal.Pair = refl
numbered_is refusal.NoWitness = refl
numbered_is refusal.ListFull = refl
numbered_is refusal.Mass = refl
numbered_is refusal.Product = refl
numbered_is refusal.Lines = refl
numbered_is refusal.Quota = refl
numbered_is refusal.Terms = refl
numbered_is refusal.Window = refl
numbered_is refusal.Minute = refl
numbered_is refusal.Thresholds = refl

-- law: a number has one refusal
pub one_refusal : (a b : Refusal) → number a ≡ number b → a ≡ b
one_refusal a b e = sym (numbered_is a) ∙ ap numbered e ∙ numbered_is b

-- law: two answers with one number, which give the same where they are given, are one
pub one_answer : {T : Type 0} (a b : Result T Refusal) (x : T) → number_in a ≡ number_in b → IfOk a (λ y. y ≡ x) → IfOk b (λ y. y ≡ x) → a ≡ b
one_answer (Ok y) (Ok z) x e is_y is_z = ap Ok (is_y ∙ sym is_z)
one_answer (Ok y) (Err r) x e is_y is_z = absurd (number-some r (sym e))
one_answer (Err q) (Ok z) x e is_y is_z = absurd (number-some q e)
one_answer (Err q) (Err r) x e is_y is_z = ap Err (one_refusal q r e)

-- law: a run of tests inside a longer list is one test: the first of the run
pub first_run : (run rest : List ℕ) → first (first run ∷ rest) ≡ first (run ++ rest)
unfolding first
first_run [] rest = refl
first_run (zero ∷ run) rest = first_run run rest
first_run (suc n ∷ run) rest = refl

pub stops-run : (r : Refusal) (run later : List ℕ) → number r ≡ first run → number r ≡ first (run ++ later)
stops-run r run later e = stops r later e ∙ first_run run later

pub passes-run : {x : ℕ} (run later : List ℕ) → 0 ≡ first run → x ≡ first later → x ≡ first (run ++ later)
passes-run run later z e = passes later z e ∙ first_run run later

pub ruleset refuses = (stops, passes, last)
