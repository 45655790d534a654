-- Laws of decimal numbers.
-- Assumes nothing.
use mathlib.Core.Path.{◌≡◌, refl, sym, ap, ◌∙◌}
use mathlib.Core.List.{List, [], ◌∷◌, ◌++◌}
use Prim.Native.Nat.{ℕ, zero, suc, ◌+◌, ◌-◌, ◌*◌, ◌/◌, ◌%◌, ◌^◌, ◌<◌, ◌≤◌}
use native.Mathlib.Decide.{dec_lt}
use native.Mathlib.Nat.{pow-suc}
use native.Mathlib.Omega.{arith}
use borrow.Author.Tests.{lt-ltb, le-ltb}
use lib.ListN.{length, get_or, length-append, get_or-append}
use lib.Seq.{get_or_at}
use Rattle.text.specs.Decimal.{digits, decimal}

digits-small : (most x : ℕ) → x < 10 → digits (suc most) x ≡ (48 + x) ∷ []
unfolding digits
digits-small most x h = rw (lt-ltb x 10 h)

digits-large : (most x : ℕ) → 10 ≤ x → digits (suc most) x ≡ digits most (x / 10) ++ ((48 + x % 10) ∷ [])
unfolding digits
digits-large most x h = rw (le-ltb x 10 h)

-- law: more room makes no other digits
digits_same : (k j x : ℕ) → x < k → x < j → digits k x ≡ digits j x
digits_same zero j x h i = absurd (omega arith)
digits_same (suc k) zero x h i = absurd (omega arith)
digits_same (suc k) (suc j) x h i = go (dec_lt x 10) (λ l. digits_same k j (x / 10) (omega arith) (omega arith))
  where
    go : Dec (x < 10) → (10 ≤ x → digits k (x / 10) ≡ digits j (x / 10)) → digits (suc k) x ≡ digits (suc j) x
    go (yes s) rest = digits-small k x s ∙ sym (digits-small j x s)
    go (no l) rest =
        let large : 10 ≤ x = omega arith in
        digits-large k x large
        ∙ ap (λ (d : List ℕ). d ++ ((48 + x % 10) ∷ [])) (rest large)
        ∙ sym (digits-large j x large)

-- law: a number below 10 is its digit, and any other has those of its tenth before its last
pub decimal-small : (x : ℕ) → x < 10 → decimal x ≡ (48 + x) ∷ []
unfolding decimal
decimal-small x h = digits-small x x h

pub decimal-large : (x : ℕ) → 10 ≤ x → decimal x ≡ decimal (x / 10) ++ ((48 + x % 10) ∷ [])
unfolding decimal
decimal-large x h =
    digits-large x x h
    ∙ ap (λ (d : List ℕ). d ++ ((48 + x % 10) ∷ [])) (digits_same x (suc (x / 10)) (x / 10) (omega arith) (omega arith))

-- the number that digits stand for, the highest first
unfoldable pub number_of : ℕ → List ℕ → ℕ
number_of sum [] = sum
number_of sum (d ∷ ds) = number_of (10 * sum + (d - 48)) ds

number-last : (sum d : ℕ) (ds : List ℕ) → number_of sum (ds ++ (d ∷ [])) ≡ 10 * number_of sum ds + (d - 48)
unfolding number_of
number-last sum d [] = refl
number-last sum d (e ∷ ds) = number-last (10 * sum + (e - 48)) d ds

-- a list of digits that begins with 0 only where it is 0 alone
pub record Digits (x : ℕ) (ds : List ℕ) : Type 0 where
  pub number : number_of 0 ds ≡ x
  pub some : 0 < length ds
  pub leads : get_or ds 0 0 ≡ 48 → x ≡ 0
  pub each : (i : ℕ) → i < length ds → (48 ≤ get_or ds i 0) × (get_or ds i 0 ≤ 57)

digits-one : (x : ℕ) → x < 10 → Digits x ((48 + x) ∷ [])
unfolding number_of
digits-one x h =
    record { number = omega arith; some = omega arith; leads = λ e. omega arith; each = one }
  where
    one : (i : ℕ) → i < 1 → (48 ≤ get_or ((48 + x) ∷ []) i 0) × (get_or ((48 + x) ∷ []) i 0 ≤ 57)
    one zero k = (omega arith, omega arith)
    one (suc i) k = absurd (omega arith)

digits_more : (x : ℕ) (ds : List ℕ) → 10 ≤ x → Digits (x / 10) ds → Digits x (ds ++ ((48 + x % 10) ∷ []))
digits_more x ds h d =
    record {
      number = number-last 0 (48 + x % 10) ds ∙ rw d.number (omega arith);
      some = rw length-append (omega (arith, d.some));
      leads = λ e. leads e;
      each = each;
    }
  where
    leads : get_or (ds ++ ((48 + x % 10) ∷ [])) 0 0 ≡ 48 → x ≡ 0
    leads e =
        let z : x / 10 ≡ 0 = d.leads (sym (get_or-append ds ((48 + x % 10) ∷ []) 0 0 d.some) ∙ e) in
        omega arith

    each : (i : ℕ) → i < length (ds ++ ((48 + x % 10) ∷ [])) → (48 ≤ get_or (ds ++ ((48 + x % 10) ∷ [])) i 0) × (get_or (ds ++ ((48 + x % 10) ∷ [])) i 0 ≤ 57)
    each i k = go (dec_lt i (length ds))
      where
        go : Dec (i < length ds) → (48 ≤ get_or (ds ++ ((48 + x % 10) ∷ [])) i 0) × (get_or (ds ++ ((48 + x % 10) ∷ [])) i 0 ≤ 57)
        go (yes s) = rw (get_or-append ds ((48 + x % 10) ∷ []) 0 i s) (d.each i s)
        go (no l) =
            let last : length ds ≡ i = omega (arith, length-append ds ((48 + x % 10) ∷ [])) in
            rw (get_or_at ds (48 + x % 10) [] 0 i last) (omega arith, omega arith)

-- law: the digits of a number read back as it, are digits, and do not begin with 0 unless the number is 0
decimal-below : (k x : ℕ) → x < k → Digits x (decimal x)
decimal-below zero x h = absurd (omega arith)
decimal-below (suc k) x h = go (dec_lt x 10) (λ l. decimal-below k (x / 10) (omega arith))
  where
    go : Dec (x < 10) → (10 ≤ x → Digits (x / 10) (decimal (x / 10))) → Digits x (decimal x)
    go (yes s) rest = rw (decimal-small x s) (digits-one x s)
    go (no l) rest =
        let large : 10 ≤ x = omega arith in
        rw (decimal-large x large) (digits_more x (decimal (x / 10)) large (rest large))

pub decimal-digits : (x : ℕ) → Digits x (decimal x)
decimal-digits x = decimal-below (suc x) x (omega arith)

-- law: a number below 10^k, with k at least 1, has at most k digits
pub decimal-most : (k x : ℕ) → x < 10 ^ suc k → length (decimal x) ≤ suc k
decimal-most zero x h = rw (decimal-small x (omega arith)) (omega arith)
decimal-most (suc k) x h = go (dec_lt x 10) (λ s. decimal-most k (x / 10) (tenth x (10 ^ suc k) (rw pow-suc at h)))
  where
    tenth : (y p : ℕ) → y < p * 10 → y / 10 < p
    tenth y p l = omega arith

    go : Dec (x < 10) → (10 ≤ x → length (decimal (x / 10)) ≤ suc k) → length (decimal x) ≤ suc (suc k)
    go (yes s) rest = rw (decimal-small x s) (omega arith)
    go (no l) rest =
        let large : 10 ≤ x = omega arith in
        rw (decimal-large x large, length-append) (omega (arith, rest large))

-- law: so k digits are enough for it
pub decimal-enough : (k x : ℕ) → x < 10 ^ suc k → digits (suc k) x ≡ decimal x
decimal-enough zero x h = digits-small 0 x (omega arith) ∙ sym (decimal-small x (omega arith))
decimal-enough (suc k) x h = go (dec_lt x 10) (decimal-enough k (x / 10) (tenth x (10 ^ suc k) (rw pow-suc at h)))
  where
    tenth : (y p : ℕ) → y < p * 10 → y / 10 < p
    tenth y p l = omega arith

    go : Dec (x < 10) → digits (suc k) (x / 10) ≡ decimal (x / 10) → digits (suc (suc k)) x ≡ decimal x
    go (yes s) rest = digits-small (suc k) x s ∙ sym (decimal-small x s)
    go (no l) rest =
        let large : 10 ≤ x = omega arith in
        digits-large (suc k) x large ∙ ap (λ (d : List ℕ). d ++ ((48 + x % 10) ∷ [])) rest ∙ sym (decimal-large x large)
