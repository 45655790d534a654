-- Numbers in bytes: writing a number and reading it back, and lists of bytes.
-- Assumes nothing.
use mathlib.Core.Path.{◌≡◌, refl, ap}
use mathlib.Core.List.{List, [], ◌∷◌, ◌++◌}
use Prim.Native.Nat.{ℕ, zero, suc, ◌+◌, ◌*◌, ◌/◌, ◌%◌, ◌^◌, ◌<◌, ◌≤◌}
use native.Mathlib.Nat.{pow-suc}
use native.Mathlib.Omega.{arith}
use lib.ListN.{length, take, drop, get_or}
use lib.Seq.{length-take-le}
use Rattle.plan.specs.Layout.{little, value, Bytes}

pub length-little : (width x : ℕ) → length (little width x) ≡ width
unfolding little
length-little zero x = refl
length-little (suc width) x = ap suc (length-little width (x / 256))

pub bytes-little : (width x : ℕ) → Bytes (little width x)
unfolding little
bytes-little zero x = tt
bytes-little (suc width) x = (omega arith, bytes-little width (x / 256))

quotient-lt : (x p : ℕ) → x < p * 256 → x / 256 < p
quotient-lt x p h = omega arith

-- a number that fits its width is read back
pub value-little : (width x : ℕ) → x < 256 ^ width → value (little width x) ≡ x
unfolding little value
value-little zero x h = omega arith
value-little (suc width) x h =
    let rest : value (little width (x / 256)) ≡ x / 256 =
    value-little width (x / 256) (quotient-lt x (256 ^ width) (rw pow-suc at h)) in
    omega arith

-- bytes that were read are written again
pub little-value : (bytes : List ℕ) → Bytes bytes → little (length bytes) (value bytes) ≡ bytes
unfolding little value
little-value [] h = refl
little-value (b ∷ bytes) h = step (value bytes) h.0 (little-value bytes h.1)
  where
    step : (v : ℕ) → b < 256 → little (length bytes) v ≡ bytes
        → (b + 256 * v) % 256 ∷ little (length bytes) ((b + 256 * v) / 256) ≡ b ∷ bytes
    step v small e =
        let low : (b + 256 * v) % 256 ≡ b = omega arith in
        let high : (b + 256 * v) / 256 ≡ v = omega arith in
        rw (low, high, e)

pub value-lt : (bytes : List ℕ) → Bytes bytes → value bytes < 256 ^ length bytes
unfolding value
value-lt [] h = omega arith
value-lt (b ∷ bytes) h =
    let rest : value bytes < 256 ^ length bytes = value-lt bytes h.1 in
    let small : b < 256 = h.0 in
    rw pow-suc (omega arith)

pub bytes_drop : (n : ℕ) (bytes : List ℕ) → Bytes bytes → Bytes (drop n bytes)
bytes_drop zero bytes h = h
bytes_drop (suc n) [] h = tt
bytes_drop (suc n) (b ∷ bytes) h = bytes_drop n bytes h.1

pub bytes_take : (n : ℕ) (bytes : List ℕ) → Bytes bytes → Bytes (take n bytes)
bytes_take zero bytes h = tt
bytes_take (suc n) [] h = tt
bytes_take (suc n) (b ∷ bytes) h = (h.0, bytes_take n bytes h.1)

pub bytes-append : (a b : List ℕ) → Bytes a → Bytes b → Bytes (a ++ b)
bytes-append [] b ha hb = hb
bytes-append (x ∷ a) b ha hb = (ha.0, bytes-append a b ha.1 hb)

pub byte-lt : (bytes : List ℕ) (i : ℕ) → Bytes bytes → get_or bytes i 0 < 256
byte-lt [] i h = omega arith
byte-lt (b ∷ bytes) zero h = h.0
byte-lt (b ∷ bytes) (suc i) h = byte-lt bytes i h.1

-- the first bytes of a list, read as a number and written again
pub little-again : (n : ℕ) (b : List ℕ) → Bytes b → n ≤ length b → little n (value (take n b)) ≡ take n b
little-again n b bytes h =
    let whole : little (length (take n b)) (value (take n b)) ≡ take n b = little-value (take n b) (bytes_take n b bytes) in
    rw (length-take-le n b h) at whole
