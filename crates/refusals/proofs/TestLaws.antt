-- What a test that gives 0 says of its numbers, and back.
-- Assumes nothing.
use mathlib.Core.Path.{◌≡◌, refl}
use mathlib.Core.Bool.{Bool, true, false, ◌||◌, ◌&&◌, not}
use Prim.Native.Nat.{ℕ, ◌^◌, ◌<◌, ◌≤◌}
use native.Mathlib.Omega.{arith}
use lib.Dec.{eqb}
use borrow.Author.Tests.{ltb-false, leb-false, eqb-true, le-ltb, lt-leb}
use Rattle.mass.proofs.RefusalLaws.{refuse-none}
use Rattle.refusals.specs.Tests.{short_test, mark_test, version_test, counts_test, count_of_kind, rank, member_test, sets_test, left_test}
use Rattle.refusals.specs.Tests.{room_test}

pub or-none : (a b : Bool) → (a || b) ≡ false → (a ≡ false) × (b ≡ false)
or-none true b e = absurd (mathlib.Core.Bool.true≢false e)
or-none false b e = (refl, e)

and_both : (a b : Bool) → (a && b) ≡ true → (a ≡ true) × (b ≡ true)
and_both true b e = (refl, e)
and_both false b e = absurd (mathlib.Core.Bool.false≢true e)

not_none : (a : Bool) → not a ≡ false → a ≡ true
not_none true e = refl
not_none false e = absurd (mathlib.Core.Bool.true≢false e)

pub short_none : (left need : ℕ) → short_test left need ≡ 0 → need ≤ left
short_none left need e = ltb-false left need (refuse-none _ 0 e)

pub short-pass : (left need : ℕ) → need ≤ left → short_test left need ≡ 0
short-pass left need h = rw (le-ltb left need h)

pub mark-none : (x y z a b c : ℕ) → mark_test x y z a b c ≡ 0 → (a ≡ x) × (b ≡ y) × (c ≡ z)
mark-none x y z a b c e =
    let t = and_both (eqb a x && eqb b y) (eqb c z) (not_none _ (refuse-none _ 1 e)) in
    let u = and_both (eqb a x) (eqb b y) t.0 in
    (eqb-true a x u.0, eqb-true b y u.1, eqb-true c z t.1)

pub version-none : (v : ℕ) → version_test v ≡ 0 → v ≡ 1
version-none v e = eqb-true v 1 (not_none _ (refuse-none _ 2 e))

-- the ranges of accepted counts
pub record Ranges (nodes links events : ℕ) : Type 0 where
  pub some : 1 ≤ nodes
  pub nodes-fit : nodes ≤ 64
  pub links-fit : links ≤ 128
  pub events-fit : events ≤ 128

pub counts-none : (nodes links events : ℕ) → counts_test nodes links events ≡ 0 → Ranges nodes links events
counts-none nodes links events e =
    let c = or-none _ _ (refuse-none _ 3 e) in
    let b = or-none _ _ c.0 in
    let a = or-none _ _ b.0 in
    record {
      some = ltb-false nodes 1 a.0;
      nodes-fit = ltb-false 64 nodes a.1;
      links-fit = ltb-false 128 links b.1;
      events-fit = ltb-false 128 events c.1;
    }

pub counts-pass : (nodes links events : ℕ) → 1 ≤ nodes → nodes ≤ 64 → links ≤ 128 → events ≤ 128 → counts_test nodes links events ≡ 0
counts-pass nodes links events a b c d = rw (le-ltb nodes 1 a, le-ltb 64 nodes b, le-ltb 128 links c, le-ltb 128 events d)

pub member-none : (nodes links least kind number : ℕ) → member_test nodes links least kind number ≡ 0
    → (number < count_of_kind nodes links kind) × (least ≤ rank kind number)
member-none nodes links least kind number e =
    let t = or-none _ _ (refuse-none _ 9 e) in
    (leb-false (count_of_kind nodes links kind) number t.0, ltb-false (rank kind number) least t.1)

pub member-pass : (nodes links least kind number : ℕ) → number < count_of_kind nodes links kind → least ≤ rank kind number
    → member_test nodes links least kind number ≡ 0
member-pass nodes links least kind number h r = rw (lt-leb (count_of_kind nodes links kind) number h, le-ltb (rank kind number) least r)

pub sets-none : (nodes links s t : ℕ) → sets_test nodes links s t ≡ 0 → (s < 2 ^ nodes) × (t < 2 ^ links)
sets-none nodes links s t e =
    let u = or-none _ _ (refuse-none _ 9 e) in
    (leb-false (2 ^ nodes) s u.0, leb-false (2 ^ links) t u.1)

pub sets-pass : (nodes links s t : ℕ) → s < 2 ^ nodes → t < 2 ^ links → sets_test nodes links s t ≡ 0
sets-pass nodes links s t h k = rw (lt-leb (2 ^ nodes) s h, lt-leb (2 ^ links) t k)

pub left-none : (left : ℕ) → left_test left ≡ 0 → left ≡ 0
left-none left e = let h : left ≤ 0 = ltb-false 0 left (refuse-none _ 10 e) in omega arith

pub room-none : (room need : ℕ) → room_test room need ≡ 0 → need ≤ room
room-none room need e = ltb-false room need (refuse-none _ 11 e)

pub room-pass : (room need : ℕ) → need ≤ room → room_test room need ≡ 0
room-pass room need h = rw (le-ltb room need h)
