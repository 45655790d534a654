-- Laws of reading a plan file into lent lists: members rise, so that the sets of an event are put together by sums; and one step of the loop that
-- lays the events down.
-- Assumes nothing.
use mathlib.Core.Path.{◌≡◌, refl, sym, ◌∙◌, ap}
use mathlib.Core.Bool.{cond}
use mathlib.Core.List.{List, [], ◌∷◌}
use Prim.Native.Nat.{ℕ, zero, suc, ◌+◌, ◌-◌, ◌*◌, ◌/◌, ◌^◌, ◌≤◌, ◌<◌, ◌%◌}
use native.Mathlib.Nat.{one-mul, add-zero, not-suc-le-zero}
use native.Mathlib.Numerals.{add-one, add-two, add-three, add-four}
use native.Mathlib.Omega.{arith}
use lib.Dec.{eqb, eqb-suc-zero}
use lib.Pow.{pow_mono, shl_exact, high, low}
use lib.ListN.{get_or, drop, set}
use lib.Seq.{drop-drop, get_or-drop, sets}
use Rattle.sets.specs.Sets.{joined}
use Rattle.refusals.specs.Tests.{count_of_kind, rank}
use Rattle.plan.specs.File.{event_size, probability_in, set_of, events_at}
use Rattle.plan.specs.Calls.{element_of}
use Rattle.plan.specs.Lists.{event_words}
use Rattle.plan_reading.specs.Members.{node_value, link_value, Above}
use Rattle.refusals.proofs.ReachLaws.{high-power}
use Rattle.plan.proofs.FileLaws.{suc-sub-one}

-- ---- one element more in a word

pub shift_one : (i : ℕ) → i < 64 → (1 * 2 ^ i) % 2 ^ 64 ≡ 2 ^ i
shift_one i h = shl_exact {a = 1} 1 i 64 (omega arith) (omega arith) ∙ one-mul (2 ^ i)

double-fits : (a i k : ℕ) → i < k → a < 2 ^ i → a + 2 ^ i < 2 ^ k
double-fits a i k h l = let m : 2 ^ suc i ≤ 2 ^ k = pow_mono h in omega arith

pub bit-fits : (a i : ℕ) → i < 64 → a < 2 ^ i → a + (1 * 2 ^ i) % 2 ^ 64 < 2 ^ 64
bit-fits a i h l = rw (shift_one i h) (double-fits a i 64 h l)

-- an element below 64 goes into the low word, one from 64 on into the high word
pub low_below : (i lo hi : ℕ) → joined lo hi < 2 ^ i → lo < 2 ^ i
low_below i lo hi h = omega arith

pub high-below : (i lo hi : ℕ) → 64 ≤ i → joined lo hi < 2 ^ i → hi < 2 ^ (i - 64)
high-below i lo hi h l = omega (arith, high-power i h)

pub low-more : (i lo hi : ℕ) → i < 64 → joined (lo + (1 * 2 ^ i) % 2 ^ 64) hi ≡ joined lo hi + 2 ^ i
low-more i lo hi h = rw (shift_one i h) (omega arith)

pub high-more : (i lo hi : ℕ) → 64 ≤ i → i < 128 → joined lo (hi + (1 * 2 ^ (i - 64)) % 2 ^ 64) ≡ joined lo hi + 2 ^ i
high-more i lo hi h l = rw (shift_one (i - 64) (omega arith), high-power i h) (omega arith)

-- ---- the sets rise: n and l are the sets so far

module _ (nodes links least n l : ℕ) (few : nodes ≤ 64) (some : links ≤ 128) (below : n < 2 ^ least) (under : l < 2 ^ (least - 256)) where
  pub rising : (kind number : ℕ) → number < count_of_kind nodes links kind → least ≤ rank kind number → Above (element_of kind number) n l
  rising zero number h r = (omega arith, let m : 2 ^ least ≤ 2 ^ number = pow_mono (omega arith) in omega arith)
  rising (suc zero) number h r =
      (omega arith, let m : 2 ^ (least - 256) ≤ 2 ^ number = pow_mono (omega arith) in omega arith)
  rising (suc (suc kind)) number h r = absurd (not-suc-le-zero h)

  pub risen : (kind number : ℕ) → number < count_of_kind nodes links kind → least ≤ rank kind number
      → (n + node_value (element_of kind number) < 2 ^ (rank kind number + 1))
      × (l + link_value (element_of kind number) < 2 ^ (rank kind number + 1 - 256))
  risen zero number h r =
      let e : rank 0 number + 1 ≡ suc number = omega arith in
      let m : 2 ^ least ≤ 2 ^ number = pow_mono (omega arith) in
      let k : 2 ^ (least - 256) ≤ 2 ^ (suc number - 256) = pow_mono (omega arith) in
      rw e (omega arith, omega arith)
  risen (suc zero) number h r =
      let e : rank 1 number + 1 ≡ suc (256 + number) = omega arith in
      let d : suc (256 + number) - 256 ≡ suc number = omega arith in
      let m : 2 ^ least ≤ 2 ^ suc (256 + number) = pow_mono (omega arith) in
      let k : 2 ^ (least - 256) ≤ 2 ^ number = pow_mono (omega arith) in
      rw (e, d) (omega arith, omega arith)
  risen (suc (suc kind)) number h r = absurd (not-suc-le-zero h)

-- what a member adds to the sets
pub node-set-step : (left at : ℕ) (s : List ℕ) → 0 < left
    → set_of 0 left (drop at s) ≡ node_value (element_of (get_or s at 0) (get_or s (at + 1) 0)) + set_of 0 (left - 1) (drop (at + 2) s)
unfolding set_of
node-set-step zero at s h = absurd (not-suc-le-zero h)
node-set-step (suc left) at s h =
    rw (get_or-drop at s 0 0, get_or-drop at s 1 0, add-zero, drop-drop 2 at s, suc-sub-one left)
    (ap (λ (v : ℕ). v + set_of 0 left (drop (at + 2) s)) (go (get_or s at 0) (get_or s (at + 1) 0)))
  where
    go : (kind number : ℕ) → cond (eqb kind 0) (2 ^ number) 0 ≡ node_value (element_of kind number)
    go zero number = refl
    go (suc kind) number = rw (eqb-suc-zero kind)

pub link-set-step : (nodes links left at : ℕ) (s : List ℕ) → 0 < left → get_or s (at + 1) 0 < count_of_kind nodes links (get_or s at 0)
    → set_of 1 left (drop at s) ≡ link_value (element_of (get_or s at 0) (get_or s (at + 1) 0)) + set_of 1 (left - 1) (drop (at + 2) s)
unfolding set_of
link-set-step nodes links zero at s h b = absurd (not-suc-le-zero h)
link-set-step nodes links (suc left) at s h b =
    rw (get_or-drop at s 0 0, get_or-drop at s 1 0, add-zero, drop-drop 2 at s, suc-sub-one left)
    (ap (λ (v : ℕ). v + set_of 1 left (drop (at + 2) s)) (go (get_or s at 0) (get_or s (at + 1) 0) b))
  where
    go : (kind number : ℕ) → number < count_of_kind nodes links kind → cond (eqb kind 1) (2 ^ number) 0 ≡ link_value (element_of kind number)
    go zero number l = refl
    go (suc zero) number l = refl
    go (suc (suc kind)) number l = absurd (not-suc-le-zero l)

-- no member is left
pub set-none : (kind left : ℕ) (b : List ℕ) → left ≤ 0 → set_of kind left b ≡ 0
unfolding set_of
set-none kind zero b h = refl
set-none kind (suc left) b h = absurd (not-suc-le-zero h)

-- the two words of a set
pub low_word : (lo hi : ℕ) → lo < 2 ^ 64 → lo ≡ joined lo hi % 2 ^ 64
low_word lo hi h = sym (low hi 64 h)

pub high_word : (lo hi : ℕ) → lo < 2 ^ 64 → hi ≡ joined lo hi / 2 ^ 64
high_word lo hi h = sym (high hi 64 h)

-- ---- one step of the loop that lays the events down, from a position on

-- the four words of an event, stored one by one
pub event-put : (l : List ℕ) (at q n lo hi : ℕ)
    → set (set (set (set l at q) (at + 1) n) (at + 2) lo) (at + 3) hi ≡ sets l at (q ∷ n ∷ lo ∷ hi ∷ [])
event-put l at q n lo hi = rw (add-one at, add-two at, add-three at)

pub events-fill : (l s : List ℕ) (at done left q n lo hi : ℕ) → 0 < left
    → q ≡ probability_in (drop at s)
    → n ≡ set_of 0 (get_or s (at + 4) 0) (drop (at + 5) s)
    → lo ≡ set_of 1 (get_or s (at + 4) 0) (drop (at + 5) s) % 2 ^ 64
    → hi ≡ set_of 1 (get_or s (at + 4) 0) (drop (at + 5) s) / 2 ^ 64
    → sets (sets l done (q ∷ n ∷ lo ∷ hi ∷ [])) (done + 4) (event_words (events_at (left - 1) (drop (at + event_size (drop at s)) s)))
    ≡ sets l done (event_words (events_at left (drop at s)))
unfolding event_words events_at
events-fill l s at done zero q n lo hi h eq en el eh = absurd (not-suc-le-zero h)
events-fill l s at done (suc left) q n lo hi h eq en el eh =
    rw (eq, en, el, eh, ← get_or-drop at s 4 0, ← drop-drop 5 at s, ← drop-drop (event_size (drop at s)) at s, suc-sub-one left, add-four done)

pub events-filled : (l b : List ℕ) (done left : ℕ) → left ≤ 0 → l ≡ sets l done (event_words (events_at left b))
unfolding event_words events_at
events-filled l b done zero h = refl
events-filled l b done (suc left) h = absurd (not-suc-le-zero h)
