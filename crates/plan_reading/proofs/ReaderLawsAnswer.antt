-- Laws of reading a plan file into lent lists: there is room, and what a reading answers and leaves.
-- Assumes nothing.
use mathlib.Core.Path.{◌≡◌, refl, sym, ◌∙◌, ap}
use mathlib.Core.List.{List, [], ◌∷◌}
use Prim.Native.Nat.{ℕ, zero, suc, ◌+◌, ◌-◌, ◌*◌, ◌≤◌, min}
use native.Mathlib.Nat.{min-eq_left, min-eq_right}
use native.Mathlib.Decide.{dec_le}
use native.Mathlib.Omega.{arith}
use borrow.Author.Tests.{ltb-false}
use lib.ListN.{length, take, drop, length-drop, drop_of_length-le}
use lib.Seq.{sets, sets-eq, take_at, take_all, drop-length}
use Rattle.mass.specs.Refusal.{first}
use Rattle.refusals.specs.Tests.{room_test}
use Rattle.refusals.proofs.TestLaws.{room-pass}
use Rattle.mass.proofs.RefusalLaws.{first-none, refuse-none}
use Rattle.plan.specs.File.{event_size, refusal, events_at, links_in, events_in, plan_of}
use Rattle.plan.specs.Calls.{filled, header_of, read_number}
use Rattle.plan.specs.Lists.{links_of, link_bytes, event_words}
use Rattle.plan.specs.declared.Header.{Header}
use Rattle.plan.proofs.FileLawsAccepted.{accepted-counts}

-- ---- a reading from a position on: past the end there is nothing

pub from-smaller : (s : List ℕ) (at from : ℕ) → from ≡ min at (length s) → take (length s - from) (drop from s) ≡ drop at s
from-smaller s at from e = take_all (length s - from) (drop from s) (omega (arith, length-drop from s)) ∙ ap (λ (n : ℕ). drop n s) e ∙ go (dec_le at (length s))
  where
    go : Dec (at ≤ length s) → drop (min at (length s)) s ≡ drop at s
    go (yes h) = ap (λ (n : ℕ). drop n s) (min-eq_left h)
    go (no h) =
        let l : length s ≤ at = omega arith in
        ap (λ (n : ℕ). drop n s) (min-eq_right l) ∙ drop-length s ∙ sym (drop_of_length-le s l)

-- ---- an accepted reading: there is room

module _ (link_room event_room : ℕ) (b : List ℕ) (e : read_number link_room event_room b ≡ 0) where
  pub read-accepted : refusal b ≡ 0
  unfolding read_number
  read-accepted = (first-none _ _ e).0

  pub read-room : (2 * links_in b ≤ link_room) × (events_in b ≤ event_room)
  unfolding read_number
  read-room =
      let f = first-none _ _ (first-none _ _ e).1 in
      (ltb-false _ _ (refuse-none _ 11 f.0), ltb-false _ _ (refuse-none _ 11 (first-none _ _ f.1).0))

-- with room for 128 links and 128 events, a reading refuses what the check refuses
pub full-rooms : (b : List ℕ) → read_number 256 128 b ≡ refusal b
unfolding read_number first
full-rooms b = go (refusal b) refl
  where
    go : (n : ℕ) → refusal b ≡ n → first (n ∷ room_test 256 (2 * links_in b) ∷ room_test 128 (events_in b) ∷ []) ≡ n
    go zero e =
        let k = accepted-counts b e in
        rw (room-pass 256 (2 * links_in b) (omega (arith, k.1)), room-pass 128 (events_in b) k.2)
    go (suc n) e = refl

-- ---- the lists have as many elements as the counts say

pub length-links : (count : ℕ) (b : List ℕ) → length (link_bytes (links_of count b)) ≡ 2 * count
unfolding link_bytes links_of
length-links zero b = refl
length-links (suc count) b = omega (arith, length-links count (drop 2 b))

pub length-events : (count : ℕ) (b : List ℕ) → length (event_words (events_at count b)) ≡ 4 * count
unfolding event_words events_at
length-events zero b = refl
length-events (suc count) b = omega (arith, length-events count (drop (event_size b) b))

-- what was laid down is there
pub take-sets : (l news : List ℕ) → length news ≤ length l → take (length news) (sets l 0 news) ≡ news
take-sets l news h =
    rw (sets-eq news l 0 (omega arith)) (take_at news (drop (0 + length news) l) (length news) refl)

-- `count` elements are copied out of an array that has room for them
pub copied : (number count : ℕ) (news room list : List ℕ)
    → (number ≡ 0 → count ≡ length news) → ((number ≡ 0 → ⊥) → count ≡ 0) → count ≤ length room
    → sets list 0 (take count (filled number news room)) ≡ filled number news list
copied zero count news room list f g l =
    let e : count ≡ length news = f refl in
    let k : length news ≤ length room = omega arith in
    rw (e, take-sets room news k)
copied (suc number) count news room list f g l = rw (g (λ z. nothing number z))
  where
    nothing : (n : ℕ) → suc n ≡ 0 → ⊥
    nothing n z = omega arith

-- ---- copying what was read into the lent lists

module _ (link_room event_room : ℕ) (b : List ℕ) (h : Header) (p : h ≡ header_of b) (e : read_number link_room event_room b ≡ 0) where
  pub header-bounds : (2 * h.links ≤ link_room) × (h.events ≤ event_room) × (h.links ≤ 128) × (h.events ≤ 128)
  unfolding header_of
  header-bounds =
      let r = read-room link_room event_room b e in
      let k = accepted-counts b (read-accepted link_room event_room b e) in
      rw p (r.0, r.1, k.1, k.2)

  pub read-links : (room list : List ℕ) → 256 ≤ length room
      → sets list 0 (take (2 * h.links) (filled (read_number link_room event_room b) (link_bytes (plan_of b).links) room))
      ≡ sets list 0 (link_bytes (plan_of b).links)
  unfolding header_of plan_of
  read-links room list l =
      let k : 2 * h.links ≡ length (link_bytes (plan_of b).links) = rw p (sym (length-links (links_in b) (drop 20 b))) in
      rw (e, k, take-sets room (link_bytes (plan_of b).links) (omega (arith, header-bounds)))

  pub read-events : (room list : List ℕ) → 512 ≤ length room
      → sets list 0 (take (4 * h.events) (filled (read_number link_room event_room b) (event_words (plan_of b).events) room))
      ≡ sets list 0 (event_words (plan_of b).events)
  unfolding header_of plan_of
  read-events room list l =
      let k : 4 * h.events ≡ length (event_words (plan_of b).events) = rw p (sym (length-events (events_in b) (drop (20 + 2 * links_in b) b))) in
      rw (e, k, take-sets room (event_words (plan_of b).events) (omega (arith, header-bounds)))
