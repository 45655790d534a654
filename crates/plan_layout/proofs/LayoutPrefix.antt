-- How many bytes decide: the refusal of a list of bytes is that of its first bytes.
-- Assumes nothing.
use mathlib.Core.Path.{◌≡◌, refl, sym, ap, ◌∙◌}
use mathlib.Core.List.{List, [], ◌∷◌}
use Prim.Native.Nat.{ℕ, zero, suc, ◌+◌, ◌-◌, ◌*◌, ◌<◌, ◌≤◌, min}
use native.Mathlib.Nat.{sub-zero, zero-sub, suc-sub-suc}
use native.Mathlib.Decide.{dec_lt}
use native.Mathlib.Omega.{arith}
use mathlib.Core.Bool.{Bool}
use borrow.Author.Tests.{lt-ltb, le-ltb}
use lib.Dec.{ltb}
use lib.ListN.{length, get_or, take, drop, length-take}
use lib.Seq.{get_or-take, take-take, take-nil}
use Rattle.mass.specs.Refusal.{refuse, first}
use Rattle.mass.specs.Split.{certain}
use Rattle.refusals.specs.Tests.{short_test, left_test, rank, count_of_kind}
use Rattle.plan.specs.File.{header_refusal, links_refusal, member_refusal, members_refusal, event_refusal, events_refusal, refusal, probability_in}
use Rattle.plan.specs.File.{members_in, event_size, nodes_in, links_in, events_in}
use Rattle.refusals.proofs.TestLaws.{counts-none}
use Rattle.plan_layout.proofs.LayoutSets.{length-rising}
use Rattle.plan_layout.proofs.LayoutMembers.{member-facts, members-read}
use Rattle.plan_layout.proofs.LayoutEvents.{event-none}
use Rattle.plan_layout.proofs.LayoutFile.{header-none}

-- the first number of two lists, where the rest gives the same if the first is 0
first-same : (a : ℕ) (l k : List ℕ) → (a ≡ 0 → first l ≡ first k) → first (a ∷ l) ≡ first (a ∷ k)
unfolding first
first-same zero l k h = h refl
first-same (suc a) l k h = refl

alone : {a b : ℕ} → a ≡ b → first (a ∷ []) ≡ first (b ∷ [])
alone e = ap (λ (n : ℕ). first (n ∷ [])) e

closer : (x y m : ℕ) → 2 * (y + 1) ≤ m → x + 1 ≤ y → 2 * (x + 1) ≤ m - 2
closer x y m h l = omega arith

pub drop-take : (j m : ℕ) (b : List ℕ) → drop j (take m b) ≡ take (m - j) (drop j b)
drop-take zero m b = rw sub-zero
drop-take (suc j) zero b = rw zero-sub
drop-take (suc j) (suc m) [] = sym (take-nil (suc m - suc j))
drop-take (suc j) (suc m) (x ∷ b) = rw suc-sub-suc (drop-take j m b)

part_same : (n j m : ℕ) (b : List ℕ) → j + n ≤ m → take n (drop j (take m b)) ≡ take n (drop j b)
part_same n j m b h = rw drop-take (take-take n (m - j) (drop j b) (omega arith))

short-same : (need m : ℕ) (b : List ℕ) → need ≤ m → short_test (length (take m b)) need ≡ short_test (length b) need
short-same need m b h = ap (λ (t : Bool). refuse t 1) (compare_same (length (take m b)) (length b) (length-take m b))
  where
    compare_same : (x y : ℕ) → x ≡ min m y → ltb x need ≡ ltb y need
    compare_same x y e = go (dec_lt y need)
      where
        go : Dec (y < need) → ltb x need ≡ ltb y need
        go (yes l) = lt-ltb x need (omega arith) ∙ sym (lt-ltb y need l)
        go (no n) = le-ltb x need (omega arith) ∙ sym (le-ltb y need (omega arith))

pub links-same : (nodes count m : ℕ) (b : List ℕ) → 2 * count ≤ m → links_refusal nodes count (take m b) ≡ links_refusal nodes count b
unfolding links_refusal
links-same nodes zero m b h = refl
links-same nodes (suc count) m b h =
    rw (
      short-same 2 m b (omega arith),
      get_or-take m b 0 0 (omega arith),
      get_or-take m b 1 0 (omega arith),
      drop-take 2 m b,
      links-same nodes count (m - 2) (drop 2 b) (omega arith),
    )

-- how many members may still follow, from a rank on
abbrev room : ℕ → ℕ → ℕ → ℕ
room nodes links least = (nodes - least) + (links - (least - 256))

member-same : (nodes links least m : ℕ) (b : List ℕ) → 2 ≤ m → member_refusal nodes links least (take m b) ≡ member_refusal nodes links least b
unfolding member_refusal
member-same nodes links least m b h =
    rw (short-same 2 m b h, get_or-take m b 0 0 (omega arith), get_or-take m b 1 0 (omega arith))

fewer : (nodes links least kind number : ℕ) → nodes ≤ 64 → number < count_of_kind nodes links kind → least ≤ rank kind number
    → room nodes links (rank kind number + 1) + 1 ≤ room nodes links least
fewer nodes links least zero number few h l = omega arith
fewer nodes links least (suc zero) number few h l = omega arith
fewer nodes links least (suc (suc kind)) number few h l = omega arith

pub members-same : (nodes links : ℕ) → nodes ≤ 64 → (least count m : ℕ) (b : List ℕ) → 2 * (room nodes links least + 1) ≤ m
    → members_refusal nodes links least count (take m b) ≡ members_refusal nodes links least count b
members-same nodes links few least zero m b h = unfold members_refusal in refl
members-same nodes links few least (suc count) m b h =
    step (members-same nodes links few (rank (get_or b 0 0) (get_or b 1 0) + 1) count (m - 2) (drop 2 b))
  where
    step : (2 * (room nodes links (rank (get_or b 0 0) (get_or b 1 0) + 1) + 1) ≤ m - 2
        → members_refusal nodes links (rank (get_or b 0 0) (get_or b 1 0) + 1) count (take (m - 2) (drop 2 b))
        ≡ members_refusal nodes links (rank (get_or b 0 0) (get_or b 1 0) + 1) count (drop 2 b))
        → members_refusal nodes links least (suc count) (take m b) ≡ members_refusal nodes links least (suc count) b
    step rest =
        unfold members_refusal in
        (rw (member-same nodes links least m b (omega arith), get_or-take m b 0 0 (omega arith), get_or-take m b 1 0 (omega arith), drop-take 2 m b)
        (first-same (member_refusal nodes links least b) _ _
        (λ e.
        let facts = member-facts nodes links least b e in
        alone (rest
        (closer (room nodes links (rank (get_or b 0 0) (get_or b 1 0) + 1)) (room nodes links least) m h
        (fewer nodes links least (get_or b 0 0) (get_or b 1 0) few facts.1 facts.2))))))

pub event-same : (nodes links before m : ℕ) (b : List ℕ) → nodes ≤ 64 → links ≤ 128 → 391 ≤ m
    → event_refusal nodes links before (take m b) ≡ event_refusal nodes links before b
unfolding event_refusal
event-same nodes links before m b few some h =
    rw (
      short-same 5 m b (omega arith),
      take-take 4 m b (omega arith),
      get_or-take m b 4 0 (omega arith),
      drop-take 5 m b,
      members-same nodes links few 0 (members_in b) (m - 5) (drop 5 b) (omega arith),
    )

-- an accepted event takes at most 389 bytes
pub size-most : (nodes links before : ℕ) (b : List ℕ) → nodes ≤ 64 → links ≤ 128 → event_refusal nodes links before b ≡ 0 → event_size b ≤ 389
size-most nodes links before b few some e =
    let m = members-read nodes links few 0 (members_in b) (drop 5 b) (event-none nodes links before b e).inside in
    omega
    (arith, m.counted, length-rising 0 nodes m.ns m.nodes-rise, length-rising (0 - 256) links m.ls m.links-rise)

left-same : (m : ℕ) (b : List ℕ) → 1 ≤ m → left_test (length (take m b)) ≡ left_test (length b)
left-same zero b h = absurd (never h)
  where
    never : 1 ≤ 0 → ⊥
    never z = omega arith
left-same (suc m) [] h = refl
left-same (suc m) (x ∷ b) h = rw (lt-ltb 0 (suc (length (take m b))) (omega arith), lt-ltb 0 (suc (length b)) (omega arith))

pub events-same : (nodes links : ℕ) → nodes ≤ 64 → links ≤ 128 → (before count m : ℕ) (b : List ℕ) → count * 389 + 2 ≤ m
    → events_refusal nodes links before count (take m b) ≡ events_refusal nodes links before count b
events-same nodes links few some before zero m b h = unfold events_refusal in left-same m b (omega arith)
events-same nodes links few some before (suc count) m b h =
    step (events-same nodes links few some (probability_in b) count (m - event_size b) (drop (event_size b) b))
  where
    step : (count * 389 + 2 ≤ m - event_size b
        → events_refusal nodes links (probability_in b) count (take (m - event_size b) (drop (event_size b) b))
        ≡ events_refusal nodes links (probability_in b) count (drop (event_size b) b))
        → events_refusal nodes links before (suc count) (take m b) ≡ events_refusal nodes links before (suc count) b
    step rest =
        unfold events_refusal in
        (rw (
          event-same nodes links before m b few some (omega arith),
          take-take 4 m b (omega arith),
          get_or-take m b 4 0 (omega arith),
          drop-take (event_size b) m b,
        )
        (first-same (event_refusal nodes links before b) _ _
        (λ e. let size = size-most nodes links before b few some e in alone (rest (omega arith)))))

pub header-same : (m : ℕ) (b : List ℕ) → 20 ≤ m → header_refusal (take m b) ≡ header_refusal b
unfolding header_refusal
header-same m b h =
    rw (
      short-same 20 m b h,
      get_or-take m b 0 0 (omega arith),
      get_or-take m b 1 0 (omega arith),
      get_or-take m b 2 0 (omega arith),
      get_or-take m b 5 0 (omega arith),
      get_or-take m b 6 0 (omega arith),
      get_or-take m b 7 0 (omega arith),
      part_same 2 3 m b (omega arith),
      part_same 8 8 m b (omega arith),
      part_same 4 16 m b (omega arith),
    )

-- m bytes decide, where m is at least what the counts let follow
pub file-same : (m : ℕ) (b : List ℕ) → 50070 ≤ m → refusal (take m b) ≡ refusal b
unfolding refusal
file-same m b h =
    rw (
      header-same m b (omega arith),
      get_or-take m b 5 0 (omega arith),
      get_or-take m b 6 0 (omega arith),
      get_or-take m b 7 0 (omega arith),
      drop-take 20 m b,
      drop-take (20 + 2 * links_in b) m b,
    )
    (first-same (header_refusal b) _ _
    (λ e.
    let r = counts-none (nodes_in b) (links_in b) (events_in b) (header-none b e).counts in
    rw (links-same (nodes_in b) (links_in b) (m - 20) (drop 20 b) (omega (arith, r.links-fit)))
    (first-same (links_refusal (nodes_in b) (links_in b) (drop 20 b)) _ _
    (λ _.
    alone (events-same (nodes_in b) (links_in b) r.nodes-fit r.links-fit certain (events_in b) (m - (20 + 2 * links_in b))
    (drop (20 + 2 * links_in b) b)
    (omega (arith, r.links-fit, r.events-fit)))))))
