-- Laws of the bytes of events, links and whole plans: their parts, and how many they are.
-- Assumes nothing.
use mathlib.Core.Path.{◌≡◌, refl, ap, ◌∙◌}
use mathlib.Core.List.{List, [], ◌∷◌, ◌++◌, append-nil, append_assoc}
use Prim.Native.Nat.{ℕ, zero, suc, ◌+◌, ◌-◌, ◌*◌, ◌/◌, ◌^◌, ◌≤◌, ◌<◌}
use native.Mathlib.Omega.{arith}
use lib.ListN.{length, drop, length-append}
use Rattle.plan_layout.proofs.ListLaws.{length-links-of}
use Rattle.plan_lists.proofs.ListLaws.{event_at, events-next}
use Rattle.sets.specs.Sets.{joined}
use Rattle.plan.specs.Plan.{Plan, Link, Event}
use Rattle.plan.specs.Lists.{event_of, events_of, link_bytes}
use Rattle.plan.specs.LentLists.{plan_of_lists}
use Rattle.plan.specs.declared.Header.{Header}
use Rattle.plan.specs.Layout.{little, elements, member_bytes, members, member_count, event_bytes, header_bytes, layout}
use Rattle.plan_writing.proofs.ElementLaws.{length_from, length_most, link-elements, members-counted, member_bytes-append}
use Rattle.plan_writing.proofs.ElementLaws.{length-member_bytes}

pub length-little : (width x : ℕ) → length (little width x) ≡ width
unfolding little
length-little zero x = refl
length-little (suc width) x = ap suc (length-little width (x / 256))

pub length-members : (e : Event) → length (members e) ≡ 2 * member_count e
unfolding members member_count
length-members e = rw (length-append, length-member_bytes 0, length-member_bytes 1) (omega arith)

pub length-event : (e : Event) → length (event_bytes (e ∷ [])) ≡ 5 + 2 * member_count e
unfolding event_bytes little
length-event e = omega (arith, length-members e, ap length (append-nil (members e)))

-- one event's bytes, and how many
pub one-event : (q nodes low high : ℕ) → low < 2 ^ 64
    → event_bytes (event_of q nodes low high ∷ [])
    ≡ little 4 q
    ++ ((length (elements 64 0 nodes) + length (elements 128 0 (joined low high)))
    ∷ (member_bytes 0 (elements 64 0 nodes) ++ (member_bytes 1 (elements 64 0 low) ++ member_bytes 1 (elements 64 64 high))))
unfolding event_bytes members member_count
one-event q nodes low high h = rw (append-nil, link-elements low high h, member_bytes-append)

pub length-one-event : (q nodes low high : ℕ) → low < 2 ^ 64
    → length (event_bytes (event_of q nodes low high ∷ []))
    ≡ 5 + 2 * (length (elements 64 0 nodes) + length (elements 64 0 low) + length (elements 64 64 high))
unfolding member_count
length-one-event q nodes low high h =
    omega (arith, length-event (event_of q nodes low high), members-counted nodes low high h, length_from 64 64 0 high)

-- the first event's bytes, then the others'
pub events-cons : (e : Event) (es : List Event) → event_bytes (e ∷ es) ≡ event_bytes (e ∷ []) ++ event_bytes es
unfolding event_bytes
events-cons e es = simp (append-nil, append_assoc)

pub members-most : (e : Event) → member_count e ≤ 192
unfolding member_count
members-most e = omega (arith, length_most 64 0 e.nodes, length_most 128 0 e.links)

no-event : length (event_bytes []) ≡ 0
unfolding event_bytes
no-event = refl

pub events-most : (es : List Event) → length (event_bytes es) ≤ 389 * length es
events-most [] = omega (arith, no-event)
events-most (e ∷ es) =
    omega (
      arith,
      rw length-append at (ap length (events-cons e es)),
      length-event e,
      members-most e,
      events-most es,
    )

-- the bytes of the events from a position on: those of the next one, then the others'
pub bytes_next : (words : List ℕ) (at left : ℕ) → 0 < left
    → event_bytes (events_of left (drop at words))
    ≡ event_bytes (event_at words at ∷ []) ++ event_bytes (events_of (left - 1) (drop (at + 4) words))
bytes_next words at left h = ap event_bytes (events-next words at left h) ∙ events-cons _ _

pub size-next : (words : List ℕ) (at left : ℕ) → 0 < left
    → length (event_bytes (events_of left (drop at words)))
    ≡ 5 + 2 * member_count (event_at words at) + length (event_bytes (events_of (left - 1) (drop (at + 4) words)))
size-next words at left h = rw (bytes_next words at left h, length-append, length-event)

pub length-bytes-next : (words : List ℕ) (at left : ℕ) → 0 < left
    → length (event_bytes (events_of left (drop at words)))
    ≡ length (event_bytes (event_at words at ∷ [])) + length (event_bytes (events_of (left - 1) (drop (at + 4) words)))
length-bytes-next words at left h = rw (bytes_next words at left h, length-append)

-- no event is left
pub bytes-end : (words : List ℕ) (left : ℕ) → left ≤ 0 → event_bytes (events_of left words) ≡ []
unfolding event_bytes events_of
bytes-end words zero h = refl
bytes-end words (suc left) h = absurd (omega arith)

pub length-link_bytes : (links : List Link) → length (link_bytes links) ≡ 2 * length links
unfolding link_bytes
length-link_bytes [] = refl
length-link_bytes (l ∷ ls) = omega (arith, length-link_bytes ls)

-- how many bytes the file of a plan has
pub length-layout : (p : Plan) → length (layout p) ≡ 20 + 2 * length p.links + length (event_bytes p.events)
unfolding layout header_bytes little
length-layout p =
    omega (
      arith,
      length-append (link_bytes p.links) (event_bytes p.events),
      length-link_bytes p.links,
      length-append (header_bytes p) (link_bytes p.links ++ event_bytes p.events),
    )

-- how many bytes the plan of lent lists has
pub plan-size : (h : Header) (links words : List ℕ)
    → length (layout (plan_of_lists h links words)) ≡ 20 + 2 * h.links + length (event_bytes (events_of h.events words))
unfolding plan_of_lists
plan-size h links words = omega (arith, length-layout (plan_of_lists h links words), length-links-of h.links links)
