-- Laws of laying down a number, members, an event, the header and a plan part by part.
-- Assumes nothing.
use mathlib.Core.Path.{◌≡◌, refl, sym, ap, ◌∙◌}
use mathlib.Core.List.{List, [], ◌∷◌, ◌++◌}
use Prim.Native.Nat.{ℕ, zero, suc, ◌+◌, ◌-◌, ◌*◌, ◌/◌, ◌%◌, ◌^◌, ◌≤◌, ◌<◌}
use native.Mathlib.Numerals.{add-one}
use native.Mathlib.Omega.{arith}
use lib.ListN.{length, take, drop, set}
use lib.Seq.{sets, length-take-le}
use Rattle.plan_layout.proofs.ListLaws.{length-links-of, length-events-of}
use Rattle.plan_lists.proofs.ListLaws.{less_one, sets_then, event_at}
use Rattle.sets.specs.Sets.{joined}
use Rattle.plan.specs.Lists.{event_of, events_of}
use Rattle.plan.specs.LentLists.{plan_of_lists}
use Rattle.plan.specs.declared.Header.{Header}
use Rattle.plan.specs.Layout.{little, elements, member_bytes, event_bytes, header_bytes, layout}
use Rattle.plan_writing.proofs.ElementLaws.{elements-left, elements-end, one_none, one-some, member_bytes-append, length-member_bytes}
use Rattle.plan_lists.proofs.CopyLaws.{link_bytes-take}
use Rattle.plan_writing.proofs.SizeLaws.{length-little, one-event, length-one-event, bytes_next, bytes-end}

-- one more byte of a number laid down
pub number-next : (out : List ℕ) (i left x : ℕ) → 0 < left
    → sets (set out i (x % 256)) (i + 1) (little (left - 1) (x / 256)) ≡ sets out i (little left x)
unfolding little
number-next out i zero x h = absurd (omega arith)
number-next out i (suc left) x h = rw (less_one, add-one)

pub number-end : (out : List ℕ) (i left x : ℕ) → left ≤ 0 → out ≡ sets out i (little left x)
unfolding little
number-end out i zero x h = refl
number-end out i (suc left) x h = absurd (omega arith)

pub members-end : (kind : ℕ) (out : List ℕ) (i left number s : ℕ) → left ≤ 0 → out ≡ sets out i (member_bytes kind (elements left number s))
unfolding member_bytes
members-end kind out i left number s h = rw (elements-end left number s h)

-- one member that is not there, or there
module _ (kind : ℕ) (out : List ℕ) (at number s : ℕ) where
  pub member-none : s % 2 ≡ 0 → (out ≡ sets out at (member_bytes kind (elements 1 number s))) × (at ≡ at + 2 * length (elements 1 number s))
  unfolding member_bytes
  member-none e = rw (one_none number s e) (refl, omega arith)

  pub member-some : (s % 2 ≡ 0 → ⊥)
      → (set (set out at kind) (at + 1) number ≡ sets out at (member_bytes kind (elements 1 number s)))
      × (at + 2 ≡ at + 2 * length (elements 1 number s))
  unfolding member_bytes
  member-some n = rw (one-some number s n, add-one) (refl, refl)

-- one more member laid down
pub members-next : (kind : ℕ) (out out' : List ℕ) (i i' left number s : ℕ) → 0 < left
    → out' ≡ sets out i (member_bytes kind (elements 1 number s))
    → i' ≡ i + 2 * length (elements 1 number s)
    → sets out' i' (member_bytes kind (elements (left - 1) (number + 1) (s / 2))) ≡ sets out i (member_bytes kind (elements left number s))
members-next kind out out' i i' left number s h e n =
    let one = member_bytes kind (elements 1 number s) in
    let others = member_bytes kind (elements (left - 1) (number + 1) (s / 2)) in
    let l : i' ≡ i + length one = n ∙ ap (λ (k : ℕ). i + k) (sym (length-member_bytes kind (elements 1 number s))) in
    rw (elements-left left number s h, member_bytes-append) (sets_then one others out out' i i' e l)

little-one : (x : ℕ) → x < 256 → little 1 x ≡ x ∷ []
unfolding little
little-one x h = let e : x % 256 ≡ x = omega arith in rw e

-- an event laid down in its five parts
module _ (out₀ out₁ out₂ out₃ out₄ out₅ : List ℕ) (at k a b r q nodes low high : ℕ) where
  pub event-laid : low < 2 ^ 64
      → (k ≡ length (elements 64 0 nodes) + length (elements 128 0 (joined low high))) × (k ≤ 192)
      → out₁ ≡ sets out₀ at (little 4 q)
      → out₂ ≡ sets out₁ (at + 4) (little 1 k)
      → (out₃ ≡ sets out₂ (at + 5) (member_bytes 0 (elements 64 0 nodes))) × (a ≡ at + 5 + 2 * length (elements 64 0 nodes))
      → (out₄ ≡ sets out₃ a (member_bytes 1 (elements 64 0 low))) × (b ≡ a + 2 * length (elements 64 0 low))
      → (out₅ ≡ sets out₄ b (member_bytes 1 (elements 64 64 high))) × (r ≡ b + 2 * length (elements 64 64 high))
      → (out₅ ≡ sets out₀ at (event_bytes (event_of q nodes low high ∷ [])))
      × (r ≡ at + length (event_bytes (event_of q nodes low high ∷ [])))
  event-laid h (count, most) e₁ e₂ (e₃, n₃) (e₄, n₄) (e₅, n₅) =
      let m₀ = member_bytes 0 (elements 64 0 nodes) in
      let m₁ = member_bytes 1 (elements 64 0 low) in
      let m₂ = member_bytes 1 (elements 64 64 high) in
      let n₁ : at + 4 ≡ at + length (little 4 q) = ap (λ (n : ℕ). at + n) (sym (length-little 4 q)) in
      let n₂ : at + 5 ≡ at + 4 + length (little 1 k) = omega (arith, length-little 1 k) in
      let l₃ : a ≡ at + 5 + length m₀ = n₃ ∙ ap (λ (n : ℕ). at + 5 + n) (sym (length-member_bytes 0 (elements 64 0 nodes))) in
      let l₄ : b ≡ a + length m₁ = n₄ ∙ ap (λ (n : ℕ). a + n) (sym (length-member_bytes 1 (elements 64 0 low))) in (
        e₅
            ∙ sets_then m₁ m₂ out₃ out₄ a b e₄ l₄
            ∙ sets_then m₀ (m₁ ++ m₂) out₂ out₃ (at + 5) a e₃ l₃
            ∙ sets_then (little 1 k) (m₀ ++ (m₁ ++ m₂)) out₁ out₂ (at + 4) (at + 5) e₂ n₂
            ∙ sets_then (little 4 q) (little 1 k ++ (m₀ ++ (m₁ ++ m₂))) out₀ out₁ at (at + 4) e₁ n₁
            ∙ rw (one-event q nodes low high h, ← count, little-one k (omega arith)),
        omega (arith, length-one-event q nodes low high h),
      )

-- the header laid down in its parts
pub header-laid : (out out₁ out₂ out₃ : List ℕ) (nodes links events threshold cap : ℕ)
    → out₁ ≡ sets (set (set (set out 0 82) 1 83) 2 71) 3 (little 2 1)
    → out₂ ≡ sets (set (set (set out₁ 5 nodes) 6 links) 7 events) 8 (little 8 threshold)
    → out₃ ≡ sets out₂ 16 (little 4 cap)
    → out₃ ≡ sets out 0 (82 ∷ 83 ∷ 71 ∷ (little 2 1 ++ (nodes ∷ links ∷ events ∷ (little 8 threshold ++ little 4 cap))))
unfolding little
header-laid out out₁ out₂ out₃ nodes links events threshold cap e₁ e₂ e₃ = rw (e₃, e₂, e₁)

-- one more event laid down
pub laid_next : (words out out' : List ℕ) (i i' at left : ℕ) → 0 < left
    → out' ≡ sets out i (event_bytes (event_at words at ∷ []))
    → i' ≡ i + length (event_bytes (event_at words at ∷ []))
    → sets out' i' (event_bytes (events_of (left - 1) (drop (at + 4) words))) ≡ sets out i (event_bytes (events_of left (drop at words)))
laid_next words out out' i i' at left h e n =
    sets_then (event_bytes (event_at words at ∷ [])) (event_bytes (events_of (left - 1) (drop (at + 4) words))) out out' i i' e n
    ∙ ap (λ (bytes : List ℕ). sets out i bytes) (sym (bytes_next words at left h))

pub laid_end : (words out : List ℕ) (i left : ℕ) → left ≤ 0 → out ≡ sets out i (event_bytes (events_of left words))
laid_end words out i left h = rw (bytes-end words left h)

-- a plan laid down in its three parts
pub plan-laid : (h : Header) (links words out out₁ out₂ out₃ : List ℕ) → 2 * h.links ≤ length links
    → out₁ ≡ sets out 0 (82 ∷ 83 ∷ 71 ∷ (little 2 1 ++ (h.nodes ∷ h.links ∷ h.events ∷ (little 8 h.threshold ++ little 4 h.cap))))
    → out₂ ≡ sets out₁ 20 (take (2 * h.links) links)
    → out₃ ≡ sets out₂ (20 + 2 * h.links) (event_bytes (events_of h.events words))
    → out₃ ≡ sets out 0 (layout (plan_of_lists h links words))
unfolding plan_of_lists layout header_bytes little
plan-laid h links words out out₁ out₂ out₃ fit e₁ e₂ e₃ =
    let head : List ℕ = 82 ∷ 83 ∷ 71 ∷ (little 2 1 ++ (h.nodes ∷ h.links ∷ h.events ∷ (little 8 h.threshold ++ little 4 h.cap))) in
    let bytes = take (2 * h.links) links in
    let rest = event_bytes (events_of h.events words) in
    let n : length bytes ≡ 2 * h.links = length-take-le (2 * h.links) links fit in
    e₃
    ∙ sets_then bytes rest out₁ out₂ 20 (20 + 2 * h.links) e₂ (ap (λ (k : ℕ). 20 + k) (sym n))
    ∙ sets_then head (bytes ++ rest) out out₁ 0 20 e₁ refl
    ∙ rw (length-links-of h.links links, length-events-of h.events words, link_bytes-take h.links links fit)
