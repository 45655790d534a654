-- Laws of the failed sets: an element has failed exactly where it had at the start or a failing event names it.
-- Assumes nothing.
use mathlib.Core.Path.{◌≡◌, refl, sym, ap, ◌∙◌}
use mathlib.Core.Bool.{Bool, true, false, cond}
use mathlib.Core.List.{List, [], ◌∷◌}
use mathlib.Core.Logic.{◌⊎◌, inl, inr, ⊎_elim, ◌↔◌}
use Prim.Native.Nat.{ℕ, zero, suc, ◌/◌, ◌<◌}
use native.Mathlib.Omega.{arith}
use lib.Bits.{bit_or}
use lib.ListN.{length}
use Rattle.sets.specs.Sets.{bit}
use Rattle.sets.proofs.Laws.{bit-or, bit-suc}
use Rattle.sets.proofs.Bools.{or-either, or_left, or_right}
use Rattle.plan.specs.Plan.{Event}
use Rattle.network.specs.Outage.{event_at, union_of}

module _ (part : Event → ℕ) where
  -- a failing event names the element v
  abbrev pub Named : List Event → ℕ → ℕ → Type 0
  Named events failing v = (i : ℕ) × (i < length events) × (bit failing i ≡ true) × (bit (part (event_at events i)) v ≡ true)

  -- the starting set after the first event
  after : ℕ → Event → Bool → ℕ
  after start e fails = cond fails (bit_or start (part e)) start

  after-from : (start v : ℕ) (e : Event) (fails : Bool) → bit (after start e fails) v ≡ true → (bit start v ≡ true) ⊎ ((fails ≡ true) × (bit (part e) v ≡ true))
  unfolding after
  after-from start v e true h = ⊎_elim (λ a. inl a) (λ a. inr (refl, a)) (or-either (bit start v) (bit (part e) v) (sym (bit-or start (part e) v) ∙ h))
  after-from start v e false h = inl h

  after-start : (start v : ℕ) (e : Event) (fails : Bool) → bit start v ≡ true → bit (after start e fails) v ≡ true
  unfolding after
  after-start start v e true h = bit-or start (part e) v ∙ or_left (bit start v) (bit (part e) v) h
  after-start start v e false h = h

  after-event : (start v : ℕ) (e : Event) → bit (part e) v ≡ true → bit (after start e true) v ≡ true
  unfolding after
  after-event start v e h = bit-or start (part e) v ∙ or_right (bit start v) (bit (part e) v) h

  pub union-from : (events : List Event) (start failing v : ℕ) → bit (union_of part start events failing) v ≡ true
      → (bit start v ≡ true) ⊎ Named events failing v
  unfolding union_of after
  union-from [] start failing v h = inl h
  union-from (e ∷ es) start failing v h =
      ⊎_elim
      (λ a. ⊎_elim (λ b. inl b) (λ b. inr (0, omega arith, b.0, b.1)) (after-from start v e (bit failing 0) a))
      (λ n. inr (suc n.0, omega (arith, n.1), bit-suc failing n.0 ∙ n.2, n.3))
      (union-from es (after start e (bit failing 0)) (failing / 2) v h)

  pub union-start : (events : List Event) (start failing v : ℕ) → bit start v ≡ true → bit (union_of part start events failing) v ≡ true
  unfolding union_of after
  union-start [] start failing v h = h
  union-start (e ∷ es) start failing v h = union-start es (after start e (bit failing 0)) (failing / 2) v (after-start start v e (bit failing 0) h)

  named-tail : (e : Event) (es : List Event) (failing v i : ℕ) → suc i < length (e ∷ es) → bit failing (suc i) ≡ true → bit (part (event_at es i)) v ≡ true → Named es (failing / 2) v
  named-tail e es failing v i l f h = (i, omega arith, sym (bit-suc failing i) ∙ f, h)

  pub union-event : (events : List Event) (start failing v : ℕ) → Named events failing v → bit (union_of part start events failing) v ≡ true
  unfolding union_of after
  union-event [] start failing v n = absurd (omega (arith, n.1))
  union-event (e ∷ es) start failing v n = go n.0 n.1 n.2 n.3 (union-event es (after start e (bit failing 0)) (failing / 2) v)
    where
      go : (i : ℕ) → i < length (e ∷ es) → bit failing i ≡ true → bit (part (event_at (e ∷ es) i)) v ≡ true
          → (Named es (failing / 2) v → bit (union_of part (after start e (bit failing 0)) es (failing / 2)) v ≡ true)
          → bit (union_of part (after start e (bit failing 0)) es (failing / 2)) v ≡ true
      go zero l f h ih = union-start es _ (failing / 2) v (ap (λ (b : Bool). bit (after start e b) v) f ∙ after-event start v e h)
      go (suc i) l f h ih = ih (named-tail e es failing v i l f h)

  -- an element has failed exactly where it had at the start or a failing event names it
  pub union-is : (events : List Event) (start failing v : ℕ)
      → (bit (union_of part start events failing) v ≡ true) ↔ ((bit start v ≡ true) ⊎ Named events failing v)
  union-is events start failing v = (union-from events start failing v, ⊎_elim (union-start events start failing v) (union-event events start failing v))
