-- The events in a list of words, and the failed sets gathered event by event.
-- Assumes nothing.
use mathlib.Core.Path.{◌≡◌, refl, sym, ap, ◌∙◌, subst}
use mathlib.Core.Bool.{true, false, not, ◌&&◌, ◌||◌}
use mathlib.Core.List.{List}
use mathlib.Core.Logic.{◌⊎◌, inl, inr, ⊎_elim}
use Prim.Native.Nat.{ℕ, zero, suc, ◌+◌, ◌-◌, ◌*◌, ◌^◌, ◌≤◌, ◌<◌}
use native.Mathlib.Omega.{arith}
use native.Mathlib.Decide.{dec_lt}
use native.Mathlib.Nat.{mul-one, zero-mul, lt_of_le_of_lt, mul-le-mul_right}
use lib.Bits.{bit_or, or_block, or_shifted_r}
use lib.Dec.{eqb}
use lib.ListN.{length, get_or, drop}
use lib.Seq.{get_or-drop}
use borrow.Author.Tests.{eqb-true, eq-eqb}
use Rattle.sets.specs.Sets.{bit, joined}
use Rattle.sets.specs.Elements.{LowestTaken}
use Rattle.sets.proofs.Laws.{bit-or, bit-none, bits-same, bit-shl, bit-shl-below, bit_below}
use Rattle.sets.proofs.Bools.{and_left, and_both, or-either, or_left, or_right, which, clash, not-of, same_bool}
use Rattle.plan.specs.Plan.{Event}
use Rattle.plan.specs.Lists.{events_of}
use Rattle.network.specs.Outage.{Outage, event_at, union_of, with_event, outage_of}
use Rattle.network.proofs.FailingLaws.{Named, union-from, union-start, union-event, union-is}

-- ---- the list of words

pub length-events : (count : ℕ) (words : List ℕ) → length (events_of count words) ≡ count
unfolding events_of
length-events zero words = refl
length-events (suc count) words = ap suc (length-events count (drop 4 words))

-- event i stands in words 4i to 4i + 3
word-later : (words : List ℕ) (i k : ℕ) → get_or (drop 4 words) (4 * i + k) 0 ≡ get_or words (4 * suc i + k) 0
word-later words i k =
    let e : 4 + (4 * i + k) ≡ 4 * suc i + k = omega arith in
    get_or-drop 4 words (4 * i + k) 0 ∙ ap (λ (x : ℕ). get_or words x 0) e

pub event-at : (count : ℕ) (words : List ℕ) (i : ℕ) → i < count
    → event_at (events_of count words) i
    ≡ record {
      probability = get_or words (4 * i + 0) 0;
      nodes = get_or words (4 * i + 1) 0;
      links = joined (get_or words (4 * i + 2) 0) (get_or words (4 * i + 3) 0);
    }
unfolding events_of
event-at zero words i h = absurd (omega arith)
event-at (suc count) words zero h = refl
event-at (suc count) words (suc i) h =
    event-at count (drop 4 words) i (omega arith)
    ∙ (λ x. record {
      probability = word-later words i 0 x;
      nodes = word-later words i 1 x;
      links = joined (word-later words i 2 x) (word-later words i 3 x);
    })

-- ---- the union, event by event

module _ (part : Event → ℕ) (events : List Event) where
  -- with no failing event
  pub union-none : (start : ℕ) → union_of part start events 0 ≡ start
  union-none start = bits-same _ _ (λ v. same_bool _ _
      (λ e. ⊎_elim (λ h. h) (λ n. absurd (clash n.2 (bit-none n.0))) (union-from part events start 0 v e))
      (λ e. union-start part events start 0 v e))

  -- one failing event taken out of the set and into the start
  pub union-move : (start failing rest i : ℕ) → i < length events → bit failing i ≡ true → ((j : ℕ) → bit rest j ≡ (bit failing j && not (eqb j i)))
      → union_of part (bit_or start (part (event_at events i))) events rest ≡ union_of part start events failing
  union-move start failing rest i l f law = bits-same _ _ (λ v. same_bool _ _ (there v) (back v))
    where
      there : (v : ℕ) → bit (union_of part (bit_or start (part (event_at events i))) events rest) v ≡ true → bit (union_of part start events failing) v ≡ true
      there v e =
          ⊎_elim
          (λ h. ⊎_elim (λ s. union-start part events start failing v s) (λ n. union-event part events start failing v (i, l, f, n))
          (or-either (bit start v) (bit (part (event_at events i)) v) (sym (bit-or start (part (event_at events i)) v) ∙ h)))
          (λ n. union-event part events start failing v (n.0, n.1, and_left (bit failing n.0) _ (sym (law n.0) ∙ n.2), n.3))
          (union-from part events (bit_or start (part (event_at events i))) rest v e)

      named : (v : ℕ) → Named part events failing v → (bit (bit_or start (part (event_at events i))) v ≡ true) ⊎ Named part events rest v
      named v n = go (which (eqb n.0 i))
        where
          go : (eqb n.0 i ≡ true) ⊎ (eqb n.0 i ≡ false) → (bit (bit_or start (part (event_at events i))) v ≡ true) ⊎ Named part events rest v
          go (inl s) =
              inl (bit-or start (part (event_at events i)) v ∙ or_right (bit start v) _ (subst (λ (x : ℕ). bit (part (event_at events x)) v ≡ true) (eqb-true n.0 i s) n.3))
          go (inr d) = inr (n.0, n.1, law n.0 ∙ and_both (bit failing n.0) _ n.2 (not-of _ d), n.3)

      back : (v : ℕ) → bit (union_of part start events failing) v ≡ true → bit (union_of part (bit_or start (part (event_at events i))) events rest) v ≡ true
      back v e =
          (union-is part events (bit_or start (part (event_at events i))) rest v).1
          (⊎_elim (λ s. inl (bit-or start (part (event_at events i)) v ∙ or_left (bit start v) _ s)) (named v) (union-from part events start failing v e))

  -- the events of one set, and then those of another
  pub union-two : (start a b c : ℕ) → ((j : ℕ) → bit c j ≡ (bit a j || bit b j)) → union_of part (union_of part start events a) events b ≡ union_of part start events c
  union-two start a b c law = bits-same _ _ (λ v. same_bool _ _ (there v) (back v))
    where
      there : (v : ℕ) → bit (union_of part (union_of part start events a) events b) v ≡ true → bit (union_of part start events c) v ≡ true
      there v e =
          ⊎_elim
          (λ h. ⊎_elim (λ s. union-start part events start c v s) (λ n. union-event part events start c v (n.0, n.1, law n.0 ∙ or_left _ _ n.2, n.3)) (union-from part events start a v h))
          (λ n. union-event part events start c v (n.0, n.1, law n.0 ∙ or_right (bit a n.0) _ n.2, n.3))
          (union-from part events (union_of part start events a) b v e)

      from-a : (v : ℕ) → bit (union_of part start events a) v ≡ true → bit (union_of part (union_of part start events a) events b) v ≡ true
      from-a v h = union-start part events (union_of part start events a) b v h

      back : (v : ℕ) → bit (union_of part start events c) v ≡ true → bit (union_of part (union_of part start events a) events b) v ≡ true
      back v e =
          ⊎_elim
          (λ s. from-a v (union-start part events start a v s))
          (λ n. ⊎_elim
          (λ f. from-a v (union-event part events start a v (n.0, n.1, f, n.3)))
          (λ f. union-event part events (union_of part start events a) b v (n.0, n.1, f, n.3))
          (or-either (bit a n.0) (bit b n.0) (sym (law n.0) ∙ n.2)))
          (union-from part events start c v e)

-- ---- words as parts of a larger set

-- a set without one element, both shifted
eqb-add : (k m t : ℕ) → eqb (k + m) (k + t) ≡ eqb m t
eqb-add k m t =
    same_bool _ _
    (λ e. eq-eqb m t (omega (arith, eqb-true (k + m) (k + t) e)))
    (λ e. eq-eqb (k + m) (k + t) (ap (λ (x : ℕ). k + x) (eqb-true m t e)))

module _ (k : ℕ) {s found r : ℕ} (t : LowestTaken s found r) where
  shifted_at : (m : ℕ) → bit (r * 2 ^ k) (k + m) ≡ (bit (s * 2 ^ k) (k + m) && not (eqb (k + m) (k + found)))
  shifted_at m = rw (bit-shl r k m, bit-shl s k m, eqb-add k m found) (t.rest m)

  pub rest-shifted : (j : ℕ) → bit (r * 2 ^ k) j ≡ (bit (s * 2 ^ k) j && not (eqb j (k + found)))
  rest-shifted j = at (dec_lt j k)
    where
      at : Dec (j < k) → bit (r * 2 ^ k) j ≡ (bit (s * 2 ^ k) j && not (eqb j (k + found)))
      at (yes h) = rw (bit-shl-below r k j h, bit-shl-below s k j h)
      at (no n) =
          let e : k + (j - k) ≡ j = omega arith in
          subst (λ (x : ℕ). bit (r * 2 ^ k) x ≡ (bit (s * 2 ^ k) x && not (eqb x (k + found)))) e (shifted_at (j - k))

-- the index of an element of what is left of a shifted set
pub index_below : (count base set left t : ℕ) → set * 2 ^ base < 2 ^ count → left ≤ set → bit left t ≡ true → base + t < count
index_below count base set left t h l e =
    bit_below (left * 2 ^ base) count (base + t) (lt_of_le_of_lt (mul-le-mul_right (2 ^ base) l) h) (bit-shl left base t ∙ e)

-- two words joined hold the elements of the low word and those of the high word shifted by 64
pub joined-parts : (low high : ℕ) → low < 2 ^ 64 → (j : ℕ) → bit (joined low high) j ≡ (bit (low * 2 ^ 0) j || bit (high * 2 ^ 64) j)
joined-parts low high h j = rw (mul-one low, ← or_shifted_r high 64 low h) (bit-or low (high * 2 ^ 64) j)

-- two pairs of words united word by word
pub joined-or : (a b c d : ℕ) → a < 2 ^ 64 → c < 2 ^ 64 → joined (bit_or a c) (bit_or b d) ≡ bit_or (joined a b) (joined c d)
joined-or a b c d h l = sym (or_block 64 b d a c h l)

-- ---- the outage, event by event

module _ (count : ℕ) (words : List ℕ) (held : count ≤ 128) where
  -- an event stands in the same words, however many are counted
  same-event : (i : ℕ) → i < count → event_at (events_of 128 words) i ≡ event_at (events_of count words) i
  same-event i h = event-at 128 words i (omega arith) ∙ sym (event-at count words i h)

  pub outage-move : (out next : Outage) (failing rest i : ℕ) → next ≡ with_event out (event_at (events_of 128 words) i) → i < count → bit failing i ≡ true
      → ((j : ℕ) → bit rest j ≡ (bit failing j && not (eqb j i)))
      → outage_of next (events_of count words) rest ≡ outage_of out (events_of count words) failing
  outage-move out next failing rest i e h f law =
      let there : i < length (events_of count words) = omega (arith, length-events count words) in
      ap (λ (o : Outage). outage_of o (events_of count words) rest) (e ∙ ap (with_event out) (same-event i h))
      ∙ (λ x. record {
        nodes = union-move (λ e. e.nodes) (events_of count words) out.nodes failing rest i there f law x;
        links = union-move (λ e. e.links) (events_of count words) out.links failing rest i there f law x;
      })

  pub outage-none : (out : Outage) (left base : ℕ) → left ≡ 0 → outage_of out (events_of count words) (left * 2 ^ base) ≡ out
  outage-none out left base e =
      rw (e, zero-mul (2 ^ base))
      (λ x. record {
        nodes = union-none (λ e. e.nodes) (events_of count words) out.nodes x;
        links = union-none (λ e. e.links) (events_of count words) out.links x;
      })

  pub outage-two : (out between last : Outage) (low high : ℕ) → low < 2 ^ 64
      → between ≡ outage_of out (events_of count words) (low * 2 ^ 0) → last ≡ outage_of between (events_of count words) (high * 2 ^ 64)
      → last ≡ outage_of out (events_of count words) (joined low high)
  outage-two out between last low high h e f =
      f ∙ ap (λ (o : Outage). outage_of o (events_of count words) (high * 2 ^ 64)) e
      ∙ (λ x. record {
        nodes = union-two (λ e. e.nodes) (events_of count words) out.nodes (low * 2 ^ 0) (high * 2 ^ 64) (joined low high) (joined-parts low high h) x;
        links = union-two (λ e. e.links) (events_of count words) out.links (low * 2 ^ 0) (high * 2 ^ 64) (joined low high) (joined-parts low high h) x;
      })

-- the nodes and the links of event i, from its words
pub named-words : (words : List ℕ) (i n l u : ℕ) → i < 128
    → n ≡ get_or words (4 * i + 1) 0 → l ≡ get_or words (4 * i + 2) 0 → u ≡ get_or words (4 * i + 3) 0
    → (let e = event_at (events_of 128 words) i in
    ◌≡◌ {A = Outage} (record { nodes = n; links = joined l u }) (record { nodes = e.nodes; links = e.links }))
named-words words i n l u h en el eu = rw (event-at 128 words i h, ← en, ← el, ← eu)
