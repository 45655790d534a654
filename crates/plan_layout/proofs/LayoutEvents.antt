-- Events, from records to bytes and back.
-- Assumes nothing.
use mathlib.Core.Path.{◌≡◌, refl, sym, ap, ◌∙◌}
use mathlib.Core.List.{List, [], ◌∷◌, ◌++◌}
use Prim.Native.Nat.{ℕ, zero, suc, ◌+◌, ◌*◌, ◌^◌, ◌<◌, ◌≤◌}
use native.Mathlib.Omega.{arith}
use borrow.Author.Tests.{ltb-false}
use lib.ListN.{length, get_or, take, drop, length-drop, take-append-drop}
use lib.Seq.{drop_at, drop-drop, drop-cons}
use Rattle.mass.specs.Refusal.{first}
use Rattle.mass.proofs.RefusalLaws.{first-none, refuse-none}
use Rattle.mass.specs.Split.{probability_test, certain}
use Rattle.plan.specs.Plan.{Event}
use Rattle.refusals.specs.Tests.{order_test}
use Rattle.plan.specs.Layout.{little, members, member_count, event_bytes, Bytes}
use Rattle.plan.specs.File.{members_refusal, event_refusal, events_refusal, set_of, probability_in, members_in, event_size, event_in, events_at}
use Rattle.plan.specs.LentLists.{event_list_refusal}
use Rattle.refusals.proofs.TestLaws.{short_none, short-pass, sets-none, sets-pass, left-none}
use Rattle.plan_layout.proofs.LayoutNumbers.{value-little, little-again, bytes_drop}
use Rattle.plan_layout.proofs.LayoutMembers.{members-accepted, nodes-back, links-back, length-event-members, sets-read}

-- what an accepted event says
pub record AcceptedEvent (nodes links before : ℕ) (b : List ℕ) : Type 0 where
  pub long : 5 ≤ length b
  pub probable : probability_test (probability_in b) ≡ 0
  pub ordered : order_test before (probability_in b) ≡ 0
  pub inside : members_refusal nodes links 0 (members_in b) (drop 5 b) ≡ 0

pub event-none : (nodes links before : ℕ) (b : List ℕ) → event_refusal nodes links before b ≡ 0 → AcceptedEvent nodes links before b
unfolding event_refusal
event-none nodes links before b e =
    let a = first-none _ _ e in
    let p = first-none _ _ a.1 in
    let o = first-none _ _ p.1 in
    record {
      long = short_none (length b) 5 a.0;
      probable = p.0;
      ordered = o.0;
      inside = (first-none _ _ o.1).0;
    }

pub event-pass : (nodes links before : ℕ) (b : List ℕ) → AcceptedEvent nodes links before b → event_refusal nodes links before b ≡ 0
unfolding event_refusal first
event-pass nodes links before b a = rw (short-pass (length b) 5 a.long, a.probable, a.ordered, a.inside)

pub events-none : (nodes links before count : ℕ) (b : List ℕ) → events_refusal nodes links before (suc count) b ≡ 0
    → (event_refusal nodes links before b ≡ 0) × (events_refusal nodes links (probability_in b) count (drop (event_size b) b) ≡ 0)
unfolding events_refusal
events-none nodes links before count b e = let t = first-none _ _ e in (t.0, (first-none _ _ t.1).0)

probable-fits : (q : ℕ) → probability_test q ≡ 0 → q < 256 ^ 4
probable-fits q e = let h : q ≤ certain = ltb-false certain q (refuse-none _ 7 e) in omega arith

-- what a valid list of events says of its first
pub record ValidEvent (nodes links before : ℕ) (e : Event) (es : List Event) : Type 0 where
  pub probable : probability_test e.probability ≡ 0
  pub ordered : order_test before e.probability ≡ 0
  pub within : e.nodes < 2 ^ nodes
  pub inside : e.links < 2 ^ links
  pub later : event_list_refusal nodes links e.probability es ≡ 0

pub list-none : (nodes links before : ℕ) (e : Event) (es : List Event) → event_list_refusal nodes links before (e ∷ es) ≡ 0
    → ValidEvent nodes links before e es
unfolding event_list_refusal
list-none nodes links before e es h =
    let p = first-none _ _ h in
    let o = first-none _ _ p.1 in
    let s = first-none _ _ o.1 in
    let fit = sets-none nodes links e.nodes e.links s.0 in
    record {
      probable = p.0;
      ordered = o.0;
      within = fit.0;
      inside = fit.1;
      later = (first-none _ _ s.1).0;
    }

pub list-pass : (nodes links before : ℕ) (e : Event) (es : List Event) → ValidEvent nodes links before e es
    → event_list_refusal nodes links before (e ∷ es) ≡ 0
unfolding event_list_refusal first
list-pass nodes links before e es v =
    rw (v.probable, v.ordered, sets-pass nodes links e.nodes e.links v.within v.inside, v.later)

-- the parts of an event's bytes, put together again
parts_again : (b : List ℕ) (k : ℕ) → 5 ≤ length b
    → take 4 b ++ (get_or b 4 0 ∷ (take k (drop 5 b) ++ drop (5 + k) b)) ≡ b
parts_again b k h =
    rw (← drop-drop k 5 b, take-append-drop k (drop 5 b), ← drop-cons b 4 0 h) (take-append-drop 4 b)

-- ---- from records to bytes

module _ (nodes links : ℕ) (few : nodes ≤ 64) (some : links ≤ 128) where
  -- the bytes of an event, before those of others
  module _ (e : Event) (es : List Event) (probable : probability_test e.probability ≡ 0)
      (within : e.nodes < 2 ^ nodes) (inside : e.links < 2 ^ links) where
    probability-back : probability_in (event_bytes (e ∷ es)) ≡ e.probability
    unfolding event_bytes little
    probability-back = unfold little in (value-little 4 e.probability (probable-fits e.probability probable))

    event-back : event_in (event_bytes (e ∷ es)) ≡ e
    unfolding event_bytes little
    event-back =
        rw (
          probability-back,
          nodes-back nodes links e (event_bytes es) few some within inside,
          links-back nodes links e (event_bytes es) few some within inside,
        )

    rest_back : drop (event_size (event_bytes (e ∷ es))) (event_bytes (e ∷ es)) ≡ event_bytes es
    unfolding event_bytes little
    rest_back =
        sym (drop-drop (2 * member_count e) 5 (event_bytes (e ∷ es)))
        ∙ drop_at (members e) (event_bytes es) (2 * member_count e) (length-event-members e)

    event-accepted : (before : ℕ) → order_test before e.probability ≡ 0 → event_refusal nodes links before (event_bytes (e ∷ es)) ≡ 0
    unfolding event_bytes little
    event-accepted before order =
        event-pass nodes links before (event_bytes (e ∷ es))
        (record {
          long = omega arith;
          probable = rw probability-back probable;
          ordered = rw probability-back order;
          inside = members-accepted nodes links e (event_bytes es) few some within inside;
        })

  first-event : (before : ℕ) (e : Event) (es : List Event) → ValidEvent nodes links before e es
      → events_refusal nodes links e.probability (length es) (event_bytes es) ≡ 0
      → events_refusal nodes links before (suc (length es)) (event_bytes (e ∷ es)) ≡ 0
  unfolding events_refusal first
  first-event before e es v rest =
      rw (
        event-accepted e es v.probable v.within v.inside before v.ordered,
        probability-back e es v.probable v.within v.inside,
        rest_back e es v.probable v.within v.inside,
        rest,
      )

  first-listed : (before : ℕ) (e : Event) (es : List Event) → ValidEvent nodes links before e es
      → events_at (length es) (event_bytes es) ≡ es → events_at (suc (length es)) (event_bytes (e ∷ es)) ≡ e ∷ es
  unfolding events_at
  first-listed before e es v rest =
      rw (event-back e es v.probable v.within v.inside, rest_back e es v.probable v.within v.inside, rest)

  -- the bytes of a valid list of events are accepted, and stand for the list
  pub events-accepted : (before : ℕ) (es : List Event) → event_list_refusal nodes links before es ≡ 0
      → (events_refusal nodes links before (length es) (event_bytes es) ≡ 0) × (events_at (length es) (event_bytes es) ≡ es)
  events-accepted before [] h = (unfold events_refusal event_bytes in refl, unfold events_at in refl)
  events-accepted before (e ∷ es) h =
      let v = list-none nodes links before e es h in
      let rest = events-accepted e.probability es v.later in
      (first-event before e es v rest.0, first-listed before e es v rest.1)

  -- ---- from bytes to records

  -- an accepted event's record is valid, and its bytes are those that were read
  pub record ReadEvent (before : ℕ) (b : List ℕ) : Type 0 where
    pub size : event_size b ≤ length b
    pub within : set_of 0 (members_in b) (drop 5 b) < 2 ^ nodes
    pub inside : set_of 1 (members_in b) (drop 5 b) < 2 ^ links
    pub counted : member_count (event_in b) ≡ members_in b
    pub bytes : members (event_in b) ≡ take (2 * members_in b) (drop 5 b)

  pub event-read : (before : ℕ) (b : List ℕ) → AcceptedEvent nodes links before b → ReadEvent before b
  event-read before b a =
      let m = sets-read nodes links few some (members_in b) (drop 5 b) a.inside in
      record {
        size = omega (arith, m.long, length-drop 5 b, a.long);
        within = m.within;
        inside = m.inside;
        counted = m.counted (probability_in b);
        bytes = m.bytes (probability_in b);
      }

  pub record ReadEvents (before count : ℕ) (b : List ℕ) : Type 0 where
    pub valid : event_list_refusal nodes links before (events_at count b) ≡ 0
    pub bytes : event_bytes (events_at count b) ≡ b
    pub counted : length (events_at count b) ≡ count

  no-event : (before : ℕ) (b : List ℕ) → events_refusal nodes links before 0 b ≡ 0 → ReadEvents before 0 b
  unfolding events_refusal events_at event_bytes event_list_refusal
  no-event before [] h = record { valid = refl; bytes = refl; counted = refl }
  no-event before (x ∷ b) h = absurd (more (left-none (suc (length b)) h))
    where
      more : suc (length b) ≡ 0 → ⊥
      more z = omega arith

  one-event : (before count : ℕ) (b : List ℕ) → Bytes b → AcceptedEvent nodes links before b
      → ReadEvents (probability_in b) count (drop (event_size b) b) → ReadEvents before (suc count) b
  unfolding events_at event_bytes
  one-event before count b bytes a rest =
      let r = event-read before b a in
      record {
        valid =
            list-pass nodes links before (event_in b) (events_at count (drop (event_size b) b))
            (record {
              probable = a.probable;
              ordered = a.ordered;
              within = r.within;
              inside = r.inside;
              later = rest.valid;
            });
        bytes =
            rw (rest.bytes, r.counted, r.bytes, little-again 4 b bytes (omega (arith, a.long)))
            (parts_again b (2 * members_in b) a.long);
        counted = ap suc rest.counted;
      }

  -- accepted bytes of events stand for a valid list, whose bytes they are
  pub events-read : (before count : ℕ) (b : List ℕ) → Bytes b → events_refusal nodes links before count b ≡ 0
      → ReadEvents before count b
  events-read before zero b bytes h = no-event before b h
  events-read before (suc count) b bytes h =
      let t = events-none nodes links before count b h in
      one-event before count b bytes (event-none nodes links before b t.0)
      (events-read (probability_in b) count (drop (event_size b) b) (bytes_drop (event_size b) b bytes) t.1)
