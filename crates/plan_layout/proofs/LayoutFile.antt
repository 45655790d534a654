-- The whole file: the layout of a valid plan is accepted and stands for the plan; accepted bytes are the layout of the valid plan that they
-- stand for.
-- Assumes nothing.
use mathlib.Core.Path.{◌≡◌, refl, sym, ap, ◌∙◌}
use mathlib.Core.List.{List, [], ◌∷◌, ◌++◌, append_assoc}
use Prim.Native.Nat.{ℕ, zero, suc, ◌+◌, ◌*◌, ◌^◌, ◌<◌, ◌≤◌}
use native.Mathlib.Omega.{arith}
use borrow.Author.Tests.{ltb-false}
use lib.Dec.{ltb}
use lib.ListN.{length, get_or, take, drop, length-drop, take-append-drop}
use lib.Seq.{drop-drop, drop-cons}
use Rattle.mass.specs.Refusal.{first}
use Rattle.mass.proofs.RefusalLaws.{first-none, refuse-none}
use Rattle.mass.specs.Split.{certain, whole}
use Rattle.plan.specs.Plan.{Plan, Link}
use Rattle.refusals.specs.Tests.{mark_test, version_test, counts_test, threshold_test, cap_test, ends_test}
use Rattle.plan.specs.Lists.{links_of, link_bytes}
use Rattle.plan.specs.Layout.{value, little, event_bytes, header_bytes, layout, Bytes}
use Rattle.plan.specs.File.{header_refusal, links_refusal, events_refusal, refusal, plan_of, version_in, nodes_in, links_in, events_in, threshold_in}
use Rattle.plan.specs.File.{cap_in}
use Rattle.plan.specs.LentLists.{link_list_refusal, event_list_refusal, plan_refusal}
use Rattle.refusals.proofs.TestLaws.{short_none, short-pass, mark-none, version-none, counts-none, or-none, Ranges}
use Rattle.plan_layout.proofs.LayoutNumbers.{value-little, bytes_drop, little-again}
use Rattle.plan_layout.proofs.LayoutEvents.{ReadEvents, events-accepted, events-read}

two-more : (count : ℕ) → 2 * suc count ≡ suc (suc (2 * count))
two-more count = omega arith

-- ---- links

pub links-none : (nodes count : ℕ) (b : List ℕ) → links_refusal nodes (suc count) b ≡ 0
    → (2 ≤ length b) × (ends_test nodes (get_or b 0 0) (get_or b 1 0) ≡ 0) × (links_refusal nodes count (drop 2 b) ≡ 0)
unfolding links_refusal
links-none nodes count b e =
    let a = first-none _ _ e in
    let t = first-none _ _ a.1 in
    (short_none (length b) 2 a.0, t.0, (first-none _ _ t.1).0)

pub links-pass : (nodes count : ℕ) (b : List ℕ) → 2 ≤ length b → ends_test nodes (get_or b 0 0) (get_or b 1 0) ≡ 0
    → links_refusal nodes count (drop 2 b) ≡ 0 → links_refusal nodes (suc count) b ≡ 0
unfolding links_refusal first
links-pass nodes count b long ends rest = rw (short-pass (length b) 2 long, ends, rest)

pub link-list-none : (nodes : ℕ) (l : Link) (ls : List Link) → link_list_refusal nodes (l ∷ ls) ≡ 0
    → (ends_test nodes l.low l.high ≡ 0) × (link_list_refusal nodes ls ≡ 0)
unfolding link_list_refusal
link-list-none nodes l ls e = first-none _ _ e

pub link-list-pass : (nodes : ℕ) (l : Link) (ls : List Link) → ends_test nodes l.low l.high ≡ 0 → link_list_refusal nodes ls ≡ 0
    → link_list_refusal nodes (l ∷ ls) ≡ 0
unfolding link_list_refusal first
link-list-pass nodes l ls ends rest = rw (ends, rest)

pub record AcceptedLinks (nodes : ℕ) (ls : List Link) (r : List ℕ) : Type 0 where
  pub accepted : links_refusal nodes (length ls) (link_bytes ls ++ r) ≡ 0
  pub back : links_of (length ls) (link_bytes ls ++ r) ≡ ls
  pub rest : drop (2 * length ls) (link_bytes ls ++ r) ≡ r

pub links-accepted : (nodes : ℕ) (ls : List Link) (r : List ℕ) → link_list_refusal nodes ls ≡ 0 → AcceptedLinks nodes ls r
unfolding link_bytes links_of links_refusal
links-accepted nodes [] r h = record { accepted = refl; back = refl; rest = refl }
links-accepted nodes (l ∷ ls) r h =
    let t = link-list-none nodes l ls h in
    let a = links-accepted nodes ls r t.1 in
    record {
      accepted = links-pass nodes (length ls) (link_bytes (l ∷ ls) ++ r) (omega arith) t.0 a.accepted;
      back = rw a.back;
      rest = rw two-more a.rest;
    }

pub record ReadLinks (nodes count : ℕ) (b : List ℕ) : Type 0 where
  pub long : 2 * count ≤ length b
  pub valid : link_list_refusal nodes (links_of count b) ≡ 0
  pub bytes : link_bytes (links_of count b) ≡ take (2 * count) b
  pub counted : length (links_of count b) ≡ count

one_link : (nodes count x y : ℕ) (b : List ℕ) → ends_test nodes x y ≡ 0 → ReadLinks nodes count b → ReadLinks nodes (suc count) (x ∷ y ∷ b)
unfolding link_bytes links_of
one_link nodes count x y b ends r =
    record {
      long = omega (arith, r.long);
      valid = link-list-pass nodes (record { low = x; high = y }) (links_of count b) ends r.valid;
      bytes = rw (two-more, r.bytes);
      counted = ap suc r.counted;
    }

pub links-read : (nodes count : ℕ) (b : List ℕ) → links_refusal nodes count b ≡ 0 → ReadLinks nodes count b
links-read nodes zero b h = unfold link_bytes links_of link_list_refusal first in record { long = omega arith; valid = refl; bytes = refl; counted = refl }
links-read nodes (suc count) [] h = absurd (never (links-none nodes count [] h).0)
  where
    never : 2 ≤ 0 → ⊥
    never z = omega arith
links-read nodes (suc count) (x ∷ []) h = absurd (never (links-none nodes count (x ∷ []) h).0)
  where
    never : 2 ≤ 1 → ⊥
    never z = omega arith
links-read nodes (suc count) (x ∷ y ∷ b) h =
    let t = links-none nodes count (x ∷ y ∷ b) h in
    one_link nodes count x y b t.1 (links-read nodes count b t.2)

-- ---- the header

-- the fields of a file of at least 20 bytes, put together again
fields-again : (b : List ℕ) → 20 ≤ length b
    → get_or b 0 0
    ∷ get_or b 1 0
    ∷ get_or b 2 0
    ∷ (take 2 (drop 3 b)
    ++ (get_or b 5 0 ∷ get_or b 6 0 ∷ get_or b 7 0 ∷ (take 8 (drop 8 b) ++ (take 4 (drop 16 b) ++ drop 20 b))))
    ≡ b
fields-again b h =
    rw (
      ← drop-drop 4 16 b,
      take-append-drop 4 (drop 16 b),
      ← drop-drop 8 8 b,
      take-append-drop 8 (drop 8 b),
      ← drop-cons b 7 0 (omega arith),
      ← drop-cons b 6 0 (omega arith),
      ← drop-cons b 5 0 (omega arith),
      ← drop-drop 2 3 b,
      take-append-drop 2 (drop 3 b),
      ← drop-cons b 2 0 (omega arith),
      ← drop-cons b 1 0 (omega arith),
      ← drop-cons b 0 0 (omega arith),
    )

threshold-fits : (t : ℕ) → threshold_test t ≡ 0 → t < 256 ^ 8
threshold-fits t e = let h : t ≤ whole = ltb-false whole t (or-none (ltb t 1) (ltb whole t) (refuse-none _ 4 e)).1 in omega arith

cap-fits : (c : ℕ) → cap_test c ≡ 0 → c < 256 ^ 4
cap-fits c e = let h : c ≤ 1000000 = ltb-false 1000000 c (or-none (ltb c 1) (ltb 1000000 c) (refuse-none _ 5 e)).1 in omega arith

-- what a valid plan says
pub record ValidPlan (p : Plan) : Type 0 where
  pub counts : counts_test p.nodes (length p.links) (length p.events) ≡ 0
  pub threshold : threshold_test p.threshold ≡ 0
  pub cap : cap_test p.cap ≡ 0
  pub links : link_list_refusal p.nodes p.links ≡ 0
  pub events : event_list_refusal p.nodes (length p.links) certain p.events ≡ 0

pub valid-none : (p : Plan) → plan_refusal p ≡ 0 → ValidPlan p
unfolding plan_refusal
valid-none p e =
    let c = first-none _ _ e in
    let t = first-none _ _ c.1 in
    let m = first-none _ _ t.1 in
    let l = first-none _ _ m.1 in
    record { counts = c.0; threshold = t.0; cap = m.0; links = l.0; events = (first-none _ _ l.1).0 }

pub valid-pass : (p : Plan) → ValidPlan p → plan_refusal p ≡ 0
unfolding plan_refusal first
valid-pass p v = rw (v.counts, v.threshold, v.cap, v.links, v.events)

-- what an accepted header says
pub record AcceptedHeader (b : List ℕ) : Type 0 where
  pub long : 20 ≤ length b
  pub mark : mark_test 82 83 71 (get_or b 0 0) (get_or b 1 0) (get_or b 2 0) ≡ 0
  pub version : version_test (version_in b) ≡ 0
  pub counts : counts_test (nodes_in b) (links_in b) (events_in b) ≡ 0
  pub threshold : threshold_test (threshold_in b) ≡ 0
  pub cap : cap_test (cap_in b) ≡ 0

pub header-none : (b : List ℕ) → header_refusal b ≡ 0 → AcceptedHeader b
unfolding header_refusal
header-none b e =
    let s = first-none _ _ e in
    let m = first-none _ _ s.1 in
    let v = first-none _ _ m.1 in
    let c = first-none _ _ v.1 in
    let t = first-none _ _ c.1 in
    record {
      long = short_none (length b) 20 s.0;
      mark = m.0;
      version = v.0;
      counts = c.0;
      threshold = t.0;
      cap = (first-none _ _ t.1).0;
    }

pub header-pass : (b : List ℕ) → AcceptedHeader b → header_refusal b ≡ 0
unfolding header_refusal first
header-pass b a = rw (short-pass (length b) 20 a.long, a.mark, a.version, a.counts, a.threshold, a.cap)

-- what an accepted list of bytes says
pub record AcceptedFile (b : List ℕ) : Type 0 where
  pub header : AcceptedHeader b
  pub links : links_refusal (nodes_in b) (links_in b) (drop 20 b) ≡ 0
  pub events : events_refusal (nodes_in b) (links_in b) certain (events_in b) (drop (20 + 2 * links_in b) b) ≡ 0

pub file-none : (b : List ℕ) → refusal b ≡ 0 → AcceptedFile b
unfolding refusal
file-none b e =
    let h = first-none _ _ e in
    let l = first-none _ _ h.1 in
    record { header = header-none b h.0; links = l.0; events = (first-none _ _ l.1).0 }

pub file-pass : (b : List ℕ) → AcceptedFile b → refusal b ≡ 0
unfolding refusal first
file-pass b a = rw (header-pass b a.header, a.links, a.events)

-- ---- from a plan to its bytes

module _ (p : Plan) (v : ValidPlan p) where
  ranges : Ranges p.nodes (length p.links) (length p.events)
  ranges = counts-none p.nodes (length p.links) (length p.events) v.counts

  threshold-back : threshold_in (layout p) ≡ p.threshold
  unfolding layout header_bytes little
  threshold-back = unfold little in (value-little 8 p.threshold (threshold-fits p.threshold v.threshold))

  cap-back : cap_in (layout p) ≡ p.cap
  unfolding layout header_bytes little
  cap-back = unfold little in (value-little 4 p.cap (cap-fits p.cap v.cap))

  after-header : drop 20 (layout p) ≡ link_bytes p.links ++ event_bytes p.events
  unfolding layout header_bytes little
  after-header = refl

  after-links : drop (20 + 2 * length p.links) (layout p) ≡ event_bytes p.events
  after-links =
      sym (drop-drop (2 * length p.links) 20 (layout p))
      ∙ ap (drop (2 * length p.links)) after-header
      ∙ (links-accepted p.nodes p.links (event_bytes p.events) v.links).rest

  -- the layout of a valid plan is accepted
  pub layout-accepted : refusal (layout p) ≡ 0
  unfolding layout header_bytes little
  layout-accepted =
      file-pass (layout p)
      (record {
        header =
            record {
              long = omega arith;
              mark = refl;
              version = unfold value in refl;
              counts = v.counts;
              threshold = rw threshold-back v.threshold;
              cap = rw cap-back v.cap;
            };
        links = (links-accepted p.nodes p.links (event_bytes p.events) v.links).accepted;
        events =
            rw after-links
            (events-accepted p.nodes (length p.links) ranges.nodes-fit ranges.links-fit certain p.events v.events).0;
      })

  nodes-back : nodes_in (layout p) ≡ p.nodes
  unfolding layout header_bytes little
  nodes-back = refl

  links-back : links_in (layout p) ≡ length p.links
  unfolding layout header_bytes little
  links-back = refl

  events-back : events_in (layout p) ≡ length p.events
  unfolding layout header_bytes little
  events-back = refl

  -- and stands for the plan
  pub layout-read : plan_of (layout p) ≡ p
  unfolding plan_of
  layout-read =
      rw (
        nodes-back,
        links-back,
        events-back,
        threshold-back,
        cap-back,
        after-links,
        after-header,
        (links-accepted p.nodes p.links (event_bytes p.events) v.links).back,
        (events-accepted p.nodes (length p.links) ranges.nodes-fit ranges.links-fit certain p.events v.events).1,
      )

-- ---- from bytes to the plan

module _ (b : List ℕ) (bytes : Bytes b) (a : AcceptedFile b) where
  file-ranges : Ranges (nodes_in b) (links_in b) (events_in b)
  file-ranges = counts-none (nodes_in b) (links_in b) (events_in b) a.header.counts

  abbrev link-part : ReadLinks (nodes_in b) (links_in b) (drop 20 b)
  link-part = links-read (nodes_in b) (links_in b) (drop 20 b) a.links

  abbrev event-part : ReadEvents (nodes_in b) (links_in b) file-ranges.nodes-fit file-ranges.links-fit certain (events_in b) (drop (20 + 2 * links_in b) b)
  event-part =
      events-read (nodes_in b) (links_in b) file-ranges.nodes-fit file-ranges.links-fit certain (events_in b)
      (drop (20 + 2 * links_in b) b)
      (bytes_drop (20 + 2 * links_in b) b bytes)
      a.events

  -- the plan that accepted bytes stand for is valid
  pub read-valid : ValidPlan (plan_of b)
  unfolding plan_of
  read-valid =
      record {
        counts = rw (link-part.counted, event-part.counted) a.header.counts;
        threshold = a.header.threshold;
        cap = a.header.cap;
        links = link-part.valid;
        events = rw link-part.counted event-part.valid;
      }

  -- the number in n bytes from a position on, written again
  field : (n at : ℕ) → at + n ≤ length b → little n (value (take n (drop at b))) ≡ take n (drop at b)
  field n at h = little-again n (drop at b) (bytes_drop at b bytes) (omega (arith, length-drop at b))

  head_bytes : header_bytes (plan_of b) ++ drop 20 b ≡ b
  unfolding header_bytes plan_of
  head_bytes =
      let h : 20 ≤ length b = a.header.long in
      let m = mark-none 82 83 71 (get_or b 0 0) (get_or b 1 0) (get_or b 2 0) a.header.mark in
      let two : little 2 1 ≡ take 2 (drop 3 b) = rw (version-none (version_in b) a.header.version) at (field 2 3 (omega arith)) in
      rw (
        append_assoc (little 2 1) _ (drop 20 b),
        append_assoc (little 8 (threshold_in b)) (little 4 (cap_in b)) (drop 20 b),
        link-part.counted,
        event-part.counted,
        two,
        field 8 8 (omega arith),
        field 4 16 (omega arith),
      )
      (rw (m.0, m.1, m.2) at (fields-again b h))

  body_bytes : link_bytes (plan_of b).links ++ event_bytes (plan_of b).events ≡ drop 20 b
  unfolding plan_of
  body_bytes =
      rw (link-part.bytes, event-part.bytes, ← drop-drop (2 * links_in b) 20 b) (take-append-drop (2 * links_in b) (drop 20 b))

  -- and its layout is the bytes
  pub read-layout : layout (plan_of b) ≡ b
  unfolding layout
  read-layout = ap (λ (r : List ℕ). header_bytes (plan_of b) ++ r) body_bytes ∙ head_bytes
