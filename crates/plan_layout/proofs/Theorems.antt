-- What the definitions of a plan file mean: the theorems that let a reader trust them (document 01, section "Plan file").
-- Assumes nothing.
use mathlib.Core.Path.{◌≡◌, sym, subst}
use mathlib.Core.Logic.{◌↔◌}
use mathlib.Core.List.{List}
use Prim.Native.Nat.{ℕ, ◌+◌, ◌*◌, ◌≤◌}
use native.Mathlib.Omega.{arith}
use lib.ListN.{length, take, drop, length-drop}
use Rattle.mass.specs.Split.{certain}
use Rattle.plan.specs.Plan.{Plan}
use Rattle.plan.specs.Layout.{layout, Bytes}
use Rattle.plan.specs.File.{refusal, plan_of, nodes_in, links_in, events_in, events_at}
use Rattle.plan.specs.LentLists.{Lent, event_list_refusal, plan_refusal, plan_of_lists, plan_lent, lists_number}
use Rattle.mass.specs.Refusal.{first}
use Rattle.refusals.specs.Tests.{counts_test}
use Rattle.refusals.proofs.TestLaws.{counts-none, room-pass}
use Rattle.plan_layout.proofs.LayoutFile.{file-none, valid-none, valid-pass, layout-accepted, layout-read, read-valid, read-layout}
use Rattle.plan_layout.proofs.LayoutPrefix.{file-same}
use lib.Seq.{sets}
use Rattle.mass.proofs.RefusalLaws.{first-none}
use Rattle.plan.specs.Lists.{links_of, events_of, link_bytes, event_words}
use Rattle.plan.specs.Calls.{header_of}
use Rattle.plan_layout.proofs.ListLaws.{length-links-of, length-events-of, links-laid, events-laid, length-events-at}
use Rattle.plan_layout.proofs.Longest.{events-length, full_plan, full-valid, full-long}

-- a list of bytes is accepted exactly where it is the layout of a valid plan
pub accepted-is-layout : (b : List ℕ) → Bytes b → (refusal b ≡ 0) ↔ ((p : Plan) × (plan_refusal p ≡ 0) × (b ≡ layout p))
accepted-is-layout b bytes = (
  λ e. (plan_of b, valid-pass (plan_of b) (read-valid b bytes (file-none b e)), sym (read-layout b bytes (file-none b e))),
  λ w. subst (λ (x : List ℕ). refusal x ≡ 0) (sym w.2) (layout-accepted w.0 (valid-none w.0 w.1)),
)

-- what is written reads back equal
pub written-reads-back : (p : Plan) → plan_refusal p ≡ 0 → (refusal (layout p) ≡ 0) × (plan_of (layout p) ≡ p)
written-reads-back p e = (layout-accepted p (valid-none p e), layout-read p (valid-none p e))

-- a file that was read is written again as the same bytes
pub read-writes-again : (b : List ℕ) → Bytes b → refusal b ≡ 0 → (plan_refusal (plan_of b) ≡ 0) × (layout (plan_of b) ≡ b)
read-writes-again b bytes e =
    (valid-pass (plan_of b) (read-valid b bytes (file-none b e)), read-layout b bytes (file-none b e))

-- no accepted list of bytes is longer than 50,068
pub longest : (b : List ℕ) → refusal b ≡ 0 → length b ≤ 50068
longest b e =
    let a = file-none b e in
    let r = counts-none (nodes_in b) (links_in b) (events_in b) a.header.counts in
    let rest = events-length (nodes_in b) (links_in b) r.nodes-fit r.links-fit certain (events_in b) (drop (20 + 2 * links_in b) b) a.events in
    omega (arith, length-drop (20 + 2 * links_in b) b, r.links-fit, r.events-fit)

-- one of that length is accepted
pub full-accepted : (refusal (layout full_plan) ≡ 0) × (length (layout full_plan) ≡ 50068)
full-accepted = (layout-accepted full_plan (valid-none full_plan full-valid), full-long)

-- the refusal of any list is that of its first 50,070 bytes
pub prefix-decides : (b : List ℕ) → refusal (take 50070 b) ≡ refusal b
prefix-decides b = file-same 50070 b (omega arith)

-- accepted lists denote a valid plan
pub lists-denote : (l : Lent) → lists_number l ≡ 0 → plan_refusal (plan_lent l) ≡ 0
unfolding lists_number plan_of_lists
lists-denote l e =
    let c = first-none _ _ e in
    let t = first-none _ _ c.1 in
    let m = first-none _ _ t.1 in
    let r = first-none _ _ m.1 in
    let s = first-none _ _ r.1 in
    let k = first-none _ _ s.1 in
    valid-pass (plan_lent l)
    (record {
      counts = rw (length-links-of l.header.links l.links, length-events-of l.header.events l.words) c.0;
      threshold = t.0;
      cap = m.0;
      links = k.0;
      events = rw (length-links-of l.header.links l.links) (first-none _ _ k.1).0;
    })

-- where there is room for every plan, the lists of a valid plan are accepted
pub lists-accepted : (l : Lent) → 256 ≤ length l.links → 128 ≤ l.room → plan_refusal (plan_lent l) ≡ 0 → lists_number l ≡ 0
unfolding lists_number plan_of_lists first
lists-accepted l long wide e =
    let h = l.header in
    let v = valid-none (plan_lent l) e in
    let counts : counts_test h.nodes h.links h.events ≡ 0 =
    rw (length-links-of h.links l.links, length-events-of h.events l.words) at v.counts in
    let fit = counts-none h.nodes h.links h.events counts in
    let events : event_list_refusal h.nodes h.links certain (events_of h.events l.words) ≡ 0 =
    rw (length-links-of h.links l.links) at v.events in
    rw (
      counts,
      v.threshold,
      v.cap,
      room-pass (length l.links) (2 * h.links) (omega (arith, fit.links-fit)),
      room-pass l.room h.events (omega (arith, fit.events-fit)),
      v.links,
      events,
    )

-- the lists that a reader filled denote the plan that was read
pub read-denotes : (b links words : List ℕ)
    → length (link_bytes (plan_of b).links) ≤ length links
    → length (event_words (plan_of b).events) ≤ length words
    → plan_of_lists (header_of b) (sets links 0 (link_bytes (plan_of b).links)) (sets words 0 (event_words (plan_of b).events)) ≡ plan_of b
unfolding plan_of_lists header_of plan_of
read-denotes b links words lr wr =
    rw (
      links-laid (links_in b) (links_of (links_in b) (drop 20 b)) links (length-links-of (links_in b) (drop 20 b)) lr,
      events-laid (events_in b) (events_at (events_in b) (drop (20 + 2 * links_in b) b)) words
          (length-events-at (events_in b) (drop (20 + 2 * links_in b) b))
          wr,
    )
