-- What the definitions of a sheet mean: the theorems that let a reader trust them (document 02, request U2).
-- Assumes nothing.
use mathlib.Core.Path.{◌≡◌, refl, sym, subst, ◌∙◌}
use mathlib.Core.Logic.{◌↔◌}
use mathlib.Core.List.{List, [], ◌∷◌, map, Perm}
use Prim.Native.Nat.{ℕ, ◌*◌, ◌/◌, ◌^◌, ◌<◌, ◌≤◌}
use native.Mathlib.Omega.{arith}
use borrow.Author.Tests.{le-ltb}
use lib.ListN.{length, length-map}
use lib.Seq.{sets, length-sets}
use Rattle.mass.specs.Refusal.{first}
use Rattle.mass.specs.Split.{certain}
use Rattle.refusals.specs.Tests.{counts_test, threshold_test, cap_test}
use Rattle.refusals.proofs.TestLaws.{counts-pass, room-pass}
use Rattle.sheet_order.specs.Falling.{FallingFrom, AtMost, having}
use Rattle.sheet_order.proofs.OrderLaws.{Every, every-ordered, length-ordered}
use Rattle.sheet_order.proofs.Theorems.{ordered-falling, ordered-rearranged, ordered-stable}
use Rattle.plan.specs.Plan.{Link, Event}
use Rattle.plan.specs.Lists.{links_of, events_of}
use Rattle.plan.specs.Layout.{Bytes}
use Rattle.plan.specs.File.{nodes_in, links_in}
use Rattle.plan.specs.LentLists.{link_list_refusal, event_list_refusal, plan_refusal, in_words, lists_number}
use Rattle.plan.specs.declared.Header.{Header}
use Rattle.plan_layout.proofs.LayoutEvents.{list-pass}
use Rattle.plan_layout.proofs.LayoutFile.{valid-pass}
use Rattle.plan_layout.proofs.ListLaws.{events-laid}
use Rattle.sheets.specs.Sheet.{Line, Sheet, event_of_line, sheet_events}
use Rattle.sheets.specs.Valid.{ValidLines, ValidSheet}
use Rattle.sheets.specs.SheetLayout.{sheet_layout}
use Rattle.sheets.specs.SheetFile.{lines_in, sheet_refusal, sheet_of}
use Rattle.sheets.specs.SheetCalls.{sheet_words}
use Rattle.sheet_order.specs.Inserted.{probability}
use Rattle.sheets.proofs.ReadLaws.{length-sheet-events, length-sheet-words}
use Rattle.sheet_layout.proofs.SheetBytes.{sheet-none, layout-accepted, layout-read, read-valid, read-layout}

-- ---- files

-- a list of bytes is accepted exactly where it is the layout of a valid sheet
pub sheet-accepted-is-layout : (b : List ℕ) → Bytes b → (sheet_refusal b ≡ 0) ↔ ((s : Sheet) × ValidSheet s × (b ≡ sheet_layout s))
sheet-accepted-is-layout b bytes = (
  λ e. (sheet_of b, read-valid b bytes (sheet-none b e), sym (read-layout b bytes (sheet-none b e))),
  λ w. subst (λ (x : List ℕ). sheet_refusal x ≡ 0) (sym w.2) (layout-accepted w.0 w.1),
)

-- what is written reads back equal
pub sheet-written-reads-back : (s : Sheet) → ValidSheet s → (sheet_refusal (sheet_layout s) ≡ 0) × (sheet_of (sheet_layout s) ≡ s)
sheet-written-reads-back s v = (layout-accepted s v, layout-read s v)

-- a file that was read is written again as the same bytes
pub sheet-read-writes-again : (b : List ℕ) → Bytes b → sheet_refusal b ≡ 0 → ValidSheet (sheet_of b) × (sheet_layout (sheet_of b) ≡ b)
sheet-read-writes-again b bytes e = (read-valid b bytes (sheet-none b e), read-layout b bytes (sheet-none b e))

-- ---- events

-- an event is within the counts: its probability is at most 1, and its sets name no other element
abbrev pub Within : ℕ → ℕ → Event → Type 0
Within nodes links e = (e.probability ≤ certain) × (e.nodes < 2 ^ nodes) × (e.links < 2 ^ links)

lines-within : (nodes links : ℕ) (ls : List Line) → ValidLines nodes links ls → Every (Within nodes links) (map event_of_line ls)
lines-within nodes links [] v = tt
lines-within nodes links (l ∷ ls) v = ((v.0.probable, v.0.within, v.0.inside), lines-within nodes links ls v.1)

lines-probable : (nodes links : ℕ) (ls : List Line) → ValidLines nodes links ls → AtMost probability certain (map event_of_line ls)
lines-probable nodes links [] v = tt
lines-probable nodes links (l ∷ ls) v = (v.0.probable, lines-probable nodes links ls v.1)

-- as many events as lines
pub length-events : (s : Sheet) → length (sheet_events s) ≡ length s.lines
unfolding sheet_events
length-events s = length-ordered probability (map event_of_line s.lines) ∙ length-map s.lines event_of_line

-- "in falling probability"
pub events-falling : (s : Sheet) → ValidSheet s → FallingFrom probability certain (sheet_events s)
unfolding sheet_events
events-falling s v =
    ordered-falling probability certain (map event_of_line s.lines) (lines-probable s.nodes s.links s.lines v.each_line)

-- "each line used exactly once"
pub events-rearranged : (s : Sheet) → Perm (map event_of_line s.lines) (sheet_events s)
unfolding sheet_events
events-rearranged s = ordered-rearranged probability (map event_of_line s.lines)

-- "ties in sheet order": the events of one probability stand in the order of their lines
pub events-stable : (q : ℕ) (s : Sheet) → having probability q (sheet_events s) ≡ having probability q (map event_of_line s.lines)
unfolding sheet_events
events-stable q s = ordered-stable probability q (map event_of_line s.lines)

-- every event is within the sheet's counts
pub events-within : (s : Sheet) → ValidSheet s → Every (Within s.nodes s.links) (sheet_events s)
unfolding sheet_events
events-within s v =
    every-ordered probability (Within s.nodes s.links) (map event_of_line s.lines)
    (lines-within s.nodes s.links s.lines v.each_line)

-- ---- plans

-- falling events within the counts are not refused
falling-accepted : (nodes links before : ℕ) (es : List Event) → FallingFrom probability before es → Every (Within nodes links) es
    → event_list_refusal nodes links before es ≡ 0
falling-accepted nodes links before [] f w = unfold event_list_refusal in refl
falling-accepted nodes links before (e ∷ es) f w =
    list-pass nodes links before e es
    (record {
      probable = rw (le-ltb certain e.probability w.0.0);
      ordered = rw (le-ltb before e.probability f.0);
      within = w.0.1;
      inside = w.0.2;
      later = falling-accepted nodes links e.probability es f.1 w.1;
    })

-- a sheet's events meet none of 8, 9, 10 under the sheet's counts
pub events-accepted : (s : Sheet) → ValidSheet s → event_list_refusal s.nodes s.links certain (sheet_events s) ≡ 0
events-accepted s v = falling-accepted s.nodes s.links certain (sheet_events s) (events-falling s v) (events-within s v)

-- a plan of them with good links and a good threshold and cap is accepted
pub plan-accepted : (s : Sheet) → ValidSheet s → (links : List Link) (threshold cap : ℕ)
    → length links ≡ s.links
    → link_list_refusal s.nodes links ≡ 0
    → threshold_test threshold ≡ 0
    → cap_test cap ≡ 0
    → plan_refusal (record { nodes = s.nodes; links = links; events = sheet_events s; threshold = threshold; cap = cap }) ≡ 0
plan-accepted s v links threshold cap count good t c =
    valid-pass (record { nodes = s.nodes; links = links; events = sheet_events s; threshold = threshold; cap = cap })
    (record {
      counts =
          rw (count, length-events s)
          (counts-pass s.nodes s.links (length s.lines) v.some-node v.nodes-fit v.links-fit v.lines_fit);
      threshold = t;
      cap = c;
      links = good;
      events = rw count (events-accepted s v);
    })

-- ---- lent lists

-- the list that a reading of a sheet fills is accepted with any good links under the sheet's counts
pub lists-accepted : (b links words : List ℕ) (h : Header)
    → Bytes b
    → sheet_refusal b ≡ 0
    → 4 * lines_in b ≤ length words
    → h.nodes ≡ nodes_in b
    → h.links ≡ links_in b
    → h.events ≡ lines_in b
    → threshold_test h.threshold ≡ 0
    → cap_test h.cap ≡ 0
    → 2 * h.links ≤ length links
    → link_list_refusal h.nodes (links_of h.links links) ≡ 0
    → lists_number (in_words h links (sets words 0 (sheet_words b))) ≡ 0
unfolding lists_number first sheet_of
lists-accepted b links words h bytes e room n l c t m enough good =
    let v = read-valid b bytes (sheet-none b e) in
    let laid : events_of h.events (sets words 0 (sheet_words b)) ≡ sheet_events (sheet_of b) =
    events-laid h.events (sheet_events (sheet_of b)) words (length-sheet-events b ∙ sym c) (omega (arith, length-sheet-words b)) in
    let long : length (sets words 0 (sheet_words b)) ≡ length words = length-sets words 0 (sheet_words b) in
    let few : h.events ≤ length (sets words 0 (sheet_words b)) / 4 = omega arith in
    let events : event_list_refusal h.nodes h.links certain (sheet_events (sheet_of b)) ≡ 0 = rw (n, l) (events-accepted (sheet_of b) v) in
    let counts : counts_test h.nodes h.links h.events ≡ 0 =
    rw (n, l, c)
    (counts-pass (nodes_in b) (links_in b) (lines_in b) v.some-node v.nodes-fit v.links-fit (sheet-none b e).lines_fit) in
    rw (counts, t, m, room-pass (length links) (2 * h.links) enough, room-pass (length (sets words 0 (sheet_words b)) / 4) h.events few, good, laid, events)
