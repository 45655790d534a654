-- `plan_reading::reader::read_core` meets its contract: an accepted plan is laid down. Assumes nothing.
use mathlib.Core.List.{List}
use mathlib.Core.Path.{◌≡◌, sym, ◌∙◌, ap}
use Prim.Native.Nat.{ℕ, ◌+◌, ◌*◌, ◌≤◌}
use native.Mathlib.Omega.{arith}
use lib.ListN.{length, drop}
use lib.Seq.{sets}
use Rattle.plan.specs.Lists.{links_of, link_bytes, event_words}
use Rattle.plan.specs.File.{events_at, plan_of}
use Rattle.plan.specs.Calls.{header_of, read_number}
use Rattle.plan.specs.declared.Header.{Header}
use Rattle.plan.proofs.FileLawsAccepted.{plan-fits, accepted-events, accepted-there, accepted-counts}
use Rattle.plan.proofs.FilledLaws.{filled-all}
use Rattle.plan_reading.proofs.ReaderLawsAnswer.{read-accepted}
use Rattle.plan_reading.proofs.reader.read_core.Goals as goal

pub header_of-header-requires : goal.header_of-header-requires
header_of-header-requires c = plan-fits _ (read-accepted _ _ _ (sym c.in_ok-read_test.ensures))

pub fill_links-requires : goal.fill_links-requires
unfolding header_of
fill_links-requires c =
    let e = read-accepted _ _ _ (sym c.in_ok-read_test.ensures) in rw c.header_of-header.ensures ((accepted-counts _ e).1, omega (arith, accepted-there _ e))

links-there : (link_room event_room : ℕ) (b : List ℕ) (h : Header) → h ≡ header_of b → 0 ≡ read_number link_room event_room b → 20 + 2 * h.links ≤ length b
unfolding header_of
links-there link_room event_room b h p e = rw p (accepted-there b (read-accepted link_room event_room b (sym e)))

pub overflow_mul-count : goal.overflow_mul-count
overflow_mul-count c = omega (arith, links-there _ _ _ _ c.header_of-header.ensures c.in_ok-read_test.ensures)

pub overflow_add-count : goal.overflow_add-count
overflow_add-count c = omega (arith, links-there _ _ _ _ c.header_of-header.ensures c.in_ok-read_test.ensures)

pub fill_events-requires : goal.fill_events-requires
unfolding header_of
fill_events-requires c =
    let e = read-accepted _ _ _ (sym c.in_ok-read_test.ensures) in rw c.header_of-header.ensures (record {
      nodes_bound = accepted-counts _ e;
      s_value = accepted-events _ e;
    })

pub returns-clause-links : goal.returns-clause-links
unfolding header_of plan_of
returns-clause-links c =
    let a = c.args in
    c.fill_links.ensures
    ∙ ap (λ (x : Header). sets a.links.now 0 (link_bytes (links_of x.links (drop 20 a.s.now)))) c.header_of-header.ensures
    ∙ filled-all (read_number a.link_room a.event_room a.s.now) _ a.links.now (sym c.in_ok-read_test.ensures)

pub returns-clause-words : goal.returns-clause-words
unfolding header_of plan_of
returns-clause-words c =
    let a = c.args in
    c.fill_events.ensures
    ∙ ap (λ (x : Header). sets a.words.now 0 (event_words (events_at x.events (drop (20 + 2 * x.links) a.s.now)))) c.header_of-header.ensures
    ∙ filled-all (read_number a.link_room a.event_room a.s.now) _ a.words.now (sym c.in_ok-read_test.ensures)
