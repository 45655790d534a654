-- A plan that is read into two lists with room for every plan, one of bytes and one of records: the lists denote the plan, and they pass the tests of
-- lent lists. For the callers that read into arrays of their own.
-- Assumes nothing.
use mathlib.Core.Path.{◌≡◌, refl, sym, ◌∙◌, ap}
use mathlib.Core.List.{List, [], ◌∷◌, ◌++◌}
use Prim.Native.Nat.{ℕ, suc, ◌+◌, ◌*◌, ◌≤◌}
use native.Mathlib.Omega.{arith}
use lib.ListN.{length, drop, replicate}
use lib.Seq.{sets, sets-eq, length-sets}
use Rattle.plan.specs.Lists.{link_bytes}
use Rattle.plan.specs.Layout.{Bytes}
use Rattle.plan.specs.File.{refusal, plan_of, links_in, events_in}
use Rattle.plan.specs.LentLists.{plan_of_lists, lists_number, plan_refusal}
use Rattle.plan.specs.Calls.{header_of}
use Rattle.plan.proofs.FileLawsAccepted.{accepted-counts}
use Rattle.plan_layout.proofs.Theorems.{lists-accepted, read-denotes, read-writes-again}
use Rattle.plan_reading.proofs.ReaderLawsAnswer.{length-links}
use Rattle.record_lists.specs.Events.{words_of, in_records}
use Rattle.record_reading.specs.Filled.{event_records}
use Rattle.record_lists.specs.declared.Event.{Event}
use Rattle.record_lists.proofs.EventLaws.{length-words, words_append, drop-words}
use Rattle.record_reading.proofs.ReadLaws.{words-event-records, length-event-words, length-events}

-- a record of zeros
abbrev pub no-event : Event
no-event = record { probability = 0; nodes = 0; links_low = 0; links_high = 0 }

-- the lists before the reading
abbrev pub no-links : List ℕ
no-links = replicate 256 0

abbrev pub no-events : List Event
no-events = replicate 128 no-event

-- the words of a list of records whose start was laid down
words-sets : (es news : List Event) → length news ≤ length es → words_of (sets es 0 news) ≡ sets (words_of es) 0 (words_of news)
words-sets es news h =
    let n = length-words news in
    let m = length-words es in
    let k : 4 * (0 + length news) ≡ 0 + length (words_of news) = omega (arith, n) in
    ap words_of (sets-eq news es 0 (omega arith))
    ∙ words_append news (drop (0 + length news) es)
    ∙ ap (λ (ws : List ℕ). words_of news ++ ws) (sym (drop-words (0 + length news) es) ∙ ap (λ (j : ℕ). drop j (words_of es)) k)
    ∙ sym (sets-eq (words_of news) (words_of es) 0 (omega (arith, n, m)))

pub length-records-of : (es : List _) → length (event_records es) ≡ length es
unfolding event_records
length-records-of [] = refl
length-records-of (e ∷ es) = ap suc (length-records-of es)

-- the lists after a reading that is accepted
abbrev pub read-links : List ℕ → List ℕ
read-links b = sets no-links 0 (link_bytes (plan_of b).links)

abbrev pub read-events : List ℕ → List Event
read-events b = sets no-events 0 (event_records (plan_of b).events)

module _ (b : List ℕ) (bytes : Bytes b) (e : refusal b ≡ 0) where
  count-links : length (link_bytes (plan_of b).links) ≡ 2 * links_in b
  unfolding plan_of
  count-links = length-links (links_in b) (drop 20 b)

  count-events : length (plan_of b).events ≡ events_in b
  unfolding plan_of
  count-events = length-events (events_in b) _

  pub same-plan : plan_of_lists (header_of b) (read-links b) (words_of (read-events b)) ≡ plan_of b
  same-plan =
      let c = accepted-counts b e in
      let es = (plan_of b).events in
      ap (plan_of_lists (header_of b) (read-links b))
      (words-sets no-events (event_records es) (omega (arith, length-records-of es, count-events, c.2)) ∙ ap (sets (words_of no-events) 0) (words-event-records es))
      ∙ read-denotes b no-links (words_of no-events) (omega (arith, count-links, c.1)) (omega (arith, length-event-words es, count-events, c.2, length-words no-events))

  pub lists-pass : lists_number (in_records (header_of b) (read-links b) (read-events b)) ≡ 0
  lists-pass =
      lists-accepted (in_records (header_of b) (read-links b) (read-events b))
      (omega (arith, length-sets no-links 0 (link_bytes (plan_of b).links)))
      (omega (arith, length-sets no-events 0 (event_records (plan_of b).events)))
      (ap plan_refusal same-plan ∙ (read-writes-again b bytes e).0)
