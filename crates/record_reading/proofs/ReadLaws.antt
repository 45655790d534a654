-- Laws of a plan that is read into a list of records: what the words that were read give.
-- Assumes nothing.
use mathlib.Core.Path.{◌≡◌, refl, sym, ◌∙◌, ap}
use mathlib.Core.List.{List, [], ◌∷◌, ◌++◌}
use Prim.Native.Nat.{ℕ, zero, suc, ◌*◌, ◌/◌, ◌%◌, ◌^◌, ◌≤◌}
use native.Mathlib.Omega.{arith}
use lib.ListN.{length}
use lib.Seq.{sets, sets-eq}
use Rattle.plan.specs.Plan as plan
use Rattle.plan.specs.Lists.{event_words}
use Rattle.plan.specs.File.{plan_of, events_at, events_in}
use Rattle.plan.specs.Calls.{filled, header_of, read_number}
use Rattle.plan.specs.declared.Header.{Header}
use Rattle.plan_reading.proofs.ReaderLawsAnswer.{header-bounds}
use Rattle.record_lists.specs.Events.{words_of, records_of}
use Rattle.record_lists.specs.declared.Event.{Event}
use Rattle.record_reading.specs.Filled.{record_of, event_records, filled_records}

-- a plan's events: their records have their words, and the words of events give their records, whatever follows
pub words-event-records : (es : List plan.Event) → words_of (event_records es) ≡ event_words es
unfolding words_of event_records event_words
words-event-records [] = refl
words-event-records (e ∷ es) = ap (λ (ws : List ℕ). e.probability ∷ e.nodes ∷ e.links % 2 ^ 64 ∷ e.links / 2 ^ 64 ∷ ws) (words-event-records es)

pub records-event-words : (es : List plan.Event) (after : List ℕ) → records_of (length es) (event_words es ++ after) ≡ event_records es
unfolding records_of event_records event_words
records-event-words [] after = refl
records-event-words (e ∷ es) after = ap (λ (fs : List Event). record_of e ∷ fs) (records-event-words es after)

pub length-event-words : (es : List plan.Event) → length (event_words es) ≡ 4 * length es
unfolding event_words
length-event-words [] = refl
length-event-words (e ∷ es) = omega (arith, length-event-words es)

-- ---- records laid down from the words that were read

pub records-filled : (number count : ℕ) (es : List plan.Event) (room : List ℕ) (list : List Event)
    → (number ≡ 0 → (count ≡ length es) × (4 * length es ≤ length room)) → ((number ≡ 0 → ⊥) → count ≡ 0)
    → sets list 0 (records_of count (filled number (event_words es) room)) ≡ filled_records number (event_records es) list
unfolding records_of
records-filled zero count es room list f g =
    let e = f refl in
    let n : length (event_words es) ≤ length room = omega (arith, length-event-words es, e.1) in
    rw (sets-eq (event_words es) room 0 (omega arith), e.0, records-event-words es _)
records-filled (suc number) count es room list f g = rw (g (λ z. never number z))
  where
    never : (n : ℕ) → suc n ≡ 0 → ⊥
    never n z = omega arith

-- a plan has as many events as its count says
pub length-events : (count : ℕ) (b : List ℕ) → length (events_at count b) ≡ count
unfolding events_at
length-events zero b = refl
length-events (suc count) b = ap suc (length-events count _)

-- h is the header of a plan that was read
module _ (link_room event_room : ℕ) (b : List ℕ) (h : Header) (p : h ≡ header_of b) (e : read_number link_room event_room b ≡ 0) where
  pub count-bounds : (h.events ≤ 128) × (h.events ≤ event_room)
  count-bounds = let k = header-bounds link_room event_room b h p e in (k.3, k.1)

  pub read-list : (room : List ℕ) (list : List Event) → length room ≡ 512
      → sets list 0 (records_of h.events (filled (read_number link_room event_room b) (event_words (plan_of b).events) room))
      ≡ filled_records (read_number link_room event_room b) (event_records (plan_of b).events) list
  unfolding plan_of header_of
  read-list room list long =
      records-filled (read_number link_room event_room b) h.events (plan_of b).events room list
      (λ _.
      let n : h.events ≡ events_in b = ap (λ (x : Header). x.events) p in
      let l : length (plan_of b).events ≡ events_in b = length-events (events_in b) _ in
      (n ∙ sym l, omega (arith, l, n, count-bounds.0)))
      (λ z. absurd (z e))
