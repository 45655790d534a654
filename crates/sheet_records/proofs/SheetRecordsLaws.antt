-- Laws of a sheet that is read into records: how many events it hands over, the records that its words give, and the words of its records,
-- handed over to a lent list.
-- Assumes nothing.
use mathlib.Core.Path.{◌≡◌, refl, sym, ◌∙◌, ap}
use mathlib.Core.List.{List, [], ◌∷◌, ◌++◌, append_assoc}
use Prim.Native.Nat.{ℕ, zero, suc, ◌+◌, ◌*◌, ◌≤◌}
use native.Mathlib.Omega.{arith}
use lib.ListN.{length, take, drop}
use lib.Seq.{sets, sets-eq, take_at, take_all, length-sets}
use Rattle.mass.specs.Refusal.{first, number}
use Rattle.mass.specs.declared.refusal.Refusal.{Refusal}
use Rattle.mass.proofs.RefusalLaws.{stops, passes, last, number-some}
use Rattle.refusals.specs.Tests.{room_test}
use Rattle.refusals.proofs.TestLaws.{room-pass}
use Rattle.plan.specs.Plan as plan
use Rattle.plan.specs.Calls.{filled}
use Rattle.plan.proofs.FilledLaws.{filled_none}
use Rattle.record_lists.specs.Events.{words_of, records_of}
use Rattle.record_lists.specs.declared.Event.{Event}
use Rattle.record_lists.proofs.EventLaws.{length-words, words_append}
use Rattle.record_reading.specs.Filled.{filled_records}
use Rattle.record_reading.proofs.ReadLaws.{words-event-records, records-filled}
use Rattle.record_reading.proofs.WholeLists.{no-events, length-records-of}
use Rattle.sheets.specs.Sheet.{sheet_events}
use Rattle.sheets.specs.SheetFile.{lines_in, sheet_of, sheet_refusal}
use Rattle.sheets.specs.SheetCalls.{counts_of, read_sheet_refusal, sheet_words}
use Rattle.sheets.specs.declared.Counts.{Counts}
use Rattle.sheets.proofs.CheckLaws.{accepted-counts}
use Rattle.sheets.proofs.ReadLaws.{length-sheet-events, length-sheet-words, counts-bounds}
use Rattle.sheet_records.specs.SheetRecords.{sheet_records}

-- ---- a sheet read into records

module _ (room : ℕ) (b : List ℕ) (c : Counts) (p : c ≡ counts_of b) (e : read_sheet_refusal room b ≡ 0) where
  pub count-bounds : (c.lines ≤ 128) × (c.lines ≤ room)
  count-bounds = let k = counts-bounds room b c p e in (k.1, k.0)

  -- the records laid down from the words that were read
  pub read-list : (words : List ℕ) (list : List Event) → length words ≡ 512
      → sets list 0 (records_of c.lines (filled (read_sheet_refusal room b) (sheet_words b) words))
      ≡ filled_records (read_sheet_refusal room b) (sheet_records b) list
  unfolding counts_of
  read-list words list long =
      records-filled (read_sheet_refusal room b) c.lines (sheet_events (sheet_of b)) words list
      (λ _.
      let n : c.lines ≡ lines_in b = ap (λ (x : Counts). x.lines) p in
      let l = length-sheet-events b in
      (n ∙ sym l, omega (arith, l, n, count-bounds.0)))
      (λ z. absurd (z e))

-- ---- a sheet read into 128 records, and their words handed over

-- with room for 128 events, a reading refuses what the check refuses
pub full_room : (b : List ℕ) → read_sheet_refusal 128 b ≡ sheet_refusal b
unfolding read_sheet_refusal first
full_room b = go (sheet_refusal b) refl
  where
    go : (n : ℕ) → sheet_refusal b ≡ n → first (n ∷ room_test 128 (lines_in b) ∷ []) ≡ n
    go zero e = rw (room-pass 128 (lines_in b) (accepted-counts b e).2)
    go (suc n) e = refl

-- what the check refuses, every reading refuses
pub refused_alike : (room : ℕ) (b : List ℕ) (r : Refusal) → number r ≡ sheet_refusal b → read_sheet_refusal room b ≡ number r
unfolding read_sheet_refusal
refused_alike room b r e = sym (stops r _ e)

-- and hands nothing over
pub left_alone : (room : ℕ) (b : List ℕ) (r : Refusal) (words list : List ℕ) → number r ≡ sheet_refusal b
    → filled (read_sheet_refusal room b) words list ≡ list
left_alone room b r words list e =
    sym (filled_none (read_sheet_refusal room b) words list (λ z. number-some r (sym (refused_alike room b r e) ∙ z)))

-- what closes the goals of a reading whose sheet is refused
pub ruleset sheet_refused = (full_room, refused_alike, left_alone)

pub accepted : (b : List ℕ) → 0 ≡ read_sheet_refusal 128 b → sheet_refusal b ≡ 0
accepted b e = sym (e ∙ full_room b)

-- an accepted sheet is refused with 12 alone
pub room-decides : (room : ℕ) (b : List ℕ) (c : Counts) → c ≡ counts_of b → 0 ≡ read_sheet_refusal 128 b → room_test room c.lines ≡ read_sheet_refusal room b
unfolding read_sheet_refusal counts_of
room-decides room b c p e = rw p (passes _ (e ∙ full_room b) (last refl))

-- the words of the events, out of the array in which the words of the records were laid down
module _ (b : List ℕ) (e : sheet_refusal b ≡ 0) (words : List ℕ) (long : length words ≡ 512) where
  abbrev es : List plan.Event
  es = sheet_events (sheet_of b)

  -- the records, and what stands after those of the sheet
  abbrev all : List Event
  all = sets no-events 0 (sheet_records b)

  abbrev rest : List Event
  rest = drop (0 + length (sheet_records b)) no-events

  all-long : length all ≡ 128
  all-long = length-sets no-events 0 (sheet_records b)

  records-are : take 128 all ≡ sheet_records b ++ rest
  records-are =
      take_all 128 all (omega (arith, all-long))
      ∙ sets-eq (sheet_records b) no-events 0 (omega (arith, length-records-of es, length-sheet-events b, (accepted-counts b e).2))

  words_are : words_of (take 128 all) ≡ sheet_words b ++ words_of rest
  words_are =
      ap words_of records-are
      ∙ words_append (sheet_records b) rest
      ∙ ap (λ (ws : List ℕ). ws ++ words_of rest) (words-event-records es)

  words-fit : 0 + length (words_of (take 128 all)) ≤ length words
  words-fit = omega (arith, length-words (take 128 all), ap length (take_all 128 all (omega (arith, all-long))), all-long)

  flat-words : take (4 * lines_in b) (sets words 0 (words_of (take 128 all))) ≡ sheet_words b
  flat-words =
      rw (sets-eq (words_of (take 128 all)) words 0 words-fit, words_are, append_assoc)
      (take_at (sheet_words b) _ (4 * lines_in b) (length-sheet-words b))

-- `list`, `flat` and `left` are what is left in the records, in the array of words and in the lent list
pub handed-over : (room : ℕ) (b : List ℕ) (c : Counts) → c ≡ counts_of b → 0 ≡ read_sheet_refusal 128 b → (list : List Event) (words flat out left : List ℕ)
    → length words ≡ 512
    → list ≡ filled_records (read_sheet_refusal 128 b) (sheet_records b) no-events
    → flat ≡ sets words 0 (words_of (take 128 list))
    → left ≡ filled (room_test room c.lines) (take (4 * c.lines) flat) out
    → left ≡ filled (read_sheet_refusal room b) (sheet_words b) out
unfolding counts_of
handed-over room b c p e list words flat out left long el ef eo = eo ∙ (λ i. filled (room-decides room b c p e i) (w i) out)
  where
    count : c ≡ counts_of b → c.lines ≡ lines_in b
    count q = ap (λ (x : Counts). x.lines) q

    w : take (4 * c.lines) flat ≡ sheet_words b
    w =
        (λ i. take (4 * count p i) ((ef ∙ ap (λ (l : List Event). sets words 0 (words_of (take 128 l))) (el ∙ ap (λ (n : ℕ). filled_records n (sheet_records b) no-events) (sym e))) i))
        ∙ flat-words b (accepted b e) words long
