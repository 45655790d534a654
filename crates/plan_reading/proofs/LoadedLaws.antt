-- An accepted file read into the arrays: there is always room, and they denote the file's plan, which meets no refusal.
-- Assumes nothing.
use mathlib.Core.Path.{◌≡◌, sym, ap, subst, ◌∙◌}
use mathlib.Core.List.{List, [], ◌∷◌}
use Prim.Native.Nat.{ℕ, suc, ◌+◌, ◌*◌, ◌<◌}
use native.Mathlib.Omega.{arith}
use lib.ListN.{length, get_or, drop}
use lib.Seq.{sets}
use Rattle.plan.specs.Layout.{Bytes}
use Rattle.plan.specs.Lists.{link_bytes, event_words}
use Rattle.plan.specs.File.{refusal, plan_of, links_in, events_in}
use Rattle.plan.specs.LentLists.{plan_of_lists}
use Rattle.plan.specs.Calls.{filled, header_of, read_number}
use Rattle.plan.proofs.FileLawsAccepted.{accepted-counts}
use Rattle.plan_layout.proofs.LayoutFile.{ValidPlan, file-none, read-valid, valid-pass}
use Rattle.plan_layout.proofs.Theorems.{read-denotes}
use Rattle.plan_reading.proofs.ReaderLawsAnswer.{full-rooms, length-links, length-events}
use Rattle.plan_reading.specs.Loaded.{Loaded}

-- a list whose elements are below 256
pub bytes-each : (b : List ℕ) → ((i : ℕ) → get_or b i 0 < 256) → Bytes b
bytes-each [] h = tt
bytes-each (x ∷ b) h = (h 0, bytes-each b (λ i. h (suc i)))

module _ (b links words : List ℕ) (bytes : Bytes b) (e : refusal b ≡ 0) (l : length links ≡ 256) (w : length words ≡ 512) where
  abbrev link_list : List ℕ
  link_list = sets links 0 (link_bytes (plan_of b).links)

  abbrev word_list : List ℕ
  word_list = sets words 0 (event_words (plan_of b).events)

  denoted : plan_of_lists (header_of b) link_list word_list ≡ plan_of b
  unfolding plan_of
  denoted =
      let k = accepted-counts b e in
      read-denotes b links words
      (omega (arith, length-links (links_in b) (drop 20 b), k.1))
      (omega (arith, length-events (events_in b) (drop (20 + 2 * links_in b) b), k.2))

  pub loaded : Loaded b link_list word_list
  loaded =
      record {
        denoted = denoted;
        valid = valid-pass _ (subst ValidPlan (sym denoted) (read-valid b bytes (file-none b e)));
      }

-- what a reading leaves in the arrays: a file has the same number with room for every plan as by itself
pub left-same : (b new old left : List ℕ) → left ≡ filled (read_number 256 128 b) new old → left ≡ filled (refusal b) new old
left-same b new old left e = e ∙ ap (λ (n : ℕ). filled n new old) (full-rooms b)

pub left-loaded : (b links words left-links left-words : List ℕ)
    → Bytes b → length links ≡ 256 → length words ≡ 512
    → left-links ≡ filled (read_number 256 128 b) (link_bytes (plan_of b).links) links
    → left-words ≡ filled (read_number 256 128 b) (event_words (plan_of b).events) words
    → refusal b ≡ 0 → Loaded b left-links left-words
left-loaded b links words left-links left-words bytes l w e f z =
    let number : read_number 256 128 b ≡ 0 = full-rooms b ∙ z in
    let is : left-links ≡ link_list b links words bytes z l w = rw number at e in
    let are : left-words ≡ word_list b links words bytes z l w = rw number at f in
    rw (is, are) (loaded b links words bytes z l w)
