-- A plan that was read into records and is written again is the file that was read.
-- Assumes nothing.
use Rattle.std.specs.Prelude.{Result, IfOk}
use mathlib.Core.Path.{◌≡◌, sym, ◌∙◌, ap, subst}
use mathlib.Core.List.{List}
use Prim.Native.Nat.{ℕ}
use lib.ListN.{length}
use Rattle.mass.specs.Refusal.{first, number_in}
use Rattle.mass.specs.declared.refusal.Refusal.{Refusal}
use Rattle.plan.specs.Lists.{link_bytes}
use Rattle.plan.specs.Layout.{layout, Bytes}
use Rattle.plan.specs.File.{refusal, plan_of}
use Rattle.plan.specs.LentLists.{plan_of_lists}
use Rattle.plan.specs.Calls.{filled, header_of, read_number, write_number}
use Rattle.plan.specs.declared.Header.{Header}
use Rattle.plan_layout.proofs.Theorems.{read-writes-again}
use Rattle.plan_writing.proofs.WriterAnswer.{Outcome}
use Rattle.record_lists.specs.Events.{words_of, in_records}
use Rattle.record_lists.specs.declared.Event.{Event}
use Rattle.record_reading.specs.Filled.{event_records, filled_records}
use Rattle.plan_reading.proofs.ReaderLawsAnswer.{full-rooms}
use Rattle.record_reading.proofs.WholeLists.{no-links, no-events, read-links, read-events, same-plan, lists-pass}
use Rattle.record_runs.specs.Copying.{copy_number}

-- an answer of a copy, with what it leaves in the output
abbrev pub Copied : List ℕ → List ℕ → List ℕ → Result ℕ Refusal → Type 0
Copied b out left t =
    (number_in t ≡ copy_number b (length out)) × (IfOk t (λ n. n ≡ length b) × (left ≡ filled (number_in t) b out))

module _ (b : List ℕ) (bytes : Bytes b) (e : refusal b ≡ 0) where
  same-file : layout (plan_of_lists (header_of b) (read-links b) (words_of (read-events b))) ≡ b
  same-file = ap layout (same-plan b bytes e) ∙ (read-writes-again b bytes e).1

  copied-file : (out left : List ℕ) (t : Result ℕ Refusal) → Outcome (in_records (header_of b) (read-links b) (read-events b)) out left t → Copied b out left t
  unfolding write_number copy_number first
  copied-file out left t o =
      let q = same-file in
      let z : write_number (in_records (header_of b) (read-links b) (read-events b)) (length out) ≡ copy_number b (length out)
      = rw (lists-pass b bytes e, e, ap length q) in
      (o.0 ∙ z, (subst (λ (x : List ℕ). IfOk t (λ n. n ≡ length x)) q o.1.0, o.1.1 ∙ (λ i. filled (number_in t) (q i) out)))

-- a copy of a file that is accepted: h is the header that the reader gives, with what it leaves in the lists, and t what the writer answers
pub copied-plan : (b : List ℕ) → Bytes b → (h : Header) (links : List ℕ) (records : List Event) (out left : List ℕ) (t : Result ℕ Refusal)
    → 0 ≡ read_number 256 128 b
    → h ≡ header_of b
    → links ≡ filled (read_number 256 128 b) (link_bytes (plan_of b).links) no-links
    → records ≡ filled_records (read_number 256 128 b) (event_records (plan_of b).events) no-events
    → Outcome (in_records h links records) out left t
    → Copied b out left t
copied-plan b bytes h ks vs out left t z eh el ev o =
    let l = el ∙ ap (λ (n : ℕ). filled n (link_bytes (plan_of b).links) no-links) (sym z) in
    let v = ev ∙ ap (λ (n : ℕ). filled_records n (event_records (plan_of b).events) no-events) (sym z) in
    copied-file b bytes (sym (full-rooms b) ∙ sym z) out left t
    (subst (λ (x : Header × (List ℕ × List Event)). Outcome (in_records x.0 x.1.0 x.1.1) out left t) (λ i. (eh i, (l i, v i))) o)
