-- A run on a plan that was read into records is the run on the file's plan.
-- Assumes nothing.
use Rattle.std.specs.Prelude.{Result}
use mathlib.Core.Path.{◌≡◌, sym, ap, subst, ◌∙◌}
use mathlib.Core.List.{List}
use Prim.Native.Nat.{ℕ}
use lib.ListN.{length}
use Rattle.mass.specs.Refusal.{first}
use Rattle.mass.specs.declared.refusal.Refusal.{Refusal}
use Rattle.mass.proofs.RefusalLaws.{stops}
use Rattle.plan.specs.Plan.{Plan}
use Rattle.plan.specs.Layout.{Bytes}
use Rattle.plan.specs.Lists.{link_bytes}
use Rattle.plan.specs.File.{refusal, plan_of}
use Rattle.plan.specs.Calls.{filled, header_of, read_number}
use Rattle.plan.specs.declared.Header.{Header}
use Rattle.bounds.specs.Calls.{run_number}
use Rattle.bounds.specs.declared.Totals.{Totals}
use Rattle.record_lists.specs.Events.{in_records}
use Rattle.record_reading.specs.Filled.{event_records, filled_records}
use Rattle.record_lists.specs.declared.Event.{Event}
use Rattle.plan_reading.proofs.ReaderLawsAnswer.{full-rooms}
use Rattle.record_reading.proofs.WholeLists.{no-links, no-events, read-links, read-events, same-plan, lists-pass}
use Rattle.record_runs.specs.Running.{file_number}
use Rattle.record_runs.proofs.RunLaws.{Promised, Outcome}

module _ (b : List ℕ) (bytes : Bytes b) (e : refusal b ≡ 0) where
  -- an accepted file is refused as the run refuses the lists that were read from it: for the two rooms alone
  pub same_number : (lo up : List ℕ) → run_number (in_records (header_of b) (read-links b) (read-events b)) (length lo) (length up) ≡ file_number b (length lo) (length up)
  unfolding run_number file_number first header_of
  same_number lo up = rw (lists-pass b bytes e, e)

  ran-file : (lo up : List ℕ) (t : Result Totals Refusal) (lo' up' : List ℕ) → Outcome (in_records (header_of b) (read-links b) (read-events b)) lo up t lo' up' → Promised (file_number b (length lo) (length up)) (plan_of b) lo up t lo' up'
  ran-file lo up t lo' up' =
      let z = same_number lo up in
      let q = same-plan b bytes e in
      subst (λ (x : ℕ × Plan). Promised x.0 x.1 lo up t lo' up') (λ i. (z i, q i))

-- a run on a file that is accepted: h is the header that the reader gives, with what it leaves in the lists, and t what the run answers
pub ran-plan : (b : List ℕ) → Bytes b → (h : Header) (links : List ℕ) (records : List Event) (lo up lo' up' : List ℕ) (t : Result Totals Refusal)
    → 0 ≡ read_number 256 128 b
    → h ≡ header_of b
    → links ≡ filled (read_number 256 128 b) (link_bytes (plan_of b).links) no-links
    → records ≡ filled_records (read_number 256 128 b) (event_records (plan_of b).events) no-events
    → Outcome (in_records h links records) lo up t lo' up'
    → Promised (file_number b (length lo) (length up)) (plan_of b) lo up t lo' up'
ran-plan b bytes h ks vs lo up lo' up' t z eh el ev o =
    let l = el ∙ ap (λ (n : ℕ). filled n (link_bytes (plan_of b).links) no-links) (sym z) in
    let v = ev ∙ ap (λ (n : ℕ). filled_records n (event_records (plan_of b).events) no-events) (sym z) in
    ran-file b bytes (sym (full-rooms b) ∙ sym z) lo up t lo' up'
    (subst (λ (x : Header × (List ℕ × List Event)). Outcome (in_records x.0 x.1.0 x.1.1) lo up t lo' up') (λ i. (eh i, (l i, v i))) o)

-- what closes the goals of a reading that is refused: its number decides, and with room for every link and event it is the file's
pub ruleset file_refused = (stops, full-rooms)
