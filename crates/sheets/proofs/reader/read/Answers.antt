-- `sheets::reader::read` meets its contract: the counts say how much is copied. Assumes nothing.
use mathlib.Core.Path.{sym, ◌∙◌, ap}
use mathlib.Core.List.{List}
use Prim.Native.Nat.{ℕ, ◌*◌}
use native.Mathlib.Omega.{arith}
use lib.ListN.{take, replicate}
use lib.Seq.{sets}
use Rattle.plan.proofs.FilledLaws.{filled-all}
use Rattle.sheets.proofs.ReadLaws.{counts-bounds, read-words}
use Rattle.sheets.proofs.reader.read.Goals as goal

pub overflow_mul-counts : goal.overflow_mul-counts
overflow_mul-counts c = omega (arith, counts-bounds _ _ _ c.in_ok-counts.ensures.counts (sym c.in_ok-counts.ensures.number))

pub copy_first-requires : goal.copy_first-requires
copy_first-requires c =
    let b = counts-bounds _ _ _ c.in_ok-counts.ensures.counts (sym c.in_ok-counts.ensures.number) in (omega (arith, b), omega (arith, b))

pub returns-clause-events : goal.returns-clause-events
returns-clause-events c =
    let a = c.args in
    let h = c.in_ok-counts in
    c.copy_first.ensures
    ∙ ap (λ (l : List ℕ). sets a.events.now 0 (take (4 * h.counts.lines) l)) h.ensures.words
    ∙ read-words _ a.s.now h.counts h.ensures.counts (sym h.ensures.number) (replicate 512 0) a.events.now (omega arith)
    ∙ filled-all _ _ a.events.now (sym h.ensures.number)
