-- `thresholds::blocks::raise_blocks` meets its contract: the loop has raised the first `i` blocks. Assumes nothing.
use Rattle.thresholds.specs.Steps.{Raised}
use Rattle.thresholds.proofs.blocks.raise_blocks.Given as goal

abbrev pub invariant-loop-i : goal.invariant-loop-i
invariant-loop-i l = Raised l.pairs l.i l.masses l.lower l.initial.upper l.upper
