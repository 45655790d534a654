-- `thresholds::blocks::completes` meets its contract: each flag is that of its room. Assumes nothing.
use borrow.Author.Rules.{rules}
use native.Mathlib.Omega.{arith}
use lib.Dec.{ltb}
use Rattle.sets.specs.Sets.{digit}
use Rattle.thresholds.proofs.BlockLaws.{all_set}
use Rattle.thresholds.proofs.blocks.completes.Goals as goal

pub returns : goal.returns
returns c =
    let m = c.map.ensures.items in
    all_set (λ room. digit (ltb 0 room)) c.args.rooms c.map.result (omega (arith, m.long))
    (λ j h. let k = m.at j 0 0 (omega (arith, m.long)) in let called = k.2 in search rules)
