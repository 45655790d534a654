-- `walk_words::parts::widen` meets its contract: the loop has laid down the bytes before `i`. Assumes nothing.
use mathlib.Core.Path.{ap, ◌∙◌}
use Prim.Native.Nat.{◌+◌}
use lib.ListN.{set}
use Rattle.walk_words.proofs.PartLaws.{copy-next}
use Rattle.walk_words.proofs.parts.widen.Goals as goal

pub loop-i-preserved : goal.loop-i-preserved
loop-i-preserved c =
    let a = c.args in
    ap (set c.loop-i.to (a.at + c.loop-i.i)) c.from.ensures ∙ copy-next a.from.now a.to.now _ _ _ c.loop-i.invariant c.loop-i-test.true
