-- `host_thresholds::give_place` meets its contract: one number after the other. Assumes nothing.
use mathlib.Core.Path.{◌∙◌}
use Rattle.host_thresholds.proofs.PlaceLaws.{three-put}
use Rattle.host_thresholds.proofs.give_place.Goals as goal

pub returns : goal.returns
returns c =
    let a = c.args in
    rw c.put.ensures at (rw c.put-2.ensures at c.put-3.ensures) ∙ three-put a.list.now a.at a.a a.b a.c
