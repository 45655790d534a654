use Prim.Native.Nat.{◌<◌, ◌+◌, ◌*◌}
use mathlib.Core.Path.{refl}
use native.Mathlib.Omega.{arith}
use borrow.Author.Rules.{rules}
use lib.ListN.{length}
use Rattle.trials_vectors.proofs.DataLaws.{link-more}
use Rattle.trials_vectors.proofs.data.many_links.Goals as goal

pub loop-i-preserved : goal.loop-i-preserved
loop-i-preserved c =
    let b = c.loop-i in
    let room : 2 * b.i + 1 < length b.links = omega (arith, b.invariant.0, c.loop-i-test.true) in
    (search rules, link-more b.links b.i _ _ room refl refl b.invariant.1)
