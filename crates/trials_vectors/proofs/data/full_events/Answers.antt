use mathlib.Core.Path.{refl}
use Prim.Native.Nat.{◌<◌, ◌*◌}
use native.Mathlib.Omega.{arith}
use borrow.Author.Rules.{rules}
use lib.ListN.{length, get_or-replicate}
use Rattle.trials_vectors.proofs.DataLaws.{probability-more, sets-stay}
use Rattle.trials_vectors.proofs.data.full_events.Goals as goal

pub loop-i-init : goal.loop-i-init
loop-i-init c = (refl, λ k h. absurd (omega arith), λ j h n. get_or-replicate 512 j 18446744073709551615 0 h)

pub loop-i-preserved : goal.loop-i-preserved
loop-i-preserved c =
    let b = c.loop-i in
    let room : 4 * b.i < length b.words = omega (arith, b.invariant.0, c.loop-i-test.true) in (
      search rules,
      probability-more b.words b.i _ 18446744073709551615 room b.invariant.1,
      sets-stay b.words b.i _ _ room b.invariant.2,
    )
