-- `walk_state::sound::entry_mass` meets its contract. Assumes nothing.
use mathlib.Core.Path.{sym}
use native.Mathlib.Omega.{arith}
use Rattle.walk.proofs.StackLaws.{mass-run, mass-branch}
use Rattle.walk_state.proofs.sound.entry_mass.Goals as goal

pub returns-then-depth-gt128 : goal.returns-then-depth-gt128
returns-then-depth-gt128 c = sym (mass-run _ _ (omega arith))

pub returns : goal.returns
returns c = sym (mass-branch _ _ (omega arith))
