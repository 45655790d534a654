-- `walk_state::no_walk` meets its contract. Assumes nothing.
use mathlib.Core.Path.{refl}
use Rattle.walk_state.specs.States.{no_walk}
use Rattle.walk_state.proofs.no_walk.Goals as goal

pub returns : goal.returns
unfolding no_walk
returns c = refl
