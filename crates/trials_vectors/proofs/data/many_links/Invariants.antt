-- `trials_vectors::data::many_links` meets its contract: the first `i` links are laid down. Assumes nothing.
use mathlib.Core.Path.{◌≡◌}
use lib.ListN.{length}
use Rattle.trials_vectors.specs.Data.{LinksUpTo}
use Rattle.trials_vectors.proofs.data.many_links.Given as goal

abbrev pub invariant-loop-i : goal.invariant-loop-i
invariant-loop-i l = (length l.links ≡ 256) × LinksUpTo l.i l.links
