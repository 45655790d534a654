-- `sets::lowest` meets its contract. Assumes nothing.
use Rattle.sets.proofs.LowestLaws.{lowest-in, lowest-first}
use Rattle.sets.proofs.lowest.Goals as goal

pub returns-clause-found : goal.returns-clause-found
returns-clause-found c = lowest-in 64 c.args.set c.ranges.set.fits c.requires

pub returns-clause-first : goal.returns-clause-first
returns-clause-first c = lowest-first 64 c.args.set
