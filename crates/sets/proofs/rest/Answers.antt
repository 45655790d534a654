-- `sets::rest` meets its contract. Assumes nothing.
use Rattle.sets.proofs.LowestLaws.{lowest-rest}
use Rattle.sets.proofs.rest.Goals as goal

pub returns-clause-others : goal.returns-clause-others
returns-clause-others c = λ j. lowest-rest 64 c.args.set j c.ranges.set.fits c.requires
