-- `bounds::one_pair::pair` meets its contract: the arrays denote the plan of the lists. Assumes nothing.
use Rattle.bounds.proofs.PairOutcome.{bounds-are, pair-enclosed, pair-ordered}
use Rattle.bounds.proofs.one_pair.pair.Goals as goal

pub returns-clause-bounds : goal.returns-clause-bounds
returns-clause-bounds c = bounds-are _ _ _ _ _ _ _ c.in_ok-accept_pair.ensures.accepted.0 _ c.pair_in.ensures

pub returns-clause-demand3 : goal.returns-clause-demand3
returns-clause-demand3 c = pair-enclosed _ _ _ _ _ _ _ c.in_ok-accept_pair.ensures.accepted.0 _ c.pair_in.ensures

pub returns-clause-ordered : goal.returns-clause-ordered
returns-clause-ordered c = pair-ordered _ _ _ _ _ _ _ c.in_ok-accept_pair.ensures.accepted.0 _ c.pair_in.ensures
