-- `credits::credit` meets its contract: the credits are those of the pair's bounds. Assumes nothing.
use Rattle.plan.specs.LentLists.{plan_of_lists}
use Rattle.credits.proofs.CreditPromise.{credits_enclose}
use Rattle.credits.proofs.credit.Goals as goal

pub returns-clause-enclosed : goal.returns-clause-enclosed
unfolding plan_of_lists
returns-clause-enclosed c =
    let b = c.in_ok-bounds.ensures in
    credits_enclose _ _ _ _ _ _ b.accepted.0 b.accepted.1 _ b.bounds _ c.credits_of.ensures
