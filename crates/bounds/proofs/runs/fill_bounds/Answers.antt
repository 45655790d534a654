-- `bounds::runs::fill_bounds` meets its contract. Assumes nothing.
use Rattle.plan_lists.proofs.Accepted.{plan-held}
use Rattle.network.specs.Code.{outage}
use Rattle.bounds.proofs.Zeros.{cleared}
use Rattle.bounds.proofs.Outcome.{may-give, lower-filled, upper-filled}
use Rattle.bounds.proofs.runs.fill_bounds.Goals as goal

pub walk_all-totals-requires : goal.walk_all-totals-requires
walk_all-totals-requires c =
    record {
      words_value = c.requires.words_value;
      cleared = cleared;
    }

pub give_bounds-requires : goal.give_bounds-requires
give_bounds-requires c =
    let a = c.args in
    may-give (outage a.out) a.h a.links.now a.words.now c.requires.words_value (plan-held _ _ _ c.requires.words_value).links-held.nodes-fit _ _ c.walk_all-totals.ensures.value c.walk_all-totals.ensures.summed
    a.lower.now
    a.upper.now
    c.requires.nodes_in_bounds

pub returns : goal.returns
returns c =
    let a = c.args in
    let few = (plan-held _ _ _ c.requires.words_value).links-held.nodes-fit in
    record {
      totals = c.walk_all-totals.ensures.value;
      lowers = lower-filled (outage a.out) a.h a.links.now a.words.now c.requires.words_value few _ _ c.walk_all-totals.ensures.value c.walk_all-totals.ensures.summed a.lower.now a.upper.now _
          c.give_bounds.ensures.lower_after;
      uppers = upper-filled (outage a.out) a.h a.links.now a.words.now c.requires.words_value few _ _ c.walk_all-totals.ensures.value c.walk_all-totals.ensures.summed a.lower.now a.upper.now _
          c.give_bounds.ensures.upper_after;
    }
