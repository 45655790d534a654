-- `bounds::one_pair::pair_in` meets its contract. Assumes nothing.
use Rattle.bounds.proofs.Zeros.{cleared}
use Rattle.bounds.proofs.PairOutcome.{may-give-own, own-bounds}
use Rattle.bounds.proofs.one_pair.pair_in.Goals as goal

pub walk_all-totals-requires : goal.walk_all-totals-requires
walk_all-totals-requires c =
    record {
      words_value = c.requires.words_value;
      cleared = cleared;
    }

pub bounds_at-requires : goal.bounds_at-requires
bounds_at-requires c =
    record {
      bounds_fit = may-give-own c.args.h c.args.links.now c.args.words.now c.requires.words_value _ _ c.walk_all-totals.ensures.value c.walk_all-totals.ensures.summed;
      v_lt_w = c.requires.v_lt_w;
    }

pub returns : goal.returns
returns c =
    own-bounds c.args.h c.args.links.now c.args.words.now c.requires.words_value _ _ c.walk_all-totals.ensures.value c.walk_all-totals.ensures.summed c.args.v c.args.w _ c.requires.v_lt_w c.bounds_at.ensures
