-- `readings::ratio::figure` meets its contract: E is lower + 10^18 - upper. Assumes nothing.
use Rattle.readings.proofs.Figures.{figure_is, figure-numbers}
use Rattle.readings.proofs.ratio.figure.Goals as goal

pub returns-clause-figure : goal.returns-clause-figure
returns-clause-figure c =
    let b = c.in_ok-bounds.ensures in
    figure_is _ _ _ _ b.accepted.0 b.bounds b.ordered _ c.figure_of.ensures

pub returns-clause-numbers : goal.returns-clause-numbers
returns-clause-numbers c =
    let b = c.in_ok-bounds.ensures in
    figure-numbers _ _ _ _ b.accepted.0 b.bounds b.ordered _ c.figure_of.ensures
