-- `host_thresholds::give_places` meets its contract. The loop's invariant: the words of the first i places are laid down. Assumes nothing.
use mathlib.Core.Path.{◌≡◌, refl}
use native.Mathlib.Omega.{arith}
use lib.ListN.{length, take}
use Rattle.host_thresholds.specs.ThresholdAnswers.{in_turn}
use Rattle.host_thresholds.proofs.PlaceLaws.{laid-long, place-on, places-all}
use Rattle.host_thresholds.proofs.give_places.Goals.{Start}
use Rattle.host_thresholds.proofs.give_places.Goals as goal

-- each list of the answer has 16 places
count-size : (c : Start) → length c.args.answer.count ≡ 16
count-size c = c.well_formed.0.1.1.0.1.0.1

complete-size : (c : Start) → length c.args.answer.complete ≡ 16
complete-size c = c.well_formed.0.1.1.1.0.1.0.1

mass-size : (c : Start) → length c.args.answer.mass ≡ 16
mass-size c = c.well_formed.0.1.1.1.1.0.1.0.1

pub loop-i-init : goal.loop-i-init
loop-i-init c = refl

pub loop-i-preserved : goal.loop-i-preserved
loop-i-preserved c =
    place-on _ _ _ (count-size (goal.at.loop-i-preserved c).Start) (complete-size (goal.at.loop-i-preserved c).Start) (mass-size (goal.at.loop-i-preserved c).Start) _ _ _ _ c.loop-i-test.true c.loop-i.invariant c.give_place.ensures

pub shape_of-res : goal.shape_of-res
shape_of-res c =
    let a = c.args in
    let i = c.loop-i.i in
    laid-long _ a.res.now (in_turn (take i a.answer.count) (take i a.answer.complete) (take i a.answer.mass)) c.loop-i.invariant

pub returns : goal.returns
returns c =
    places-all _ _ _ (count-size (goal.at.returns c).Start) (complete-size (goal.at.returns c).Start) (mass-size (goal.at.returns c).Start) _ _ _ (omega arith) c.loop-i.invariant
