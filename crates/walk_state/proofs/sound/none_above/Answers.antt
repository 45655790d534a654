-- `walk_state::sound::none_above` meets its contract: what `all` answers of the sums is what the test says. Assumes nothing.
use Prim.Native.Nat.{◌≤◌, ◌<◌}
use borrow.Author.Rules.{rules}
use borrow.Author.Tests.{tests}
use Rattle.std.proofs.lemmas.Iterator.{YieldsList-from_slice, cases_from_all}
use Rattle.walk_state.proofs.EntryLaws.{above-is}
use Rattle.walk_state.proofs.sound.none_above.Goals as goal

pub returns : goal.returns
returns c =
    let most = c.args.most in
    above-is most c.args.sums.now c.all.result
    (cases_from_all _ _ _ (λ x. x ≤ most) (λ x. most < x) c.all.ensures.ran (YieldsList-from_slice c.args.sums.now cc)
    (λ x q k. search (rules, tests)) (λ x q k. search (rules, tests)))
