-- `wellember::host::pair_of` meets its contract: the arrays denote the plan that the file stands for. Assumes nothing.
use mathlib.Core.Path.{sym, ◌∙◌}
use Rattle.mass.proofs.RefusalLaws.{passes, last, hands-on}
use Rattle.wellember.specs.Host.{host_refusal}
use Rattle.wellember.proofs.HostLaws.{pair-same, bounds-are, bounds-enclose}
use Rattle.wellember.proofs.host.pair_of.Goals as goal

pub returns-in_err-pair_test-clause-number : goal.returns-in_err-pair_test-clause-number
unfolding host_refusal
returns-in_err-pair_test-clause-number c =
    hands-on _ _ c.from_residual-in_err-pair_test.ensures
    (passes _ c.in_ok-h.ensures.number
    (passes _ c.in_ok-room_test.ensures.number
    (last (c.in_err-pair_test.ensures.number ∙ pair-same c.args.s.now _ c.in_ok-h.ensures.header c.args.v c.args.w))))

pub returns-clause-number : goal.returns-clause-number
unfolding host_refusal
returns-clause-number c =
    passes _ c.in_ok-h.ensures.number
    (passes _ c.in_ok-room_test.ensures.number
    (last (c.in_ok-pair_test.ensures.number ∙ pair-same c.args.s.now _ c.in_ok-h.ensures.header c.args.v c.args.w)))

pub returns-clause-bounds : goal.returns-clause-bounds
returns-clause-bounds c =
    let read = c.in_ok-h.ensures in
    bounds-are c.args.s.now _ _ (read.loaded (sym read.number)) _ read.header c.args.v c.args.w _ c.pair_in.ensures

pub returns-clause-demand3 : goal.returns-clause-demand3
returns-clause-demand3 c =
    let read = c.in_ok-h.ensures in
    bounds-enclose c.args.s.now _ _ (read.loaded (sym read.number)) _ read.header c.args.v c.args.w _ c.pair_in.ensures
