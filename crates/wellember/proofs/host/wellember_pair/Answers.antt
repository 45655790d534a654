-- `wellember::host::wellember_pair` meets its contract: the number of the answer that `give_pair` gives. Assumes nothing.
use mathlib.Core.Path.{◌∙◌}
use Rattle.wellember.proofs.HostLaws.{where-given}
use Rattle.wellember.proofs.host.wellember_pair.Goals as goal

pub returns-clause-demand3 : goal.returns-clause-demand3
returns-clause-demand3 c = λ z. where-given _ c.give_pair.ensures.demand3 (c.give_pair.ensures.number ∙ z)
