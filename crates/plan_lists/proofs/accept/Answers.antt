-- `plan_lists::accept` meets its contract: accepted lists were taken. Assumes nothing.
use mathlib.Core.Path.{sym, ◌∙◌}
use Rattle.mass.proofs.RefusalLaws.{when-given}
use Rattle.plan_lists.proofs.Accepted.{taken}
use Rattle.plan_lists.proofs.accept.Goals as goal

pub returns-clause-taken : goal.returns-clause-taken
returns-clause-taken c =
    let a = c.args in
    let load = c.load.ensures in
    when-given _ (λ z. taken a.h a.links.now a.events.now a.bytes.now a.words.now load.bytes_len.0 load.bytes_len.1 _ _ load.bytes_after load.words_after (sym c.lists_refusal.ensures ∙ z))
