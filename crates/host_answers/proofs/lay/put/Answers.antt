-- `host_answers::lay::put` meets its contract: where there is no entry, `set` changes nothing. Assumes nothing.
use mathlib.Core.Path.{sym}
use lib.Seq.{set_out}
use Rattle.host_answers.proofs.lay.put.Goals as goal

pub returns-else-at-list : goal.returns-else-at-list
returns-else-at-list c = sym (set_out _ _ _ c.if-at-list.false)
