-- `plan_writing::sizes::member_count` meets its contract: the three words are counted one by one. Assumes nothing.
use native.Mathlib.Omega.{arith}
use Rattle.plan_writing.proofs.ElementLaws.{members-counted}
use Rattle.plan_writing.proofs.sizes.member_count.Goals as goal

pub returns : goal.returns
returns c =
    (omega (arith, members-counted c.args.nodes c.args.low c.args.high (omega arith)), omega arith)
