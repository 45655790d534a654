-- `plan_writing::put_members` meets its contract: what is left, laid down from the position on, makes the whole. Assumes nothing.
use mathlib.Core.Path.{◌≡◌}
use Prim.Native.Nat.{◌+◌, ◌-◌, ◌*◌}
use lib.ListN.{length}
use lib.Seq.{sets}
use Rattle.plan.specs.Layout.{elements, member_bytes}
use Rattle.plan_writing.proofs.put_members.Given as goal

abbrev pub invariant-loop-number : goal.invariant-loop-number
invariant-loop-number l =
    (length l.out ≡ length l.initial.out)
    × (l.next + 2 * length (elements (l.first + 64 - l.number) l.number l.rest) ≡ l.at + 2 * length (elements 64 l.first l.set))
    × (sets l.out l.next (member_bytes l.kind (elements (l.first + 64 - l.number) l.number l.rest)) ≡ sets l.initial.out l.at (member_bytes l.kind (elements 64 l.first l.set)))
