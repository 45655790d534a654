-- `record_reading::members::read_members` meets its contract. The loop's invariant: the members from `at` on are refused as all of them are; with the ranks
-- that they give laid down from `i` on the array is as with all, and moving past them leads to the position after all; and `i` is at most `least`, so
-- it is below the rank that comes next. Assumes nothing.
use mathlib.Core.Path.{◌≡◌}
use Prim.Native.Nat.{◌+◌, ◌-◌, ◌*◌, ◌≤◌}
use lib.ListN.{length, drop}
use lib.Seq.{sets}
use Rattle.plan.specs.File.{members_refusal}
use Rattle.record_reading.specs.Steps.{ranks_given}
use Rattle.record_reading.proofs.members.read_members.Given as goal

abbrev pub invariant-loop-i : goal.invariant-loop-i
invariant-loop-i l = record {
  refused : members_refusal l.nodes l.links l.least (l.count - l.i) (drop l.at l.s) ≡ members_refusal l.nodes l.links 0 l.count (drop l.initial.at l.s);
  laid : sets l.out l.i (ranks_given l.nodes l.links l.least (l.count - l.i) (drop l.at l.s)) ≡ sets l.initial.out 0 (ranks_given l.nodes l.links 0 l.count (drop l.initial.at l.s));
  moved : l.at + 2 * length (ranks_given l.nodes l.links l.least (l.count - l.i) (drop l.at l.s)) ≡ l.initial.at + 2 * length (ranks_given l.nodes l.links 0 l.count (drop l.initial.at l.s));
  few : l.i ≤ l.least;
}
