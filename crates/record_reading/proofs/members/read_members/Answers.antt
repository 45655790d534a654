-- `record_reading::members::read_members` meets its contract (`Invariants.antt` has its loop). Assumes nothing.
use mathlib.Core.Path.{◌≡◌, refl, sym, ◌∙◌, ap}
use Prim.Native.Nat.{ℕ, ◌+◌, ◌-◌}
use native.Mathlib.Omega.{arith}
use lib.ListN.{drop}
use Rattle.mass.proofs.RefusalLaws.{passes, last}
use Rattle.plan.proofs.FileLawsSteps.{members_step, members-none}
use Rattle.record_reading.specs.Steps.{position_after}
use Rattle.record_reading.proofs.StepLaws.{rank-bounds, ranks-more, ranks-none}
use Rattle.record_reading.proofs.StepLaws.{laid_more, moved_more, laid_none, moved_none}
use Rattle.record_reading.proofs.members.read_members.Goals as goal

-- the step gives a member
pub bounds-out-i : goal.bounds-out-i
bounds-out-i c =
    let a = c.args in
    let l = c.loop-i in
    let byte = c.type_inv.s (l.at + 1) in
    let up = rank-bounds a.nodes a.links l.least l.at a.s.now (sym c.in_ok-read_member.ensures.number) (omega (arith, byte)) in
    omega (arith, up, c.rank_at-rank.ensures.is, l.invariant.few)

pub offset_bounds-out-i : goal.offset_bounds-out-i
offset_bounds-out-i c =
    let a = c.args in
    let l = c.loop-i in
    let byte = c.type_inv.s (l.at + 1) in
    let up = rank-bounds a.nodes a.links l.least l.at a.s.now (sym c.in_ok-read_member.ensures.number) (omega (arith, byte)) in
    omega (arith, up, c.rank_at-rank.ensures.is, l.invariant.few)

pub loop-i-preserved : goal.loop-i-preserved
loop-i-preserved c =
    let a = c.args in
    let l = c.loop-i in
    let m = c.in_ok-read_member.ensures in
    let z = sym m.number in
    let byte = c.type_inv.s (l.at + 1) in
    let up = rank-bounds a.nodes a.links l.least l.at a.s.now z (omega (arith, byte)) in
    let left : a.count - (l.i + 1) ≡ a.count - l.i - 1 = omega arith in
    let more = ranks-more a.nodes a.links l.least (a.count - l.i) l.at a.s.now (omega arith) z in
    rw (left, m.position ∙ ap (λ (n : ℕ). position_after n l.at) z, c.rank_at-rank.ensures.is) (record {
      refused = passes _ m.number (last refl)
          ∙ sym (members_step a.nodes a.links l.least (a.count - l.i) l.at a.s.now (omega arith))
          ∙ l.invariant.refused;
      laid = laid_more l.out _ _ l.i _ more ∙ l.invariant.laid;
      moved = moved_more l.at _ _ _ more ∙ l.invariant.moved;
      few = omega (arith, up, l.invariant.few);
    })

pub returns-clause-number : goal.returns-clause-number
returns-clause-number c = members-none _ _ _ _ _ (omega arith) ∙ c.loop-i.invariant.refused

pub returns-clause-position : goal.returns-clause-position
returns-clause-position c =
    let a = c.args in
    let l = c.loop-i in
    moved_none l.at _ (ranks-none a.nodes a.links l.least (a.count - l.i) (drop l.at a.s.now) (omega arith)) ∙ l.invariant.moved

pub returns-clause-out : goal.returns-clause-out
returns-clause-out c =
    let a = c.args in
    let l = c.loop-i in
    laid_none l.out _ l.i (ranks-none a.nodes a.links l.least (a.count - l.i) (drop l.at a.s.now) (omega arith)) ∙ l.invariant.laid
