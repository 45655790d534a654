-- `plan_reading::reader::with_element` meets its contract: the element is above its set, so its value is added with no carry. Assumes nothing.
use mathlib.Core.Path.{refl, subst}
use Prim.Native.Nat.{◌^◌, ◌<◌}
use native.Mathlib.Omega.{arith}
use Rattle.sets.specs.Sets.{joined}
use Rattle.plan_reading.specs.Members.{Above}
use Rattle.plan.specs.declared.Element.{Element}
use Rattle.plan_reading.proofs.ReaderLaws.{shift_one, bit-fits, low_below, high-below, low-more, high-more}
use Rattle.plan_reading.proofs.reader.with_element.Goals.{In-Link, In-Node}
use Rattle.plan_reading.proofs.reader.with_element.Goals as goal

-- the element, as its arm knows it, is above its set
node-above : (c : In-Node) → (c.in-Node.i < 64) × (c.args.m.nodes < 2 ^ c.in-Node.i)
node-above c =
    let a = c.args in
    subst (λ (e : Element). Above e a.m.nodes (joined a.m.low a.m.high)) c.in-Node.is c.requires

pub overflow_shl-result : goal.overflow_shl-result
overflow_shl-result c = (node-above c).0

pub overflow_add-result : goal.overflow_add-result
overflow_add-result c = record { fits = bit-fits _ _ (node-above (goal.at.overflow_add-result c).In-Node).0 (node-above (goal.at.overflow_add-result c).In-Node).1 }

link-above : (c : In-Link)
    → (c.in-Link.i < 128)
    × (joined c.args.m.low c.args.m.high < 2 ^ c.in-Link.i)
link-above c =
    let a = c.args in
    subst (λ (e : Element). Above e a.m.nodes (joined a.m.low a.m.high)) c.in-Link.is c.requires

pub overflow_add-result-then-i-lt64 : goal.overflow_add-result-then-i-lt64
overflow_add-result-then-i-lt64 c =
    let a = c.args in
    record { fits = bit-fits _ _ c.if-i-lt64.true (low_below _ a.m.low a.m.high (link-above (goal.at.overflow_add-result-then-i-lt64 c).In-Link).1) }

pub overflow_shl-result-else-i-lt64 : goal.overflow_shl-result-else-i-lt64
overflow_shl-result-else-i-lt64 c = omega (arith, (link-above (goal.at.overflow_shl-result-else-i-lt64 c).In-Link).0)

pub overflow_add-result-else-i-lt64 : goal.overflow_add-result-else-i-lt64
overflow_add-result-else-i-lt64 c =
    let a = c.args in
    record {
      fits =
          bit-fits _ _ (omega (arith, (link-above (goal.at.overflow_add-result-else-i-lt64 c).In-Link).0))
          (high-below _ a.m.low a.m.high c.if-i-lt64.false (link-above (goal.at.overflow_add-result-else-i-lt64 c).In-Link).1);
    }

pub returns-in-Node : goal.returns-in-Node
returns-in-Node c = rw (c.in-Node.is, shift_one _ (node-above (goal.at.returns-in-Node c).In-Node).0) (record {
  nodes = refl;
  links = omega arith;
})

pub returns-then-i-lt64 : goal.returns-then-i-lt64
returns-then-i-lt64 c = rw c.in-Link.is (record {
  nodes = omega arith;
  links = low-more _ _ _ c.if-i-lt64.true;
})

pub returns-else-i-lt64 : goal.returns-else-i-lt64
returns-else-i-lt64 c = rw c.in-Link.is (record {
  nodes = omega arith;
  links = high-more _ _ _ c.if-i-lt64.false (link-above (goal.at.returns-else-i-lt64 c).In-Link).0;
})
