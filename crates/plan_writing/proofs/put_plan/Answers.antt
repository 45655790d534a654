-- `plan_writing::put_plan` meets its contract: each part is laid down where the one before it ends. Assumes nothing.
use mathlib.Core.Path.{◌≡◌, ◌∙◌}
use Prim.Native.Nat.{◌+◌, ◌*◌, ◌≤◌}
use native.Mathlib.Omega.{arith}
use lib.ListN.{length}
use Rattle.plan.specs.Lists.{events_of}
use Rattle.plan.specs.Layout.{event_bytes}
use Rattle.plan_writing.proofs.SizeLaws.{plan-size}
use Rattle.plan_writing.proofs.WriterLaws.{plan-laid}
use Rattle.plan_writing.proofs.put_plan.Goals.{After-copy_first, After-put_header, Start}
use Rattle.plan_writing.proofs.put_plan.Goals as goal

-- the output has room for the three parts
room : (c : Start)
    → 20 + 2 * c.args.h.links + length (event_bytes (events_of c.args.h.events c.args.words.now)) ≤ length c.args.out.now
room c = omega (arith, plan-size c.args.h c.args.links.now c.args.words.now, c.requires.nodes_bound, c.requires.links_in_bounds, c.requires.words_in_bounds)

-- the output keeps its length
long₁ : (c : After-put_header) → length c.put_header.new.out ≡ length c.args.out.now
long₁ c = c.put_header.auto.out

long₂ : (c : After-copy_first) → length c.copy_first.new.to ≡ length c.args.out.now
long₂ c = c.copy_first.auto.to ∙ (c.put_header.auto.out)

pub put_header-requires : goal.put_header-requires
put_header-requires c = omega (arith, room (goal.at.put_header-requires c).Start, c.requires.nodes_bound, c.requires.links_in_bounds, c.requires.words_in_bounds)

pub copy_first-requires : goal.copy_first-requires
copy_first-requires c =
    omega (arith, room (goal.at.copy_first-requires c).Start, c.requires.nodes_bound, c.requires.links_in_bounds, c.requires.words_in_bounds, long₁ (goal.at.copy_first-requires c).After-put_header)

pub overflow_add-count : goal.overflow_add-count
overflow_add-count c = omega (arith, c.requires.nodes_bound, c.requires.links_in_bounds, c.requires.words_in_bounds)

pub put_events-requires : goal.put_events-requires
put_events-requires c =
    omega (arith, room (goal.at.put_events-requires c).Start, c.requires.nodes_bound, c.requires.links_in_bounds, c.requires.words_in_bounds, long₂ (goal.at.put_events-requires c).After-copy_first)

pub shape_of-out : goal.shape_of-out
shape_of-out c = c.put_events.auto.out ∙ long₂ (goal.at.shape_of-out c).After-copy_first

pub returns : goal.returns
returns c =
    plan-laid c.args.h c.args.links.now c.args.words.now c.args.out.now _ _ _
    c.requires.links_in_bounds.0
    c.put_header.ensures
    c.copy_first.ensures
    c.put_events.ensures
