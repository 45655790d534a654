-- `plan_writing::sizes::events_size` meets its contract: the bytes counted and those of the events that are left make all. Assumes nothing.
use mathlib.Core.Path.{◌≡◌, sym, ap, ◌∙◌}
use Prim.Native.Nat.{ℕ, ◌+◌, ◌*◌, ◌-◌, ◌≤◌}
use native.Mathlib.Omega.{arith}
use lib.ListN.{length, drop}
use Rattle.plan.specs.Lists.{events_of}
use Rattle.plan.specs.Layout.{member_count, event_bytes}
use Rattle.plan_layout.proofs.ListLaws.{length-events-of}
use Rattle.plan_lists.proofs.ListLaws.{all_left, some_left, one_fewer, none_left}
use Rattle.plan_writing.proofs.SizeLaws.{size-next, events-most, bytes-end}
use Rattle.plan_writing.proofs.sizes.events_size.Goals.{After-member_count-members, Start}
use Rattle.plan_writing.proofs.sizes.events_size.Goals as goal

-- the next event's bytes and those of the others
next : (c : After-member_count-members)
    → let i = c.loop-i.i in
    let later = length (event_bytes (events_of (c.args.count - i - 1) (drop (4 * i + 4) c.args.words.now))) in
    length (event_bytes (events_of (c.args.count - i) (drop (4 * i) c.args.words.now))) ≡ 5 + 2 * c.member_count-members.result + later
unfolding member_count
next c =
    let i = c.loop-i.i in
    let later = length (event_bytes (events_of (c.args.count - i - 1) (drop (4 * i + 4) c.args.words.now))) in
    size-next c.args.words.now (4 * i) (c.args.count - i) (some_left _ _ c.loop-i-test.true)
    ∙ ap (λ (n : ℕ). 5 + 2 * n + later) (sym c.member_count-members.ensures.0)

-- all bytes are few
few : (c : Start) → length (event_bytes (events_of c.args.count c.args.words.now)) ≤ 389 * 128
few c =
    let es = events_of c.args.count c.args.words.now in
    omega (arith, events-most es, length-events-of c.args.count c.args.words.now)

pub loop-i-init : goal.loop-i-init
loop-i-init c = rw all_left (omega arith)

pub overflow_add-size-in-loop-i : goal.overflow_add-size-in-loop-i
overflow_add-size-in-loop-i c = omega (arith, next c, few (goal.at.overflow_add-size-in-loop-i c).Start)

pub loop-i-preserved : goal.loop-i-preserved
loop-i-preserved c =
    let on : 4 * (c.loop-i.i + 1) ≡ 4 * c.loop-i.i + 4 = omega arith in
    rw (one_fewer c.loop-i.i c.args.count, on) (omega (arith, next c))

pub returns : goal.returns
returns c =
    omega (arith, ap length (bytes-end (drop (4 * c.loop-i.i) c.args.words.now) (c.args.count - c.loop-i.i) (none_left _ _ c.loop-i-test.false)))
