-- The longest plan file.
-- Assumes nothing.
use mathlib.Core.Path.{◌≡◌, refl}
use mathlib.Core.List.{List}
use Prim.Native.Nat.{ℕ, zero, suc, ◌-◌, ◌*◌, ◌^◌, ◌≤◌}
use native.Mathlib.Omega.{arith}
use lib.ListN.{length, drop, length-append, length-drop, replicate}
use Rattle.mass.specs.Refusal.{first}
use Rattle.mass.specs.Split.{certain}
use Rattle.plan.specs.Plan.{Plan, Event}
use Rattle.plan.specs.Lists.{link_bytes}
use Rattle.plan.specs.Layout.{little, elements, members, member_count, event_bytes, header_bytes, layout}
use Rattle.plan.specs.File.{events_refusal, probability_in, event_size}
use Rattle.plan.specs.LentLists.{link_list_refusal, event_list_refusal, plan_refusal}
use Rattle.refusals.proofs.TestLaws.{left-none}
use Rattle.plan_layout.proofs.LayoutMembers.{length-event-members}
use Rattle.plan_layout.proofs.LayoutEvents.{events-none}
use Rattle.plan_layout.proofs.LayoutPrefix.{size-most}

pub events-length : (nodes links : ℕ) → nodes ≤ 64 → links ≤ 128 → (before count : ℕ) (b : List ℕ)
    → events_refusal nodes links before count b ≡ 0 → length b ≤ count * 389
events-length nodes links few some before zero b e = unfold events_refusal in (let z = left-none (length b) e in omega arith)
events-length nodes links few some before (suc count) b e =
    let t = events-none nodes links before count b e in
    let size = size-most nodes links before b few some t.0 in
    let rest = events-length nodes links few some (probability_in b) count (drop (event_size b) b) t.1 in
    omega (arith, length-drop (event_size b) b)

unfoldable pub full_event : Event
full_event = record { probability = certain; nodes = 2 ^ 64 - 1; links = 2 ^ 128 - 1 }

-- a plan with all that the counts allow: 64 nodes, 128 links, 128 events of all nodes and links
pub full_plan : Plan
full_plan =
    record {
      nodes = 64;
      links = replicate 128 (record { low = 0; high = 1 });
      events = replicate 128 full_event;
      threshold = 1;
      cap = 1;
    }

pub full-valid : plan_refusal full_plan ≡ 0
unfolding full_plan full_event plan_refusal link_list_refusal event_list_refusal first
full-valid = refl

full-members : member_count full_event ≡ 192
unfolding full_event member_count elements
full-members = refl

events-long : (count : ℕ) → length (event_bytes (replicate count full_event)) ≡ count * 389
unfolding event_bytes little
events-long zero = refl
events-long (suc count) =
    let rest = events-long count in
    rw (length-append (members full_event) (event_bytes (replicate count full_event)), length-event-members full_event, full-members)
    (omega arith)

links-long : length (link_bytes (replicate 128 (record { low = 0; high = 1 }))) ≡ 256
unfolding link_bytes
links-long = refl

pub full-long : length (layout full_plan) ≡ 50068
unfolding full_plan full_event layout header_bytes little
full-long =
    rw (length-append (link_bytes (replicate 128 (record { low = 0; high = 1 }))) (event_bytes (replicate 128 full_event)), links-long, events-long 128)
