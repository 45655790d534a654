-- `sheets::reader::fill_lines` meets its contract. Assumes nothing.
use mathlib.Core.Path.{◌≡◌, refl, sym, ◌∙◌, ap}
use mathlib.Core.List.{List, [], map}
use Prim.Native.Nat.{ℕ, ◌+◌, ◌-◌, ◌/◌, ◌%◌, ◌^◌, ◌≤◌}
use native.Mathlib.Nat.{min-eq_left}
use native.Mathlib.Omega.{arith}
use lib.ListN.{length, drop}
use lib.Seq.{sets, length-sets}
use Rattle.mass.specs.Split.{certain}
use Rattle.plan.specs.Plan.{Event}
use Rattle.plan.specs.Lists.{event_words}
use Rattle.plan.specs.File.{members_refusal}
use Rattle.sheet_order.specs.Order.{with_element, ordered_with}
use Rattle.sheet_order.proofs.OrderLaws.{length-with}
use Rattle.sheets.specs.Sheet.{unavailability, event_of_line}
use Rattle.sheets.specs.SheetFile.{line_refusal, lines_refusal, line_size, line_in, lines_at}
use Rattle.sheets.proofs.CheckLaws.{line-head, line-members, line-probable, line-fits, lines-accepted}
use Rattle.sheet_order.specs.Inserted.{probability}
use Rattle.sheet_order.proofs.InsertionLaws.{inserted-in}
use Rattle.sheets.proofs.ReadLaws.{lines_next, lines-last, members-in}
use Rattle.sheets.proofs.reader.fill_lines.Goals.{In-loop-done}
use Rattle.sheets.proofs.reader.fill_lines.Goals as goal

pub loop-done-init : goal.loop-done-init
unfolding event_words
loop-done-init c = let all : c.args.count - 0 ≡ c.args.count = omega arith in rw all (c.requires.s_value, [], refl, refl, refl)

-- the line is accepted, and so are those after it
accepted : (c : In-loop-done)
    → let a = c.args in
    (line_refusal a.nodes a.links (drop c.loop-done.at a.s.now) ≡ 0)
    × (lines_refusal a.nodes a.links (a.count - c.loop-done.done - 1) (drop (c.loop-done.at + line_size (drop c.loop-done.at a.s.now)) a.s.now) ≡ 0)
accepted c =
    let a = c.args in
    lines-accepted a.nodes a.links (a.count - c.loop-done.done) c.loop-done.at a.s.now (omega arith) c.loop-done.invariant.0

head-there : (c : In-loop-done) → c.loop-done.at + 13 ≤ length c.args.s.now
head-there c = line-head _ _ c.loop-done.at c.args.s.now (accepted c).0

pub overflow_add-at : goal.overflow_add-at
overflow_add-at c = omega (arith, head-there c)

pub overflow_add-at-in-loop-done : goal.overflow_add-at-in-loop-done
overflow_add-at-in-loop-done c = omega (arith, head-there c)

pub byte_at-requires : goal.byte_at-requires
byte_at-requires c = omega (arith, head-there c)

pub members_of-members-requires : goal.members_of-members-requires
members_of-members-requires c =
    record {
      nodes_bound = (c.requires.nodes_bound.0, c.requires.nodes_bound.1);
      s_value = ap (λ (k : ℕ). members_refusal c.args.nodes c.args.links 0 k (drop (c.loop-done.at + 13) c.args.s.now)) c.byte_at.ensures.is
          ∙ line-members c.args.nodes c.args.links c.loop-done.at c.args.s.now (accepted (goal.at.members_of-members-requires c).In-loop-done).0;
    }

pub line_probability-requires : goal.line_probability-requires
line_probability-requires c = head-there (goal.at.line_probability-requires c).In-loop-done

pub line_size-at-requires : goal.line_size-at-requires
line_size-at-requires c = head-there (goal.at.line_size-at-requires c).In-loop-done

pub overflow_add-at-in-loop-done-2 : goal.overflow_add-at-in-loop-done-2
overflow_add-at-in-loop-done-2 c =
    omega (
      arith,
      c.line_size-at.ensures,
      line-fits _ _ c.loop-done.at c.args.s.now (accepted (goal.at.overflow_add-at-in-loop-done-2 c).In-loop-done).0,
    )

pub loop-done-preserved : goal.loop-done-preserved
loop-done-preserved c =
    let a = c.args in
    let s = a.s.now in
    let i = c.loop-done.at in
    let es = c.loop-done.invariant.1 in
    let e = event_of_line (line_in (drop i s)) in
    let k = c.byte_at.ensures.is in
    let probable : unavailability (line_in (drop i s)) ≤ certain = line-probable a.nodes a.links i s (accepted (goal.at.loop-done-preserved c).In-loop-done).0 in
    let long : length a.words.now ≡ 512 = sym (ap length c.loop-done.invariant.3 ∙ length-sets a.words.now 0 (event_words es)) ∙ c.insert.ensures.long in
    let left : a.count - (c.loop-done.done + 1) ≡ a.count - c.loop-done.done - 1 = omega arith in
    rw left (
      ap (λ (n : ℕ). lines_refusal a.nodes a.links (a.count - c.loop-done.done - 1) (drop (i + n) s)) c.line_size-at.ensures ∙ (accepted (goal.at.loop-done-preserved c).In-loop-done).1,
      with_element probability e es,
      length-with probability e es ∙ omega arith,
      c.insert.ensures.words
          ∙ inserted-in a.words.now c.loop-done.words es c.loop-done.done c.loop-done.invariant.3 c.loop-done.invariant.2 (omega arith) e _ _ _ _
          (c.line_probability.ensures ∙ min-eq_left (omega arith))
          (c.members_of-members.ensures.nodes ∙ members-in 0 i s k)
          (c.members_of-members.ensures.low ∙ ap (λ (x : ℕ). x % 2 ^ 64) (members-in 1 i s k))
          (c.members_of-members.ensures.high ∙ ap (λ (x : ℕ). x / 2 ^ 64) (members-in 1 i s k)),
      ap (λ (n : ℕ). ordered_with probability (with_element probability e es) (map event_of_line (lines_at (a.count - c.loop-done.done - 1) (drop (i + n) s)))) c.line_size-at.ensures
          ∙ sym (lines_next es (a.count - c.loop-done.done) i s (omega arith))
          ∙ c.loop-done.invariant.4,
    )

pub returns : goal.returns
returns c =
    let a = c.args in
    c.loop-done.invariant.3
    ∙ ap (λ (es : List Event). sets a.words.now 0 (event_words es)) (sym (lines-last c.loop-done.invariant.1 (a.count - c.loop-done.done) (drop c.loop-done.at a.s.now) (omega arith)) ∙ c.loop-done.invariant.4)
