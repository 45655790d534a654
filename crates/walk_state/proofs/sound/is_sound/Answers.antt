-- `walk_state::sound::is_sound` meets its contract: at each `return` the tests that led there decide the answer. Assumes nothing.
use borrow.Author.Rules.{rules}
use mathlib.Core.Path.{◌≡◌, refl, sym, ◌∙◌}
use mathlib.Core.Bool.{true, false, true≢false, false≢true}
use Prim.Native.Nat.{◌/◌, ◌≤◌}
use native.Mathlib.Omega.{arith}
use lib.ListN.{length}
use Rattle.std.specs.Prelude.{Result, Ok, Err}
use Rattle.std.specs.Result.{is_err}
use Rattle.mass.specs.Refusal.{number_in}
use Rattle.mass.specs.declared.refusal.Refusal.{Refusal}
use Rattle.mass.proofs.RefusalLaws.{number-some}
use Rattle.plan.specs.LentLists.{plan_refusal, plan_of_lists}
use Rattle.plan_layout.proofs.Theorems.{lists-denote, lists-accepted}
use Rattle.walk_state.proofs.SoundLaws.{lists-fail, numbers-fail, mass-fails, entries-fail, sums-decide, numbers-are}
use Rattle.walk_state.proofs.sound.is_sound.Goals.{Else-is_err}
use Rattle.walk_state.proofs.sound.is_sound.Goals as goal

-- an answer that is no `Err` has number 0, and an `Err` has another
accepts : (r : Result Unit Refusal) → is_err r ≡ false → 0 ≡ number_in r
accepts (Ok x) e = refl
accepts (Err x) e = absurd (true≢false e)

refuses : (r : Result Unit Refusal) → is_err r ≡ true → number_in r ≡ 0 → ⊥
refuses (Ok x) e = absurd (false≢true e)
refuses (Err x) e = number-some x

valid : (c : Else-is_err)
    → (let a = c.args in plan_refusal (plan_of_lists a.h a.links.now a.events.now) ≡ 0)
valid c = lists-denote _ (sym c.lists_refusal.ensures ∙ sym (accepts _ (sym c.is_err.ensures.value ∙ c.if-is_err.false)))

pub returns-then-is_err : goal.returns-then-is_err
returns-then-is_err c =
    let long : (256 ≤ length c.args.links.now) × (128 ≤ length c.args.events.now / 4) = search rules in
    lists-fail _ (λ z. refuses _ (sym c.is_err.ensures.value ∙ c.if-is_err.true) (c.lists_refusal.ensures ∙ lists-accepted _ long.0 long.1 z))

pub returns-then-not-numbers_sound : goal.returns-then-not-numbers_sound
returns-then-not-numbers_sound c =
    numbers-fail _ (valid (goal.at.returns-then-not-numbers_sound c).Else-is_err) (sym c.numbers_sound.ensures ∙ c.if-not-numbers_sound.true)

pub returns-then-mass : goal.returns-then-mass
returns-then-mass c =
    mass-fails _ (valid (goal.at.returns-then-mass c).Else-is_err) (sym c.numbers_sound.ensures ∙ c.if-not-numbers_sound.false) (omega arith)

pub entries_sound-requires : goal.entries_sound-requires
entries_sound-requires c =
    let n = numbers-are _ _ _ _ (sym c.numbers_sound.ensures ∙ c.if-not-numbers_sound.false) in
    (c.requires.0, n.3, n.2)

pub returns-then-not-entries_sound : goal.returns-then-not-entries_sound
returns-then-not-entries_sound c =
    entries-fail _ (valid (goal.at.returns-then-not-entries_sound c).Else-is_err) (sym c.numbers_sound.ensures ∙ c.if-not-numbers_sound.false) (omega arith)
    (sym c.entries_sound.ensures ∙ c.if-not-entries_sound.true)

pub returns : goal.returns
returns c =
    c.none_above.ensures
    ∙ sums-decide _ (valid (goal.at.returns c).Else-is_err) (sym c.numbers_sound.ensures ∙ c.if-not-numbers_sound.false) (omega arith)
    (sym c.entries_sound.ensures ∙ c.if-not-entries_sound.false)
