-- `walk_state::sound::entries_sound` meets its contract: the entries so far are sound, and their mass is off the room. Assumes nothing.
use mathlib.Core.Path.{◌≡◌, sym, ◌∙◌}
use Prim.Native.Nat.{◌+◌, ◌*◌}
use native.Mathlib.Omega.{arith}
use Rattle.walk_state.proofs.EntryLaws.{entries-stop, entries-go, entries-end, entry-fits}
use Rattle.walk_state.proofs.sound.entries_sound.Goals as goal

pub returns-then-not-entry_sound : goal.returns-then-not-entry_sound
returns-then-not-entry_sound c =
    let a = c.args in
    entries-stop a.count c.loop-i.left a.stack.now c.requires.0 (4 * c.loop-i.i) (omega arith)
    (sym c.entry_sound.ensures ∙ c.if-not-entry_sound.true)
    ∙ sym c.loop-i.invariant

pub overflow_sub-left : goal.overflow_sub-left
overflow_sub-left c =
    omega (arith, c.entry_mass-left.ensures, entry-fits _ _ _ _ _ _ _ (sym c.entry_sound.ensures ∙ c.if-not-entry_sound.false))

pub loop-i-preserved : goal.loop-i-preserved
loop-i-preserved c =
    let a = c.args in
    let next : 4 * (c.loop-i.i + 1) ≡ 4 * c.loop-i.i + 4 = omega arith in
    rw (c.entry_mass-left.ensures, next)
    (c.loop-i.invariant
    ∙ entries-go a.count c.loop-i.left a.stack.now c.requires.0 (4 * c.loop-i.i) (omega arith)
    (sym c.entry_sound.ensures ∙ c.if-not-entry_sound.false))

pub returns : goal.returns
returns c =
    let a = c.args in
    sym (c.loop-i.invariant ∙ entries-end a.count c.loop-i.left a.stack.now c.requires.0 (4 * c.loop-i.i) (omega arith))
