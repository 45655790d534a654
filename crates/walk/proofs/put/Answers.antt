-- `walk::put` meets its contract: the loop has laid down the words before i. Assumes nothing.
use mathlib.Core.Path.{◌≡◌, refl}
use mathlib.Core.List.{append_assoc}
use native.Mathlib.Omega.{arith}
use Prim.Native.Nat.{◌<◌, ◌+◌}
use lib.ListN.{length}
use lib.Seq.{sets-eq}
use Rattle.std.proofs.lemmas.List.Edits.{paste_more, paste_all}
use Rattle.walk.proofs.put.Goals as goal

pub loop-i-preserved : goal.loop-i-preserved
loop-i-preserved c =
    let a = c.args in
    let inside : c.loop-i.i < length a.words.now = omega arith in
    let room : a.at + c.loop-i.i < length a.stack.now = omega (arith, c.requires) in
    rw c.loop-i.invariant (paste_more a.stack.now a.at a.words.now c.loop-i.i 0 room inside)

pub returns : goal.returns
returns c =
    let a = c.args in
    let end : c.loop-i.i ≡ length a.words.now = omega arith in
    rw (c.loop-i.invariant, end, paste_all a.stack.now a.at a.words.now _ refl, sets-eq a.words.now a.stack.now a.at c.requires, append_assoc)
