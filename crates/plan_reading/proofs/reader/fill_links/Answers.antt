-- `plan_reading::reader::fill_links` meets its contract: the bytes of the links are the first bytes of the list. Assumes nothing.
use mathlib.Core.Path.{◌≡◌, sym, ap, ◌∙◌}
use Prim.Native.Nat.{◌-◌}
use native.Mathlib.Omega.{arith}
use lib.ListN.{length, take, drop, length-drop}
use lib.Seq.{sets, take_all}
use Rattle.plan_lists.proofs.CopyLaws.{link_bytes-take}
use Rattle.plan_reading.proofs.reader.fill_links.Goals as goal

pub returns : goal.returns
returns c =
    let a = c.args in
    let b = drop a.start a.s.now in
    let long = length-drop a.start a.s.now in
    let whole : take (length a.s.now - a.start) b ≡ b = take_all _ b (omega arith) in
    rw whole at c.copy_first.ensures ∙ ap (sets a.links.now 0) (sym (link_bytes-take a.count b (omega arith)))
