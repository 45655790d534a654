-- `sheets::file::line_size` meets its contract. Assumes nothing.
use mathlib.Core.Path.{◌∙◌, sym, ap}
use Prim.Native.Nat.{ℕ, ◌+◌, ◌*◌}
use lib.Seq.{get_or-drop}
use Rattle.sheets.proofs.file.line_size.Goals as goal

pub returns : goal.returns
returns c =
    let a = c.args in
    ap (λ (k : ℕ). 13 + 2 * k) (c.byte_at.ensures.is ∙ sym (get_or-drop a.at a.s.now 12 0))
