-- `walk_words::parts::put_words` meets its contract: the part that is lent comes back as a copy of the words. Assumes nothing.
use mathlib.Core.Path.{◌∙◌, sym}
use native.Mathlib.Omega.{arith}
use lib.ListN.{length}
use lib.Seq.{take-length}
use Rattle.std.proofs.Common.{ℕ}
use Rattle.plan_lists.proofs.ListLaws.{part-laid}
use Rattle.walk_words.proofs.parts.put_words.Goals as goal

pub returns : goal.returns
returns c =
    let a = c.args in
    let all = take-length a.from.now in
    rw all at (part-laid {A = ℕ} a.from.now a.to.now c.copy_from_slice.new.self a.at (length a.from.now) (omega arith) c.requires (c.copy_from_slice.ensures.after ∙ sym all))
