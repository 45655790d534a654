-- `host_panel::keep` meets its contract: by whether an end was reached. Assumes nothing.
use mathlib.Core.Path.{◌∙◌}
use Rattle.host_panel.proofs.WordLaws.{moved-some, moved_none}
use Rattle.host_panel.proofs.keep.Goals as goal

pub returns-then-reached-ne0 : goal.returns-then-reached-ne0
returns-then-reached-ne0 c =
    record {
      state = c.lay.ensures.state ∙ moved-some _ _ _ c.if-reached-ne0.true;
      again = λ same. c.lay.ensures.again;
    }

pub returns-else-reached-ne0 : goal.returns-else-reached-ne0
returns-else-reached-ne0 c =
    record {
      state = moved_none _ _ _ c.if-reached-ne0.false;
      again = λ same. same c.if-reached-ne0.false;
    }
