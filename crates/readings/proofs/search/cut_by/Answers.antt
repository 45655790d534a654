-- `readings::search::cut_by` meets its contract. Assumes nothing.
use mathlib.Core.Path.{◌∙◌}
use Rattle.readings.proofs.Seek.{cut-is}
use Rattle.readings.proofs.search.cut_by.Goals as goal

pub is_disconnected-requires : goal.is_disconnected-requires
is_disconnected-requires c =
    record {
      links_held = c.requires.held.links-held;
      links_at = c.requires.links_at;
      v_bound = (c.requires.high_bound.1, c.requires.high_bound.2);
    }

pub returns : goal.returns
returns c =
    c.is_disconnected.ensures ∙ cut-is _ _ _ _ _ c.requires.high_bound.0 _ c.failed_by-failed.ensures _ _
