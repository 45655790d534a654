-- `readings::search::search_all` meets its contract. Assumes nothing.
use mathlib.Core.Path.{refl, ◌∙◌}
use Rattle.walk.proofs.Resume.{begun-alone}
use Rattle.readings.proofs.WitnessPromise.{seeking-whole, answers-whole}
use Rattle.readings.proofs.search.search_all.Goals as goal

pub links_at-table-requires : goal.links_at-table-requires
links_at-table-requires c = c.requires.held.links-held

pub search_on-requires : goal.search_on-requires
search_on-requires c =
    record {
      links_at = c.links_at-table.ensures;
      seeking = seeking-whole _ _ _ _ _ _ _ (begun-alone _ _ _ refl c.begin-at.ensures) c.requires.held c.requires.v_bound;
    }

pub returns : goal.returns
returns c =
    c.search_on.ensures
    ∙ answers-whole _ _ _ _ _ _ _ (begun-alone _ _ _ refl c.begin-at.ensures)
