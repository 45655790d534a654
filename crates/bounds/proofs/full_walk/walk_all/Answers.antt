-- `bounds::full_walk::walk_all` meets its contract. Assumes nothing.
use mathlib.Core.Path.{refl}
use Rattle.plan_lists.proofs.Accepted.{plan-held, plan-cap-small}
use Rattle.walk.proofs.Resume.{begun-alone}
use Rattle.bounds.proofs.Root.{ready-whole, whole-totals, whole-sums}
use Rattle.bounds.proofs.full_walk.walk_all.Goals as goal

pub links_at-table-requires : goal.links_at-table-requires
links_at-table-requires c = (plan-held _ _ _ c.requires.words_value).links-held

pub go_on-r-requires : goal.go_on-r-requires
go_on-r-requires c =
    let begun = begun-alone _ _ _ refl c.begin-at.ensures in
    record {
      links_at = c.links_at-table.ensures;
      ready = ready-whole _ _ _ _ _ _ begun c.requires.cleared (plan-held _ _ _ c.requires.words_value) (plan-cap-small _ _ _ c.requires.words_value);
    }

pub returns : goal.returns
returns c =
    let begun = begun-alone _ _ _ refl c.begin-at.ensures in
    let tallied = c.go_on-r.ensures in
    record {
      value = whole-totals _ _ _ _ _ _ begun c.requires.cleared _ _ tallied _ c.none_left.ensures;
      summed = whole-sums _ _ _ _ _ _ begun c.requires.cleared _ _ tallied;
    }
