-- `topology_list::ends::list_all` meets its contract. Assumes nothing.
use mathlib.Core.Path.{refl}
use Rattle.walk.proofs.Resume.{begun-alone}
use Rattle.topology_list.proofs.Turn.{ready-whole, whole-listing}
use Rattle.topology_list.proofs.ends.list_all.Goals as goal

pub links_at-table-requires : goal.links_at-table-requires
links_at-table-requires c = c.requires.links-held

pub list_ends-requires : goal.list_ends-requires
list_ends-requires c =
    record {
      links_at = c.links_at-table.ensures;
      masses_fit = ready-whole _ _ _ _ _ (begun-alone _ _ _ refl c.begin-start.ensures) c.requires;
    }

pub returns : goal.returns
returns c =
    let e = c.list_ends.ensures in
    let b = begun-alone _ _ _ refl c.begin-start.ensures in
    rw (whole-listing _ _ _ _ _ b _) at e
