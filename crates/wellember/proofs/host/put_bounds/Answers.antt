-- `wellember::host::put_bounds` meets its contract: the second number is laid down where the first one ends. Assumes nothing.
use Rattle.wellember.proofs.HostLaws.{bounds-laid}
use Rattle.wellember.proofs.host.put_bounds.Goals as goal

pub returns : goal.returns
returns c =
    bounds-laid _ _ _ _ _ c.put_number.ensures c.put_number-2.ensures
