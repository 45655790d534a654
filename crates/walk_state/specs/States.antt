-- The state of a walk: the walk of zeros.
-- Assumes nothing.
use Rattle.std.specs.Prelude.{replicate}
use Rattle.walk_state.specs.declared.Walk.{Walk}

-- a walk of zeros
unfoldable pub no_walk : Walk
no_walk =
    record {
      header = record { nodes = 0; links = 0; events = 0; threshold = 0; cap = 0 };
      links = replicate 256 0;
      events = replicate 512 0;
      stack = replicate 512 0;
      sums = replicate 2016 0;
      at = 0;
      reached = 0;
      count = 0;
      mass = 0;
    }
