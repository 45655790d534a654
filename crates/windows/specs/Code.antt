-- What the fields of the code stand for.
-- Assumes nothing.
use Rattle.network.specs.Code.{outage}
use Rattle.windows.specs.Windows as week
use Rattle.windows.specs.declared.Window.{Window}

-- the window that a value of the code is
abbrev pub window : Window → week.Window
window w = record { start = w.start; end = w.end; out = outage w.out }
