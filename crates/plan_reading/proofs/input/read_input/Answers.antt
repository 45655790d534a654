-- `plan_reading::input::read_input` meets its contract. Assumes nothing.
use mathlib.Core.Path.{◌∙◌}
use native.Mathlib.Omega.{arith}
use Rattle.plan_reading.proofs.ReaderLawsAnswer.{full-rooms}
use Rattle.plan_reading.proofs.LoadedLaws.{bytes-each, left-same, left-loaded}
use Rattle.plan_reading.proofs.input.read_input.Goals as goal

pub returns : goal.returns
returns c =
    let a = c.args in
    let bytes = bytes-each a.s.now (λ i. omega (arith, c.type_inv.s i)) in
    record {
      number = c.read_core.ensures.number ∙ full-rooms a.s.now;
      header = c.read_core.ensures.header;
      links = left-same a.s.now _ _ _ c.read_core.ensures.links;
      words = left-same a.s.now _ _ _ c.read_core.ensures.words;
      loaded = left-loaded a.s.now _ _ _ _ bytes c.requires.0 c.requires.1 c.read_core.ensures.links c.read_core.ensures.words;
    }
