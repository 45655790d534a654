-- `panel::looks::look` meets its contract. Assumes nothing.
use mathlib.Core.Path.{◌≡◌, ◌∙◌}
use Rattle.panel.specs.Calls.{look_of}
use Rattle.panel.proofs.Shown.{looked}
use Rattle.panel.proofs.looks.look.Goals as goal

pub returns : goal.returns
returns c =
    let w = c.args.w in
    let shown : (record { count = w.count; complete = c.none_left.result; mass = w.mass }) ≡ look_of w =
    λ i. record { count = w.count; complete = c.none_left.ensures i; mass = w.mass } in
    record {
      answer = shown;
      shown = λ p n at. shown ∙ looked p n w at;
    }
