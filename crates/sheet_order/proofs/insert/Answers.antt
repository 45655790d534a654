-- `sheet_order::insert` meets its contract: room is made at the place, and the event is laid down there. Assumes nothing.
use mathlib.Core.Path.{◌∙◌, ap}
use mathlib.Core.List.{List, [], ◌∷◌}
use Prim.Native.Nat.{ℕ, ◌-◌, ◌*◌}
use lib.ListN.{take, drop}
use lib.Seq.{sets}
use Rattle.sheet_order.proofs.InsertionLaws.{room-filled}
use borrow.Author.Rules.{rules}
use Rattle.sheet_order.proofs.insert.Goals as goal

pub returns : goal.returns
returns c =
    let a = c.args in
    let w = a.words.now in
    let p = c.insertion_place-place in
    record {
      long = search rules;
      words = c.put_event.ensures
          ∙ ap (λ (l : List ℕ). sets l (4 * p.result) (a.q ∷ a.m.nodes ∷ a.m.low ∷ a.m.high ∷ [])) c.make_room.ensures
          ∙ room-filled w p.result a.count a.q a.m.nodes a.m.low a.m.high
          ∙ ap (λ (k : ℕ). sets w (4 * k) (a.q ∷ a.m.nodes ∷ a.m.low ∷ a.m.high ∷ take (4 * (a.count - k)) (drop (4 * k) w))) p.ensures.0;
    }
