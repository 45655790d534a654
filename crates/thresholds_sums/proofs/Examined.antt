-- Whether a path's scenario is examined by the walk with a threshold.
-- Assumes nothing.
use mathlib.Core.Path.{◌≡◌, ap, ◌∙◌}
use mathlib.Core.Bool.{Bool, ◌&&◌, and-true, and-false}
use Prim.Native.Nat.{ℕ, ◌≤◌, ◌<◌}
use borrow.Author.Tests.{le-leb, lt-leb}
use lib.Dec.{leb}
use Rattle.sets.specs.Sets.{digit}
use Rattle.pairs.proofs.Row.{at_most}
use Rattle.thresholds_sums.specs.Walked.{examined_by}

module _ (t room last : ℕ) where
  pub not-met : last < t → examined_by t room last ≡ 0
  not-met h = rw (lt-leb t last h)

  pub no_room : room < 2 → examined_by t room last ≡ 0
  no_room h = ap (λ (b : Bool). digit (leb t last && b)) (lt-leb 2 room h) ∙ ap digit (and-false (leb t last))

  pub with-room : 2 ≤ room → examined_by t room last ≡ digit (leb t last)
  with-room h = ap (λ (b : Bool). digit (leb t last && b)) (le-leb 2 room h) ∙ ap digit (and-true (leb t last))

  pub is-examined : t ≤ last → 2 ≤ room → examined_by t room last ≡ 1
  is-examined h k = with-room k ∙ ap digit (le-leb t last h)

  pub once : examined_by t room last ≤ 1
  once = at_most (leb t last && leb 2 room)
