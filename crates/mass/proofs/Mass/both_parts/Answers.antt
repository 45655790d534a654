-- `mass::Mass::both_parts` meets its contract: the two parts are the shares of q and of what q leaves of 10^9. Assumes nothing.
use mathlib.Core.Path.{ap₂}
use Prim.Native.Nat.{ℕ}
use Rattle.mass.specs.Split.{units}
use Rattle.mass.specs.declared.BothParts.{BothParts}
use Rattle.mass.proofs.Mass.both_parts.Goals as goal

pub returns : goal.returns
returns c = ap₂ {C = BothParts} (λ (f w : ℕ). record { fails = units f; works = units w }) c.share.ensures c.share-2.ensures
