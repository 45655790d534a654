-- Laws of paths by steps of any kind.
-- Assumes nothing.
use Prim.Native.Nat.{ℕ}
use Rattle.topology.specs.Paths.{Chain, here, more}

module _ {step : ℕ → ℕ → Type 0} where
  -- one path after another
  pub chain-append : {v u w : ℕ} → Chain step v u → Chain step u w → Chain step v w
  chain-append here q = q
  chain-append (more s p) q = more s (chain-append p q)

  -- the way back, where each step can be taken back
  pub chain_back : ((v w : ℕ) → step v w → step w v) → {v w : ℕ} → Chain step v w → Chain step w v
  chain_back back here = here
  chain_back back (more s p) = chain-append (chain_back back p) (more (back _ _ s) here)

  -- what is kept by each step is kept by a path
  pub chain-keeps : (P : ℕ → Type 0) → ((v w : ℕ) → step v w → P v → P w) → {v w : ℕ} → Chain step v w → P v → P w
  chain-keeps P keep here h = h
  chain-keeps P keep (more s p) h = chain-keeps P keep p (keep _ _ s h)

-- a path by one kind of step, where each step is one of the other kind
pub chain-map : {one other : ℕ → ℕ → Type 0} → ((v w : ℕ) → one v w → other v w) → {v w : ℕ} → Chain one v w → Chain other v w
chain-map f here = here
chain-map f (more s p) = more (f _ _ s) (chain-map f p)
