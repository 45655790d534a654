-- The Bool `disconnected` is true exactly where two nodes are disconnected.
-- Assumes nothing.
use mathlib.Core.Path.{◌≡◌, refl, ap, subst}
use mathlib.Core.Bool.{Bool, true, false, not, ◌&&◌}
use mathlib.Core.Logic.{◌⊎◌, inl, inr, ⊎_elim, ◌↔◌}
use Prim.Native.Nat.{ℕ, zero, suc, ◌<◌}
use native.Mathlib.Omega.{arith}
use native.Mathlib.Decide.{dec_lt}
use lib.Dec.{eqb}
use borrow.Author.Tests.{eqb-true, eq-eqb, not-false}
use Rattle.sets.proofs.Bools.{and_left, and_right, and_both, or-either, or_left, or_right}
use Rattle.network.specs.Topology.{Network, node_works, adjacent}
use Rattle.topology.specs.Paths.{here, more, WorkingPath, via, disconnected}
use Rattle.topology.proofs.Chains.{chain-append}
use Rattle.network.proofs.Works.{node-below, link-nodes, adjacent-link, link-adjacent}

module _ (net : Network) where
  -- ---- `via` finds a path only where there is one

  step-path : (v w : ℕ) → (eqb v w ≡ true) ⊎ (adjacent net v w ≡ true) → WorkingPath net v w
  step-path v w (inl e) = subst (λ (x : ℕ). WorkingPath net v x) (eqb-true v w e) here
  step-path v w (inr e) = more (adjacent-link net v w e) here

  pub via-path : (k v w : ℕ) → via net k v w ≡ true → WorkingPath net v w
  unfolding via
  via-path zero v w e = step-path v w (or-either _ _ e)
  via-path (suc k) v w e =
      ⊎_elim
      (λ h. via-path k v w h)
      (λ h. chain-append (via-path k v k (and_left (via net k v k) (via net k k w) h)) (via-path k k w (and_right (via net k v k) (via net k k w) h)))
      (or-either (via net k v w) (via net k v k && via net k k w) e)

  -- ---- and wherever there is one

  -- with more nodes between
  via-grow : (k v w : ℕ) → via net zero v w ≡ true → via net k v w ≡ true
  unfolding via
  via-grow zero v w e = e
  via-grow (suc k) v w e = or_left _ _ (via-grow k v w e)

  via-join : (k v w : ℕ) → via net k v k ≡ true → via net k k w ≡ true → via net (suc k) v w ≡ true
  unfolding via
  via-join k v w e f = or_right (via net k v w) _ (and_both _ _ e f)

  Split : ℕ → ℕ → ℕ → Type 0
  Split k v w = (via net k v w ≡ true) ⊎ ((via net k v k && via net k k w) ≡ true)

  split : (k v w : ℕ) → via net (suc k) v w ≡ true → Split k v w
  unfolding via Split
  split k v w e = or-either _ _ e

  to_last : (k v : ℕ) → Split k v k → via net k v k ≡ true
  unfolding Split
  to_last k v (inl h) = h
  to_last k v (inr h) = and_left _ _ h

  from_last : (k w : ℕ) → Split k k w → via net k k w ≡ true
  unfolding Split
  from_last k w (inl h) = h
  from_last k w (inr h) = and_right (via net k k k) _ h

  -- two paths that meet at one of the first k nodes
  Through : ℕ → Type 0
  Through k = (v j w : ℕ) → j < k → via net k v j ≡ true → via net k j w ≡ true → via net k v w ≡ true

  meet : (k v j w : ℕ) → Through k → j < k → Split k v j → Split k j w → via net (suc k) v w ≡ true
  unfolding Split via Through
  meet k v j w ih l (inl p) (inl q) = or_left _ _ (ih v j w l p q)
  meet k v j w ih l (inl p) (inr q) = via-join k v w (ih v j k l p (and_left _ _ q)) (and_right (via net k j k) _ q)
  meet k v j w ih l (inr p) (inl q) = via-join k v w (and_left _ _ p) (ih k j w l (and_right (via net k v k) _ p) q)
  meet k v j w ih l (inr p) (inr q) = via-join k v w (and_left _ _ p) (and_right (via net k j k) _ q)

  via-trans : (k : ℕ) → Through k
  unfolding Through
  via-trans zero v j w h e f = absurd (omega arith)
  via-trans (suc k) v j w h e f = at (via-trans k) (dec_lt j k)
    where
      at : Through k → Dec (j < k) → via net (suc k) v w ≡ true
      at ih (yes l) = meet k v j w ih l (split k v j e) (split k j w f)
      at ih (no n) =
          let last : j ≡ k = omega arith in
          via-join k v w
          (to_last k v (subst (λ (x : ℕ). Split k v x) last (split k v j e)))
          (from_last k w (subst (λ (x : ℕ). Split k x w) last (split k j w f)))

  pub path-via : {v w : ℕ} → WorkingPath net v w → via net net.nodes v w ≡ true
  unfolding via Through
  path-via {v} here = via-grow net.nodes v v (or_left (eqb v v) _ (eq-eqb v v refl))
  path-via {v} {w} (more {u = u} s p) =
      via-trans net.nodes v u w
      (node-below net u (link-nodes net v u s).1)
      (via-grow net.nodes v u (or_right (eqb v u) _ (link-adjacent net v u s)))
      (path-via p)

  -- ---- the Bool and its meaning

  -- false exactly where both nodes work and a path of working links joins them
  pub connected-is : (v w : ℕ) → (disconnected net v w ≡ false) ↔ ((node_works net v ≡ true) × (node_works net w ≡ true) × WorkingPath net v w)
  unfolding disconnected
  connected-is v w = (there, back)
    where
      both : Bool
      both = node_works net v && node_works net w

      path : Bool
      path = via net net.nodes v w

      there : not (both && path) ≡ false → (node_works net v ≡ true) × (node_works net w ≡ true) × WorkingPath net v w
      there e =
          let all = not-false (both && path) e in
          let nodes = and_left both path all in
          (and_left (node_works net v) (node_works net w) nodes, and_right (node_works net v) (node_works net w) nodes, via-path net.nodes v w (and_right both path all))

      back : (node_works net v ≡ true) × (node_works net w ≡ true) × WorkingPath net v w → not (both && path) ≡ false
      back h = ap not (and_both both path (and_both (node_works net v) (node_works net w) h.0 h.1) (path-via h.2))
