-- Laws of working nodes and links: what a link that works and joins two nodes says, and that links join both ways.
-- Assumes nothing.
use mathlib.Core.Path.{◌≡◌, sym, ap, ap₂, ◌∙◌}
use mathlib.Core.Bool.{Bool, true, not, ◌&&◌, and_comm, or_comm, ◌||◌}
use mathlib.Core.Logic.{⊎_elim}
use Prim.Native.Nat.{ℕ, ◌<◌}
use lib.Dec.{eqb, ltb}
use lib.ListN.{length}
use borrow.Author.Tests.{ltb-true, eqb-true}
use Rattle.sets.specs.Sets.{bit}
use Rattle.sets.proofs.Bools.{and_left, and_right, or-either, any_found, any_here, same_bool}
use Rattle.plan.specs.Plan.{Link, link_at}
use Rattle.network.specs.Topology.{Network, node_works, link_works, has_ends, joins, adjacent, WorkingLink}

-- a link joins its ends both ways
pub has-ends-sym : (l : Link) (v w : ℕ) → has_ends l v w ≡ has_ends l w v
has-ends-sym l v w =
    or_comm (eqb l.low v && eqb l.high w) (eqb l.high v && eqb l.low w)
    ∙ ap₂ ◌||◌ (and_comm (eqb l.high v) (eqb l.low w)) (and_comm (eqb l.low v) (eqb l.high w))

module _ (net : Network) where
  -- a node that works is one of the plan's
  pub node-below : (v : ℕ) → node_works net v ≡ true → v < net.nodes
  unfolding node_works
  node-below v e = ltb-true v net.nodes (and_left _ _ e)

  -- a link that works is one of the plan's, and both its ends work
  pub link-below : (i : ℕ) → link_works net i ≡ true → i < length net.links
  unfolding link_works
  link-below i e =
      let here = ltb i (length net.links) in
      let intact = not (bit net.out.links i) in
      ltb-true i (length net.links) (and_left here intact (and_left (here && intact) _ e))

  pub link-ends : (i : ℕ) → link_works net i ≡ true → (node_works net (link_at net.links i).low ≡ true) × (node_works net (link_at net.links i).high ≡ true)
  unfolding link_works
  link-ends i e =
      let low = node_works net (link_at net.links i).low in
      let high = node_works net (link_at net.links i).high in
      let both = and_right (ltb i (length net.links) && not (bit net.out.links i)) (low && high) e in
      (and_left low high both, and_right low high both)

  -- so both nodes that a working link joins work
  both-work : (a b v w : ℕ) → (eqb a v && eqb b w) ≡ true → node_works net a ≡ true → node_works net b ≡ true → (node_works net v ≡ true) × (node_works net w ≡ true)
  both-work a b v w h e f = (
    ap (node_works net) (sym (eqb-true a v (and_left (eqb a v) (eqb b w) h))) ∙ e,
    ap (node_works net) (sym (eqb-true b w (and_right (eqb a v) (eqb b w) h))) ∙ f,
  )

  end-nodes : (i v w : ℕ) → link_works net i ≡ true → has_ends (link_at net.links i) v w ≡ true → (node_works net v ≡ true) × (node_works net w ≡ true)
  end-nodes i v w e h =
      let l = link_at net.links i in
      ⊎_elim
      (λ x. both-work l.low l.high v w x (link-ends i e).0 (link-ends i e).1)
      (λ x. both-work l.high l.low v w x (link-ends i e).1 (link-ends i e).0)
      (or-either (eqb l.low v && eqb l.high w) (eqb l.high v && eqb l.low w) h)

  pub link-nodes : (v w : ℕ) → WorkingLink net v w → (node_works net v ≡ true) × (node_works net w ≡ true)
  unfolding joins
  link-nodes v w s =
      let up = link_works net s.0 in
      let at = has_ends (link_at net.links s.0) v w in
      end-nodes s.0 v w (and_left up at s.1) (and_right up at s.1)

  -- a working link joins both ways
  pub link-back : (v w : ℕ) → WorkingLink net v w → WorkingLink net w v
  unfolding joins
  link-back v w s = (s.0, ap (λ (x : Bool). link_works net s.0 && x) (has-ends-sym (link_at net.links s.0) w v) ∙ s.1)

  -- `adjacent` is true exactly where a working link joins the two nodes
  pub adjacent-link : (v w : ℕ) → adjacent net v w ≡ true → WorkingLink net v w
  unfolding adjacent
  adjacent-link v w e =
      let f = any_found (λ i. joins net i v w) (length net.links) e in
      (f.0, f.2)

  pub link-adjacent : (v w : ℕ) → WorkingLink net v w → adjacent net v w ≡ true
  unfolding adjacent joins
  link-adjacent v w s = any_here (λ i. joins net i v w) (length net.links) s.0 (link-below s.0 (and_left (link_works net s.0) _ s.1)) s.1

  pub adjacent-sym : (v w : ℕ) → adjacent net v w ≡ adjacent net w v
  adjacent-sym v w = same_bool _ _ (turn v w) (turn w v)
    where
      turn : (v w : ℕ) → adjacent net v w ≡ true → adjacent net w v ≡ true
      turn v w e = link-adjacent w v (link-back v w (adjacent-link v w e))
