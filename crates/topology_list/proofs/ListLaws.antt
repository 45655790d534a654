-- Laws of the topology list: equal topologies are one entry, sums over the entries are sums over the ends, and what 15 leaves.
-- Assumes nothing.
use mathlib.Core.Path.{◌≡◌, refl, sym, ap, ◌∙◌}
use mathlib.Core.Bool.{Bool, true, false, cond}
use mathlib.Core.List.{List, [], ◌∷◌}
use Prim.Native.Nat.{ℕ, zero, suc, ◌+◌, ◌*◌, ◌≤◌}
use native.Mathlib.Omega.{arith}
use borrow.Author.Tests.{eqb-true, eq-eqb, ltb-false}
use lib.Dec.{eqb, ltb}
use lib.ListN.{length}
use Rattle.sets.proofs.Bools.{and_left, and_right, and_both, clash}
use Rattle.walk.specs.Scenario.{Scenario}
use Rattle.walk.specs.Ends.{End, dropped, relevant, sum_ends}
use Rattle.topology_list.specs.Entries.{Entry, entry, masses_in, same_topology, added, TopologyList, topology_list}
use Rattle.topology_list.specs.TopologyList.{placed, placed_all}
use Rattle.topology_list.specs.declared.Topology.{Topology}
use Rattle.topology_list.specs.ListBounds.{sum_entries}
use Rattle.topology_list.specs.Different.{Absent, Different}

-- law: topologies that pass the test are equal
pub same-equal : (a t : Topology) → same_topology a t ≡ true → a ≡ t
unfolding same_topology
same-equal a t e =
    let one : a.nodes ≡ t.nodes = eqb-true _ _ (and_left _ _ e) in
    let rest = and_right (eqb a.nodes t.nodes) _ e in
    let two : a.low ≡ t.low = eqb-true _ _ (and_left _ _ rest) in
    let three : a.high ≡ t.high = eqb-true _ _ (and_right (eqb a.low t.low) _ rest) in
    λ i. record { nodes = one i; low = two i; high = three i }

-- law: and a topology passes the test with itself
pub same-itself : (t : Topology) → same_topology t t ≡ true
unfolding same_topology
same-itself t = and_both _ _ (eq-eqb t.nodes t.nodes refl) (and_both _ _ (eq-eqb t.low t.low refl) (eq-eqb t.high t.high refl))

absent-added : (x t : Topology) (m : ℕ) (entries : List Entry) → (x ≡ t → ⊥) → Absent x entries → Absent x (added t m entries)
absent-added x t m [] n a = (n, tt)
absent-added x t m (e ∷ entries) n a = go (same_topology e.topology t) (absent-added x t m entries n a.1)
  where
    go : (b : Bool) → Absent x (added t m entries) → Absent x (cond b (entry e.topology (e.mass + m) ∷ entries) (e ∷ added t m entries))
    go true later = a
    go false later = (a.0, later)

-- law: "one entry for each different effective topology"
pub different-added : (t : Topology) (m : ℕ) (entries : List Entry) → Different entries → Different (added t m entries)
different-added t m [] d = (tt, tt)
different-added t m (e ∷ entries) d = go (same_topology e.topology t) refl (different-added t m entries d.1)
  where
    go : (b : Bool) → same_topology e.topology t ≡ b → Different (added t m entries)
        → Different (cond b (entry e.topology (e.mass + m) ∷ entries) (e ∷ added t m entries))
    go true is later = d
    go false is later = (absent-added e.topology t m entries (λ eq. clash (ap (λ (x : Topology). same_topology x t) eq ∙ same-itself t) is) d.0, later)

-- law: the sum of the masses is that of weight 1
pub masses-are : (entries : List Entry) → masses_in entries ≡ sum_entries (λ t. 1) entries
masses-are [] = refl
masses-are (e ∷ entries) = omega (arith, masses-are entries)

module _ (weight : Topology → ℕ) where
  -- law: a mass added to a list adds mass × weight
  pub sum_added : (t : Topology) (m : ℕ) (entries : List Entry) → sum_entries weight (added t m entries) ≡ sum_entries weight entries + m * weight t
  sum_added t m [] = omega arith
  sum_added t m (e ∷ entries) = go (same_topology e.topology t) refl (sum_added t m entries)
    where
      go : (b : Bool) → same_topology e.topology t ≡ b → sum_entries weight (added t m entries) ≡ sum_entries weight entries + m * weight t
          → sum_entries weight (cond b (entry e.topology (e.mass + m) ∷ entries) (e ∷ added t m entries))
          ≡ e.mass * weight e.topology + sum_entries weight entries + m * weight t
      go true is h = omega (arith, ap (λ (x : Topology). m * weight x) (same-equal e.topology t is))
      go false is h = omega arith

module _ (room : ℕ) (topology : Scenario → Topology) where
  pub full-stays : (entries : List Entry) (number : ℕ) (list : List End)
      → placed_all room topology (topology_list entries (suc number)) list ≡ topology_list entries (suc number)
  full-stays entries number [] = refl
  full-stays entries number (dropped ∷ list) = full-stays entries number list
  full-stays entries number (relevant s m ∷ list) = full-stays entries number list

  -- law: after 15 nothing changes
  pub refused-stays : (out : TopologyList) (list : List End) → (out.number ≡ 0 → ⊥) → placed_all room topology out list ≡ out
  refused-stays out list n = go out.number refl
    where
      go : (number : ℕ) → out.number ≡ number → placed_all room topology out list ≡ out
      go zero e = absurd (n e)
      go (suc number) e =
          let is : out ≡ topology_list out.entries (suc number) = λ i. record { entries = out.entries; number = e i } in
          ap (λ (l : TopologyList). placed_all room topology l list) is ∙ full-stays out.entries number list ∙ sym is

  -- law: one scenario adds at most its mass
  pub masses-placed : (entries : List Entry) (s : Scenario) (m : ℕ)
      → masses_in (placed room topology (topology_list entries 0) (relevant s m)).entries ≤ masses_in entries + m
  masses-placed entries s m = go (ltb room (length (added (topology s) m entries)))
    where
      go : (b : Bool) → masses_in (cond b (topology_list entries 15) (topology_list (added (topology s) m entries) 0)).entries ≤ masses_in entries + m
      go true = omega arith
      go false =
          omega (
            arith,
            masses-are entries,
            masses-are (added (topology s) m entries),
            sum_added (λ t. 1) (topology s) m entries,
          )

  -- law: there are never more entries than room for them
  pub never-over : (entries : List Entry) (list : List End) → length entries ≤ room → length (placed_all room topology (topology_list entries 0) list).entries ≤ room
  never-over entries [] h = h
  never-over entries (dropped ∷ list) h = never-over entries list h
  never-over entries (relevant s m ∷ list) h =
      go (added (topology s) m entries) (never-over (added (topology s) m entries) list) (ltb room (length (added (topology s) m entries))) refl
    where
      go : (new : List Entry) → (length new ≤ room → length (placed_all room topology (topology_list new 0) list).entries ≤ room)
          → (b : Bool) → ltb room (length new) ≡ b → length (placed_all room topology (cond b (topology_list entries 15) (topology_list new 0)) list).entries ≤ room
      go new ih true e = rw (full-stays entries 14 list) h
      go new ih false e = ih (ltb-false room (length new) e)

  -- law: the entries stay different
  pub different-placed : (entries : List Entry) (list : List End) → Different entries → Different (placed_all room topology (topology_list entries 0) list).entries
  different-placed entries [] d = d
  different-placed entries (dropped ∷ list) d = different-placed entries list d
  different-placed entries (relevant s m ∷ list) d =
      go (added (topology s) m entries)
      (different-placed (added (topology s) m entries) list (different-added (topology s) m entries d))
      (ltb room (length (added (topology s) m entries)))
    where
      go : (new : List Entry) → Different (placed_all room topology (topology_list new 0) list).entries
          → (b : Bool) → Different (placed_all room topology (cond b (topology_list entries 15) (topology_list new 0)) list).entries
      go new ih true = rw (full-stays entries 14 list) d
      go new ih false = ih

  module _ (weight : Topology → ℕ) where
    -- law: where no topology was left unplaced, a sum over the entries is the sum over the ends
    pub sum-placed : (entries : List Entry) (list : List End) → (placed_all room topology (topology_list entries 0) list).number ≡ 0
        → sum_entries weight (placed_all room topology (topology_list entries 0) list).entries
        ≡ sum_entries weight entries + sum_ends (λ s m. m * weight (topology s)) list
    sum-placed entries [] e = omega arith
    sum-placed entries (dropped ∷ list) e = sum-placed entries list e
    sum-placed entries (relevant s m ∷ list) e =
        go (added (topology s) m entries) (sum_added weight (topology s) m entries) (sum-placed (added (topology s) m entries) list)
        (ltb room (length (added (topology s) m entries)))
        e
      where
        go : (new : List Entry) → sum_entries weight new ≡ sum_entries weight entries + m * weight (topology s)
            → ((placed_all room topology (topology_list new 0) list).number ≡ 0
            → sum_entries weight (placed_all room topology (topology_list new 0) list).entries
            ≡ sum_entries weight new + sum_ends (λ s m. m * weight (topology s)) list)
            → (b : Bool) → (placed_all room topology (cond b (topology_list entries 15) (topology_list new 0)) list).number ≡ 0
            → sum_entries weight (placed_all room topology (cond b (topology_list entries 15) (topology_list new 0)) list).entries
            ≡ sum_entries weight entries + (m * weight (topology s) + sum_ends (λ s m. m * weight (topology s)) list)
        go new more ih true h = absurd (let never : 15 ≡ 0 = ap (λ (l : TopologyList). l.number) (sym (full-stays entries 14 list)) ∙ h in omega arith)
        go new more ih false h = omega (arith, ih h)
