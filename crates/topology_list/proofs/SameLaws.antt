-- Entries added to a list: where a topology's entry stands, and what becomes of it.
-- Assumes nothing.
use mathlib.Core.Path.{◌≡◌, refl}
use mathlib.Core.Bool.{true, false}
use mathlib.Core.List.{List, [], ◌∷◌, ◌++◌}
use Prim.Native.Nat.{ℕ, zero, suc, ◌+◌, ◌<◌, ◌≤◌}
use native.Mathlib.Omega.{arith}
use borrow.Author.Tests.{lt-ltb, le-ltb}
use lib.ListN.{length, get_or, set}
use Rattle.topology_list.specs.Entries.{Entry, entry, masses_in, same_topology, added, topology_list, fitted}
use Rattle.topology_list.specs.declared.Topology.{Topology}

abbrev pub none : Entry
none = entry (record { nodes = 0; low = 0; high = 0 }) 0

module _ (t : Topology) (m : ℕ) where
  -- entry i is the first that has the topology: the mass is added to it
  pub added-at : (es : List Entry) (i : ℕ) → i < length es → ((j : ℕ) → j < i → same_topology (get_or es j none).topology t ≡ false)
      → same_topology (get_or es i none).topology t ≡ true → added t m es ≡ set es i (entry (get_or es i none).topology ((get_or es i none).mass + m))
  added-at [] i h before there = absurd (omega arith)
  added-at (e ∷ es) zero h before there = rw there
  added-at (e ∷ es) (suc i) h before there =
      rw (before 0 (omega arith), added-at es i (omega arith) (λ j l. before (suc j) (omega arith)) there)

  -- no entry has it: a new one comes after the last
  pub added_new : (es : List Entry) → ((j : ℕ) → j < length es → same_topology (get_or es j none).topology t ≡ false) → added t m es ≡ es ++ (entry t m ∷ [])
  added_new [] before = refl
  added_new (e ∷ es) before = rw (before 0 (omega arith), added_new es (λ j l. before (suc j) (omega arith)))

-- the mass of an entry is part of the sum
pub mass-part : (es : List Entry) (i : ℕ) → i < length es → (get_or es i none).mass ≤ masses_in es
mass-part [] i h = absurd (omega arith)
mass-part (e ∷ es) zero h = omega arith
mass-part (e ∷ es) (suc i) h = omega (arith, mass-part es i (omega arith))

-- with room and without
pub fits-room : (room : ℕ) (old new : List Entry) → length new ≤ room → fitted room old new ≡ topology_list new 0
fits-room room old new h = rw (le-ltb room (length new) h)

pub no_room : (room : ℕ) (old new : List Entry) → room < length new → fitted room old new ≡ topology_list old 15
no_room room old new h = rw (lt-ltb room (length new) h)
