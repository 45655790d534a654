-- When 15 is met: exactly where the examined scenarios have more different topologies than the lent list has entries.
-- Assumes nothing.
use mathlib.Core.Path.{◌≡◌, refl, ap}
use mathlib.Core.Bool.{Bool, true, false, cond}
use mathlib.Core.List.{List, [], ◌∷◌}
use Prim.Native.Nat.{ℕ, suc, ◌+◌, ◌<◌, ◌≤◌}
use native.Mathlib.Omega.{arith}
use borrow.Author.Tests.{le-ltb, ltb-false}
use lib.Dec.{ltb}
use lib.ListN.{length}
use Rattle.walk.specs.Scenario.{Scenario}
use Rattle.walk.specs.Ends.{End, dropped, relevant}
use Rattle.topology_list.specs.Entries.{Entry, entry, same_topology, added, TopologyList, topology_list}
use Rattle.topology_list.specs.TopologyList.{placed_all}
use Rattle.topology_list.proofs.ListLaws.{full-stays}
use Rattle.topology_list.specs.declared.Topology.{Topology}
use Rattle.topology_list.specs.Different.{added_all}

added-grows : (t : Topology) (m : ℕ) (entries : List Entry) → length entries ≤ length (added t m entries)
added-grows t m [] = omega arith
added-grows t m (e ∷ entries) = go (same_topology e.topology t) (added-grows t m entries)
  where
    go : (b : Bool) → length entries ≤ length (added t m entries)
        → suc (length entries) ≤ length (cond b (entry e.topology (e.mass + m) ∷ entries) (e ∷ added t m entries))
    go true h = omega arith
    go false h = omega arith

module _ (topology : Scenario → Topology) where
  all-grows : (entries : List Entry) (list : List End) → length entries ≤ length (added_all topology entries list)
  all-grows entries [] = omega arith
  all-grows entries (dropped ∷ list) = all-grows entries list
  all-grows entries (relevant s m ∷ list) = omega (arith, added-grows (topology s) m entries, all-grows (added (topology s) m entries) list)

  module _ (room : ℕ) where
    -- law: with room for all, they are the list
    pub room-for-all : (entries : List Entry) (list : List End) → length (added_all topology entries list) ≤ room
        → placed_all room topology (topology_list entries 0) list ≡ topology_list (added_all topology entries list) 0
    room-for-all entries [] h = refl
    room-for-all entries (dropped ∷ list) h = room-for-all entries list h
    room-for-all entries (relevant s m ∷ list) h =
        rw (le-ltb room (length (added (topology s) m entries)) (omega (arith, all-grows (added (topology s) m entries) list)))
        (room-for-all (added (topology s) m entries) list h)

    -- law: with less, 15
    pub no-room-for-all : (entries : List Entry) (list : List End) → length entries ≤ room → room < length (added_all topology entries list)
        → (placed_all room topology (topology_list entries 0) list).number ≡ 15
    no-room-for-all entries [] l h = absurd (omega arith)
    no-room-for-all entries (dropped ∷ list) l h = no-room-for-all entries list l h
    no-room-for-all entries (relevant s m ∷ list) l h =
        go (added (topology s) m entries) (λ k. no-room-for-all (added (topology s) m entries) list k h) (ltb room (length (added (topology s) m entries))) refl
      where
        go : (new : List Entry) → (length new ≤ room → (placed_all room topology (topology_list new 0) list).number ≡ 15)
            → (b : Bool) → ltb room (length new) ≡ b → (placed_all room topology (cond b (topology_list entries 15) (topology_list new 0)) list).number ≡ 15
        go new ih true e = ap (λ (l : TopologyList). l.number) (full-stays room topology entries 14 list)
        go new ih false e = ih (ltb-false room (length new) e)
