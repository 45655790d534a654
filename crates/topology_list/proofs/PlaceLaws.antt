-- One mass placed: what each way of placing it gives.
-- Assumes nothing.
use Rattle.std.specs.Prelude.{Result, Ok, Err, IfOk}
use Rattle.std.proofs.lemmas.Result.{IfOk-weaker}
use mathlib.Core.Path.{◌≡◌, refl, sym, ap, subst, ◌∙◌}
use mathlib.Core.Bool.{true, false}
use mathlib.Core.List.{List, [], ◌∷◌, ◌++◌}
use Prim.Native.Nat.{ℕ, ◌+◌, ◌*◌, ◌/◌, ◌^◌, ◌<◌, ◌≤◌}
use native.Mathlib.Omega.{arith}
use borrow.Author.Tests.{leb-true, leb-false}
use lib.Dec.{leb}
use lib.ListN.{length, get_or, set, drop, length-set, length-append}
use lib.Seq.{sets, length-sets}
use Rattle.mass.specs.Refusal.{refuse, number, number_in}
use Rattle.mass.specs.declared.refusal.Refusal.{Refusal}
use Rattle.mass.proofs.RefusalLaws.{refuse-none, refused-by}
use Rattle.topology_list.specs.Entries.{Entry, entry, same_topology, added, TopologyList, topology_list, fitted}
use Rattle.topology_list.specs.Words.{mass_at, entries_of, Found, MassFits, HoldsList}
use Rattle.topology_list.specs.declared.Topology.{Topology}
use Rattle.topology_list.proofs.SameLaws.{none, added-at, added_new, mass-part, fits-room, no_room}
use Rattle.topology_list.proofs.EntryLaws.{entries-length, entry-at, raised-entries, raised-others, laid-entries, laid-others}

-- what an answer promises of words that hold n entries
pub holds : (list : TopologyList) (count n : ℕ) (words words' : List ℕ) (r : Result ℕ Refusal) → number_in r ≡ list.number → IfOk r (λ k. k ≡ n)
    → entries_of n words' ≡ list.entries → count ≤ n → 4 * n ≤ length words' → drop (4 * n) words' ≡ drop (4 * n) words
    → length words' ≡ length words → HoldsList list count words words' r
holds list count n words words' r number told entries grows room others sized =
    let long : n ≡ length list.entries = sym (entries-length n words') ∙ ap length entries in
    record {
      number = number;
      count-is = IfOk-weaker r (λ k. k ≡ n) (λ k. k ≡ length list.entries) (λ k e. e ∙ long) told;
      entries = subst (λ (k : ℕ). entries_of k words' ≡ list.entries) long entries;
      grows = omega (arith, grows, long);
      room = omega (arith, room, long);
      others = subst (λ (k : ℕ). drop (4 * k) words' ≡ drop (4 * k) words) long others;
      sized = sized;
    }

module _ (count m : ℕ) (words : List ℕ) (t : Topology) (i : ℕ) (p : MassFits count m words) (f : Found t count words i) where
  abbrev es : List Entry
  es = entries_of count words

  abbrev outcome : TopologyList
  outcome = fitted (length words / 4) es (added t m es)

  long : length es ≡ count
  long = entries-length count words

  -- what the search says of the words, said of the entries
  differs : (j : ℕ) → j < count → j < i → same_topology (get_or es j none).topology t ≡ false
  differs j h l = ap (λ (e : Entry). same_topology e.topology t) (entry-at count words j h) ∙ f.before j l

  module _ (known : i < count) where
    equals : same_topology (get_or es i none).topology t ≡ true
    equals = ap (λ (e : Entry). same_topology e.topology t) (entry-at count words i known) ∙ f.there known

    pub mass-fits : mass_at words i + m < 2 ^ 64
    mass-fits = omega (arith, ap (λ (e : Entry). e.mass) (entry-at count words i known), mass-part es i (omega (arith, long)), p.fits)

    abbrev raised : List ℕ
    raised = set words (4 * i + 3) (mass_at words i + m)

    is-added : added t m es ≡ entries_of count raised
    is-added =
        added-at t m es i (omega (arith, long)) (λ j l. differs j (omega arith) l) equals
        ∙ ap (λ (e : Entry). set es i (entry e.topology (e.mass + m))) (entry-at count words i known)
        ∙ sym (raised-entries count words i (mass_at words i + m) known p.room)

    pub placed-known : HoldsList outcome count words raised (Ok count)
    placed-known =
        subst (λ (l : TopologyList). HoldsList l count words raised (Ok count))
        (sym (fits-room (length words / 4) es (added t m es) (omega (arith, p.room, ap length is-added, entries-length count raised))))
        (holds (topology_list (added t m es) 0) count count words raised (Ok count) refl refl (sym is-added) (omega arith)
        (omega (arith, p.room, length-set words (4 * i + 3) (mass_at words i + m)))
        (raised-others count words i (mass_at words i + m) known p.room)
        (length-set words (4 * i + 3) (mass_at words i + m)))

  module _ (new : count ≤ i) where
    is-new : added t m es ≡ es ++ (entry t m ∷ [])
    is-new = added_new t m es (λ j l. differs j (omega (arith, long)) (omega (arith, long)))

    longer : length (added t m es) ≡ count + 1
    longer = omega (arith, ap length is-new, length-append es (entry t m ∷ []), long)

    pub placed-full : (r : Refusal) → number r ≡ refuse (leb (length words / 4) count) 15 → HoldsList outcome count words words (Err r)
    placed-full r e =
        let at = refused-by (leb (length words / 4) count) 15 r e in
        let full : length words / 4 ≤ count = leb-true (length words / 4) count at.0 in
        subst (λ (l : TopologyList). HoldsList l count words words (Err r))
        (sym (no_room (length words / 4) es (added t m es) (omega (arith, longer))))
        (holds (topology_list es 15) count count words words (Err r) at.1 tt refl (omega arith) p.room refl refl)

    module _ (passes : 0 ≡ refuse (leb (length words / 4) count) 15) where
      space : count < length words / 4
      space = leb-false (length words / 4) count (refuse-none (leb (length words / 4) count) 14 (sym passes))

      abbrev laid : List ℕ
      laid = sets words (4 * count) (t.nodes ∷ t.low ∷ t.high ∷ m ∷ [])

      pub has-space : 4 * count + 4 ≤ length words
      has-space = omega (arith, space)

      pub placed-new : HoldsList outcome count words laid (Ok (count + 1))
      placed-new =
          let size : length laid ≡ length words = length-sets words (4 * count) (t.nodes ∷ t.low ∷ t.high ∷ m ∷ []) in
          subst (λ (l : TopologyList). HoldsList l count words laid (Ok (count + 1)))
          (sym (fits-room (length words / 4) es (added t m es) (omega (arith, longer, space))))
          (holds (topology_list (added t m es) 0) count (count + 1) words laid (Ok (count + 1)) refl refl
          (laid-entries count words t m has-space ∙ sym is-new) (omega arith) (omega (arith, has-space, size)) (laid-others count words t m has-space) size)
