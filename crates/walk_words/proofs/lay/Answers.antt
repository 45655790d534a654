-- `walk_words::lay` meets its contract: each part is laid down after the ones before it. Assumes nothing.
use borrow.Author.Rules.{elem_Fits}
use mathlib.Core.Path.{refl, sym, ap, ◌∙◌}
use mathlib.Core.List.{List, [], ◌∷◌}
use Prim.Native.Nat.{ℕ, ◌≤◌}
use native.Mathlib.Omega.{arith}
use lib.ListN.{length}
use mir.Syntax.{w8}
use Rattle.walk_words.proofs.PartLaws.{five-laid}
use Rattle.walk_state.specs.declared.Walk.{Walk}
use Rattle.walk_words.specs.WalkWords.{walk_length, walk_words, walk_of}
use Rattle.walk_words.proofs.Theorems.{Sized, laid-again}
use Rattle.walk_words.proofs.lay.Goals.{After-put_words, After-put_words-2, After-put_words-3, After-widen, Start}
use Rattle.walk_words.proofs.lay.Goals as goal

-- a value of the type has its arrays' lengths, and bytes for links
sized : (c : Start) → Sized c.args.w
sized c =
    let w = c.args.w in
    let g = c.well_formed.0.1.1.1 in
    record {
      links = g.0.1.0.1;
      events = g.1.0.1.0.1;
      stack = g.1.1.0.1.0.1;
      sums = g.1.1.1.0.1.0.1;
      bytes = λ i. (elem_Fits w8 w8 w.links g.0.0 i g.0.1.1 tt).fits;
    }

-- the words before the arrays
abbrev numbers : Walk → List ℕ
numbers w =
    w.header.nodes
    ∷ w.header.links
    ∷ w.header.events
    ∷ w.header.threshold
    ∷ w.header.cap
    ∷ w.at
    ∷ w.reached
    ∷ w.count
    ∷ w.mass
    ∷ []

-- the list stays as long
room-1 : (c : After-put_words) → walk_length ≤ length c.put_words.new.to
room-1 c = omega (arith, c.put_words.auto.to, c.requires)

room-2 : (c : After-widen) → walk_length ≤ length c.widen.new.to
room-2 c = omega (arith, c.widen.auto.to, c.put_words.auto.to, c.requires)

room-3 : (c : After-put_words-2) → walk_length ≤ length c.put_words-2.new.to
room-3 c = omega (arith, c.put_words-2.auto.to, c.widen.auto.to, c.put_words.auto.to, c.requires)

room-4 : (c : After-put_words-3) → walk_length ≤ length c.put_words-3.new.to
room-4 c = omega (arith, c.put_words-3.auto.to, c.put_words-2.auto.to, c.widen.auto.to, c.put_words.auto.to, c.requires)

pub widen-requires : goal.widen-requires
widen-requires c = omega (arith, (sized (goal.at.widen-requires c).Start).links, room-1 (goal.at.widen-requires c).After-put_words)

pub put_words-requires-2 : goal.put_words-requires-2
put_words-requires-2 c = omega (arith, (sized (goal.at.put_words-requires-2 c).Start).events, room-2 (goal.at.put_words-requires-2 c).After-widen)

pub put_words-requires-3 : goal.put_words-requires-3
put_words-requires-3 c = omega (arith, (sized (goal.at.put_words-requires-3 c).Start).stack, room-3 (goal.at.put_words-requires-3 c).After-put_words-2)

pub slice_bounds-put_words-end-4 : goal.slice_bounds-put_words-end-4
slice_bounds-put_words-end-4 c = sym (sized (goal.at.slice_bounds-put_words-end-4 c).Start).sums

pub put_words-requires-4 : goal.put_words-requires-4
put_words-requires-4 c = omega (arith, (sized (goal.at.put_words-requires-4 c).Start).sums, room-4 (goal.at.put_words-requires-4 c).After-put_words-3)

pub returns : goal.returns
unfolding walk_words
returns c =
    let a = c.args in
    let z = sized (goal.at.returns c).Start in
    let e = c.put_words-4.ensures
    ∙ five-laid a.state.now _ _ _ _ (numbers a.w) a.w.links a.w.events a.w.stack a.w.sums 9 265 777 1289
    c.put_words.ensures c.widen.ensures c.put_words-2.ensures c.put_words-3.ensures
    refl (omega (arith, z)) (omega (arith, z)) (omega (arith, z)) in
    record {
      state = e;
      again = ap walk_of e ∙ laid-again a.w z a.state.now c.requires;
    }
