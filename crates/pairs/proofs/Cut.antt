-- One turn of the loop that adds a mass to the pairs of one component after another.
-- Assumes nothing.
use mathlib.Core.Path.{◌≡◌, refl, sym, ap, ◌∙◌}
use mathlib.Core.Bool.{Bool, true, false, not, ◌&&◌}
use mathlib.Core.List.{List}
use mathlib.Core.Logic.{◌⊎◌, inl, inr, ⊎_elim}
use Prim.Native.Nat.{ℕ, ◌+◌, ◌*◌, ◌<◌, ◌≤◌}
use native.Mathlib.Omega.{arith}
use borrow.Author.Tests.{ltb-true, lt-ltb}
use lib.Dec.{ltb}
use lib.ListN.{length, get_or}
use Rattle.sets.specs.Sets.{bit, digit}
use Rattle.sets.proofs.Laws.{bit-none}
use Rattle.sets.proofs.Bools.{and_left, and_right, and_both, which, clash, not-of, of-not, not_so}
use Rattle.topology.proofs.Chains.{chain-append, chain_back, chain-keeps}
use Rattle.topology.specs.Paths.{here}
use Rattle.topology.specs.RowPaths.{RowPath, Reached}
use Rattle.pairs.specs.Pairs.{place, pair_count}
use Rattle.pairs.specs.Adding.{AddingRows, AddedRows, JoinedByRows, AddingCut, AddedCut}

-- what the pair (v, w) is to gain
pub record Settled (nodes mass : ℕ) (rows : List ℕ) (v w old new : ℕ) : Type 0 where
  pub joined : JoinedByRows nodes rows v w → new ≡ old
  pub apart : (JoinedByRows nodes rows v w → ⊥) → new ≡ old + mass

-- in the loop: the pairs of the working nodes that are not left are done, the others untouched, and no path leads out of what is left
pub record CutTurn (list₀ : List ℕ) (base n nodes mass : ℕ) (rows list : List ℕ) (left : ℕ) : Type 0 where
  pub asked : AddingCut base n nodes mass rows list₀
  pub sized : length list ≡ length list₀
  pub sub : (v : ℕ) → bit left v ≡ true → bit nodes v ≡ true
  pub closed : (v w : ℕ) → bit left v ≡ true → RowPath rows v w → bit left w ≡ true
  pub done : (v w : ℕ) → v < w → w < n → bit nodes v ≡ true → bit left v ≡ false
      → Settled nodes mass rows v w (get_or list₀ (place n v w + base) 0) (get_or list (place n v w + base) 0)
  pub untouched : (v w : ℕ) → v < w → w < n → (bit left v ≡ true) ⊎ (bit nodes v ≡ false) → get_or list (place n v w + base) 0 ≡ get_or list₀ (place n v w + base) 0
  pub before : (i : ℕ) → i < base → get_or list i 0 ≡ get_or list₀ i 0
  pub past : (i : ℕ) → pair_count n + base ≤ i → get_or list i 0 ≡ get_or list₀ i 0

pub cut-begins : (list : List ℕ) (base n nodes mass : ℕ) (rows : List ℕ) → AddingCut base n nodes mass rows list → CutTurn list base n nodes mass rows list nodes
cut-begins list base n nodes mass rows a =
    record {
      asked = a;
      sized = refl;
      sub = λ v e. e;
      closed = λ v w e p. chain-keeps (λ x. bit nodes x ≡ true) (λ x y s k. a.joining.within x y s) p e;
      done = λ v w h k e f. absurd (clash e f);
      untouched = λ v w h k e. refl;
      before = λ i h. refl;
      past = λ i h. refl;
    }

-- nothing, or one mass
times : (mass : ℕ) (b : Bool) → b ≡ true → mass * digit b ≡ mass
times mass b e = ap (λ (x : Bool). mass * digit x) e ∙ omega arith

nothing : (mass : ℕ) (b : Bool) → b ≡ false → mass * digit b ≡ 0
nothing mass b e = ap (λ (x : Bool). mass * digit x) e ∙ omega arith

module _ {list₀ : List ℕ} {base n nodes mass : ℕ} {rows list : List ℕ} {left : ℕ} (g : CutTurn list₀ base n nodes mass rows list left)
    (all : ℕ) (alls : (w : ℕ) → bit all w ≡ ltb w n) where
  -- the component of a node that is left
  module _ (t part : ℕ) (found : bit left t ≡ true) (reached : Reached nodes rows t part) where
    back-way : (v w : ℕ) → RowPath rows v w → RowPath rows w v
    back-way v w p = chain_back g.asked.joining.both_ways p

    to : (v : ℕ) → bit part v ≡ true → RowPath rows t v
    to v e = ((reached v).0 e).1

    -- it is part of what is left
    pub part_left : (v : ℕ) → bit part v ≡ true → bit left v ≡ true
    part_left v e = g.closed t v found (to v e)

    in-part : (v : ℕ) → RowPath rows t v → bit part v ≡ true
    in-part v p = (reached v).1 (g.sub t found, p)

    pub has_first : bit part t ≡ true
    has_first = in-part t here

    -- a node of it is joined exactly with its nodes
    same : (v w : ℕ) → bit part v ≡ true → JoinedByRows nodes rows v w → bit part w ≡ true
    same v w e j = in-part w (chain-append (to v e) j.1)

    within : (v w : ℕ) → bit part v ≡ true → bit part w ≡ true → JoinedByRows nodes rows v w
    within v w e f = (g.sub v (part_left v e), chain-append (back-way t v (to v e)) (to w f))

    module _ (others : ℕ) (rest : (w : ℕ) → bit others w ≡ (bit all w && not (bit part w))) where
      outside : (w : ℕ) → w < n → bit part w ≡ false → bit others w ≡ true
      outside w h e = rest w ∙ and_both (bit all w) _ (alls w ∙ lt-ltb w n h) (not-of (bit part w) e)

      -- it has all nodes: every pair is joined
      pub all-joined : others ≡ 0 → AddedCut base n nodes mass rows list₀ list
      all-joined none =
          record {
            sized = g.sized;
            joined = λ v w h k j. g.untouched v w h k (inl (part_left v (has v (omega arith))));
            apart = λ v w h k a. absurd (a (within v w (has v (omega arith)) (has w k)));
            before = g.before;
            past = g.past;
          }
        where
          has : (w : ℕ) → w < n → bit part w ≡ true
          has w h = ⊎_elim (λ e. e) (λ e. absurd (clash (outside w h e) (ap (λ (x : ℕ). bit x w) none ∙ bit-none w))) (which (bit part w))

      pub part-asked : AddingRows base n part others mass list
      part-asked =
          record {
            few = g.asked.few;
            low = g.asked.low;
            room = omega (arith, g.asked.room, g.sized);
            nodes = λ v e. g.asked.nodes-within v (g.sub v (part_left v e));
            within = λ w e. ltb-true w n (sym (alls w) ∙ and_left (bit all w) _ (sym (rest w) ∙ e));
            fits = λ v w h k e. omega (arith, g.asked.fits v w h k, g.untouched v w h k (inl (part_left v e)));
          }

      module _ {list' : List ℕ} (r : AddedRows base n part others mass list list') (left' : ℕ) (less : (v : ℕ) → bit left' v ≡ (bit left v && not (bit part v))) where
        still : (v : ℕ) → bit left' v ≡ true → (bit left v ≡ true) × (bit part v ≡ false)
        still v e =
            let both = sym (less v) ∙ e in
            (and_left (bit left v) _ both, of-not _ (and_right (bit left v) _ both))

        -- the pairs of a node that is not in it gain nothing
        kept : (v w : ℕ) → v < w → w < n → bit part v ≡ false → get_or list' (place n v w + base) 0 ≡ get_or list (place n v w + base) 0
        kept v w h k e = omega (arith, r.each v w h k, nothing mass (bit part v && bit others w) (ap (λ (b : Bool). b && bit others w) e))

        -- those of its nodes gain the mass where the other node is outside
        own : (v w : ℕ) → v < w → w < n → bit part v ≡ true → Settled nodes mass rows v w (get_or list₀ (place n v w + base) 0) (get_or list' (place n v w + base) 0)
        own v w h k e =
            record {
              joined = λ j. omega (arith, r.each v w h k, old, nothing mass (bit part v && bit others w) (ap (λ (b : Bool). b && bit others w) e ∙ inner (same v w e j)));
              apart =
                  λ a.
                  omega (
                    arith,
                    r.each v w h k,
                    old,
                    times mass (bit part v && bit others w) (and_both (bit part v) _ e (outside w k (not_so (bit part w) (λ f. a (within v w e f))))),
                  );
            }
          where
            old : get_or list (place n v w + base) 0 ≡ get_or list₀ (place n v w + base) 0
            old = g.untouched v w h k (inl (part_left v e))

            inner : bit part w ≡ true → bit others w ≡ false
            inner f = not_so (bit others w) (λ o. clash f (of-not _ (and_right (bit all w) _ (sym (rest w) ∙ o))))

        earlier : (v w : ℕ) → v < w → w < n → bit nodes v ≡ true → bit left' v ≡ false → (bit part v ≡ true) ⊎ (bit part v ≡ false)
            → Settled nodes mass rows v w (get_or list₀ (place n v w + base) 0) (get_or list' (place n v w + base) 0)
        earlier v w h k e f (inl p) = own v w h k p
        earlier v w h k e f (inr p) =
            let gone : bit left v ≡ false = not_so (bit left v) (λ l. clash (less v ∙ and_both (bit left v) _ l (not-of (bit part v) p)) f) in
            let s = g.done v w h k e gone in
            let stays = kept v w h k p in
            record { joined = λ j. stays ∙ s.joined j; apart = λ a. stays ∙ s.apart a }

        not-in-part : (v : ℕ) → (bit left' v ≡ true) ⊎ (bit nodes v ≡ false) → bit part v ≡ false
        not-in-part v (inl e) = (still v e).1
        not-in-part v (inr e) = not_so (bit part v) (λ p. clash (g.sub v (part_left v p)) e)

        was-left : (v : ℕ) → (bit left' v ≡ true) ⊎ (bit nodes v ≡ false) → (bit left v ≡ true) ⊎ (bit nodes v ≡ false)
        was-left v (inl e) = inl (still v e).0
        was-left v (inr e) = inr e

        pub cut-turned : CutTurn list₀ base n nodes mass rows list' left'
        cut-turned =
            record {
              asked = g.asked;
              sized = r.sized ∙ g.sized;
              sub = λ v e. g.sub v (still v e).0;
              closed =
                  λ v w e p.
                  less w
                  ∙ and_both (bit left w) _ (g.closed v w (still v e).0 p)
                  (not-of (bit part w) (not_so (bit part w) (λ f. clash (in-part v (chain-append (to w f) (back-way v w p))) (still v e).1)));
              done = λ v w h k e f. earlier v w h k e f (which (bit part v));
              untouched = λ v w h k e. kept v w h k (not-in-part v e) ∙ g.untouched v w h k (was-left v e);
              before = λ i h. r.before i h ∙ g.before i h;
              past = λ i h. r.past i h ∙ g.past i h;
            }

  -- no node is left: the nodes that do not work are cut off from all others
  module _ (down : ℕ) (downs : (v : ℕ) → bit down v ≡ (bit all v && not (bit nodes v))) where
    not-up : (v : ℕ) → bit down v ≡ true → bit nodes v ≡ false
    not-up v e = of-not _ (and_right (bit all v) _ (sym (downs v) ∙ e))

    -- room for this mass, and for any smaller one
    pub down-asked : {m : ℕ} → m ≤ mass → AddingRows base n down all m list
    down-asked most =
        record {
          few = g.asked.few;
          low = g.asked.low;
          room = omega (arith, g.asked.room, g.sized);
          nodes = λ v e. ltb-true v n (sym (alls v) ∙ and_left (bit all v) _ (sym (downs v) ∙ e));
          within = λ w e. ltb-true w n (sym (alls w) ∙ e);
          fits = λ v w h k e. omega (arith, g.asked.fits v w h k, g.untouched v w h k (inr (not-up v e)));
        }

    module _ {list' : List ℕ} (r : AddedRows base n down all mass list list') (none : left ≡ 0) where
      settled : (v w : ℕ) → v < w → w < n → (bit nodes v ≡ true) ⊎ (bit nodes v ≡ false)
          → Settled nodes mass rows v w (get_or list₀ (place n v w + base) 0) (get_or list' (place n v w + base) 0)
      settled v w h k (inl e) =
          let s = g.done v w h k e (ap (λ (x : ℕ). bit x v) none ∙ bit-none v) in
          let up : bit down v ≡ false = not_so (bit down v) (λ d. clash e (not-up v d)) in
          let stays : get_or list' (place n v w + base) 0 ≡ get_or list (place n v w + base) 0 =
          omega (arith, r.each v w h k, nothing mass (bit down v && bit all w) (ap (λ (b : Bool). b && bit all w) up)) in
          record { joined = λ j. stays ∙ s.joined j; apart = λ a. stays ∙ s.apart a }
      settled v w h k (inr e) =
          record {
            joined = λ j. absurd (clash j.0 e);
            apart =
                λ a.
                omega (
                  arith,
                  r.each v w h k,
                  g.untouched v w h k (inr e),
                  times mass (bit down v && bit all w) (and_both (bit down v) _ is_down (alls w ∙ lt-ltb w n k)),
                );
          }
        where
          is_down : bit down v ≡ true
          is_down = downs v ∙ and_both (bit all v) _ (alls v ∙ lt-ltb v n (omega arith)) (not-of (bit nodes v) e)

      pub cut-done : AddedCut base n nodes mass rows list₀ list'
      cut-done =
          record {
            sized = r.sized ∙ g.sized;
            joined = λ v w h k. (settled v w h k (which (bit nodes v))).joined;
            apart = λ v w h k. (settled v w h k (which (bit nodes v))).apart;
            before = λ i h. r.before i h ∙ g.before i h;
            past = λ i h. r.past i h ∙ g.past i h;
          }
