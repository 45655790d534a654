-- A relevant scenario examined: from the neighbours of its topology to the pairs that it disconnects, whose entries stand in the block that
-- begins at `base`.
-- Assumes nothing.
use mathlib.Core.Path.{◌≡◌, refl, sym, ap, subst, ◌∙◌}
use mathlib.Core.Bool.{Bool, true, false, not, ◌&&◌, and-true, and-false}
use mathlib.Core.List.{List}
use mathlib.Core.Logic.{◌⊎◌, inl, inr}
use Prim.Native.Nat.{ℕ, ◌+◌, ◌*◌, ◌^◌, ◌<◌, ◌≤◌}
use native.Mathlib.Nat.{mul-le-mul, mul-le-mul_left}
use native.Mathlib.Decide.{ℕ_discrete, dec_lt}
use native.Mathlib.Omega.{arith}
use borrow.Author.Tests.{ltb-true, eq-eqb, ne_eqb}
use lib.Dec.{ltb, eqb}
use lib.ListN.{length, get_or}
use Rattle.mass.specs.Split.{whole}
use Rattle.sets.specs.Sets.{bit, joined, digit}
use Rattle.sets.specs.Elements.{LowestTaken}
use Rattle.sets.proofs.Bools.{and_left, which, clash}
use Rattle.sets.proofs.Laws.{bit-zero, bit-none, bit_below}
use Rattle.plan.specs.Lists.{links_of, events_of}
use Rattle.plan.specs.LentLists.{plan_of_lists}
use Rattle.plan.specs.declared.Header.{Header}
use Rattle.network.specs.Outage.{Outage, outage_of}
use Rattle.network.specs.Topology.{Network, network_of, node_works, adjacent}
use Rattle.topology.specs.Paths.{disconnected}
use Rattle.topology.proofs.Chains.{chain-map}
use Rattle.topology.proofs.Connection.{connected-is}
use Rattle.topology.proofs.Laws.{path-leads}
use Rattle.network.specs.Code.{outage, network_in}
use Rattle.network.specs.declared.Failed.{Failed}
use Rattle.topology.proofs.RowLinks.{nodes-shown, joining, step-link, link-step}
use Rattle.walk.specs.Scenario.{scenario_of}
use Rattle.walk.proofs.ScenarioLaws.{failing-scenario}
use Rattle.walk.specs.declared.Failing.{Failing}
use Rattle.pairs.specs.Pairs.{place, pair_count}
use Rattle.pairs.proofs.PairLaws.{unplace, place-lt, pairs-most}
use Rattle.bounds.specs.Bounds.{cuts}
use Rattle.pairs.specs.Adding.{JoinedByRows, AddingCut, AddedCut}
use Rattle.bounds.specs.Blocks.{BlocksFit, BlocksAdded}
use Rattle.bounds.specs.Tallied.{Room, MassAdded}
use Rattle.plan.specs.Held.{Held}
use Rattle.pairs.proofs.Row.{at_most}

-- whether a pair is cut where the events of a set fail, with what is out before the first event
abbrev pub cut_by : Outage → Header → List ℕ → List ℕ → Failing → ℕ → ℕ → Bool
cut_by out h links words f v w = cuts out (plan_of_lists h links words) v w (scenario_of h.events (joined f.low f.high))

module _ (base : ℕ) (h : Header) (links words lower : List ℕ) (failed : Failed) (nodes : ℕ) (rows : List ℕ)
    (up : (v : ℕ) → bit nodes v ≡ (ltb v h.nodes && not (bit failed.nodes v)))
    (row : (v w : ℕ) → bit (get_or rows v 0) w ≡ adjacent (network_in h.nodes failed links h.links) v w) where
  abbrev net : Network
  net = network_in h.nodes failed links h.links

  works : (v : ℕ) → bit nodes v ≡ node_works net v
  works = nodes-shown h.nodes (links_of h.links links) (outage failed) nodes up

  -- the entries of the pairs in the block that begins at `base`, each with room for a mass
  pub adding : (mass : ℕ) → Held h links words → base ≤ 30240 → pair_count h.nodes + base ≤ length lower
      → ((v w : ℕ) → v < w → w < h.nodes → get_or lower (place h.nodes v w + base) 0 + mass ≤ whole)
      → AddingCut base h.nodes nodes mass rows lower
  adding mass held low room fits =
      record {
        few = held.links-held.nodes-fit;
        low = low;
        room = room;
        fits = fits;
        nodes-within = λ v e. ltb-true v h.nodes (and_left (ltb v h.nodes) _ (sym (up v) ∙ e));
        joining = joining net nodes rows works row;
      }

  module _ (mass : ℕ) (lower' : List ℕ) (added : AddedCut base h.nodes nodes mass rows lower lower') where
    connected : (v w : ℕ) → JoinedByRows nodes rows v w → disconnected net v w ≡ false
    connected v w j =
        let here = sym (works v) ∙ j.0 in
        let path = chain-map (step-link net nodes rows works row) j.1 in
        (connected-is net v w).1 (here, path-leads net path here, path)

    -- each pair gains the mass where the topology disconnects it
    gains : (v w : ℕ) → v < w → w < h.nodes → (disconnected net v w ≡ true) ⊎ (disconnected net v w ≡ false)
        → get_or lower' (place h.nodes v w + base) 0 ≡ get_or lower (place h.nodes v w + base) 0 + mass * digit (disconnected net v w)
    gains v w l k (inl e) =
        omega (arith, added.apart v w l k (λ j. clash e (connected v w j)), ap (λ (b : Bool). mass * digit b) e)
    gains v w l k (inr e) =
        let c = (connected-is net v w).0 e in
        omega (arith, added.joined v w l k (works v ∙ c.0, chain-map (link-step net nodes rows works row) c.2), ap (λ (b : Bool). mass * digit b) e)

    module _ (out : Outage) (f : Failing) (decided : joined f.low f.high < 2 ^ h.events)
        (gathered : outage failed ≡ outage_of out (events_of h.events words) (joined f.low f.high)) where
      is_cut : (v w : ℕ) → disconnected net v w ≡ cut_by out h links words f v w
      unfolding plan_of_lists
      is_cut v w =
          ap (λ (o : Outage). disconnected (network_of h.nodes (links_of h.links links) o) v w)
          (gathered ∙ ap (outage_of out (events_of h.events words)) (sym (failing-scenario h.events (joined f.low f.high) decided)))

      -- so it gains the mass where the scenario cuts it
      pub gained : (v w : ℕ) → v < w → w < h.nodes
          → get_or lower' (place h.nodes v w + base) 0
          ≡ get_or lower (place h.nodes v w + base) 0
          + mass * digit (cut_by out h links words f v w)
      gained v w l k =
          gains v w l k (which (disconnected net v w))
          ∙ ap (λ (b : Bool). get_or lower (place h.nodes v w + base) 0 + mass * digit b) (is_cut v w)

-- ---- blocks, one after another

-- where a block begins
pub low-base : (n b : ℕ) → n ≤ 64 → b < 16 → pair_count n * b ≤ 30240
low-base n b few l = omega (arith, mul-le-mul (pairs-most n few) (let last : b ≤ 15 = omega arith in last))

-- working nodes and neighbours that show the topology of a scenario, with what is out before the first event
pub record Shown (out : Outage) (h : Header) (links words : List ℕ) (f : Failing) (nodes : ℕ) (rows : List ℕ) : Type 0 where
  pub decided : joined f.low f.high < 2 ^ h.events
  pub failed : Failed
  pub gathered : outage failed ≡ outage_of out (events_of h.events words) (joined f.low f.high)
  pub up : (v : ℕ) → bit nodes v ≡ (ltb v h.nodes && not (bit failed.nodes v))
  pub row : (v w : ℕ) → bit (get_or rows v 0) w ≡ adjacent (network_in h.nodes failed links h.links) v w

pub shown_by : (out : Outage) (h : Header) (links words : List ℕ) (f : Failing) (nodes : ℕ) (rows : List ℕ) (failed : Failed)
    → joined f.low f.high < 2 ^ h.events → outage failed ≡ outage_of out (events_of h.events words) (joined f.low f.high)
    → ((v : ℕ) → bit nodes v ≡ (ltb v h.nodes && not (bit failed.nodes v)))
    → ((v w : ℕ) → bit (get_or rows v 0) w ≡ adjacent (network_in h.nodes failed links h.links) v w)
    → Shown out h links words f nodes rows
shown_by out h links words f nodes rows failed decided gathered up row = record { decided = decided; failed = failed; gathered = gathered; up = up; row = row }

-- in the loop: what is left to add gives what the whole was to give
pub record BlocksTurn (n : ℕ) (cut : ℕ → ℕ → Bool) (blocks mass : ℕ) (lower₀ lower : List ℕ) (left : ℕ) : Type 0 where
  pub sized : length lower ≡ length lower₀
  pub sub : (b : ℕ) → bit left b ≡ true → bit blocks b ≡ true
  pub each : (b v w : ℕ) → v < w → w < n
      → get_or lower (place n v w + pair_count n * b) 0 + mass * digit (bit left b) * digit (cut v w)
      ≡ get_or lower₀ (place n v w + pair_count n * b) 0 + mass * digit (bit blocks b) * digit (cut v w)
  pub past : (k : ℕ) → ((b : ℕ) → bit blocks b ≡ true → b < k) → (j : ℕ) → pair_count n * k ≤ j → get_or lower j 0 ≡ get_or lower₀ j 0

pub blocks-begin : (n : ℕ) (cut : ℕ → ℕ → Bool) (blocks mass : ℕ) (lower : List ℕ) → BlocksTurn n cut blocks mass lower lower blocks
blocks-begin n cut blocks mass lower = record { sized = refl; sub = λ b e. e; each = λ b v w l k. refl; past = λ k a j l. refl }

-- nothing is left
pub blocks-done : (n : ℕ) (cut : ℕ → ℕ → Bool) (blocks mass : ℕ) (lower₀ lower : List ℕ) (left : ℕ)
    → BlocksTurn n cut blocks mass lower₀ lower left → left ≡ 0 → BlocksAdded n cut blocks mass lower₀ lower
blocks-done n cut blocks mass lower₀ lower left g e =
    record {
      sized = g.sized;
      each =
          λ b v w l k.
          let none : bit left b ≡ false = ap (λ (x : ℕ). bit x b) e ∙ bit-none b in
          omega (arith, g.each b v w l k, ap (λ (x : Bool). mass * digit x * digit (cut v w)) none);
      past = g.past;
    }

module _ (out : Outage) (h : Header) (links words : List ℕ) (f : Failing) (blocks mass : ℕ) (lower₀ lower : List ℕ) (left : ℕ)
    (g : BlocksTurn h.nodes (cut_by out h links words f) blocks mass lower₀ lower left) where
  abbrev cut : ℕ → ℕ → ℕ
  cut v w = digit (cut_by out h links words f v w)

  -- the lowest block t of what is left
  module _ (held : Held h links words) (fit : BlocksFit h.nodes blocks mass lower₀) (nodes : ℕ) (rows : List ℕ)
      (s : Shown out h links words f nodes rows) {t left' : ℕ} (taken : LowestTaken left t left') where
    found : bit left t ≡ true
    found = taken.found

    -- it is one of the set
    in_blocks : bit blocks t ≡ true
    in_blocks = g.sub t found

    pub block_few : t < 16
    block_few = fit.few t in_blocks

    few : h.nodes ≤ 64
    few = held.links-held.nodes-fit

    pub block-asked : AddingCut (pair_count h.nodes * t) h.nodes nodes mass rows lower
    block-asked =
        adding (pair_count h.nodes * t) h links words lower s.failed nodes rows s.up s.row mass held (low-base h.nodes t few block_few)
        (omega (arith, fit.room t in_blocks, g.sized))
        (λ v w l k.
        omega (
          arith,
          g.each t v w l k,
          ap (λ (x : Bool). mass * digit x * cut v w) found,
          ap (λ (x : Bool). mass * digit x * cut v w) in_blocks,
          fit.fits t in_blocks v w l k,
        ))

    module _ (lower' : List ℕ) (added : AddedCut (pair_count h.nodes * t) h.nodes nodes mass rows lower lower') where
      -- the other blocks stay as they are
      stays : (b v w : ℕ) → v < w → w < h.nodes → (b ≡ t → ⊥) → Dec (b < t)
          → get_or lower' (place h.nodes v w + pair_count h.nodes * b) 0 ≡ get_or lower (place h.nodes v w + pair_count h.nodes * b) 0
      stays b v w l k n (yes c) =
          added.before (place h.nodes v w + pair_count h.nodes * b)
          (omega (arith, place-lt h.nodes v w few l k, mul-le-mul_left (pair_count h.nodes) (let next : b + 1 ≤ t = omega arith in next)))
      stays b v w l k n (no c) =
          added.past (place h.nodes v w + pair_count h.nodes * b)
          (omega (arith, mul-le-mul_left (pair_count h.nodes) (let next : t + 1 ≤ b = omega arith in next)))

      each_turn : (b v w : ℕ) → v < w → w < h.nodes → Dec (b ≡ t)
          → get_or lower' (place h.nodes v w + pair_count h.nodes * b) 0 + mass * digit (bit left' b) * cut v w
          ≡ get_or lower₀ (place h.nodes v w + pair_count h.nodes * b) 0 + mass * digit (bit blocks b) * cut v w
      each_turn b v w l k (yes e) =
          subst
          (λ (x : ℕ). get_or lower' (place h.nodes v w + pair_count h.nodes * x) 0 + mass * digit (bit left' x) * cut v w
          ≡ get_or lower₀ (place h.nodes v w + pair_count h.nodes * x) 0 + mass * digit (bit blocks x) * cut v w)
          (sym e)
          (let gone : bit left' t ≡ false = taken.rest t ∙ ap (λ (x : Bool). bit left t && not x) (eq-eqb t t refl) ∙ and-false (bit left t) in
          omega (
            arith,
            gained (pair_count h.nodes * t) h links words lower s.failed nodes rows s.up s.row mass lower' added out f s.decided s.gathered v w l k,
            ap (λ (x : Bool). mass * digit x * cut v w) gone,
            ap (λ (x : Bool). mass * digit x * cut v w) found,
            g.each t v w l k,
          ))
      each_turn b v w l k (no n) =
          let same : bit left' b ≡ bit left b = taken.rest b ∙ ap (λ (x : Bool). bit left b && not x) (ne_eqb b t n) ∙ and-true (bit left b) in
          omega (arith, stays b v w l k n (dec_lt b t), ap (λ (x : Bool). mass * digit x * cut v w) same, g.each b v w l k)

      pub blocks-turned : BlocksTurn h.nodes (cut_by out h links words f) blocks mass lower₀ lower' left'
      blocks-turned =
          record {
            sized = added.sized ∙ g.sized;
            sub = λ b e. g.sub b (and_left (bit left b) (not (eqb b t)) (sym (taken.rest b) ∙ e));
            each = λ b v w l k. each_turn b v w l k (ℕ_discrete b t);
            past =
                λ k all j l.
                added.past j (omega (arith, mul-le-mul_left (pair_count h.nodes) (let next : t + 1 ≤ k = omega (arith, all t in_blocks) in next)))
                ∙ g.past k all j l;
          }

-- ---- the run has one block, the first

first_block : (b : ℕ) → bit 1 b ≡ true → b ≡ 0
first_block b e = omega (arith, bit_below 1 1 b (omega arith) e)

pub first_fits : (n mass : ℕ) (lower : List ℕ) → n ≤ 64 → Room mass lower → BlocksFit n 1 mass lower
first_fits n mass lower few room =
    record {
      few = λ b e. omega (arith, first_block b e);
      room = λ b e. omega (arith, ap (λ (x : ℕ). pair_count n * x) (first_block b e), room.sized, pairs-most n few);
      fits = λ b e v w l k. room.fits (place n v w + pair_count n * b);
    }

module _ (n : ℕ) (cut : ℕ → ℕ → Bool) (mass : ℕ) (lower lower' : List ℕ) (few : n ≤ 64) (room : Room mass lower)
    (added : BlocksAdded n cut 1 mass lower lower') where
  each-pair : (v w : ℕ) → v < w → w < n → get_or lower' (place n v w) 0 ≡ get_or lower (place n v w) 0 + mass * digit (cut v w)
  each-pair v w l k =
      let there : place n v w + pair_count n * 0 ≡ place n v w = omega arith in
      let one : bit 1 0 ≡ true = bit-zero 1 in
      omega (arith, rw there at (added.each 0 v w l k), ap (λ (x : Bool). mass * digit x * digit (cut v w)) one)

  most : (i : ℕ) → Dec (i < pair_count n) → get_or lower' i 0 ≤ get_or lower i 0 + mass
  most i (no m) = omega (arith, added.past 1 (λ b e. omega (arith, first_block b e)) i (omega arith))
  most i (yes m) =
      let p = unplace n n i (omega arith) m in
      rw p.4 (omega (arith, each-pair p.0 p.1 p.2 p.3, mul-le-mul_left mass (at_most (cut p.0 p.1))))

  pub examined : MassAdded n cut mass lower lower'
  examined = record { sized = added.sized ∙ room.sized; most = λ i. most i (dec_lt i (pair_count n)); each = each-pair }
