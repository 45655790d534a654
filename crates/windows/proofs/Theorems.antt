-- What is out at a minute: document 02, request U7. An element is out exactly where a window of the list that holds the minute names it; so
-- with more windows no less is out, and where no window holds the minute nothing is.
-- Assumes nothing.
use mathlib.Core.Path.{◌≡◌, refl, sym, ap, ◌∙◌}
use mathlib.Core.Bool.{Bool, true, false, ◌||◌}
use mathlib.Core.List.{List, [], ◌∷◌, Memᴰ}
use mathlib.Core.Logic.{⊎_elim, ◌↔◌}
use Prim.Native.Nat.{ℕ}
use lib.Bits.{bit_or}
use Rattle.sets.specs.Sets.{bit}
use Rattle.sets.proofs.Laws.{bit-or, bit-none}
use Rattle.sets.proofs.Bools.{or-either, or_left, or_right, clash}
use Rattle.network.specs.Outage.{Outage, intact, beside}
use Rattle.windows.specs.Windows.{Window, holds, out_at}
use Rattle.windows.proofs.WindowLaws.{out_none, out-held, out-passed}

-- a window of the list holds the minute and names element i
abbrev pub Named : (Outage → ℕ) → List Window → ℕ → ℕ → Type 0
Named part list minute i = (w : Window) × Memᴰ w list × (holds w minute ≡ true) × (bit (part w.out) i ≡ true)

-- the nodes or the links of what is out
module _ (part : Outage → ℕ) (nothing : part intact ≡ 0) (both : (a b : Outage) → part (beside a b) ≡ bit_or (part a) (part b)) (minute i : ℕ) where
  -- element i is out
  abbrev Out : Outage → Type 0
  Out o = bit (part o) i ≡ true

  beside-bit : (a b : Outage) → bit (part (beside a b)) i ≡ (bit (part a) i || bit (part b) i)
  beside-bit a b = ap (λ (s : ℕ). bit s i) (both a b) ∙ bit-or (part a) (part b) i

  later-named : (w : Window) (later : List Window) → Named part later minute i → Named part (w ∷ later) minute i
  later-named w later n = (n.0, Memᴰ.tail n.1, n.2, n.3)

  -- what is out is named
  out-from : (list : List Window) → Out (out_at list minute) → Named part list minute i
  out-from [] e = absurd (clash e (ap (λ (o : Outage). bit (part o) i) (out_none minute) ∙ ap (λ (s : ℕ). bit s i) nothing ∙ bit-none i))
  out-from (w ∷ later) e = step (holds w minute) refl (out-from later)
    where
      step : (b : Bool) → holds w minute ≡ b → (Out (out_at later minute) → Named part later minute i) → Named part (w ∷ later) minute i
      step true h ih =
          ⊎_elim
          (λ (a : Out (out_at later minute)). later-named w later (ih a))
          (λ (a : Out w.out). (w, Memᴰ.head refl, h, a))
          (or-either _ _ (sym (beside-bit (out_at later minute) w.out) ∙ ap (λ (o : Outage). bit (part o) i) (sym (out-held minute w later h)) ∙ e))
      step false h ih = later-named w later (ih (ap (λ (o : Outage). bit (part o) i) (sym (out-passed minute w later h)) ∙ e))

  -- what is out stays so with one window more
  out_stays : (w : Window) (later : List Window) → Out (out_at later minute) → Out (out_at (w ∷ later) minute)
  out_stays w later e = step (holds w minute) refl
    where
      step : (b : Bool) → holds w minute ≡ b → Out (out_at (w ∷ later) minute)
      step true h =
          ap (λ (o : Outage). bit (part o) i) (out-held minute w later h)
          ∙ beside-bit (out_at later minute) w.out
          ∙ or_left _ _ e
      step false h = ap (λ (o : Outage). bit (part o) i) (out-passed minute w later h) ∙ e

  -- what is named is out
  out_of : (w : Window) (list : List Window) → Memᴰ w list → holds w minute ≡ true → Out w.out → Out (out_at list minute)
  out_of w [] x' h b = elim x' [ ]
  out_of w (x ∷ later) (Memᴰ.head e) h b =
      ap (λ (o : Outage). bit (part o) i) (out-held minute x later (ap (λ (v : Window). holds v minute) (sym e) ∙ h))
      ∙ beside-bit (out_at later minute) x.out
      ∙ or_right (bit (part (out_at later minute)) i) (bit (part x.out) i) (ap (λ (v : Window). bit (part v.out) i) (sym e) ∙ b)
  out_of w (x ∷ later) (Memᴰ.tail m) h b = out_stays x later (out_of w later m h b)

  -- law: an element is out exactly where a window of the list that holds the minute names it
  pub out-named : (list : List Window) → (bit (part (out_at list minute)) i ≡ true) ↔ Named part list minute i
  out-named list = (out-from list, λ n. out_of n.0 list n.1 n.2 n.3)

  out-more : (list more : List Window) → ((w : Window) → Memᴰ w list → Memᴰ w more) → Out (out_at list minute) → Out (out_at more minute)
  out-more list more sub e = let n = out-from list e in out_of n.0 more (sub n.0 n.1) n.2 n.3

module _ (list : List Window) (minute : ℕ) where
  -- law: so it is with nodes, and with links
  pub node-out : (i : ℕ) → (bit (out_at list minute).nodes i ≡ true) ↔ Named (λ o. o.nodes) list minute i
  node-out i = out-named (λ o. o.nodes) refl (λ a b. refl) minute i list

  pub link-out : (i : ℕ) → (bit (out_at list minute).links i ≡ true) ↔ Named (λ o. o.links) list minute i
  link-out i = out-named (λ o. o.links) refl (λ a b. refl) minute i list

  -- law: with more windows no less is out
  pub more-windows : (more : List Window) → ((w : Window) → Memᴰ w list → Memᴰ w more)
      → ((i : ℕ) → bit (out_at list minute).nodes i ≡ true → bit (out_at more minute).nodes i ≡ true)
      × ((i : ℕ) → bit (out_at list minute).links i ≡ true → bit (out_at more minute).links i ≡ true)
  more-windows more sub = (
    λ i. out-more (λ o. o.nodes) refl (λ a b. refl) minute i list more sub,
    λ i. out-more (λ o. o.links) refl (λ a b. refl) minute i list more sub,
  )

-- law: where no window holds the minute nothing is out
pub no-window : (list : List Window) (minute : ℕ) → ((w : Window) → Memᴰ w list → holds w minute ≡ false) → out_at list minute ≡ intact
no-window [] minute none = out_none minute
no-window (w ∷ later) minute none =
    out-passed minute w later (none w (Memᴰ.head refl)) ∙ no-window later minute (λ v m. none v (Memᴰ.tail m))
