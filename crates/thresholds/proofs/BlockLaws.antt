-- Blocks of pairs that follow one another in a list, and the 16 places.
-- Assumes nothing.
use mathlib.Core.Path.{◌≡◌, refl, sym, ap, ◌∙◌}
use mathlib.Core.List.{List, [], ◌∷◌, map}
use Prim.Native.Nat.{ℕ, zero, suc, ◌+◌, ◌-◌, ◌*◌, ◌<◌, ◌≤◌}
use native.Mathlib.Nat.{add-zero, mul-zero, mul-suc, zero-add}
use native.Mathlib.Decide.{dec_lt}
use native.Mathlib.Omega.{arith}
use lib.ListN.{length, get_or, take, drop, replicate, length-append, length-map, length-replicate, length-drop, take-append-drop}
use lib.ListN.{get_or-append}
use lib.Seq.{sets, sets-eq, take-add, get_or-drop, get_or-append-add, ext_get_or}
use Rattle.pairs.specs.Pairs.{table, place, pair_count}
use Rattle.pairs.proofs.PairLaws.{table_is, table-long}
use Rattle.bounds.proofs.Zeros.{zeros-at}
use Rattle.thresholds.specs.Thresholds.{blocks, places}

-- ---- blocks

-- blocks of one length have that length for each threshold
pub length-blocks : (f : ℕ → List ℕ) (size : ℕ) → ((t : ℕ) → length (f t) ≡ size) → (list : List ℕ) → length (blocks f list) ≡ size * length list
length-blocks f size each [] = sym (mul-zero size)
length-blocks f size each (t ∷ later) =
    length-append (f t) (blocks f later) ∙ omega (arith, each t, length-blocks f size each later, mul-suc size (length later))

module _ (f : ℕ → ℕ → ℕ → ℕ) (n : ℕ) where
  -- a list that holds at each pair's place of block i what f gives for threshold i begins with the blocks
  blocks-are : (list new : List ℕ) → pair_count n * length list ≤ length new
      → ((i : ℕ) → i < length list → (v w : ℕ) → v < w → w < n → get_or new (place n v w + pair_count n * i) 0 ≡ f (get_or list i 0) v w)
      → take (pair_count n * length list) new ≡ blocks (λ t. table (f t) n) list
  blocks-are [] new room each = rw mul-zero
  blocks-are (t ∷ later) new room each =
      let size : pair_count n * suc (length later) ≡ pair_count n + pair_count n * length later = omega arith in
      let here : take (pair_count n) new ≡ table (f t) n = table_is (f t) n new (omega arith) (λ v w l k. initial v w l k) in
      let rest : take (pair_count n * length later) (drop (pair_count n) new) ≡ blocks (λ t. table (f t) n) later =
      blocks-are later (drop (pair_count n) new) (rw length-drop (omega arith)) (λ i h v w l k. next i h v w l k) in
      rw (size, take-add, here, rest)
    where
      initial : (v w : ℕ) → v < w → w < n → get_or new (place n v w) 0 ≡ f t v w
      initial v w l k = rw (mul-zero, add-zero) at (each 0 (omega arith) v w l k)

      next : (i : ℕ) → i < length later → (v w : ℕ) → v < w → w < n
          → get_or (drop (pair_count n) new) (place n v w + pair_count n * i) 0 ≡ f (get_or later i 0) v w
      next i h v w l k =
          let at : pair_count n + (place n v w + pair_count n * i) ≡ place n v w + pair_count n * suc i = omega arith in
          rw (get_or-drop, at) (each (suc i) (omega arith) v w l k)

  -- where all past the blocks is untouched, the blocks were laid down from the start
  pub blocks-laid : (list old new : List ℕ) → length new ≡ length old → pair_count n * length list ≤ length old
      → ((i : ℕ) → i < length list → (v w : ℕ) → v < w → w < n → get_or new (place n v w + pair_count n * i) 0 ≡ f (get_or list i 0) v w)
      → ((j : ℕ) → pair_count n * length list ≤ j → get_or new j 0 ≡ get_or old j 0)
      → new ≡ sets old 0 (blocks (λ t. table (f t) n) list)
  blocks-laid list old new sized room each past =
      let long : length (blocks (λ t. table (f t) n) list) ≡ pair_count n * length list = length-blocks (λ t. table (f t) n) (pair_count n) (λ t. table-long (f t) n) list in
      let front : take (pair_count n * length list) new ≡ blocks (λ t. table (f t) n) list = blocks-are list new (omega arith) each in
      let size : ℕ = pair_count n * length list in
      let back : drop size new ≡ drop size old =
      ext_get_or 0 _ _ (length-drop size new ∙ ap (λ (k : ℕ). k - size) sized ∙ sym (length-drop size old))
      (λ j h. get_or-drop size new j 0 ∙ past (size + j) (omega arith) ∙ sym (get_or-drop size old j 0)) in
      sym (take-append-drop (pair_count n * length list) new)
      ∙ rw (front, back)
      (sym (sets-eq (blocks (λ t. table (f t) n) list) old 0 (omega arith) ∙ rw (long, zero-add)))

-- ---- places

-- each entry of a list under f
pub map_at : (f : ℕ → ℕ) (l : List ℕ) (j : ℕ) → j < length l → get_or (map f l) j 0 ≡ f (get_or l j 0)
map_at f [] j h = absurd (omega arith)
map_at f (x ∷ l) zero h = refl
map_at f (x ∷ l) (suc j) h = map_at f l j (omega arith)

-- entries that are those of a list under f
pub all_set : (f : ℕ → ℕ) (from entries : List ℕ) → length entries ≡ length from → ((j : ℕ) → j < length entries → get_or entries j 0 ≡ f (get_or from j 0))
    → entries ≡ map f from
all_set f from entries sized each =
    ext_get_or 0 _ _ (sized ∙ sym (length-map from f)) (λ j h. each j h ∙ sym (map_at f from j (omega arith)))

-- what stands at the places: f of threshold i at place i, and 0 past the last
pub places-at : (f : ℕ → ℕ) (list : List ℕ) (i : ℕ) → i < length list → get_or (places f list) i 0 ≡ f (get_or list i 0)
places-at f list i h = get_or-append (map f list) _ 0 i (rw (length-map list f) h) ∙ map_at f list i h

pub place-past : (f : ℕ → ℕ) (list : List ℕ) (i : ℕ) → length list ≤ i → get_or (places f list) i 0 ≡ 0
place-past f list i h =
    let e : i ≡ length (map f list) + (i - length list) = omega (arith, length-map list f) in
    rw (e, get_or-append-add) (zeros-at (16 - length list) (i - length list))

pub length-places : (f : ℕ → ℕ) (list : List ℕ) → length list ≤ 16 → length (places f list) ≡ 16
length-places f list few =
    length-append (map f list) (replicate (16 - length list) 0)
    ∙ omega (arith, length-map list f, length-replicate {A = ℕ} (16 - length list) 0)

-- 16 entries that hold these are the places
pub places-are : (f : ℕ → ℕ) (list entries : List ℕ) → length entries ≡ 16 → length list ≤ 16
    → ((i : ℕ) → i < length list → get_or entries i 0 ≡ f (get_or list i 0)) → ((i : ℕ) → length list ≤ i → get_or entries i 0 ≡ 0)
    → entries ≡ places f list
places-are f list entries sized few each none = ext_get_or 0 _ _ (sized ∙ sym (length-places f list few)) (λ i h. go i (dec_lt i (length list)))
  where
    go : (i : ℕ) → Dec (i < length list) → get_or entries i 0 ≡ get_or (places f list) i 0
    go i (yes k) = each i k ∙ sym (places-at f list i k)
    go i (no m) = let past : length list ≤ i = omega arith in none i past ∙ sym (place-past f list i past)
