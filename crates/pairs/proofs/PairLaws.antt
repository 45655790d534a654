-- Laws of the order of pairs.
-- Assumes nothing.
use mathlib.Core.Path.{◌≡◌, refl, sym, ap, subst, fun_ext, ◌∙◌}
use mathlib.Core.List.{List, [], ◌∷◌, map, map-append}
use Prim.Native.Nat.{ℕ, zero, suc, ◌+◌, ◌-◌, ◌*◌, ◌<◌, ◌≤◌}
use native.Mathlib.Nat.{add-zero, add-suc, zero-add, suc-add, sub-zero}
use native.Mathlib.Decide.{dec_lt}
use native.Mathlib.Numerals.{add-one}
use native.Mathlib.Omega.{arith}
use lib.ListN.{length, get_or, take, drop, length-append, get_or-append}
use lib.Seq.{get_or-append-add, drop-cons, take-add, drop-drop}
use Rattle.pairs.specs.Pairs.{row, rows, table, start, place, pair_count}

-- examples: the pairs of three nodes, and their places
example-pairs : table (λ v w. v * 10 + w) 3 ≡ 1 ∷ 2 ∷ 12 ∷ []
unfolding table rows row
example-pairs = refl

example-places : (place 3 0 1 ≡ 0) × (place 3 0 2 ≡ 1) × (place 3 1 2 ≡ 2) × (pair_count 3 ≡ 3) × (pair_count 64 ≡ 2016)
unfolding place start
example-places = (refl, refl, refl, refl, refl)

pub length-row : (f : ℕ → ℕ → ℕ) (v w count : ℕ) → length (row f v w count) ≡ count
unfolding row
length-row f v w zero = refl
length-row f v w (suc count) = ap suc (length-row f v (suc w) count)

-- law: a row holds what f gives
pub row_at : (f : ℕ → ℕ → ℕ) (v w count i : ℕ) → i < count → get_or (row f v w count) i 0 ≡ f v (w + i)
unfolding row
row_at f v w zero i h = absurd (omega arith)
row_at f v w (suc count) zero h = ap (f v) (sym (add-zero w))
row_at f v w (suc count) (suc i) h = row_at f v (suc w) count i (omega arith) ∙ ap (f v) (omega arith)

-- law: the places of node v's pairs end where the next node's begin
pub start-suc : (n v : ℕ) → start n (suc v) ≡ start n v + (n - suc v)
unfolding start
start-suc n v = refl

pub start-zero : (n : ℕ) → start n 0 ≡ 0
unfolding start
start-zero n = refl

pub start-mono : (n u k : ℕ) → start n u ≤ start n (u + k)
start-mono n u zero = rw add-zero (omega arith)
start-mono n u (suc k) = rw add-suc (omega (arith, start-mono n u k, start-suc n (u + k)))

start-wider : (n m v : ℕ) → n ≤ m → start n v ≤ start m v
unfolding start
start-wider n m zero h = omega arith
start-wider n m (suc v) h = omega (arith, start-wider n m v h)

pub place_is : (n v w : ℕ) → place n v w ≡ start n v + (w - suc v)
unfolding place
place_is n v w = refl

-- law: a pair's place is before the places of the next node's pairs
pub place-before : (n v w : ℕ) → v < w → w < n → place n v w < start n (suc v)
place-before n v w h k = omega (arith, place_is n v w, start-suc n v)

-- law: 64 nodes have 2,016 pairs, and fewer nodes have no more
pub pairs-most : (n : ℕ) → n ≤ 64 → pair_count n ≤ 2016
pairs-most n h =
    let e : n + (64 - n) ≡ 64 = omega arith in
    let up : start n n ≤ start n (n + (64 - n)) = start-mono n n (64 - n) in
    let all : start 64 64 ≡ 2016 = unfold start in refl in
    omega (arith, rw e at up, start-wider n 64 64 h)

-- law: so each pair of at most 64 nodes has its place below 2,016
pub place-lt : (n v w : ℕ) → n ≤ 64 → v < w → w < n → place n v w < pair_count n
place-lt n v w few h k =
    let e : suc v + (n - suc v) ≡ n = omega arith in
    omega (arith, place-before n v w h k, rw e at (start-mono n (suc v) (n - suc v)))

-- law: the place of a pair, from the start of its node's pairs; it is inside the 2,016 entries
module _ (n v w s : ℕ) (e : s ≡ start n v) where
  pub at-place-is : s + (w - (v + 1)) ≡ place n v w
  at-place-is = rw (e, add-one v) (sym (place_is n v w))

  pub inside : n ≤ 64 → v < w → w < n → s + (w - (v + 1)) < 2016
  inside few l k = omega (arith, at-place-is, place-lt n v w few l k, pairs-most n few)

-- ---- the table

-- law: a list that holds what f gives at each place is the table
module _ (f : ℕ → ℕ → ℕ) (n : ℕ) (l : List ℕ) where
  row_is : (v w at count : ℕ) → at + count ≤ length l → ((i : ℕ) → i < count → get_or l (at + i) 0 ≡ f v (w + i)) → take count (drop at l) ≡ row f v w count
  unfolding row
  row_is v w at zero h same = refl
  row_is v w at (suc count) h same =
      let here : get_or l at 0 ≡ f v w = rw (add-zero, add-zero) at (same 0 (omega arith)) in
      let rest : take count (drop (suc at) l) ≡ row f v (suc w) count =
      row_is v (suc w) (suc at) count (omega arith) (λ i k. rw (suc-add, suc-add, ← add-suc, ← add-suc) (same (suc i) (omega arith))) in
      rw (drop-cons l at 0 (omega arith), here, rest)

  rows_is : (v count : ℕ) → v + count ≡ n → pair_count n ≤ length l
      → ((u w : ℕ) → u < w → w < n → get_or l (place n u w) 0 ≡ f u w)
      → take (pair_count n - start n v) (drop (start n v) l) ≡ rows f n v count
  unfolding rows
  rows_is v zero e h same =
      let last : v ≡ n = omega arith in
      let nothing : pair_count n - start n v ≡ 0 = rw last (omega arith) in
      rw nothing
  rows_is v (suc count) e h same =
      let up : start n (suc v) ≤ pair_count n = rw (whole_row v (omega arith)) at (start-mono n (suc v) (n - suc v)) in
      let split : pair_count n - start n v ≡ (n - suc v) + (pair_count n - start n (suc v)) = omega (arith, start-suc n v) in
      let here : take (n - suc v) (drop (start n v) l) ≡ row f v (suc v) (n - suc v) =
      row_is v (suc v) (start n v) (n - suc v) (omega (arith, start-suc n v))
      (λ i k.
      let back : suc v + i - suc v ≡ i = omega arith in
      rw back at (rw place_is at (same v (suc v + i) (omega arith) (omega arith)))) in
      let rest : take (pair_count n - start n (suc v)) (drop (start n (suc v)) l) ≡ rows f n (suc v) count = rows_is (suc v) count (omega arith) h same in
      rw (split, take-add, here, drop-drop (n - suc v) (start n v) l, ← start-suc n v, rest)
    where
      whole_row : (u : ℕ) → u < n → suc u + (n - suc u) ≡ n
      whole_row u x = omega arith

  pub table_is : pair_count n ≤ length l → ((u w : ℕ) → u < w → w < n → get_or l (place n u w) 0 ≡ f u w) → take (pair_count n) l ≡ table f n
  unfolding table
  table_is h same = rw (start-zero n, sub-zero) at (rows_is 0 n (zero-add n) h same)

-- law: the table holds at each pair's place what f gives
module _ (f : ℕ → ℕ → ℕ) (n : ℕ) where
  here-at : (v w count : ℕ) → v < w → w < n → get_or (rows f n v (suc count)) (place n v w - start n v) 0 ≡ f v w
  unfolding rows
  here-at v w count h k =
      let i : place n v w - start n v ≡ w - suc v = omega (arith, place_is n v w) in
      let back : suc v + (w - suc v) ≡ w = omega arith in
      rw (i, get_or-append (row f v (suc v) (n - suc v)) (rows f n (suc v) count) 0 (w - suc v) (omega (arith, length-row f v (suc v) (n - suc v))))
      (row_at f v (suc v) (n - suc v) (w - suc v) (omega arith) ∙ ap (f v) back)

  later-at : (v u w count : ℕ) → v < u → u < w → w < n
      → get_or (rows f n (suc v) count) (place n u w - start n (suc v)) 0 ≡ f u w
      → get_or (rows f n v (suc count)) (place n u w - start n v) 0 ≡ f u w
  unfolding rows
  later-at v u w count l h k rest =
      let e : suc v + (u - suc v) ≡ u = omega arith in
      let up : start n (suc v) ≤ start n u = rw e at (start-mono n (suc v) (u - suc v)) in
      let long : length (row f v (suc v) (n - suc v)) ≡ n - suc v = length-row f v (suc v) (n - suc v) in
      let i : place n u w - start n v ≡ length (row f v (suc v) (n - suc v)) + (place n u w - start n (suc v)) =
      omega (arith, start-suc n v, place_is n u w) in
      rw (i, get_or-append-add (row f v (suc v) (n - suc v)) (rows f n (suc v) count) (place n u w - start n (suc v)) 0) rest

  rows_at : (v count u w : ℕ) → v + count ≡ n → v ≤ u → u < w → w < n → get_or (rows f n v count) (place n u w - start n v) 0 ≡ f u w
  rows_at v zero u w e l h k = absurd (omega arith)
  rows_at v (suc count) u w e l h k = go (dec_lt v u) (rows_at (suc v) count u w (omega arith))
    where
      go : Dec (v < u) → (suc v ≤ u → u < w → w < n → get_or (rows f n (suc v) count) (place n u w - start n (suc v)) 0 ≡ f u w)
          → get_or (rows f n v (suc count)) (place n u w - start n v) 0 ≡ f u w
      go (yes m) rest = later-at v u w count m h k (rest m h k)
      go (no m) rest =
          let same : v ≡ u = omega arith in
          subst (λ (x : ℕ). get_or (rows f n v (suc count)) (place n x w - start n v) 0 ≡ f x w) same (here-at v w count (omega arith) k)

  pub table_at : (u w : ℕ) → u < w → w < n → get_or (table f n) (place n u w) 0 ≡ f u w
  unfolding table
  table_at u w h k = rw (start-zero n, sub-zero) at (rows_at 0 n u w (zero-add n) (omega arith) h k)

  rows_long : (v count : ℕ) → v + count ≡ n → start n v + length (rows f n v count) ≡ pair_count n
  unfolding rows
  rows_long v zero e = rw add-zero (ap (start n) (sym (add-zero v) ∙ e))
  rows_long v (suc count) e =
      let rest : start n (suc v) + length (rows f n (suc v) count) ≡ pair_count n = rows_long (suc v) count (omega arith) in
      rw (length-append, length-row) (omega (arith, start-suc n v))

  pub table-long : length (table f n) ≡ pair_count n
  unfolding table
  table-long = omega (arith, rows_long 0 n (zero-add n), start-zero n)

-- law: no node's pairs of at most 64 nodes begin past 2,016
pub start-most : (n v : ℕ) → n ≤ 64 → v ≤ n → start n v ≤ 2016
start-most n v few h =
    let e : v + (n - v) ≡ n = omega arith in
    omega (arith, rw e at (start-mono n v (n - v)), pairs-most n few)

-- law: the place of node v's first pair, by a product; d is 2n − v
start-twice : (n v : ℕ) → v ≤ n → 2 * start n v + v * v + v ≡ 2 * (n * v)
unfolding start
start-twice n zero h = omega arith
start-twice n (suc v) h = omega (arith, start-twice n v (omega arith))

pub start-closed : (n v d : ℕ) → v ≤ n → d + v ≡ 2 * n → v * d ≡ 2 * start n v + v
start-closed n v d h e = omega (arith, ap (λ (x : ℕ). v * x) e, start-twice n v h)

-- law: each place before node k's pairs is that of a pair of a node before k
pub unplace : (n k i : ℕ) → k ≤ n → i < start n k → (v : ℕ) × (w : ℕ) × (v < w) × (w < n) × (i ≡ place n v w)
unfolding start
unplace n zero i h l = absurd (omega arith)
unplace n (suc k) i h l = go (dec_lt i (start n k)) (unplace n k i (omega arith))
  where
    go : Dec (i < start n k) → (i < start n k → (v : ℕ) × (w : ℕ) × (v < w) × (w < n) × (i ≡ place n v w))
        → (v : ℕ) × (w : ℕ) × (v < w) × (w < n) × (i ≡ place n v w)
    go (yes m) rest = rest m
    go (no m) rest =
        let w : ℕ = suc k + (i - start n k) in
        (k, w, omega arith, omega arith, omega (arith, place_is n k w))

-- law: a function of each entry of a table
map_row : (g : ℕ → ℕ) (f : ℕ → ℕ → ℕ) (v w count : ℕ) → map g (row f v w count) ≡ row (λ a b. g (f a b)) v w count
unfolding row
map_row g f v w zero = refl
map_row g f v w (suc count) = rw (map_row g f v (suc w) count)

map_rows : (g : ℕ → ℕ) (f : ℕ → ℕ → ℕ) (n v count : ℕ) → map g (rows f n v count) ≡ rows (λ a b. g (f a b)) n v count
unfolding rows
map_rows g f n v zero = refl
map_rows g f n v (suc count) = rw (map-append, map_row g f v (suc v) (n - suc v), map_rows g f n (suc v) count)

pub map-table : (g : ℕ → ℕ) (f : ℕ → ℕ → ℕ) (n : ℕ) → map g (table f n) ≡ table (λ a b. g (f a b)) n
unfolding table
map-table g f n = map_rows g f n 0 n

-- law: a table goes by what its function gives
pub table_same : (f g : ℕ → ℕ → ℕ) (n : ℕ) → ((v w : ℕ) → f v w ≡ g v w) → table f n ≡ table g n
table_same f g n same = ap (λ (h : ℕ → ℕ → ℕ). table h n) (fun_ext (λ v. fun_ext (same v)))
