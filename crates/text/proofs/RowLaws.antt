-- The lines of the pairs, laid down one after the other.
-- Assumes nothing.
use mathlib.Core.Path.{◌≡◌, refl, sym, ap, subst, ◌∙◌}
use mathlib.Core.List.{List, [], ◌∷◌, ◌++◌, flatten, append_assoc}
use Prim.Native.Nat.{ℕ, suc, ◌+◌, ◌-◌, ◌<◌, ◌≤◌}
use native.Mathlib.Numerals.{add-one}
use native.Mathlib.Omega.{arith}
use lib.ListN.{length, get_or, length-append}
use lib.Seq.{sets}
use Rattle.plan_lists.proofs.ListLaws.{sets_then}
use Rattle.pairs.specs.Pairs.{row, rows, table, place, start}
use Rattle.pairs.proofs.PairLaws.{place_is, place-lt, pairs-most}
use Rattle.text.specs.Listing.{line, pairs_text}
use Rattle.text.specs.Sums.{sum_line, row_text, rows_text}
use Rattle.text.proofs.FieldLaws.{TextLaid}

-- ---- what is left of a text to be laid down

pub record Left (out₀ : List ℕ) (at : ℕ) (all out : List ℕ) (i : ℕ) (rest : List ℕ) : Type 0 where
  pub sized : length out ≡ length out₀
  pub ends : i + length rest ≡ at + length all
  pub same : sets out i rest ≡ sets out₀ at all

pub left-start : (out : List ℕ) (at : ℕ) (text : List ℕ) → Left out at text out at text
left-start out at text = record { sized = refl; ends = refl; same = refl }

module _ (out₀ : List ℕ) (at : ℕ) (all out : List ℕ) (i : ℕ) where
  -- there is room for it
  pub left-room : (a rest : List ℕ) → Left out₀ at all out i (a ++ rest) → at + length all ≤ length out₀ → i + length a ≤ length out
  left-room a rest l h = omega (arith, l.sized, l.ends, length-append a rest)

  pub left-next : (a rest out' : List ℕ) (i' : ℕ) → Left out₀ at all out i (a ++ rest) → TextLaid out i a out' i' → length out' ≡ length out
      → Left out₀ at all out' i' rest
  left-next a rest out' i' l e k =
      record {
        sized = k ∙ l.sized;
        ends = omega (arith, l.ends, length-append a rest, e.1);
        same = sets_then a rest out out' i i' e.0 e.1 ∙ l.same;
      }

  pub left_end : (rest : List ℕ) → rest ≡ [] → Left out₀ at all out i rest → TextLaid out₀ at all out i
  left_end rest e l =
      let m = subst (λ (x : List ℕ). Left out₀ at all out i x) e l in (m.same, omega (arith, m.ends))

-- ---- the pairs of one node

less : (n w : ℕ) → w < n → n - w ≡ suc (n - (w + 1))
less n w h = omega arith

none : (n w : ℕ) → n ≤ w → n - w ≡ 0
none n w h = omega arith

pub row-end : (f : ℕ → ℕ → List ℕ) (n v w : ℕ) → n ≤ w → row_text f v w (n - w) ≡ []
unfolding row flatten
row-end f n v w h = rw (none n w h)

row_next : (f : ℕ → ℕ → List ℕ) (n v w : ℕ) → w < n → row_text f v w (n - w) ≡ f v w ++ row_text f v (w + 1) (n - (w + 1))
unfolding row flatten
row_next f n v w h = rw (less n w h, add-one w)

flatten-append : (a b : List (List ℕ)) → flatten (a ++ b) ≡ flatten a ++ flatten b
unfolding flatten
flatten-append [] b = refl
flatten-append (x ∷ a) b = rw (flatten-append a b, append_assoc x (flatten a) (flatten b))

-- the texts of the first row, then those of the others
pub rows_step : (f : ℕ → ℕ → List ℕ) (n v some : ℕ) → rows_text f n v (suc some) ≡ row_text f v (suc v) (n - suc v) ++ rows_text f n (suc v) some
unfolding rows
rows_step f n v some = flatten-append (row f v (suc v) (n - suc v)) (rows f n (suc v) some)

pub rows_end : (f : ℕ → ℕ → List ℕ) (n v : ℕ) → n ≤ v → rows_text f n v (n - v) ≡ []
unfolding rows flatten
rows_end f n v h = rw (none n v h)

pub rows_next : (f : ℕ → ℕ → List ℕ) (n v : ℕ) → v < n
    → rows_text f n v (n - v) ≡ row_text f v (v + 1) (n - (v + 1)) ++ rows_text f n (v + 1) (n - (v + 1))
rows_next f n v h = rw (less n v h, rows_step, add-one v)

pub pairs-all : (f : ℕ → ℕ → List ℕ) (n : ℕ) → pairs_text f n ≡ rows_text f n 0 (n - 0)
unfolding table
pairs-all f n = let e : n - 0 ≡ n = omega arith in rw e

-- ---- the line of a pair, from the sums

abbrev pub line_at : ℕ → List ℕ → ℕ → ℕ → ℕ → List ℕ
line_at rest sums v w p = line (v ∷ w ∷ get_or sums p 0 ∷ (rest + get_or sums p 0) ∷ [])

pub row-turn : (n rest : ℕ) (sums : List ℕ) (v w p : ℕ) → p ≡ place n v w → w < n
    → row_text (sum_line n rest sums) v w (n - w) ≡ line_at rest sums v w p ++ row_text (sum_line n rest sums) v (w + 1) (n - (w + 1))
row-turn n rest sums v w p e h =
    row_next (sum_line n rest sums) n v w h
    ∙ ap (λ (q : ℕ). line_at rest sums v w q ++ row_text (sum_line n rest sums) v (w + 1) (n - (w + 1))) (sym e)

pub place-first : (n v p : ℕ) → p ≡ start n v → p ≡ place n v (v + 1)
place-first n v p e = omega (arith, e, place_is n v (v + 1))

pub place-next : (n v w p : ℕ) → v < w → p ≡ place n v w → p + 1 ≡ place n v (w + 1)
place-next n v w p h e = omega (arith, e, place_is n v w, place_is n v (w + 1))

pub place-fits : (n v w p : ℕ) → n ≤ 64 → v < w → w < n → p ≡ place n v w → p < 2016
place-fits n v w p few h k e = omega (arith, place-lt n v w few h k, pairs-most n few)

-- one line more, and one row more
pub left-turn : (n rest : ℕ) (sums : List ℕ) (v w p : ℕ) (out₀ : List ℕ) (at : ℕ) (all out : List ℕ) (i : ℕ) → p ≡ place n v w → w < n
    → Left out₀ at all out i (row_text (sum_line n rest sums) v w (n - w))
    → Left out₀ at all out i (line_at rest sums v w p ++ row_text (sum_line n rest sums) v (w + 1) (n - (w + 1)))
left-turn n rest sums v w p out₀ at all out i e h l =
    subst (λ (x : List ℕ). Left out₀ at all out i x) (row-turn n rest sums v w p e h) l

pub left-row : (f : ℕ → ℕ → List ℕ) (n v : ℕ) (out₀ : List ℕ) (at : ℕ) (all out : List ℕ) (i : ℕ) → v < n
    → Left out₀ at all out i (rows_text f n v (n - v))
    → Left out₀ at all out i (row_text f v (v + 1) (n - (v + 1)) ++ rows_text f n (v + 1) (n - (v + 1)))
left-row f n v out₀ at all out i h l = subst (λ (x : List ℕ). Left out₀ at all out i x) (rows_next f n v h) l

-- all pairs
pub pairs_start : (f : ℕ → ℕ → List ℕ) (n : ℕ) (out : List ℕ) (at : ℕ) → Left out at (pairs_text f n) out at (rows_text f n 0 (n - 0))
pairs_start f n out at = subst (λ (x : List ℕ). Left out at (pairs_text f n) out at x) (pairs-all f n) (left-start out at (pairs_text f n))
