-- Entries of a list after a run of stores, and one turn of the loop that raises the blocks.
-- Assumes nothing.
use mathlib.Core.Path.{◌≡◌, ap, subst, ◌∙◌}
use mathlib.Core.List.{List, ◌++◌, map}
use Prim.Native.Nat.{ℕ, ◌+◌, ◌-◌, ◌*◌, ◌<◌, ◌≤◌}
use native.Mathlib.Nat.{mul-le-mul_left, add_comm}
use native.Mathlib.Decide.{dec_lt}
use native.Mathlib.Omega.{arith}
use lib.ListN.{length, get_or, take, drop, length-append, length-map, length-drop, get_or-append}
use lib.Seq.{sets, sets-eq, length-sets, length-take-le, get_or-append-add, get_or-take, get_or-drop}
use Rattle.mass.specs.Split.{whole}
use Rattle.thresholds.specs.Steps.{Raising, Raised}
use Rattle.thresholds.proofs.BlockLaws.{map_at}

-- ---- a run of stores from k on

module _ (l : List ℕ) (k : ℕ) (vs : List ℕ) (room : k + length vs ≤ length l) where
  front : length (take k l ++ vs) ≡ k + length vs
  front = length-append (take k l) vs ∙ omega (arith, length-take-le k l (omega arith))

  -- before it, in it, and past it
  pub sets-before : (m : ℕ) → m < k → get_or (sets l k vs) m 0 ≡ get_or l m 0
  sets-before m h =
      rw (sets-eq vs l k room)
      (get_or-append (take k l ++ vs) _ 0 m (omega (arith, front))
      ∙ get_or-append (take k l) vs 0 m (omega (arith, length-take-le k l (omega arith)))
      ∙ get_or-take k l m 0 h)

  pub sets-in : (m : ℕ) → m < length vs → get_or (sets l k vs) (m + k) 0 ≡ get_or vs m 0
  sets-in m h =
      let at : m + k ≡ length (take k l) + m = omega (arith, length-take-le k l (omega arith)) in
      rw (sets-eq vs l k room)
      (get_or-append (take k l ++ vs) _ 0 (m + k) (omega (arith, front))
      ∙ rw at (get_or-append-add (take k l) vs m 0))

  pub sets-past : (m : ℕ) → k + length vs ≤ m → get_or (sets l k vs) m 0 ≡ get_or l m 0
  sets-past m h =
      let at : m ≡ length (take k l ++ vs) + (m - (k + length vs)) = omega (arith, front) in
      let back : k + length vs + (m - (k + length vs)) ≡ m = omega arith in
      rw (sets-eq vs l k room)
      (ap (λ (x : ℕ). get_or (take k l ++ vs ++ drop (k + length vs) l) x 0) at
      ∙ get_or-append-add (take k l ++ vs) (drop (k + length vs) l) (m - (k + length vs)) 0
      ∙ get_or-drop (k + length vs) l (m - (k + length vs)) 0
      ∙ ap (λ (x : ℕ). get_or l x 0) back)

-- ---- the loop

module _ (pairs count : ℕ) (masses lower upper₀ : List ℕ) (asked : Raising pairs count masses lower upper₀) where
  module _ (i : ℕ) (more : i < count) where
    last_block : pairs * i + pairs ≤ pairs * count
    last_block = omega (arith, mul-le-mul_left pairs more)

    -- block i may be raised
    block-fits : (pairs + pairs * i ≤ length lower) × (pairs + pairs * i ≤ length upper₀)
    block-fits = (omega (arith, last_block, asked.lower-room), omega (arith, last_block, asked.upper-room))

    -- and then one block more is
    module _ (upper upper' : List ℕ) (r : Raised pairs i masses lower upper₀ upper)
        (is : upper' ≡ sets upper (pairs * i) (map (λ x. (whole - get_or masses i 0) + x) (take pairs (drop (pairs * i) lower)))) where
      abbrev news : List ℕ
      news = map (λ x. (whole - get_or masses i 0) + x) (take pairs (drop (pairs * i) lower))

      long : length (take pairs (drop (pairs * i) lower)) ≡ pairs
      long = length-take-le pairs (drop (pairs * i) lower) (rw length-drop (omega (arith, block-fits.0)))

      news-long : length news ≡ pairs
      news-long = length-map (take pairs (drop (pairs * i) lower)) (λ x. (whole - get_or masses i 0) + x) ∙ long

      room : pairs * i + length news ≤ length upper
      room = omega (arith, news-long, block-fits.1, r.sized)

      -- an entry of this block, of an earlier one, and past it
      here : (j : ℕ) → j < pairs → get_or upper' (j + pairs * i) 0 ≡ (whole - get_or masses i 0) + get_or lower (j + pairs * i) 0
      here j h =
          ap (λ (l : List ℕ). get_or l (j + pairs * i) 0) is
          ∙ sets-in upper (pairs * i) news room j (omega (arith, news-long))
          ∙ map_at (λ x. (whole - get_or masses i 0) + x) (take pairs (drop (pairs * i) lower)) j (omega (arith, long))
          ∙ ap (λ (x : ℕ). (whole - get_or masses i 0) + x)
          (get_or-take pairs (drop (pairs * i) lower) j 0 h
          ∙ get_or-drop (pairs * i) lower j 0
          ∙ ap (λ (x : ℕ). get_or lower x 0) (add_comm (pairs * i) j))

      earlier : (k j : ℕ) → k < i → j < pairs → get_or upper' (j + pairs * k) 0 ≡ (whole - get_or masses k 0) + get_or lower (j + pairs * k) 0
      earlier k j l h =
          ap (λ (x : List ℕ). get_or x (j + pairs * k) 0) is
          ∙ sets-before upper (pairs * i) news room (j + pairs * k) (omega (arith, mul-le-mul_left pairs l))
          ∙ r.each k j l h

      later : (j : ℕ) → pairs * (i + 1) ≤ j → get_or upper' j 0 ≡ get_or upper₀ j 0
      later j h =
          ap (λ (x : List ℕ). get_or x j 0) is
          ∙ sets-past upper (pairs * i) news room j (omega (arith, news-long))
          ∙ r.past j (omega arith)

      pub one_more : Raised pairs (i + 1) masses lower upper₀ upper'
      one_more =
          record {
            sized = ap length is ∙ length-sets upper (pairs * i) news ∙ r.sized;
            each = λ k j l h. which k j l h (dec_lt k i);
            past = later;
          }
        where
          which : (k j : ℕ) → k < i + 1 → j < pairs → Dec (k < i)
              → get_or upper' (j + pairs * k) 0 ≡ (whole - get_or masses k 0) + get_or lower (j + pairs * k) 0
          which k j l h (yes m) = earlier k j m h
          which k j l h (no m) =
              let e : i ≡ k = omega arith in
              subst (λ (x : ℕ). get_or upper' (j + pairs * x) 0 ≡ (whole - get_or masses x 0) + get_or lower (j + pairs * x) 0) e (here j h)
