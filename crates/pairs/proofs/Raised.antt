-- Laying down the entries of a list, each with a number added, and zeros.
-- Assumes nothing.
use mathlib.Core.Path.{◌≡◌, ◌∙◌}
use mathlib.Core.List.{List, ◌++◌, map, map-append}
use Prim.Native.Nat.{ℕ, ◌+◌, ◌-◌, ◌<◌, ◌≤◌}
use native.Mathlib.Nat.{zero-add, add_comm}
use native.Mathlib.Numerals.{add-one}
use native.Mathlib.Omega.{arith}
use lib.ListN.{length, get_or, take, drop, set, replicate, length-map, length-drop, length-replicate}
use lib.Seq.{sets, sets-eq, take-suc, length-take-le, get_or-drop}
use Rattle.plan_lists.proofs.ListLaws.{sets-append}

-- one entry more
pub raise-next : (from to out : List ℕ) (start rest i : ℕ) → out ≡ sets to start (map (λ x. rest + x) (take i (drop start from)))
    → i + start < length from
    → set out (i + start) (rest + get_or from (i + start) 0) ≡ sets to start (map (λ x. rest + x) (take (i + 1) (drop start from)))
raise-next from to out start rest i e h =
    let room : i < length (drop start from) = rw length-drop (omega arith) in
    let n : length (map (λ x. rest + x) (take i (drop start from))) ≡ i =
    length-map (take i (drop start from)) (λ x. rest + x) ∙ length-take-le i (drop start from) (omega (arith, room)) in
    rw (e, add-one, take-suc (drop start from) i 0, map-append, sets-append, n, get_or-drop, add_comm i start)

-- the same by the place of the entry
pub raise-at : (from to out : List ℕ) (start rest i : ℕ) → start ≤ i → i < length from
    → out ≡ sets to start (map (λ x. rest + x) (take (i - start) (drop start from)))
    → set out i (rest + get_or from i 0) ≡ sets to start (map (λ x. rest + x) (take (i + 1 - start) (drop start from)))
raise-at from to out start rest i h l e =
    let here : (i - start) + start ≡ i = omega arith in
    let more : (i - start) + 1 ≡ i + 1 - start = omega arith in
    rw (here, more) at (raise-next from to out start rest (i - start) e (omega arith))

-- a part filled with zeros
pub zeros_laid : (list zeros : List ℕ) (count : ℕ) → count ≤ length list → zeros ≡ replicate (length (take count list)) 0
    → zeros ++ drop count list ≡ sets list 0 (replicate count 0)
zeros_laid list zeros count h e =
    let n = length-replicate {A = ℕ} count 0 in
    let room : 0 + length (replicate {A = ℕ} count 0) ≤ length list = omega (arith, n) in
    rw (sets-eq (replicate count 0) list 0 room, n, zero-add, e, length-take-le count list h)
