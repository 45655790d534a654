-- `walk_words::parts::narrow` meets its contract: the loop has taken the bytes before `i`. Assumes nothing.
use mathlib.Core.Path.{◌≡◌, ◌∙◌}
use mathlib.Core.List.{List, map-append}
use Prim.Native.Nat.{ℕ, ◌+◌, ◌≤◌, ◌<◌, ◌%◌}
use native.Mathlib.Nat.{zero-add}
use native.Mathlib.Numerals.{add-one}
use native.Mathlib.Omega.{arith}
use lib.ListN.{length, take, drop, get_or, set, length-map, length-drop}
use lib.Seq.{sets, take-suc, length-take-le, get_or-drop}
use Rattle.plan_lists.proofs.ListLaws.{sets-append, sets-all}
use Rattle.walk_words.proofs.parts.narrow.Invariants.{low}
use Rattle.walk_words.proofs.parts.narrow.Goals as goal

module _ (from : List ℕ) (at count : ℕ) (fits : at + count ≤ length from) where
  length-low : length (low at count from) ≡ count
  length-low =
      let h : count ≤ length (drop at from) = rw length-drop (omega arith) in
      length-map (take count (drop at from)) (λ (x : ℕ). x % 256) ∙ length-take-le count (drop at from) h

low-next : (from to out : List ℕ) (at i : ℕ) → out ≡ sets to 0 (low at i from) → at + i < length from
    → set out i (get_or from (at + i) 0 % 256) ≡ sets to 0 (low at (i + 1) from)
low-next from to out at i e h =
    let n = length-low from at i (omega arith) in
    let l : i < length (drop at from) = rw length-drop (omega arith) in
    rw (e, add-one, take-suc (drop at from) i 0, map-append, sets-append, n, zero-add, get_or-drop)

pub loop-i-preserved : goal.loop-i-preserved
loop-i-preserved c = low-next c.args.from.now c.args.to.now _ c.args.at _ c.loop-i.invariant (omega arith)

pub returns : goal.returns
returns c =
    let e : c.loop-i.i ≡ length c.args.to.now = omega arith in
    rw e at c.loop-i.invariant ∙ sets-all _ _ (length-low _ _ _ c.requires)
