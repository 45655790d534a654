-- `walk_words::parts::narrow` meets its contract: the loop has taken the bytes before `i`. Assumes nothing.
use mathlib.Core.Path.{◌≡◌}
use mathlib.Core.List.{List, map}
use Prim.Native.Nat.{ℕ, ◌%◌}
use lib.ListN.{take, drop}
use lib.Seq.{sets}
use Rattle.walk_words.proofs.parts.narrow.Given as goal

-- the lowest eight bits of `count` words from a position on
abbrev pub low : ℕ → ℕ → List ℕ → List ℕ
low at count from = map (λ (x : ℕ). x % 256) (take count (drop at from))

abbrev pub invariant-loop-i : goal.invariant-loop-i
invariant-loop-i l = l.to ≡ sets l.initial.to 0 (low l.at l.i l.from)
