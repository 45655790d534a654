-- The links in a list of bytes.
-- Assumes nothing.
use mathlib.Core.Path.{◌≡◌, refl, ap, ◌∙◌, subst}
use mathlib.Core.List.{List}
use Prim.Native.Nat.{ℕ, zero, suc, ◌+◌, ◌*◌, ◌<◌}
use native.Mathlib.Omega.{arith}
use lib.ListN.{get_or, drop}
use lib.Seq.{get_or-drop}
use Rattle.plan.specs.Plan.{Link, link_at}
use Rattle.plan.specs.Lists.{links_of}
use Rattle.plan_layout.proofs.ListLaws.{length-links-of}
use Rattle.plan.specs.Held.{EndsBelow}
use Rattle.network.specs.Table.{link_in}

byte-later : (bytes : List ℕ) (i k : ℕ) → get_or (drop 2 bytes) (2 * i + k) 0 ≡ get_or bytes (2 * suc i + k) 0
byte-later bytes i k =
    let e : 2 + (2 * i + k) ≡ 2 * suc i + k = omega arith in
    get_or-drop 2 bytes (2 * i + k) 0 ∙ ap (λ (x : ℕ). get_or bytes x 0) e

-- link i stands in bytes 2i and 2i + 1
pub link-at : (count : ℕ) (bytes : List ℕ) (i : ℕ) → i < count → link_at (links_of count bytes) i ≡ link_in bytes i
unfolding links_of
link-at zero bytes i h = absurd (omega arith)
link-at (suc count) bytes zero h = refl
link-at (suc count) bytes (suc i) h =
    link-at count (drop 2 bytes) i (omega arith) ∙ (λ x. record { low = byte-later bytes i 0 x; high = byte-later bytes i 1 x })

-- its ends are nodes
pub link-below : (n count : ℕ) (bytes : List ℕ) (i : ℕ) → EndsBelow n (links_of count bytes) → i < count
    → ((link_in bytes i).low < n) × ((link_in bytes i).high < n)
link-below n count bytes i has_ends h =
    subst (λ (x : Link). (x.low < n) × (x.high < n)) (link-at count bytes i h) (has_ends i (omega (arith, length-links-of count bytes)))
