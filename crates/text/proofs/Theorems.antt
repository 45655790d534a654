-- The length of a listing, and how much of its input the program reads.
-- Assumes nothing.
use mathlib.Core.Path.{◌≡◌, refl, sym, ap, subst, ◌∙◌}
use mathlib.Core.List.{List}
use Prim.Native.Nat.{ℕ, zero, suc, ◌<◌, ◌≤◌}
use native.Mathlib.Omega.{arith}
use borrow.Author.Tests.{le-ltb}
use lib.ListN.{length, get_or, take, replicate, length-replicate}
use lib.Seq.{take_all}
use Rattle.plan.specs.Layout.{Bytes}
use Rattle.refusals.specs.Tests.{room_test}
use Rattle.plan.specs.File.{refusal, plan_of}
use Rattle.plan_layout.proofs.Theorems.{read-writes-again, longest, prefix-decides}
use Rattle.network.specs.Outage.{intact}
use Rattle.plan_reading.proofs.LoadedLaws.{bytes-each}
use Rattle.text.specs.Listing.{answer_text, listing}
use Rattle.text.proofs.FieldLaws.{refused-long}
use Rattle.text.proofs.MostLaws.{refusal-most, refused-same, field-most, plan-most}

-- A BOUND ON THE LENGTH OF EVERY LISTING: the program's buffer has this length. No plan attains it: it counts two digits for each node, and
-- nodes 0 to 9 have one
pub listing-most : (b : List ℕ) → Bytes b → length (listing intact b) ≤ 92789
unfolding listing answer_text
listing-most b bytes = go (refusal b) refl
  where
    go : (n : ℕ) → refusal b ≡ n → length (answer_text intact n (plan_of b)) ≤ 92789
    go zero e = plan-most (plan_of b) (read-writes-again b bytes e).0
    go (suc n) e =
        let small : suc n ≤ 11 = subst (λ (x : ℕ). x ≤ 11) e (refusal-most b) in
        omega (arith, refused-long (suc n), field-most 1 (suc n) 10 (omega arith))

-- an array of that length has room for every listing
pub array-room : (b : List ℕ) → ((i : ℕ) → get_or b i 0 < 256) → length (listing intact b) ≤ length (replicate {A = ℕ} 92789 0)
array-room b bytes =
    subst (λ (k : ℕ). length (listing intact b) ≤ k) (sym (length-replicate {A = ℕ} 92789 0)) (listing-most b (bytes-each b bytes))

-- a buffer of that length is never refused
pub program-holds : (b : List ℕ) → Bytes b → room_test 92789 (length (listing intact b)) ≡ 0
program-holds b bytes = rw (le-ltb 92789 (length (listing intact b)) (listing-most b bytes))

-- the listing of any list of bytes is that of its first 50,070: they decide a refusal, and an accepted list has no more
pub listing-prefix : (b : List ℕ) → listing intact (take 50070 b) ≡ listing intact b
listing-prefix b = go (refusal b) refl
  where
    go : (n : ℕ) → refusal b ≡ n → listing intact (take 50070 b) ≡ listing intact b
    go zero e = ap (listing intact) (take_all 50070 b (omega (arith, longest b e)))
    go (suc n) e = refused-same b (take 50070 b) n e (prefix-decides b ∙ e)
