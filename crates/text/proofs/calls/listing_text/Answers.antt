-- `text::calls::listing_text` meets its contract: the array has room for every listing. Assumes nothing.
use Prim.Native.Nat.{ℕ}
use native.Mathlib.Omega.{arith}
use lib.ListN.{replicate}
use Rattle.text.specs.Listing.{listing}
use Rattle.text.proofs.TextLaws.{text-copied, size-kept}
use Rattle.text.proofs.Theorems.{array-room}
use Rattle.network.specs.Outage.{intact}
use Rattle.text.proofs.calls.listing_text.Goals as goal

pub put_listing-size-requires : goal.put_listing-size-requires
put_listing-size-requires c = array-room c.args.plan.now (λ i. omega (arith, c.type_inv.plan i))

pub copy_first-requires : goal.copy_first-requires
copy_first-requires c =
    let b = c.args.plan.now in
    let room = array-room b (λ i. omega (arith, c.type_inv.plan i)) in
    let put = c.put_listing-size.ensures in
    (size-kept (replicate {A = ℕ} 92789 0) _ (listing intact b) _ put.0 put.1 room, omega (arith, c.in_ok-room_test.ensures.there))

pub returns-clause-bytes : goal.returns-clause-bytes
returns-clause-bytes c =
    let a = c.args in
    let room = array-room a.plan.now (λ i. omega (arith, c.type_inv.plan i)) in
    let put = c.put_listing-size.ensures in
    text-copied _ _ _ (listing intact a.plan.now) a.out.now _ room put.0 put.1 (omega (arith, c.in_ok-room_test.ensures.there)) c.copy_first.ensures
