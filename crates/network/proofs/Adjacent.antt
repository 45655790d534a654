-- The rows of neighbours from the working links.
-- Assumes nothing.
use mathlib.Core.Path.{◌≡◌, sym, ap, ◌∙◌, subst}
use mathlib.Core.Bool.{Bool, true, ◌||◌}
use mathlib.Core.List.{List}
use Prim.Native.Nat.{ℕ, ◌+◌, ◌^◌, ◌<◌}
use lib.ListN.{get_or, replicate}
use Rattle.sets.specs.Sets.{bit, joined}
use Rattle.sets.proofs.Laws.{bit-none}
use Rattle.sets.proofs.Bools.{and_left, and_right, and_both, same_bool}
use Rattle.plan.specs.Plan.{Link}
use Rattle.plan.specs.Lists.{links_of}
use Rattle.plan_layout.proofs.ListLaws.{length-links-of}
use Rattle.network.specs.Outage.{Outage}
use Rattle.network.specs.Topology.{network_of, link_works, has_ends, joins, adjacent}
use Rattle.network.proofs.Works.{adjacent-link, link-adjacent, link-below}
use Rattle.network.specs.Table.{joined_by}
use Rattle.network.proofs.LinkBytes.{link-at}
use Rattle.network.proofs.RowSets.{empty-row}
use Rattle.network.proofs.Words.{in-low-word, in-high-word, two-found, two_here}

module _ (n count : ℕ) (bytes : List ℕ) (out : Outage) (low high : ℕ) (fl : low < 2 ^ 64) (fh : high < 2 ^ 64)
    (up : (i : ℕ) → bit (joined low high) i ≡ link_works (network_of n (links_of count bytes) out) i)
  where
    -- each working link is one of the links
    up-below : (i : ℕ) → bit (joined low high) i ≡ true → i < count
    up-below i e =
        subst (λ (x : ℕ). i < x) (length-links-of count bytes) (link-below (network_of n (links_of count bytes) out) i (sym (up i) ∙ e))

    pub low_below : (i : ℕ) → bit low i ≡ true → 0 + i < count
    low_below i e = up-below (0 + i) (in-low-word low high fl fh i e)

    pub high-below : (i : ℕ) → bit high i ≡ true → 64 + i < count
    high-below i e = up-below (64 + i) (in-high-word low high fl fh i e)

    -- two nodes are neighbours where a working link of either word joins them
    joined-adjacent : (v w : ℕ) → (joined_by bytes 0 low v w || joined_by bytes 64 high v w) ≡ adjacent (network_of n (links_of count bytes) out) v w
    unfolding joins
    joined-adjacent v w = same_bool _ _ there back
      where
        there : (joined_by bytes 0 low v w || joined_by bytes 64 high v w) ≡ true → adjacent (network_of n (links_of count bytes) out) v w ≡ true
        there e =
            let f = two-found low high fl fh bytes v w e in
            link-adjacent (network_of n (links_of count bytes) out) v w (
              f.0,
              and_both (link_works (network_of n (links_of count bytes) out) f.0) _
                  (sym (up f.0) ∙ f.1)
                  (ap (λ (l : Link). has_ends l v w) (link-at count bytes f.0 (up-below f.0 f.1)) ∙ f.2),
            )

        back : adjacent (network_of n (links_of count bytes) out) v w ≡ true → (joined_by bytes 0 low v w || joined_by bytes 64 high v w) ≡ true
        back e =
            let s = adjacent-link (network_of n (links_of count bytes) out) v w e in
            let b = up s.0 ∙ and_left (link_works (network_of n (links_of count bytes) out) s.0) _ s.1 in
            two_here low high fl fh bytes v w s.0 b
            (sym (ap (λ (l : Link). has_ends l v w) (link-at count bytes s.0 (up-below s.0 b)))
            ∙ and_right (link_works (network_of n (links_of count bytes) out) s.0) _ s.1)

    -- the rows with no link, with the links of the low word, and with those of both
    pub rows-adjacent : (one two : List ℕ)
        → ((v w : ℕ) → bit (get_or one v 0) w ≡ (bit (get_or (replicate 64 0) v 0) w || joined_by bytes 0 low v w))
        → ((v w : ℕ) → bit (get_or two v 0) w ≡ (bit (get_or one v 0) w || joined_by bytes 64 high v w))
        → (v w : ℕ) → bit (get_or two v 0) w ≡ adjacent (network_of n (links_of count bytes) out) v w
    rows-adjacent one two first second v w =
        second v w
        ∙ ap (λ (x : Bool). x || joined_by bytes 64 high v w)
        (first v w ∙ ap (λ (x : Bool). x || joined_by bytes 0 low v w) (ap (λ (x : ℕ). bit x w) (empty-row 64 v) ∙ bit-none w))
        ∙ joined-adjacent v w
