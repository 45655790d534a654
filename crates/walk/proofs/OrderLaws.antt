-- Laws of the order of the walk.
-- Assumes nothing.
use mathlib.Core.Path.{◌≡◌, refl, sym, subst₂, ◌∙◌}
use mathlib.Core.Logic.{◌≢◌, ∥∥₁_elim}
use mathlib.Core.Bool.{Bool, true, false, Bool-set, true≢false}
use mathlib.Core.List.Pairwise
use mathlib.Core.List.{List, [], ◌∷◌, ◌++◌, map, Mem, Nodup, Pairwise-append, exists_of_mem-map}
use Rattle.walk.specs.Scenario.{Scenario}
use Rattle.walk.specs.WalkOrder.{earlier, Ordered}

pub earlier-prop : (s r : Scenario) → IsProp (earlier s r ≡ true)
earlier-prop s r = Bool-set (earlier s r) true

-- law: of two scenarios at most one comes before the other, and none before itself
pub one_way : (s r : Scenario) → earlier s r ≡ true → earlier r s ≡ false
one_way [] r h = absurd (true≢false (sym h))
one_way (a ∷ s) [] h = absurd (true≢false (sym h))
one_way (false ∷ s) (true ∷ r) h = refl
one_way (true ∷ s) (false ∷ r) h = absurd (true≢false (sym h))
one_way (true ∷ s) (true ∷ r) h = one_way s r h
one_way (false ∷ s) (false ∷ r) h = one_way s r h

pub not_itself : (s r : Scenario) → earlier s r ≡ true → s ≢ r
not_itself s r h e = true≢false (sym h ∙ one_way r s (subst₂ (λ (x y : Scenario). earlier x y ≡ true) e (sym e) h))

-- law: so no scenario is twice in a list in the order of the walk
pub ordered-distinct : (list : List Scenario) → Ordered list → Nodup list
ordered-distinct list = Pairwise.imp {S = λ (s r : Scenario). s ≢ r} not_itself

-- law: if xs and ys stand in the order of the walk, so do those where the first event works, of xs, and then those where it fails, of ys
pub ordered-both : (xs ys : List Scenario) → Ordered xs → Ordered ys
    → Ordered (map (λ s. (false ∷ []) ++ s) xs ++ map (λ s. (true ∷ []) ++ s) ys)
unfolding Pairwise-append
ordered-both xs ys h k = (Pairwise-append earlier-prop {l₁ = map (λ s. (false ∷ []) ++ s) xs}).1 (side false xs h, side true ys k, apart)
  where
    longer : (b : Bool) (r s : Scenario) → earlier r s ≡ true → earlier (b ∷ r) (b ∷ s) ≡ true
    longer true r s e = e
    longer false r s e = e

    side : (b : Bool) (list : List Scenario) → Ordered list → Ordered (map (λ s. (b ∷ []) ++ s) list)
    side b list = Pairwise.map earlier-prop (λ s. (b ∷ []) ++ s) (longer b)

    apart : (a : Scenario) → Mem a (map (λ s. (false ∷ []) ++ s) xs) → (c : Scenario) → Mem c (map (λ s. (true ∷ []) ++ s) ys)
        → earlier a c ≡ true
    apart a m c n =
        ∥∥₁_elim
        (exists_of_mem-map {f = λ r. (false ∷ []) ++ r} {l = xs} m)
        (earlier-prop a c)
        (λ u.
        ∥∥₁_elim
        (exists_of_mem-map {f = λ r. (true ∷ []) ++ r} {l = ys} n)
        (earlier-prop a c)
        (λ t. subst₂ (λ (x y : Scenario). earlier x y ≡ true) u.2 t.2 refl))
