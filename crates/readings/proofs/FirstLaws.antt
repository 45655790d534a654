-- Laws of the search of a list of scenarios: that one passes a test, and the first that does.
-- Assumes nothing.
use mathlib.Core.Path.{◌≡◌, refl, sym, ap, subst, ◌∙◌}
use mathlib.Core.Logic.{⊎_elim}
use mathlib.Core.Bool.{Bool, true, false, or-true, true≢false}
use mathlib.Core.List.Memᴰ
use mathlib.Core.List.{List, [], ◌∷◌, ◌++◌, Memᴰ}
use mathlib.Core.List.{Pairwise-append, rel_of_Pairwise-cons}
use Rattle.walk.specs.Scenario.{Scenario}
use Rattle.walk.specs.WalkOrder.{earlier, Ordered}
use Rattle.walk.proofs.OrderLaws.{earlier-prop, one_way, not_itself}
use Rattle.readings.specs.Witness.{some, first_where}
use Rattle.readings.specs.First.{First}

module _ (test : Scenario → Bool) where
  -- law: `some` says that the list has a scenario of which the test holds
  pub some-member : (s : Scenario) (list : List Scenario) → Memᴰ s list → test s ≡ true → some test list ≡ true
  unfolding some
  some-member s [] x' h = elim x' [ ]
  some-member s (r ∷ list) (Memᴰ.head e) h = rw (sym e, h)
  some-member s (r ∷ list) (Memᴰ.tail m) h = rw (some-member s list m h, or-true)

  pub member-some : (list : List Scenario) → some test list ≡ true → (s : Scenario) × Memᴰ s list × (test s ≡ true)
  unfolding some
  member-some [] e = absurd (true≢false (sym e))
  member-some (r ∷ list) e = step (test r) refl (member-some list)
    where
      step : (b : Bool) → test r ≡ b → (some test list ≡ true → (s : Scenario) × Memᴰ s list × (test s ≡ true))
          → (s : Scenario) × Memᴰ s (r ∷ list) × (test s ≡ true)
      step true h later = (r, Memᴰ.head refl, h)
      step false h later = let f = later (rw h at e) in (f.0, Memᴰ.tail f.1, f.2)

  -- law: the first scenario of a list decides, or leaves it to the others
  module _ (r : Scenario) (list : List Scenario) where
    pub some-here : test r ≡ true → some test (r ∷ list) ≡ true
    unfolding some
    some-here h = rw h

    pub some-passed : test r ≡ false → some test (r ∷ list) ≡ some test list
    unfolding some
    some-passed h = rw h

    pub first-here : test r ≡ true → first_where test (r ∷ list) ≡ r
    unfolding first_where
    first-here h = rw (first_where, h)

    pub first-passed : test r ≡ false → first_where test (r ∷ list) ≡ first_where test list
    unfolding first_where
    first-passed h = rw (first_where, h)

  -- law: where the test holds of a scenario of a list, `first_where` is the first one
  pub first_found : (list : List Scenario) → some test list ≡ true → First test list (first_where test list)
  unfolding some
  first_found [] e = absurd (true≢false (sym e))
  first_found (r ∷ list) e = step (test r) refl (first_found list)
    where
      step : (b : Bool) → test r ≡ b → (some test list ≡ true → First test list (first_where test list))
          → First test (r ∷ list) (first_where test (r ∷ list))
      step true h later =
          subst (First test (r ∷ list)) (sym (first-here r list h)) (record { before = []; later = list; parts = refl; holds = h; none = refl })
      step false h later =
          let f = later (sym (some-passed r list h) ∙ e) in
          subst (First test (r ∷ list)) (sym (first-passed r list h))
          (record {
            before = r ∷ f.before;
            later = f.later;
            parts = ap (λ (l : List Scenario). r ∷ l) f.parts;
            holds = f.holds;
            none = some-passed r f.before h ∙ f.none;
          })

  -- law: and there is no other first one
  pub first-only : (list : List Scenario) (s : Scenario) → First test list s → s ≡ first_where test list
  first-only list s f = sym (passes f.before f.none) ∙ ap (first_where test) (sym f.parts)
    where
      passes : (before : List Scenario) → some test before ≡ false → first_where test (before ++ s ∷ f.later) ≡ s
      passes [] n = first-here s f.later f.holds
      passes (b ∷ before) n = step (test b) refl (passes before)
        where
          step : (a : Bool) → test b ≡ a → (some test before ≡ false → first_where test (before ++ s ∷ f.later) ≡ s)
              → first_where test (b ∷ before ++ s ∷ f.later) ≡ s
          step true h rest = absurd (true≢false (sym (some-here b before h) ∙ n))
          step false h rest = first-passed b (before ++ s ∷ f.later) h ∙ rest (sym (some-passed b before h) ∙ n)

  -- law: in a list in the order of the walk the test holds of none that comes before the first one
  pub none-earlier : (list : List Scenario) (f : Scenario) → Ordered list → First test list f
      → (s : Scenario) → Memᴰ s list → earlier s f ≡ true → test s ≡ false
  none-earlier list f o g s m h = step (test s) refl
    where
      after : Ordered (f ∷ g.later)
      after = ((Pairwise-append earlier-prop {l₁ = g.before} {l₂ = f ∷ g.later}).0 (subst Ordered g.parts o)).1

      step : (b : Bool) → test s ≡ b → test s ≡ false
      step false e = e
      step true e =
          absurd
          (⊎_elim
          (λ (b : Memᴰ s g.before). true≢false (sym (some-member s g.before b e) ∙ g.none))
          (λ (a : Memᴰ s (f ∷ g.later)).
          ⊎_elim
          (not_itself s f h)
          (λ (l : Memᴰ s g.later). true≢false (sym h ∙ one_way f s (rel_of_Pairwise-cons after ∣ l ∣₁)))
          (Memᴰ.cases_cons a))
          (Memᴰ.append_cases g.before (subst (Memᴰ s) g.parts m)))
