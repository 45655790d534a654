-- The enclosure: what a walk's sums say of the exact ones, for the first k ends of the walk from any mass m and for any weight of a scenario.
-- A split loses at most one unit, so a scenario examined after n events lost at most n units; what was not examined is in the missed sum.
-- Assumes nothing.
use mathlib.Core.Path.{◌≡◌, refl, ap, fun_ext}
use mathlib.Core.Bool.{Bool, true, false, not}
use mathlib.Core.List.{List, [], ◌∷◌}
use Prim.Native.Nat.{ℕ, suc, ◌+◌, ◌-◌, ◌*◌, ◌≤◌}
use native.Mathlib.Nat.{mul-le-mul_left, mul-le-mul_right, mul-one}
use native.Mathlib.Omega.{arith}
use lib.ListN.{length, take}
use Rattle.mass.specs.Split.{certain, failing, working}
use Rattle.plan.specs.Plan.{Event}
use Rattle.walk.specs.Scenario.{Scenario}
use Rattle.plan.specs.Held.{Probabilities}
use Rattle.sets.specs.Sets.{digit}
use Rattle.walk.specs.Ends.{End, dropped, relevant, ends, both_sides, sum_ends, weighed, scenarios}
use Rattle.walk.proofs.EndsLaws.{sum_ends-both, scenarios-both, first_ends_lem}
use Rattle.walk.specs.Member.{among}
use Rattle.walk.proofs.MemberLaws.{among-works, among-fails}
use Rattle.sums.specs.Exact.{exact_sum, scale}
use Rattle.sums.proofs.ExactLaws.{scale-zero, scale-suc, exact_sum-none, exact_sum-event, exact_sum-times, exact_sum-add, exact_sum-all}

-- 1 for the scenarios of a list of ends, 0 for all others; and the other way round
abbrev pub seen : List End → Scenario → ℕ
seen list s = digit (among s (scenarios list))

abbrev pub missed : List End → Scenario → ℕ
missed list s = digit (not (among s (scenarios list)))

-- one side of an event: u units, the factor f of the side, the mass m₀ that the side is given, and S units in 1 after it
lower-side : (u f m m₀ S A Y : ℕ) → m₀ * u ≤ m * f → A * S ≤ m₀ * Y → A * (u * S) ≤ m * (f * Y)
lower-side u f m m₀ S A Y hf h = omega (arith, mul-le-mul_right Y hf, mul-le-mul_left u h)

spread-side : (u f S a X : ℕ) → f ≤ u → X ≤ a * S → f * X ≤ a * (u * S)
spread-side u f S a X hf x = omega (arith, mul-le-mul_right X hf, mul-le-mul_left u x)

upper-side : (u f m m₀ S A a k X : ℕ) → m * f ≤ (m₀ + 1) * u → X ≤ a * S → m₀ * X ≤ (A + k * a) * S → m * (f * X) ≤ (A + suc k * a) * (u * S)
upper-side u f m m₀ S A a k X hf x h = omega (arith, mul-le-mul_right X hf, mul-le-mul_left u x, mul-le-mul_left u h)

-- the exact sum over the scenarios of no end, and over those of two branches
seen_none : (events : List Event) (w : Scenario → ℕ) → exact_sum events (λ s. 0 * w s) ≡ 0
seen_none events w = omega (arith, exact_sum-times events 0 w)

seen-both : (e : Event) (events : List Event) (xs ys : List End) (w : Scenario → ℕ)
    → exact_sum (e ∷ events) (λ s. seen (both_sides xs ys) s * w s)
    ≡ (certain - e.probability) * exact_sum events (λ s. seen xs s * w (false ∷ s)) + e.probability * exact_sum events (λ s. seen ys s * w (true ∷ s))
seen-both e events xs ys w =
    rw (exact_sum-event e events (λ s. seen (both_sides xs ys) s * w s), scenarios-both xs ys) (simp (among-works, among-fails))

-- from above: the exact sum over the scenarios of the list is at most the sum of weights times 10^(9n), since no set has more units than that;
-- and m times it is at most the weighed masses and, for the units lost, n times the sum of weights
pub record UpperSide (m : ℕ) (events : List Event) (list : List End) (w : Scenario → ℕ) : Type 0 where
  pub spread : exact_sum events (λ s. seen list s * w s) ≤ sum_ends (λ s x. w s) list * scale (length events)
  pub mass : m * exact_sum events (λ s. seen list s * w s) ≤ (weighed w list + length events * sum_ends (λ s x. w s) list) * scale (length events)

above-none : (m : ℕ) (events : List Event) (list : List End) (w : Scenario → ℕ) → exact_sum events (λ s. seen list s * w s) ≡ 0 → UpperSide m events list w
above-none m events list w none = record { spread = omega arith; mass = omega (arith, ap (λ (x : ℕ). m * x) none) }

above-leaf : (m : ℕ) (w : Scenario → ℕ) → UpperSide m [] (relevant [] m ∷ []) w
above-leaf m w =
    record {
      spread = rw (scale-zero, exact_sum-none (λ s. seen (relevant [] m ∷ []) s * w s)) (omega arith);
      mass = rw (scale-zero, exact_sum-none (λ s. seen (relevant [] m ∷ []) s * w s)) (omega arith);
    }

above-node : (m : ℕ) (e : Event) (events : List Event) (xs ys : List End) (w : Scenario → ℕ) → e.probability ≤ certain
    → UpperSide (working m e.probability) events xs (λ s. w (false ∷ s)) → UpperSide (failing m e.probability) events ys (λ s. w (true ∷ s))
    → UpperSide m (e ∷ events) (both_sides xs ys) w
above-node m e events xs ys w q works fails =
    record {
      spread =
          rw (seen-both e events xs ys w, sum_ends-both (λ s x. w s) xs ys, scale-suc (length events))
          (omega (
            arith,
            spread-side certain (certain - e.probability) (scale (length events)) _ _ (omega arith) works.spread,
            spread-side certain e.probability (scale (length events)) _ _ q fails.spread,
          ));
      mass =
          rw (
            seen-both e events xs ys w,
            sum_ends-both (λ s x. w s) xs ys,
            sum_ends-both (λ s x. x * w s) xs ys,
            scale-suc (length events),
          )
          (omega (
            arith,
            upper-side certain (certain - e.probability) m (working m e.probability) (scale (length events)) _ _ (length events) _ (omega arith) works.spread works.mass,
            upper-side certain e.probability m (failing m e.probability) (scale (length events)) _ _ (length events) _ (omega arith) fails.spread fails.mass,
          ));
    }

module _ (t : ℕ) where
  -- law: from below, for any weight
  pub lower-bound : (k m : ℕ) (events : List Event) (w : Scenario → ℕ)
      → weighed w (take k (ends t m events)) * scale (length events) ≤ m * exact_sum events w
  lower-bound =
      first_ends_lem
      t
      (λ m events list. (w : Scenario → ℕ) → weighed w list * scale (length events) ≤ m * exact_sum events w)
      (λ m events w. omega arith)
      (λ m events h w. omega arith)
      (λ m h w. rw (scale-zero, exact_sum-none w) (omega arith))
      (λ m e events xs ys h works fails w.
      rw (sum_ends-both (λ s x. x * w s) xs ys, scale-suc (length events), exact_sum-event e events w)
      (omega (
        arith,
        lower-side certain (certain - e.probability) m (working m e.probability) (scale (length events)) _ _ (omega arith) (works (λ s. w (false ∷ s))),
        lower-side certain e.probability m (failing m e.probability) (scale (length events)) _ _ (omega arith) (fails (λ s. w (true ∷ s))),
      )))

  -- law: from above, for any weight
  pub upper-bound : (k m : ℕ) (events : List Event) → Probabilities events → (w : Scenario → ℕ) → UpperSide m events (take k (ends t m events)) w
  upper-bound =
      first_ends_lem
      t
      (λ m events list. Probabilities events → (w : Scenario → ℕ) → UpperSide m events list w)
      (λ m events p w. above-none m events [] w (seen_none events w))
      (λ m events h p w. above-none m events (dropped ∷ []) w (seen_none events w))
      (λ m h p w. above-leaf m w)
      (λ m e events xs ys h works fails p w.
      above-node m e events xs ys w p.0 (works p.1 (λ s. w (false ∷ s))) (fails p.1 (λ s. w (true ∷ s))))

-- the sums of two weights that add up to B, and of a weight that is at most B
module _ (B : ℕ) where
  pub weighed-split : (v w : Scenario → ℕ) → ((s : Scenario) → v s + w s ≡ B) → (list : List End)
      → weighed v list + weighed w list ≡ B * sum_ends (λ s x. x) list
  weighed-split v w h [] = omega arith
  weighed-split v w h (dropped ∷ list) = weighed-split v w h list
  weighed-split v w h (relevant s x ∷ list) = omega (arith, weighed-split v w h list, ap (λ (y : ℕ). x * y) (h s))

  exact_sum-split : (events : List Event) → Probabilities events → (v w : Scenario → ℕ) → ((s : Scenario) → v s + w s ≡ B)
      → exact_sum events v + exact_sum events w ≡ B * scale (length events)
  exact_sum-split events p v w h =
      omega (
        arith,
        exact_sum-add events v w,
        ap (exact_sum events) (fun_ext same),
        exact_sum-times events B (λ s. 1),
        ap (λ (x : ℕ). B * x) (exact_sum-all events p),
      )
    where
      same : (s : Scenario) → v s + w s ≡ B * 1
      same s = omega (arith, h s)

high-step : (m S U W E B X Y : ℕ) → U * S ≤ m * X → U + W ≡ B * E → X + Y ≡ B * S → m * Y + B * E * S ≤ (W + B * m) * S
high-step m S U W E B X Y h e₁ e₂ = omega (arith, ap (λ (x : ℕ). x * S) e₁, ap (λ (x : ℕ). m * x) e₂)

gap_step : (m S E c X R : ℕ) → m * X ≤ (E + c) * S → R + X ≡ 1 * S → m * S ≤ (E + c) * S + m * R
gap_step m S E c X R h e = omega (arith, ap (λ (x : ℕ). m * x) e)

pub one-or-other : (b : Bool) → digit (not b) + digit b ≡ 1
one-or-other true = refl
one-or-other false = refl

-- what the ends of a list, reached from the mass m over n events, say of the exact sum of a weight of at most B
pub record Enclosed (m : ℕ) (events : List Event) (list : List End) (B : ℕ) (w : Scenario → ℕ) : Type 0 where
  -- the weighed masses are a lower bound of the exact sum
  pub below : weighed w list * scale (length events) ≤ m * exact_sum events w
  -- with B for every unit of mass not handed out they are an upper bound
  pub above : m * exact_sum events w + B * sum_ends (λ s x. x) list * scale (length events) ≤ (weighed w list + B * m) * scale (length events)
  -- and the mass not handed out is at most that of the missed sets and n units for each scenario examined
  pub gap : m * scale (length events)
      ≤ (sum_ends (λ s x. x) list + length events * sum_ends (λ s x. 1) list) * scale (length events) + m * exact_sum events (missed list)

-- THE ENCLOSURE: so it is for the first k ends of every walk, whatever the threshold, k and the mass
module _ (t k m : ℕ) (events : List Event) (p : Probabilities events) (B : ℕ) (w : Scenario → ℕ) (bounded : (s : Scenario) → w s ≤ B) where
  pub enclosure : Enclosed m events (take k (ends t m events)) B w
  enclosure =
      record {
        below = lower-bound t k m events w;
        above =
            high-step
            m
            (scale (length events))
            (weighed rest list)
            (weighed w list)
            (sum_ends (λ s x. x) list)
            B
            (exact_sum events rest)
            (exact_sum events w)
            (lower-bound t k m events rest)
            (weighed-split B rest w restores list)
            (exact_sum-split B events p rest w restores);
        gap =
            gap_step
            m
            (scale (length events))
            (sum_ends (λ s x. x) list)
            (length events * sum_ends (λ s x. 1) list)
            (exact_sum events (seen list))
            (exact_sum events (missed list))
            (simp mul-one at (upper-bound t k m events p (λ s. 1)).mass)
            (exact_sum-split 1 events p (missed list) (seen list) (λ s. one-or-other (among s (scenarios list))));
      }
    where
      list : List End
      list = take k (ends t m events)

      rest : Scenario → ℕ
      rest s = B - w s

      restores : (s : Scenario) → rest s + w s ≡ B
      restores s = omega (arith, bounded s)
