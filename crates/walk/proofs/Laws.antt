-- Sanity laws of the walk: what is relevant, what is examined, and how much of it there can be.
-- Assumes nothing.
use mathlib.Core.Path.{◌≡◌, ap, sym, subst₂}
use mathlib.Core.Bool.{Bool, true, false}
use mathlib.Core.Logic.{⊎_elim}
use mathlib.Core.List.Memᴰ
use mathlib.Core.List.Pairwise
use mathlib.Core.List.{Pairwise-singleton, List, [], ◌∷◌, map, Memᴰ}
use Prim.Native.Nat.{ℕ, suc, ◌*◌, ◌≤◌}
use native.Mathlib.Omega.{arith}
use lib.ListN.{length, take}
use Rattle.mass.specs.Split.{whole, failing, working}
use Rattle.mass.proofs.Theorems.{parts-le}
use Rattle.plan.specs.Plan.{Plan, Event}
use Rattle.walk.specs.Scenario.{Scenario, part, final_mass}
use Rattle.walk.proofs.ScenarioLaws.{final_mass-le}
use Rattle.plan.specs.Held.{Probabilities}
use Rattle.walk.specs.Ends.{End, dropped, relevant, after, ends, ends_after, sum_ends, scenarios, both_sides}
use Rattle.walk.proofs.EndsLaws.{ends-leaf, ends-node, sum_ends-both, scenarios-both, first_ends_lem}
use Rattle.walk.proofs.MemberLaws.{among-member}
use Rattle.walk.specs.WalkOrder.{earlier, Ordered}
use Rattle.walk.proofs.OrderLaws.{ordered-both}
use Rattle.walk.specs.Walk.{first_ends, examined, is_examined}

-- a scenario that the walk from the mass m finds relevant: one entry for each event, and a final mass of at least t
pub record Relevant (t m : ℕ) (events : List Event) (s : Scenario) (x : ℕ) : Type 0 where
  pub entries : length s ≡ length events
  pub mass : x ≡ final_mass m events s
  pub enough : t ≤ x

-- a dropped end is no relevant one
never : {A : Type 0} (s : Scenario) (x : ℕ) → relevant s x ≡ dropped → A
never s x h = let z : ◌≡◌ {A = ℕ} 0 1 = cc in absurd (omega arith)

one-dropped : {A : Type 0} (s : Scenario) (x : ℕ) → Memᴰ (relevant s x) (dropped ∷ []) → A
one-dropped s x h = ⊎_elim (never s x) (λ (n : Memᴰ (relevant s x) []). absurd (Memᴰ.not-nil n)) (Memᴰ.cases_cons h)

module _ (t m : ℕ) (e : Event) (events : List Event) (fails : Bool) where
  -- one event more
  deeper : (s : Scenario) (x : ℕ) → Relevant t (part fails m e.probability) events s x → Relevant t m (e ∷ events) (fails ∷ s) x
  deeper s x r = record { entries = ap suc r.entries; mass = r.mass; enough = r.enough }

  -- and one less
  nearer : (s : Scenario) (x : ℕ) → Relevant t m (e ∷ events) (fails ∷ s) x → Relevant t (part fails m e.probability) events s x
  nearer s x r = record { entries = omega (arith, r.entries); mass = r.mass; enough = r.enough }

  under : (list : List End) → ((s : Scenario) (x : ℕ) → Memᴰ (relevant s x) list → Relevant t (part fails m e.probability) events s x)
      → (s : Scenario) (x : ℕ) → Memᴰ (relevant s x) (map (after (fails ∷ [])) list) → Relevant t m (e ∷ events) s x
  under list known s x h = from found.0 found.1 found.2
    where
      found : (a : End) × Memᴰ a list × (after (fails ∷ []) a ≡ relevant s x)
      found = Memᴰ.of_map (after (fails ∷ [])) list h

      from : (a : End) → Memᴰ a list → after (fails ∷ []) a ≡ relevant s x → Relevant t m (e ∷ events) s x
      from dropped there same = never s x (sym same)
      from (relevant r y) there same =
          let initial : fails ∷ r ≡ s = cc in
          let second : y ≡ x = cc in
          subst₂ (λ a b. Relevant t m (e ∷ events) a b) initial second (deeper r y (known r y there))

-- law: every relevant one of the first k ends is a scenario with its final mass, which is at least t
module _ (t : ℕ) where
  Sound : ℕ → List Event → List End → Type 0
  Sound m events list = (s : Scenario) (x : ℕ) → Memᴰ (relevant s x) list → Relevant t m events s x

  sound-leaf : (m : ℕ) → t ≤ m → Sound m [] (relevant [] m ∷ [])
  unfolding Sound
  sound-leaf m h s x there = ⊎_elim is (λ (n : Memᴰ (relevant s x) []). absurd (Memᴰ.not-nil n)) (Memᴰ.cases_cons there)
    where
      is : relevant s x ≡ relevant [] m → Relevant t m [] s x
      is same =
          let initial : s ≡ [] = cc in
          let second : x ≡ m = cc in
          record { entries = ap length initial; mass = second; enough = omega arith }

  sound-node : (m : ℕ) (e : Event) (events : List Event) (xs ys : List End) → t ≤ m
      → Sound (working m e.probability) events xs → Sound (failing m e.probability) events ys → Sound m (e ∷ events) (both_sides xs ys)
  unfolding Sound
  sound-node m e events xs ys h works fails s x there =
      ⊎_elim
      (under t m e events false xs works s x)
      (under t m e events true ys fails s x)
      (Memᴰ.append_cases (map (after (false ∷ [])) xs) there)

  pub relevant-sound : (k m : ℕ) (events : List Event) (s : Scenario) (x : ℕ)
      → Memᴰ (relevant s x) (take k (ends t m events)) → Relevant t m events s x
  unfolding Sound
  relevant-sound =
      first_ends_lem
      t
      Sound
      (λ m events s x there. absurd (Memᴰ.not-nil there))
      (λ m events h s x there. one-dropped s x there)
      sound-leaf
      sound-node

-- law: and every such scenario is a relevant end of the whole walk
pub relevant-all : (t m : ℕ) (events : List Event) (s : Scenario) (x : ℕ) → Probabilities events → Relevant t m events s x → Memᴰ (relevant s x) (ends t m events)
relevant-all t m [] [] x p r = rw (ends-leaf t m (omega (arith, r.mass, r.enough))) (Memᴰ.head (ap (relevant []) r.mass))
relevant-all t m [] (b ∷ s) x p r = absurd (omega (arith, r.entries))
relevant-all t m (e ∷ events) [] x p r = absurd (omega (arith, r.entries))
relevant-all t m (e ∷ events) (false ∷ s) x p r =
    rw (ends-node t m e events (omega (arith, r.mass, r.enough, final_mass-le m (e ∷ events) (false ∷ s) p)))
    (Memᴰ.append_left
    _
    (Memᴰ.map (after (false ∷ [])) (relevant-all t (working m e.probability) events s x p.1 (nearer t m e events false s x r))))
relevant-all t m (e ∷ events) (true ∷ s) x p r =
    rw (ends-node t m e events (omega (arith, r.mass, r.enough, final_mass-le m (e ∷ events) (true ∷ s) p)))
    (Memᴰ.append_right
    (ends_after (false ∷ []) t (working m e.probability) events)
    (Memᴰ.map (after (true ∷ [])) (relevant-all t (failing m e.probability) events s x p.1 (nearer t m e events true s x r))))

-- a scenario of a list of ends is one of its relevant ends
scenario-end : (s : Scenario) (list : List End) → Memᴰ s (scenarios list) → (x : ℕ) × Memᴰ (relevant s x) list
scenario-end s [] h = absurd (Memᴰ.not-nil h)
scenario-end s (dropped ∷ list) h = let r = scenario-end s list h in (r.0, Memᴰ.tail r.1)
scenario-end s (relevant r m ∷ list) h = ⊎_elim here (later (scenario-end s list)) (Memᴰ.cases_cons h)
  where
    here : s ≡ r → (x : ℕ) × Memᴰ (relevant s x) (relevant r m ∷ list)
    here same = (m, Memᴰ.head (ap (λ (l : Scenario). relevant l m) same))

    later : (Memᴰ s (scenarios list) → (x : ℕ) × Memᴰ (relevant s x) list) → Memᴰ s (scenarios list)
        → (x : ℕ) × Memᴰ (relevant s x) (relevant r m ∷ list)
    later known there = let r = known there in (r.0, Memᴰ.tail r.1)

pub end-scenario : (s : Scenario) (x : ℕ) (list : List End) → Memᴰ (relevant s x) list → Memᴰ s (scenarios list)
end-scenario s x [] h = absurd (Memᴰ.not-nil h)
end-scenario s x (dropped ∷ list) h = ⊎_elim (never s x) (end-scenario s x list) (Memᴰ.cases_cons h)
end-scenario s x (relevant r m ∷ list) h = ⊎_elim here (later (end-scenario s x list)) (Memᴰ.cases_cons h)
  where
    here : relevant s x ≡ relevant r m → Memᴰ s (r ∷ scenarios list)
    here same = let initial : s ≡ r = cc in Memᴰ.head initial

    later : (Memᴰ (relevant s x) list → Memᴰ s (scenarios list)) → Memᴰ (relevant s x) list → Memᴰ s (r ∷ scenarios list)
    later known there = Memᴰ.tail (known there)

-- law: an examined scenario has one entry for each event and a final mass of at least t
pub examined-sound : (p : Plan) (s : Scenario) → is_examined p s ≡ true → (length s ≡ length p.events) × (p.threshold ≤ final_mass whole p.events s)
examined-sound p s h = (r.entries, omega (arith, r.mass, r.enough))
  where
    found : (x : ℕ) × Memᴰ (relevant s x) (first_ends p)
    found = scenario-end s (first_ends p) (among-member s (examined p) h)

    r : Relevant p.threshold whole p.events s found.0
    r = relevant-sound p.threshold p.cap whole p.events s found.0 found.1

-- law: the masses of the first k ends sum to at most the mass that the walk starts from
pub masses-le : (t k m : ℕ) (events : List Event) → Probabilities events → sum_ends (λ s x. x) (take k (ends t m events)) ≤ m
masses-le t =
    first_ends_lem
    t
    (λ m events list. Probabilities events → sum_ends (λ s x. x) list ≤ m)
    (λ m events p. omega arith)
    (λ m events h p. omega arith)
    (λ m h p. omega arith)
    (λ m e events xs ys h works fails p.
    omega (arith, sum_ends-both (λ s x. x) xs ys, works p.1, fails p.1, parts-le m e.probability p.0))

-- law: each relevant one of them has at least t
pub masses-enough : (t k m : ℕ) (events : List Event) → sum_ends (λ s x. 1) (take k (ends t m events)) * t ≤ sum_ends (λ s x. x) (take k (ends t m events))
masses-enough t =
    first_ends_lem
    t
    (λ m events list. sum_ends (λ s x. 1) list * t ≤ sum_ends (λ s x. x) list)
    (λ m events. omega arith)
    (λ m events h. omega arith)
    (λ m h. omega arith)
    (λ m e events xs ys h works fails.
    rw (sum_ends-both (λ s x. 1) xs ys, sum_ends-both (λ s x. x) xs ys) (omega (arith, works, fails)))

-- law: the scenarios of the first k ends stand in the order of the walk
pub ends-ordered : (t k m : ℕ) (events : List Event) → Ordered (scenarios (take k (ends t m events)))
ends-ordered t =
    first_ends_lem
    t
    (λ m events list. Ordered (scenarios list))
    (λ m events. Pairwise.nil)
    (λ m events h. Pairwise.nil)
    (λ m h. Pairwise-singleton (λ (s r : Scenario). earlier s r ≡ true) [])
    (λ m e events xs ys h works fails. rw (scenarios-both xs ys) (ordered-both (scenarios xs) (scenarios ys) works fails))
