-- Laws of laying events down in order: runs of stores that meet, the place of an event, and the words of the events with one more among them.
-- Assumes nothing.
use mathlib.Core.Path.{◌≡◌, refl, sym, ◌∙◌, ap, ap₂}
use mathlib.Core.Bool.{Bool, true, false, cond}
use mathlib.Core.List.{List, [], ◌∷◌, ◌++◌, append_assoc}
use Prim.Native.Nat.{ℕ, zero, suc, ◌+◌, ◌-◌, ◌*◌, ◌/◌, ◌%◌, ◌^◌, ◌≤◌, ◌<◌}
use native.Mathlib.Nat.{not-suc-le-zero, add-zero, zero-add, sub-zero}
use native.Mathlib.Decide.{dec_lt}
use native.Mathlib.Omega.{arith}
use borrow.Author.Tests.{lt-ltb, le-ltb}
use lib.Dec.{ltb}
use lib.ListN.{length, get_or, take, drop, set, take-append-drop, length-drop, drop_of_length-le}
use lib.Seq.{sets, sets-eq, set_comm, set-set, set_out, take-nil, get_or-set_other, get_or-drop, drop-drop, drop-cons, take_at, drop_at, length-take-le}
use Rattle.plan.specs.Plan.{Event}
use Rattle.plan.specs.Lists.{events_of, event_words}
use Rattle.plan_layout.proofs.ListLaws.{events-laid}
use Rattle.sheet_order.specs.Order.{place_of, with_element}
use Rattle.sheet_order.specs.Inserted.{probability, inserted_words}

-- ---- runs of stores

-- a store before a run of stores may come first
pub set-sets : (l : List ℕ) (k m x : ℕ) (vs : List ℕ) → m < k → set (sets l k vs) m x ≡ sets (set l m x) k vs
set-sets l k m x [] h = refl
set-sets l k m x (v ∷ vs) h =
    set-sets (set l k v) (suc k) m x vs (omega arith)
    ∙ ap (λ (r : List ℕ). sets r (suc k) vs) (set_comm l k m v x (λ e. differ e))
  where
    differ : k ≡ m → ⊥
    differ e = omega arith

-- a run of stores leaves what stands before it
pub get_d_sets : (l : List ℕ) (k m : ℕ) (vs : List ℕ) → m < k → get_or (sets l k vs) m 0 ≡ get_or l m 0
get_d_sets l k m [] h = refl
get_d_sets l k m (v ∷ vs) h =
    get_d_sets (set l k v) (suc k) m vs (omega arith) ∙ get_or-set_other l k m v 0 (λ e. differ e)
  where
    differ : m ≡ k → ⊥
    differ e = omega arith

-- two runs that follow one another are one, whichever comes first
pub sets-append : (l : List ℕ) (k : ℕ) (us vs : List ℕ) → sets (sets l k us) (k + length us) vs ≡ sets l k (us ++ vs)
sets-append l k [] vs = rw add-zero
sets-append l k (u ∷ us) vs =
    let e : k + suc (length us) ≡ suc k + length us = omega arith in
    rw e (sets-append (set l k u) (suc k) us vs)

pub sets-before : (l : List ℕ) (k : ℕ) (us vs : List ℕ) → sets (sets l (k + length us) vs) k us ≡ sets l k (us ++ vs)
sets-before l k [] vs = rw add-zero
sets-before l k (u ∷ us) vs =
    let e : k + suc (length us) ≡ suc k + length us = omega arith in
    rw (e, set-sets l (suc k + length us) k u vs (omega arith)) (sets-before (set l k u) (suc k) us vs)

-- a run that is covered by a later one leaves nothing
pub sets_over : (l : List ℕ) (k : ℕ) (us vs : List ℕ) → length us ≤ length vs → sets (sets l k us) k vs ≡ sets l k vs
sets_over l k [] vs h = refl
sets_over l k (u ∷ us) [] h = absurd (not-suc-le-zero h)
sets_over l k (u ∷ us) (v ∷ vs) h =
    ap (λ (r : List ℕ). sets r (suc k) vs)
    (set-sets (set l k u) (suc k) k v us (omega arith) ∙ ap (λ (r : List ℕ). sets r (suc k) us) (set-set l k u v))
    ∙ sets_over (set l k v) (suc k) us vs (omega arith)

-- ---- moving words on by four

-- before the first word is moved
pub room-start : (l : List ℕ) (to : ℕ) → l ≡ sets l (to + 4) (take (to - to) (drop to l))
room-start l to = let e : to - to ≡ 0 = omega arith in rw e

-- one word more, the one before those that are moved
pub room-step : (l : List ℕ) (i to : ℕ) → 0 < i → i ≤ to
    → set (sets l (i + 4) (take (to - i) (drop i l))) (i - 1 + 4) (get_or (sets l (i + 4) (take (to - i) (drop i l))) (i - 1) 0)
    ≡ sets l (i - 1 + 4) (take (to - (i - 1)) (drop (i - 1) l))
room-step l zero to p h = absurd (not-suc-le-zero p)
room-step l (suc j) to p h =
    let d : suc j - 1 ≡ j = omega arith in
    let n : to - j ≡ suc (to - suc j) = omega arith in
    let a : suc j + 4 ≡ suc (j + 4) = omega arith in
    rw (d, n, a) (go (dec_lt j (length l)))
  where
    go : Dec (j < length l)
        → set (sets l (suc (j + 4)) (take (to - suc j) (drop (suc j) l))) (j + 4) (get_or (sets l (suc (j + 4)) (take (to - suc j) (drop (suc j) l))) j 0)
        ≡ sets l (j + 4) (take (suc (to - suc j)) (drop j l))
    go (yes f) =
        rw (drop-cons l j 0 f, get_d_sets l (suc (j + 4)) j (take (to - suc j) (drop (suc j) l)) (omega arith))
        (set-sets l (suc (j + 4)) (j + 4) (get_or l j 0) (take (to - suc j) (drop (suc j) l)) (omega arith))
    go (no f) =
        rw (drop_of_length-le l {i = j} (omega (arith, f)), drop_of_length-le l {i = suc j} (omega (arith, f)), take-nil)
        (set_out l (j + 4) (get_or l j 0) (omega (arith, f)))

-- words laid down before those that were moved
pub room-filled : (l : List ℕ) (p count q n lo hi : ℕ)
    → sets (sets l (4 * p + 4) (take (4 * count - 4 * p) (drop (4 * p) l))) (4 * p) (q ∷ n ∷ lo ∷ hi ∷ [])
    ≡ sets l (4 * p) (q ∷ n ∷ lo ∷ hi ∷ take (4 * (count - p)) (drop (4 * p) l))
room-filled l p count q n lo hi =
    let e : 4 * count - 4 * p ≡ 4 * (count - p) = omega arith in
    rw e (sets-before l (4 * p) (q ∷ n ∷ lo ∷ hi ∷ []) (take (4 * (count - p)) (drop (4 * p) l)))

-- the last word is moved
pub room-end : (l : List ℕ) (from i to : ℕ) → from ≤ i → i ≤ from
    → sets l (i + 4) (take (to - i) (drop i l)) ≡ sets l (from + 4) (take (to - from) (drop from l))
room-end l from i to h k =
    let e : i ≡ from = omega arith in ap (λ (j : ℕ). sets l (j + 4) (take (to - j) (drop j l))) e

-- ---- the place of an event

pub place-most : (q : ℕ) (es : List Event) → place_of probability q es ≤ length es
unfolding place_of
place-most q [] = omega arith
place-most q (e ∷ es) = go (ltb e.probability q) (place-most q es)
  where
    go : (b : Bool) → place_of probability q es ≤ length es → cond b 0 (suc (place_of probability q es)) ≤ suc (length es)
    go true h = omega arith
    go false h = omega arith

-- the loop that looks for it: i events of `count` are not below q
module _ (w : List ℕ) (q count : ℕ) where
  -- the place among the events from place i on
  abbrev rest : ℕ → ℕ
  rest i = place_of probability q (events_of (count - i) (drop (4 * i) w))

  rest-step : (i : ℕ) → i < count → rest i ≡ cond (ltb (get_or w (4 * i) 0) q) 0 (suc (rest (i + 1)))
  unfolding place_of events_of
  rest-step i h =
      let d : count - i ≡ suc (count - (i + 1)) = omega arith in
      let e : 4 * i + 4 ≡ 4 * (i + 1) = omega arith in
      rw (d, get_or-drop (4 * i) w 0 0, add-zero, drop-drop 4 (4 * i) w, e)

  pub place-start : 0 + rest 0 ≡ place_of probability q (events_of count w)
  place-start = rw (zero-add, sub-zero)

  pub place_here : (i : ℕ) → i < count → get_or w (4 * i) 0 < q → i ≡ i + rest i
  place_here i h l = rw (rest-step i h, lt-ltb (get_or w (4 * i) 0) q l) (omega arith)

  pub place-later : (i : ℕ) → i < count → q ≤ get_or w (4 * i) 0 → i + 1 + rest (i + 1) ≡ i + rest i
  place-later i h l = rw (rest-step i h, le-ltb (get_or w (4 * i) 0) q l) (omega arith)

  pub place_end : (i : ℕ) → count ≤ i → i ≡ i + rest i
  unfolding place_of events_of
  place_end i h = let d : count - i ≡ 0 = omega arith in rw d (omega arith)

-- ---- the words of events, one more laid down in its place

pub length-words : (es : List Event) → length (event_words es) ≡ 4 * length es
unfolding event_words
length-words [] = refl
length-words (e ∷ es) = omega (arith, length-words es)

pub words_append : (ds es : List Event) → event_words (ds ++ es) ≡ event_words ds ++ event_words es
unfolding event_words
words_append [] es = refl
words_append (e ∷ ds) es = rw (words_append ds es)

module _ (w₀ : List ℕ) (es : List Event) (fits : 4 * length es + 4 ≤ length w₀) where
  -- the array with the words of the events
  abbrev w : List ℕ
  w = sets w₀ 0 (event_words es)

  same-events : events_of (length es) w ≡ es
  same-events = events-laid (length es) es w₀ refl (omega (arith, length-words es))

  module _ (e : Event) where
    abbrev p : ℕ
    p = place_of probability e.probability es

    -- the events before the place, and those from it on
    before-words : event_words es ≡ event_words (take p es) ++ event_words (drop p es)
    before-words = ap event_words (sym (take-append-drop p es)) ∙ words_append (take p es) (drop p es)

    before-long : length (event_words (take p es)) ≡ 4 * p
    before-long = rw (length-words, length-take-le p es (place-most e.probability es))

    after-long : length (event_words (drop p es)) ≡ 4 * (length es - p)
    after-long = rw (length-words, length-drop)

    moved : take (4 * (length es - p)) (drop (4 * p) w) ≡ event_words (drop p es)
    moved =
        rw (
          sets-eq (event_words es) w₀ 0 (omega (arith, length-words es)),
          before-words,
          append_assoc (event_words (take p es)) (event_words (drop p es)) (drop (0 + length (event_words (take p es) ++ event_words (drop p es))) w₀),
          drop_at (event_words (take p es)) (event_words (drop p es) ++ drop (0 + length (event_words (take p es) ++ event_words (drop p es))) w₀) (4 * p) before-long,
        )
        (take_at (event_words (drop p es)) _ (4 * (length es - p)) after-long)

    abbrev front : List ℕ
    front = event_words (take p es)

    abbrev back : List ℕ
    back = event_words (drop p es)

    abbrev news : List ℕ
    news = event_words (e ∷ drop p es)

    place_is : 0 + length front ≡ 4 * p
    place_is = omega (arith, before-long)

    -- the words of the event, and of those after it moved on by four, laid down at the place: the words of the events with this one placed
    inserted : (q n lo hi : ℕ) → q ≡ e.probability → n ≡ e.nodes → lo ≡ e.links % 2 ^ 64 → hi ≡ e.links / 2 ^ 64
        → inserted_words w (length es) q n lo hi ≡ sets w₀ 0 (event_words (with_element probability e es))
    unfolding with_element event_words
    inserted q n lo hi eq en el eh =
        rw (eq, en, el, eh, same-events, moved)
        (ap (λ (l : List ℕ). sets (sets w₀ 0 l) (4 * p) news) before-words
        ∙ ap (λ (l : List ℕ). sets l (4 * p) news) (sym (sets-append w₀ 0 front back))
        ∙ ap (λ (k : ℕ). sets (sets (sets w₀ 0 front) k back) (4 * p) news) place_is
        ∙ sets_over (sets w₀ 0 front) (4 * p) back news (omega arith)
        ∙ ap (λ (k : ℕ). sets (sets w₀ 0 front) k news) (sym place_is)
        ∙ sets-append w₀ 0 front news
        ∙ ap (sets w₀ 0) (sym (words_append (take p es) (e ∷ drop p es))))

-- the same of an array that is known to hold those words
pub inserted-in : (w₀ words : List ℕ) (es : List Event) (count : ℕ) → words ≡ sets w₀ 0 (event_words es) → length es ≡ count
    → 4 * count + 4 ≤ length w₀
    → (e : Event) (q n lo hi : ℕ) → q ≡ e.probability → n ≡ e.nodes → lo ≡ e.links % 2 ^ 64 → hi ≡ e.links / 2 ^ 64
    → inserted_words words count q n lo hi ≡ sets w₀ 0 (event_words (with_element probability e es))
inserted-in w₀ words es count same long fits e q n lo hi eq en el eh =
    ap₂ (λ (l : List ℕ) (k : ℕ). inserted_words l k q n lo hi) same (sym long) ∙ inserted w₀ es (omega arith) e q n lo hi eq en el eh
