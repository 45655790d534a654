-- Laws of lists of records and their words: one undoes the other, and one step of each loop that goes from one to the other.
-- Assumes nothing.
use mathlib.Core.Path.{◌≡◌, refl, sym, ◌∙◌, ap}
use mathlib.Core.List.{List, [], ◌∷◌, ◌++◌}
use Prim.Native.Nat.{ℕ, zero, suc, ◌+◌, ◌*◌, ◌≤◌, ◌<◌, min}
use native.Mathlib.Nat.{add-zero, zero-add}
use native.Mathlib.Numerals.{add-one}
use native.Mathlib.Omega.{arith}
use lib.ListN.{length, get_or, set, take, drop}
use lib.Seq.{sets, get_or-drop, drop-drop, take-suc, length-take-le}
use Rattle.record_lists.specs.Events.{words_of, record_in, records_of}
use Rattle.record_lists.specs.declared.Event.{Event}

-- ---- words and records

pub length-words : (es : List Event) → length (words_of es) ≡ 4 * length es
unfolding words_of
length-words [] = refl
length-words (e ∷ es) = omega (arith, length-words es)

pub words_append : (es fs : List Event) → words_of (es ++ fs) ≡ words_of es ++ words_of fs
unfolding words_of
words_append [] fs = refl
words_append (e ∷ es) fs = ap (λ (ws : List ℕ). e.probability ∷ e.nodes ∷ e.links_low ∷ e.links_high ∷ ws) (words_append es fs)

pub length-records : (count : ℕ) (words : List ℕ) → length (records_of count words) ≡ count
unfolding records_of
length-records zero words = refl
length-records (suc count) words = ap suc (length-records count (drop 4 words))

-- the records of the words of records are the records
pub records-words : (es : List Event) → records_of (length es) (words_of es) ≡ es
unfolding words_of records_of
records-words [] = refl
records-words (e ∷ es) = ap (λ (fs : List Event). e ∷ fs) (records-words es)

four : (k : ℕ) → 4 * suc k ≡ suc (suc (suc (suc (4 * k))))
four k = omega arith

-- the words of the records of words are the words
pub words-records : (count : ℕ) (words : List ℕ) → 4 * count ≤ length words → words_of (records_of count words) ≡ take (4 * count) words
unfolding words_of records_of
words-records zero words h = refl
words-records (suc count) [] h = absurd (none count h)
  where
    none : (k : ℕ) → 4 * suc k ≤ 0 → ⊥
    none k l = omega arith
words-records (suc count) (a ∷ []) h = absurd (none count h)
  where
    none : (k : ℕ) → 4 * suc k ≤ 1 → ⊥
    none k l = omega arith
words-records (suc count) (a ∷ b ∷ []) h = absurd (none count h)
  where
    none : (k : ℕ) → 4 * suc k ≤ 2 → ⊥
    none k l = omega arith
words-records (suc count) (a ∷ b ∷ c ∷ []) h = absurd (none count h)
  where
    none : (k : ℕ) → 4 * suc k ≤ 3 → ⊥
    none k l = omega arith
words-records (suc count) (a ∷ b ∷ c ∷ d ∷ words) h =
    rw (four count) (ap (λ (ws : List ℕ). a ∷ b ∷ c ∷ d ∷ ws) (words-records count words (omega arith)))

-- ---- one turn of each loop

pub record-at : (i : ℕ) (words : List ℕ) (p n l h : ℕ)
    → p ≡ get_or words (4 * i) 0 → n ≡ get_or words (4 * i + 1) 0 → l ≡ get_or words (4 * i + 2) 0 → h ≡ get_or words (4 * i + 3) 0
    → record { probability = p; nodes = n; links_low = l; links_high = h } ≡ record_in (drop (4 * i) words)
record-at i words p n l h ep en el eh =
    rw (ep, en, el, eh, get_or-drop (4 * i) words 0 0, get_or-drop (4 * i) words 1 0, get_or-drop (4 * i) words 2 0, get_or-drop (4 * i) words 3 0, add-zero)

pub records-more : (i : ℕ) (words : List ℕ) → records_of (suc i) words ≡ records_of i words ++ (record_in (drop (4 * i) words) ∷ [])
unfolding records_of
records-more zero words = refl
records-more (suc i) words =
    let n : 4 + 4 * i ≡ 4 * suc i = omega arith in
    let e : drop (4 * i) (drop 4 words) ≡ drop (4 * suc i) words = drop-drop (4 * i) 4 words ∙ ap (λ (k : ℕ). drop k words) n in
    ap (λ (fs : List Event). record_in words ∷ fs) (records-more i (drop 4 words) ∙ ap (λ (ws : List ℕ). records_of i (drop 4 words) ++ (record_in ws ∷ [])) e)

-- stores one after the other
pub sets-append : {A : Type 0} (l : List A) (i : ℕ) (xs ys : List A) → sets l i (xs ++ ys) ≡ sets (sets l i xs) (i + length xs) ys
sets-append l i [] ys = ap (λ (k : ℕ). sets l k ys) (sym (add-zero i))
sets-append l i (x ∷ xs) ys =
    let n : suc i + length xs ≡ i + suc (length xs) = omega arith in
    sets-append (set l i x) (suc i) xs ys ∙ ap (λ (k : ℕ). sets (sets (set l i x) (suc i) xs) k ys) n

-- `fill`: one record more
pub fill_more : (i : ℕ) (words : List ℕ) (events : List Event) (e : Event) → e ≡ record_in (drop (4 * i) words)
    → set (sets events 0 (records_of i words)) i e ≡ sets events 0 (records_of (i + 1) words)
fill_more i words events e is =
    rw (add-one i, records-more i words, sets-append events 0 (records_of i words) (record_in (drop (4 * i) words) ∷ []), length-records i words, zero-add, is)

-- `flatten`: the words of one record more
pub flatten-more : (i : ℕ) (events : List Event) (words : List ℕ) (d : Event) → i < length events
    → sets (sets words 0 (words_of (take i events))) (4 * i) (words_of (get_or events i d ∷ [])) ≡ sets words 0 (words_of (take (i + 1) events))
flatten-more i events words d h =
    let n : length (words_of (take i events)) ≡ 4 * i = length-words (take i events) ∙ ap (λ (k : ℕ). 4 * k) (length-take-le i events (omega arith)) in
    rw (add-one i, take-suc events i d h, words_append (take i events) (get_or events i d ∷ []), sets-append words 0 (words_of (take i events)) (words_of (get_or events i d ∷ [])), n, zero-add)

-- taking as many as there are, at most k, is taking k
pub take-cap : {A : Type 0} (k : ℕ) (l : List A) → take (min (length l) k) l ≡ take k l
take-cap zero l = ap (λ (n : ℕ). take n l) (none (length l))
  where
    none : (n : ℕ) → min n 0 ≡ 0
    none n = omega arith
take-cap (suc k) [] = ap (λ (n : ℕ). take n []) (none k)
  where
    none : (n : ℕ) → min 0 (suc n) ≡ 0
    none n = omega arith
take-cap {A} (suc k) (x ∷ l) = ap (λ (n : ℕ). take n (x ∷ l)) (more (length l) k) ∙ ap (λ (r : List A). x ∷ r) (take-cap k l)
  where
    more : (m n : ℕ) → min (suc m) (suc n) ≡ suc (min m n)
    more m n = omega arith

-- ---- parts of lists

pub take_words : (k : ℕ) (es : List Event) → take (4 * k) (words_of es) ≡ words_of (take k es)
unfolding words_of
take_words zero es = refl
take_words (suc k) [] = rw (four k)
take_words (suc k) (e ∷ es) =
    rw (four k) (ap (λ (ws : List ℕ). e.probability ∷ e.nodes ∷ e.links_low ∷ e.links_high ∷ ws) (take_words k es))

pub drop-words : (k : ℕ) (es : List Event) → drop (4 * k) (words_of es) ≡ words_of (drop k es)
unfolding words_of
drop-words zero es = refl
drop-words (suc k) [] = rw (four k)
drop-words (suc k) (e ∷ es) = rw (four k) (drop-words k es)
