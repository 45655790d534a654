-- Entries in memory, four words each: reading them, and changing one.
-- Assumes nothing.
use mathlib.Core.Path.{◌≡◌, refl, sym, ap, ◌∙◌}
use mathlib.Core.List.{List, [], ◌∷◌, ◌++◌, append_assoc}
use Prim.Native.Nat.{ℕ, zero, suc, ◌+◌, ◌*◌, ◌<◌, ◌≤◌}
use native.Mathlib.Decide.{dec_lt}
use native.Mathlib.Omega.{arith}
use native.Mathlib.Nat.{add-zero}
use lib.ListN.{length, get_or, take, drop, set, length-set, length-append, get_or-append}
use lib.Seq.{sets, sets-eq, ext_get_or, get_or-drop, get_or-take, get_or_at, get_or-append-add, get_or-set_same, get_or-set_other, drop-set-lt}
use lib.Seq.{drop-append-add, length-take-le}
use Rattle.topology_list.specs.Entries.{Entry, entry, entry_words}
use Rattle.topology_list.specs.Words.{topology_at, entry_at, entries_of}
use Rattle.topology_list.specs.declared.Topology.{Topology}
use Rattle.topology_list.proofs.SameLaws.{none}

four : (k : ℕ) → 4 * suc k ≡ suc (suc (suc (suc (4 * k))))
four k = omega arith

pub entries-length : (count : ℕ) (words : List ℕ) → length (entries_of count words) ≡ count
unfolding entries_of
entries-length zero words = refl
entries-length (suc count) words = ap suc (entries-length count (drop 4 words))

-- entry j of the words after the first four
next_word : (words : List ℕ) (j k : ℕ) → get_or (drop 4 words) (4 * j + k) 0 ≡ get_or words (4 * suc j + k) 0
next_word words j k = get_or-drop 4 words (4 * j + k) 0 ∙ ap (λ (n : ℕ). get_or words n 0) shifted
  where
    shifted : 4 + (4 * j + k) ≡ 4 * suc j + k
    shifted = omega arith

next-first : (words : List ℕ) (j : ℕ) → get_or (drop 4 words) (4 * j) 0 ≡ get_or words (4 * suc j) 0
next-first words j = get_or-drop 4 words (4 * j) 0 ∙ ap (λ (n : ℕ). get_or words n 0) shifted
  where
    shifted : 4 + 4 * j ≡ 4 * suc j
    shifted = omega arith

pub entry-at : (count : ℕ) (words : List ℕ) (j : ℕ) → j < count → get_or (entries_of count words) j none ≡ entry_at words j
unfolding entries_of
entry-at zero words j h = absurd (omega arith)
entry-at (suc count) words zero h = refl
entry-at (suc count) words (suc j) h =
    entry-at count (drop 4 words) j (omega arith) ∙ rw (next-first words j, next_word words j 1, next_word words j 2, next_word words j 3)

-- words that agree below 4 × count hold the same entries
same-entry : (a b : List ℕ) (j : ℕ) → ((i : ℕ) → i < 4 * j + 4 → get_or a i 0 ≡ get_or b i 0) → entry_at a j ≡ entry_at b j
same-entry a b j e = rw (e (4 * j) (omega arith), e (4 * j + 1) (omega arith), e (4 * j + 2) (omega arith), e (4 * j + 3) (omega arith))

-- a list of entries is known by its entries
pub entries-are : (count : ℕ) (words : List ℕ) (es : List Entry) → length es ≡ count
    → ((j : ℕ) → j < count → entry_at words j ≡ get_or es j none) → entries_of count words ≡ es
entries-are count words es l e =
    ext_get_or none (entries_of count words) es (entries-length count words ∙ sym l)
    (λ j h. let k : j < count = omega (arith, entries-length count words) in entry-at count words j k ∙ e j k)

-- the words of the entries are the first ones
pub words_of : (count : ℕ) (words : List ℕ) → 4 * count ≤ length words → entry_words (entries_of count words) ≡ take (4 * count) words
unfolding entries_of entry_words
words_of zero words h = refl
words_of (suc count) [] h = absurd (omega arith)
words_of (suc count) (a ∷ []) h = absurd (omega arith)
words_of (suc count) (a ∷ b ∷ []) h = absurd (omega arith)
words_of (suc count) (a ∷ b ∷ c ∷ []) h = absurd (omega arith)
words_of (suc count) (a ∷ b ∷ c ∷ d ∷ words) h = rw (four count, words_of count words (omega arith))

pub entry-words-length : (es : List Entry) → length (entry_words es) ≡ 4 * length es
unfolding entry_words
entry-words-length [] = refl
entry-words-length (e ∷ es) = omega (arith, entry-words-length es)

-- ---- one mass raised

module _ (count : ℕ) (words : List ℕ) (i x : ℕ) (inside : i < count) (room : 4 * count ≤ length words) where
  here : entry_at (set words (4 * i + 3) x) i ≡ entry (topology_at words i) x
  here =
      rw (
        get_or-set_other words (4 * i + 3) (4 * i) x 0 (λ e. omega arith),
        get_or-set_other words (4 * i + 3) (4 * i + 1) x 0 (λ e. omega arith),
        get_or-set_other words (4 * i + 3) (4 * i + 2) x 0 (λ e. omega arith),
        get_or-set_same words (4 * i + 3) x 0 (omega arith),
      )

  elsewhere : (j : ℕ) → (j ≡ i → ⊥) → entry_at (set words (4 * i + 3) x) j ≡ entry_at words j
  elsewhere j n =
      rw (
        get_or-set_other words (4 * i + 3) (4 * j) x 0 (λ e. omega arith),
        get_or-set_other words (4 * i + 3) (4 * j + 1) x 0 (λ e. omega arith),
        get_or-set_other words (4 * i + 3) (4 * j + 2) x 0 (λ e. omega arith),
        get_or-set_other words (4 * i + 3) (4 * j + 3) x 0 (λ e. absurd (n (omega arith))),
      )

  pub raised-entries : entries_of count (set words (4 * i + 3) x) ≡ set (entries_of count words) i (entry (topology_at words i) x)
  raised-entries =
      entries-are count _ _ (length-set (entries_of count words) i _ ∙ entries-length count words) (λ j h. at j h (dec_lt j i) (dec_lt i j))
    where
      Is : ℕ → Type 0
      Is j = entry_at (set words (4 * i + 3) x) j ≡ get_or (set (entries_of count words) i (entry (topology_at words i) x)) j none

      other : (j : ℕ) → j < count → (j ≡ i → ⊥) → Is j
      other j h n = elsewhere j n ∙ sym (entry-at count words j h) ∙ sym (get_or-set_other (entries_of count words) i j _ none n)

      at : (j : ℕ) → j < count → Dec (j < i) → Dec (i < j) → Is j
      at j h (yes l) r = other j h (λ e. omega arith)
      at j h (no n) (yes g) = other j h (λ e. omega arith)
      at j h (no n) (no m) =
          let e : j ≡ i = omega arith in
          rw e (here ∙ sym (get_or-set_same (entries_of count words) i _ none (omega (arith, entries-length count words))))

  pub raised-others : drop (4 * count) (set words (4 * i + 3) x) ≡ drop (4 * count) words
  raised-others = drop-set-lt (4 * count) words (4 * i + 3) x (omega arith)

-- ---- one entry laid down after the last

module _ (count : ℕ) (words : List ℕ) (t : Topology) (m : ℕ) (room : 4 * count + 4 ≤ length words) where
  abbrev laid : List ℕ
  laid = sets words (4 * count) (t.nodes ∷ t.low ∷ t.high ∷ m ∷ [])

  abbrev front : List ℕ
  front = take (4 * count) words

  abbrev rest : List ℕ
  rest = (t.nodes ∷ t.low ∷ t.high ∷ m ∷ []) ++ drop (4 * count + 4) words

  front_length : length front ≡ 4 * count
  front_length = length-take-le (4 * count) words (omega arith)

  laid-is : laid ≡ front ++ rest
  laid-is = sets-eq (t.nodes ∷ t.low ∷ t.high ∷ m ∷ []) words (4 * count) room ∙ append_assoc front (t.nodes ∷ t.low ∷ t.high ∷ m ∷ []) (drop (4 * count + 4) words)

  word : (k : ℕ) → get_or laid (4 * count + k) 0 ≡ get_or rest k 0
  word k =
      ap (λ (l : List ℕ). get_or l (4 * count + k) 0) laid-is
      ∙ ap (λ (n : ℕ). get_or (front ++ rest) (n + k) 0) (sym front_length)
      ∙ get_or-append-add front rest k 0

  word-zero : get_or laid (4 * count) 0 ≡ t.nodes
  word-zero = ap (λ (n : ℕ). get_or laid n 0) (sym (add-zero (4 * count))) ∙ word 0

  below : (i : ℕ) → i < 4 * count → get_or laid i 0 ≡ get_or words i 0
  below i h =
      ap (λ (l : List ℕ). get_or l i 0) laid-is
      ∙ get_or-append front rest 0 i (omega (arith, front_length))
      ∙ get_or-take (4 * count) words i 0 h

  pub laid-others : drop (4 * (count + 1)) laid ≡ drop (4 * (count + 1)) words
  laid-others =
      let n : 4 * (count + 1) ≡ 4 * count + 4 = omega arith in
      rw n
      (ap (drop (4 * count + 4)) laid-is
      ∙ ap (λ (k : ℕ). drop (k + 4) (front ++ rest)) (sym front_length)
      ∙ drop-append-add front rest 4)

  pub laid-entries : entries_of (count + 1) laid ≡ entries_of count words ++ (entry t m ∷ [])
  laid-entries = entries-are (count + 1) laid _ (omega (arith, length-append (entries_of count words) (entry t m ∷ []), entries-length count words)) (λ j h. at j h (dec_lt j count))
    where
      at : (j : ℕ) → j < count + 1 → Dec (j < count) → entry_at laid j ≡ get_or (entries_of count words ++ (entry t m ∷ [])) j none
      at j h (yes l) =
          same-entry laid words j (λ i g. below i (omega arith))
          ∙ sym (entry-at count words j l)
          ∙ sym (get_or-append (entries_of count words) _ none j (omega (arith, entries-length count words)))
      at j h (no n) =
          let e : j ≡ count = omega arith in
          rw e (last ∙ sym (get_or_at (entries_of count words) (entry t m) [] none count (entries-length count words)))
        where
          last : entry_at laid count ≡ entry t m
          last = rw (word-zero, word 1, word 2, word 3)
