-- Copies of lent lists: the plan that they denote goes by the entries up to the counts only.
-- Assumes nothing.
use mathlib.Core.Path.{◌≡◌, refl, sym, ap, ◌∙◌}
use mathlib.Core.List.{List, [], ◌∷◌}
use Prim.Native.Nat.{ℕ, zero, suc, ◌*◌, ◌/◌, ◌≤◌, min}
use native.Mathlib.Omega.{arith}
use lib.ListN.{length, take}
use lib.Seq.{sets, sets-eq, take-take, take-append-le, length-take-le}
use Rattle.mass.proofs.RefusalLaws.{first-none}
use Rattle.plan.specs.Lists.{links_of, link_bytes, events_of}
use Rattle.plan.specs.LentLists.{Lent, plan_of_lists, in_words, lists_number}
use Rattle.plan.specs.declared.Header.{Header}
use Rattle.refusals.proofs.TestLaws.{Ranges, counts-none, room-none}

-- the lists are used up to the counts only
two : (k : ℕ) → 2 * suc k ≡ suc (suc (2 * k))
two k = omega arith

four : (k : ℕ) → 4 * suc k ≡ suc (suc (suc (suc (4 * k))))
four k = omega arith

links_of-prefix : (count : ℕ) (bytes : List ℕ) → links_of count bytes ≡ links_of count (take (2 * count) bytes)
unfolding links_of
links_of-prefix zero bytes = refl
links_of-prefix (suc count) [] = rw (two count)
links_of-prefix (suc count) (a ∷ []) = rw (two count)
links_of-prefix (suc count) (a ∷ b ∷ bytes) = rw (two count, ← links_of-prefix count bytes)

events_of-prefix : (count : ℕ) (words : List ℕ) → events_of count words ≡ events_of count (take (4 * count) words)
unfolding events_of
events_of-prefix zero words = refl
events_of-prefix (suc count) [] = rw (four count)
events_of-prefix (suc count) (a ∷ []) = rw (four count)
events_of-prefix (suc count) (a ∷ b ∷ []) = rw (four count)
events_of-prefix (suc count) (a ∷ b ∷ c ∷ []) = rw (four count)
events_of-prefix (suc count) (a ∷ b ∷ c ∷ d ∷ words) = rw (four count, ← events_of-prefix count words)

-- the bytes of the links are the first bytes of their list
pub link_bytes-take : (count : ℕ) (bytes : List ℕ) → 2 * count ≤ length bytes → link_bytes (links_of count bytes) ≡ take (2 * count) bytes
unfolding link_bytes links_of
link_bytes-take zero bytes h = refl
link_bytes-take (suc count) [] h = absurd (omega arith)
link_bytes-take (suc count) (a ∷ []) h = absurd (omega arith)
link_bytes-take (suc count) (a ∷ b ∷ bytes) h =
    let e : 2 * suc count ≡ suc (suc (2 * count)) = omega arith in
    rw (e, link_bytes-take count bytes (omega arith))

pub same-plan : (h : Header) (links links' words words' : List ℕ)
    → take (2 * h.links) links ≡ take (2 * h.links) links'
    → take (4 * h.events) words ≡ take (4 * h.events) words'
    → plan_of_lists h links words ≡ plan_of_lists h links' words'
unfolding plan_of_lists
same-plan h links links' words words' e f =
    let l : links_of h.links links ≡ links_of h.links links'
    = links_of-prefix h.links links ∙ (ap (links_of h.links) e ∙ sym (links_of-prefix h.links links')) in
    let v : events_of h.events words ≡ events_of h.events words'
    = events_of-prefix h.events words ∙ (ap (events_of h.events) f ∙ sym (events_of-prefix h.events words')) in
    rw (l, v)

-- the first entries of a copy are those of its source
pub copied : (from to : List ℕ) (count used : ℕ) → count ≤ length from → count ≤ length to → used ≤ count
    → take used (sets to 0 (take count from)) ≡ take used from
copied from to count used h l u =
    let n : length (take count from) ≡ count = length-take-le count from h in
    rw (sets-eq (take count from) to 0 (omega arith)) (take-append-le used (take count from) _ (omega arith) ∙ take-take used count from u)

-- copies of the first 256 bytes and 512 words
abbrev pub byte_copy : List ℕ → List ℕ → List ℕ
byte_copy links bytes = sets bytes 0 (take (min (length links) 256) links)

abbrev pub word_copy : List ℕ → List ℕ → List ℕ
word_copy words wide = sets wide 0 (take (min (length words) 512) words)

-- accepted lists have counts in range, and room for them
pub lists-fit : (l : Lent) → lists_number l ≡ 0
    → Ranges l.header.nodes l.header.links l.header.events × ((2 * l.header.links ≤ length l.links) × (l.header.events ≤ l.room))
unfolding lists_number
lists-fit l z =
    let one = first-none _ _ z in
    let four' = first-none _ _ (first-none _ _ (first-none _ _ one.1).1).1 in
    (counts-none _ _ _ one.0, (room-none _ _ four'.0, room-none _ _ (first-none _ _ four'.1).0))

-- they denote the same plan where the lists are accepted
pub copies-denote : (h : Header) (links words bytes wide : List ℕ) → length bytes ≡ 256 → length wide ≡ 512
    → lists_number (in_words h links words) ≡ 0 → plan_of_lists h (byte_copy links bytes) (word_copy words wide) ≡ plan_of_lists h links words
copies-denote h links words bytes wide b w z =
    let f = lists-fit (in_words h links words) z in
    let fit : Ranges h.nodes h.links h.events = f.0 in
    let l : 2 * h.links ≤ length links = f.1.0 in
    let v : h.events ≤ length words / 4 = f.1.1 in
    same-plan h _ _ _ _
    (copied links bytes (min (length links) 256) (2 * h.links) (omega arith) (omega arith) (omega arith))
    (copied words wide (min (length words) 512) (4 * h.events) (omega arith) (omega arith) (omega arith))
