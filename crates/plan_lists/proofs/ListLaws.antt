-- Laws of lent lists: runs of stores, the first entries of a list, and the refusals of a list of links or events, entry by entry.
-- Assumes nothing.
use mathlib.Core.Path.{◌≡◌, refl, sym, ap, ◌∙◌}
use mathlib.Core.List.{List, [], ◌∷◌, ◌++◌, append-nil, append_assoc}
use Prim.Native.Nat.{ℕ, zero, suc, ◌+◌, ◌-◌, ◌≤◌, ◌<◌}
use native.Mathlib.Nat.{add-zero, zero-add}
use native.Mathlib.Numerals.{add-one}
use native.Mathlib.Omega.{arith}
use lib.ListN.{length, get_or, take, drop, set, length-drop}
use lib.Seq.{sets, sets-eq, take_all, drop-length, length-take-le, get_or-drop, drop-drop, take-suc}
use Rattle.mass.specs.Refusal.{first}
use Rattle.mass.specs.Refusal.{number}
use Rattle.mass.specs.declared.refusal.Refusal.{Refusal}
use Rattle.mass.proofs.RefusalLaws.{first-skip, stops}
use Rattle.mass.specs.Split.{probability_test}
use Rattle.sets.specs.Sets.{joined}
use Rattle.plan.specs.Plan.{Link, Event}
use Rattle.plan.specs.Lists.{links_of, events_of}
use Rattle.refusals.specs.Tests.{ends_test, order_test, sets_test}
use Rattle.plan.specs.LentLists.{link_list_refusal, event_list_refusal}

-- storing a, then b after it
pub sets-append : {A : Type 0} (a b l : List A) (i : ℕ) → sets l i (a ++ b) ≡ sets (sets l i a) (i + length a) b
sets-append {A = A} [] b l i = rw add-zero
sets-append {A = A} (x ∷ a) b l i =
    sets-append {A = A} a b (set l i x) (suc i) ∙ ap (λ (n : ℕ). sets (sets (set l i x) (suc i) a) n b) (shift i (length a))
  where
    shift : (n m : ℕ) → suc n + m ≡ n + suc m
    shift n m = omega arith

pub sets_then : (a b l l' : List ℕ) (i i' : ℕ) → l' ≡ sets l i a → i' ≡ i + length a → sets l' i' b ≡ sets l i (a ++ b)
sets_then a b l l' i i' e n = rw (e, n) (sym (sets-append a b l i))

-- the next of the first elements of a list, stored where the elements before it end
pub copy-item : {A : Type 0} (from to out : List A) (at i : ℕ) (x : A) → out ≡ sets to at (take i from) → x ≡ get_or from i x → i < length from
    → set out (at + i) x ≡ sets to at (take (i + 1) from)
copy-item {A = A} from to out at i x e r h =
    let n : length (take i from) ≡ i = length-take-le i from (omega arith) in
    rw (e, add-one, take-suc from i x h, sets-append, n) (ap (λ (y : A). set (sets to at (take i from)) (at + i) y) r)

-- a part of a list, with the first elements of another in its place
pub part-laid : {A : Type 0} (from to new : List A) (at count : ℕ) → count ≤ length from → at + count ≤ length to → new ≡ take count from
    → take at to ++ (new ++ drop (at + count - at) (drop at to)) ≡ sets to at (take count from)
part-laid from to new at count h k e =
    let n : length (take count from) ≡ count = length-take-le count from h in
    let d : at + count - at ≡ count = omega arith in
    let room : at + length (take count from) ≤ length to = omega arith in
    rw (e, d, drop-drop, sets-eq (take count from) to at room, n, append_assoc)

-- a list laid down over one of its own length
pub sets-all : (l vs : List ℕ) → length vs ≡ length l → sets l 0 vs ≡ vs
sets-all l vs e =
    let d : drop (length l) l ≡ [] = drop-length l in
    rw (sets-eq vs l 0 (omega arith), zero-add, e, d, append-nil)

-- a list laid down whole over a part of its length
pub part-whole : (from to new : List ℕ) (at count : ℕ) → length from ≡ count → at + count ≤ length to
    → new ≡ sets (take (at + count - at) (drop at to)) 0 from
    → take at to ++ (new ++ drop (at + count - at) (drop at to)) ≡ sets to at from
part-whole from to new at count n k e =
    let all : take count from ≡ from = take_all count from (omega arith) in
    let d : at + count - at ≡ count = omega arith in
    let long : length from ≡ length (take (at + count - at) (drop at to)) = rw (d, length-take-le count (drop at to) (omega (arith, length-drop at to))) n in
    let same : new ≡ take count from = e ∙ sets-all (take (at + count - at) (drop at to)) from long ∙ sym all in
    rw all at (part-laid {A = ℕ} from to new at count (omega arith) k same)

-- what a loop that counts i up to n has left
pub all_left : (n : ℕ) → n - 0 ≡ n
all_left n = omega arith

pub some_left : (i n : ℕ) → i < n → 0 < n - i
some_left i n h = omega arith

pub one_fewer : (i n : ℕ) → n - (i + 1) ≡ n - i - 1
one_fewer i n = omega arith

pub none_left : (i n : ℕ) → n ≤ i → n - i ≤ 0
none_left i n h = omega arith

-- the link at a position of a list of bytes, and the event at a position of a list of words
abbrev pub link_at : List ℕ → ℕ → Link
link_at bytes at = record { low = get_or bytes at 0; high = get_or bytes (at + 1) 0 }

abbrev pub event_at : List ℕ → ℕ → Event
event_at words at =
    record {
      probability = get_or words at 0;
      nodes = get_or words (at + 1) 0;
      links = joined (get_or words (at + 2) 0) (get_or words (at + 3) 0);
    }

pub less_one : (k : ℕ) → suc k - 1 ≡ k
less_one k = omega arith

-- the links from a position on: the next one, then the others
pub links-next : (bytes : List ℕ) (at left : ℕ) → 0 < left → links_of left (drop at bytes) ≡ link_at bytes at ∷ links_of (left - 1) (drop (at + 2) bytes)
unfolding links_of
links-next bytes at zero h = absurd (omega arith)
links-next bytes at (suc left) h = simp (get_or-drop, drop-drop, add-zero, less_one)

pub events-next : (words : List ℕ) (at left : ℕ) → 0 < left → events_of left (drop at words) ≡ event_at words at ∷ events_of (left - 1) (drop (at + 4) words)
unfolding events_of
events-next words at zero h = absurd (omega arith)
events-next words at (suc left) h = simp (get_or-drop, drop-drop, add-zero, less_one)

-- the next link decides, or leaves it to the others
module _ (nodes : ℕ) (bytes : List ℕ) (at left : ℕ) (some : 0 < left) where
  pub link-decides : (r : Refusal) → number r ≡ ends_test nodes (get_or bytes at 0) (get_or bytes (at + 1) 0)
      → number r ≡ link_list_refusal nodes (links_of left (drop at bytes))
  unfolding link_list_refusal
  link-decides r e = rw (links-next bytes at left some) (stops r _ e)

  pub link-passes : 0 ≡ ends_test nodes (get_or bytes at 0) (get_or bytes (at + 1) 0)
      → link_list_refusal nodes (links_of (left - 1) (drop (at + 2) bytes)) ≡ link_list_refusal nodes (links_of left (drop at bytes))
  unfolding link_list_refusal
  link-passes e = rw (links-next bytes at left some) (sym (first-skip _ _ (sym e)))

-- no link is left, and none is refused
pub links_end : (nodes left : ℕ) (bytes : List ℕ) → left ≤ 0 → 0 ≡ link_list_refusal nodes (links_of left bytes)
unfolding link_list_refusal links_of first
links_end nodes zero bytes h = refl
links_end nodes (suc left) bytes h = absurd (omega arith)

-- the tests 8, 9 and 10 of the event at a position, then the events after it
pub events-step : (nodes links before : ℕ) (words : List ℕ) (at left : ℕ) → 0 < left
    → first
    (probability_test (get_or words at 0)
    ∷ order_test before (get_or words at 0)
    ∷ sets_test nodes links (event_at words at).nodes (event_at words at).links
    ∷ event_list_refusal nodes links (get_or words at 0) (events_of (left - 1) (drop (at + 4) words))
    ∷ [])
    ≡ event_list_refusal nodes links before (events_of left (drop at words))
unfolding event_list_refusal
events-step nodes links before words at left some = rw (events-next words at left some)

-- no event is left, and none is refused
pub events-end : (nodes links before left : ℕ) (words : List ℕ) → left ≤ 0 → 0 ≡ event_list_refusal nodes links before (events_of left words)
unfolding event_list_refusal events_of
events-end nodes links before zero words h = refl
events-end nodes links before (suc left) words h = absurd (omega arith)
