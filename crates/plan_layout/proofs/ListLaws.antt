-- Laws of what lent lists denote: as many links and events as the counts say, and those that were laid down.
-- Assumes nothing.
use mathlib.Core.Path.{◌≡◌, refl, ap}
use mathlib.Core.List.{List, [], ◌∷◌, ◌++◌}
use Prim.Native.Nat.{ℕ, zero, suc, ◌+◌, ◌^◌, ◌≤◌}
use native.Mathlib.Nat.{div-add-mod'}
use native.Mathlib.Omega.{arith}
use lib.ListN.{length, drop}
use lib.Seq.{sets, sets-eq}
use Rattle.plan.specs.Plan.{Link, Event}
use Rattle.plan.specs.Lists.{links_of, events_of, link_bytes, event_words}
use Rattle.plan.specs.File.{event_size, events_at}

pub length-links-of : (count : ℕ) (b : List ℕ) → length (links_of count b) ≡ count
unfolding links_of
length-links-of zero b = refl
length-links-of (suc count) b = ap suc (length-links-of count (drop 2 b))

pub length-events-of : (count : ℕ) (w : List ℕ) → length (events_of count w) ≡ count
unfolding events_of
length-events-of zero w = refl
length-events-of (suc count) w = ap suc (length-events-of count (drop 4 w))

pub links-of-bytes : (ls : List Link) (r : List ℕ) → links_of (length ls) (link_bytes ls ++ r) ≡ ls
unfolding links_of link_bytes
links-of-bytes [] r = refl
links-of-bytes (l ∷ ls) r = rw (links-of-bytes ls r)

pub events-of-words : (es : List Event) (r : List ℕ) → events_of (length es) (event_words es ++ r) ≡ es
unfolding events_of event_words
events-of-words [] r = refl
events-of-words (e ∷ es) r = rw (events-of-words es r, div-add-mod' e.links (2 ^ 64))

-- a list whose start was laid down
laid : (l news : List ℕ) → length news ≤ length l → sets l 0 news ≡ news ++ drop (0 + length news) l
laid l news h = sets-eq news l 0 (omega arith)

pub links-laid : (count : ℕ) (ls : List Link) (list : List ℕ) → length ls ≡ count → length (link_bytes ls) ≤ length list
    → links_of count (sets list 0 (link_bytes ls)) ≡ ls
links-laid count ls list e h = rw (laid list (link_bytes ls) h, ← e) (links-of-bytes ls (drop (0 + length (link_bytes ls)) list))

pub events-laid : (count : ℕ) (es : List Event) (list : List ℕ) → length es ≡ count → length (event_words es) ≤ length list
    → events_of count (sets list 0 (event_words es)) ≡ es
events-laid count es list e h = rw (laid list (event_words es) h, ← e) (events-of-words es (drop (0 + length (event_words es)) list))

pub length-events-at : (count : ℕ) (b : List ℕ) → length (events_at count b) ≡ count
unfolding events_at
length-events-at zero b = refl
length-events-at (suc count) b = ap suc (length-events-at count (drop (event_size b) b))
