-- Planned work by the week: document 02, request U7. What is out at a minute of the week, beside any plan.
-- Assumes nothing.
use Rattle.std.specs.Prelude.{Bool, cond, not, ◌&&◌, ◌||◌, List, [], ◌∷◌, ℕ, zero, suc, ◌+◌, ◌/◌, ◌%◌, ◌^◌, leb, ltb, eqb, length, get_or, drop}
use Rattle.mass.specs.Refusal.{refuse, first, each}
use Rattle.sets.specs.Sets.{joined}
use Rattle.network.specs.Outage.{Outage, intact, beside}

-- a window: the minutes from `start` up to, but not with, `end`, "with a set of nodes and links taken out"
pub record Window : Type 0 where
  pub start : ℕ
  pub end : ℕ
  pub out : Outage

-- the window of five words: start, end, set of nodes, links 0 to 63, links 64 to 127
abbrev pub window_of : ℕ → ℕ → ℕ → ℕ → ℕ → Window
window_of start end nodes low high = record { start = start; end = end; out = record { nodes = nodes; links = joined low high } }

-- the window at a position of a list of words
abbrev pub window_at : List ℕ → ℕ → Window
window_at words at =
    window_of (get_or words at 0) (get_or words (at + 1) 0) (get_or words (at + 2) 0) (get_or words (at + 3) 0) (get_or words (at + 4) 0)

-- the first `count` windows of a list of words
unfoldable pub windows_of : ℕ → List ℕ → List Window
windows_of zero words = []
windows_of (suc count) words = window_at words 0 ∷ windows_of count (drop 5 words)

-- "A lent list, all of it used": its windows
abbrev pub windows_in : List ℕ → List Window
windows_in words = windows_of (length words / 5) words

-- whether a window holds a minute: "start included, end not"
abbrev pub holds : Window → ℕ → Bool
holds w minute = leb w.start minute && ltb minute w.end

-- what is out with one window more: what it takes out too, where it holds the minute
abbrev pub with_window : Window → ℕ → Outage → Outage
with_window w minute out = cond (holds w minute) (beside out w.out) out

-- what is out at a minute: the "elements out in any window holding that minute"
unfoldable pub out_at : List Window → ℕ → Outage
out_at [] minute = intact
out_at (w ∷ later) minute = with_window w minute (out_at later minute)

-- what the windows of a lent list take out at a minute
abbrev pub taken_out : List ℕ → ℕ → Outage
taken_out words minute = out_at (windows_in words) minute

-- 21: a window "breaks its range", start < end ≤ 10,080, "or names a missing element": a set has a bit at or past the count
abbrev pub window_test : ℕ → ℕ → Window → ℕ
window_test nodes links w =
    refuse (leb w.end w.start || ltb 10080 w.end || leb (2 ^ nodes) w.out.nodes || leb (2 ^ links) w.out.links) 21

-- 22: "a minute above 10,079"
abbrev pub minute_test : ℕ → ℕ
minute_test minute = refuse (ltb 10079 minute) 22

-- 12 for words that make no whole window, so that the list is too short for the last one; then each window, 21, "tested in list order";
-- then 22
unfoldable pub work_refusal : ℕ → ℕ → List ℕ → ℕ → ℕ
work_refusal nodes links words minute =
    first
    (refuse (not (eqb (length words % 5) 0)) 12
    ∷ each (window_test nodes links) (windows_in words)
    ∷ minute_test minute
    ∷ [])
