-- The tests of document 01's table "Refused", one definition each: the number, or 0. Number 8 is `probability_test` of the crate `mass`.
-- Assumes nothing.
use Rattle.std.specs.Prelude.{[], ◌∷◌, not, ◌||◌, ◌&&◌, ℕ, zero, suc, ◌+◌, ◌*◌, ◌^◌, ltb, leb, eqb}
use Rattle.mass.specs.Refusal.{refuse, first}
use Rattle.mass.specs.Split.{whole}

-- 1: fewer than `need` bytes are left
abbrev pub short_test : ℕ → ℕ → ℕ
short_test left need = refuse (ltb left need) 1

-- 2: the mark a b c is not x y z, the letters of a file of this kind
abbrev pub mark_test : ℕ → ℕ → ℕ → ℕ → ℕ → ℕ → ℕ
mark_test x y z a b c = refuse (not (eqb a x && eqb b y && eqb c z)) 2

-- 3: the version is not 1
abbrev pub version_test : ℕ → ℕ
version_test version = refuse (not (eqb version 1)) 3

-- 4: a count is out of range: nodes 1 to 64, links 0 to 128, events 0 to 128
abbrev pub counts_test : ℕ → ℕ → ℕ → ℕ
counts_test nodes links events = refuse (ltb nodes 1 || ltb 64 nodes || ltb 128 links || ltb 128 events) 4

-- 5: the threshold is 0 or above 10^18
abbrev pub threshold_test : ℕ → ℕ
threshold_test t = refuse (ltb t 1 || ltb whole t) 5

-- 6: the cap is 0 or above 1,000,000
abbrev pub cap_test : ℕ → ℕ
cap_test cap = refuse (ltb cap 1 || ltb 1000000 cap) 6

-- "4 to 6"
abbrev pub numbers_test : ℕ → ℕ → ℕ → ℕ → ℕ → ℕ
numbers_test nodes links events t cap = first (counts_test nodes links events ∷ threshold_test t ∷ cap_test cap ∷ [])

-- 7: a link end is N or more, or the first is not smaller than the second
abbrev pub ends_test : ℕ → ℕ → ℕ → ℕ
ends_test nodes low high = refuse (leb nodes low || leb nodes high || leb high low) 7

-- 9: a probability is above that of the event before
abbrev pub order_test : ℕ → ℕ → ℕ
order_test before q = refuse (ltb before q) 9

-- how many elements a kind of member has: kind 0 the nodes, kind 1 the links, no other kind any
abbrev pub count_of_kind : ℕ → ℕ → ℕ → ℕ
count_of_kind nodes links zero = nodes
count_of_kind nodes links (suc zero) = links
count_of_kind nodes links (suc (suc kind)) = 0

-- the number by which members rise: nodes before links, each by number
abbrev pub rank : ℕ → ℕ → ℕ
rank kind number = kind * 256 + number

-- 10: a member has a wrong kind or number, or doesn't rise: its rank is below the least that may follow
abbrev pub member_test : ℕ → ℕ → ℕ → ℕ → ℕ → ℕ
member_test nodes links least kind number = refuse (leb (count_of_kind nodes links kind) number || ltb (rank kind number) least) 10

-- 10, in a record: a set has a bit at or past the count
abbrev pub sets_test : ℕ → ℕ → ℕ → ℕ → ℕ
sets_test nodes links node_set link_set = refuse (leb (2 ^ nodes) node_set || leb (2 ^ links) link_set) 10

-- 11: bytes are left after the last event
abbrev pub left_test : ℕ → ℕ
left_test left = refuse (ltb 0 left) 11

-- 12: a lent list or buffer is too short
abbrev pub room_test : ℕ → ℕ → ℕ
room_test room need = refuse (ltb room need) 12
