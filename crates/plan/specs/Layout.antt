-- The layout of a plan file: document 01, section "Plan file", as a function from a plan to its bytes.
-- Assumes nothing.
use Rattle.std.specs.Prelude.{cond, List, [], ◌∷◌, ◌++◌, ℕ, zero, suc, ◌+◌, ◌*◌, ◌/◌, ◌%◌, ◌<◌, eqb, length}
use Rattle.plan.specs.Plan.{Plan, Event}
use Rattle.plan.specs.Lists.{link_bytes}

-- "Multi-byte numbers are little-endian": a number in `width` bytes
unfoldable pub little : ℕ → ℕ → List ℕ
little zero x = []
little (suc width) x = x % 256 ∷ little width (x / 256)

-- the number that bytes stand for, the lowest first
unfoldable pub value : List ℕ → ℕ
value [] = 0
value (b ∷ bytes) = b + 256 * value bytes

-- the elements of a set, rising, of `count` numbers from `from` on: the lowest bit of s stands for `from`
unfoldable pub elements : ℕ → ℕ → ℕ → List ℕ
elements zero from s = []
elements (suc count) from s =
    let rest = elements count (suc from) (s / 2) in
    cond (eqb (s % 2) 1) (from ∷ rest) rest

-- members of one kind: two bytes each, kind and number
unfoldable pub member_bytes : ℕ → List ℕ → List ℕ
member_bytes kind [] = []
member_bytes kind (i ∷ is) = kind ∷ i ∷ member_bytes kind is

-- the members of an event: the nodes of its set (kind 0), then the links (kind 1)
unfoldable pub members : Event → List ℕ
members e = member_bytes 0 (elements 64 0 e.nodes) ++ member_bytes 1 (elements 128 0 e.links)

-- how many members an event has
unfoldable pub member_count : Event → ℕ
member_count e = length (elements 64 0 e.nodes) + length (elements 128 0 e.links)

-- the events: q in 32 bits, one byte k, and k members
unfoldable pub event_bytes : List Event → List ℕ
event_bytes [] = []
event_bytes (e ∷ es) = little 4 e.probability ++ (member_count e ∷ (members e ++ event_bytes es))

-- the header, 20 bytes: the letters RSG, the version 1, three counts, the threshold and the cap
unfoldable pub header_bytes : Plan → List ℕ
header_bytes p =
    82
    ∷ 83
    ∷ 71
    ∷ (little 2 1
    ++ (p.nodes
    ∷ length p.links
    ∷ length p.events
    ∷ (little 8 p.threshold ++ little 4 p.cap)))

-- the file of a plan
unfoldable pub layout : Plan → List ℕ
layout p = header_bytes p ++ (link_bytes p.links ++ event_bytes p.events)

-- a list of bytes
abbrev pub Bytes : List ℕ → Type 0
Bytes [] = Unit {0}
Bytes (b ∷ bytes) = (b < 256) × Bytes bytes
