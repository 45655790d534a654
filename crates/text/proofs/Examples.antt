-- Examples of document 01, section "Listing".
-- Assumes nothing.
use mathlib.Core.Path.{◌≡◌, refl, sym}
use mathlib.Core.List.{List, [], ◌∷◌, ◌++◌, flatten}
use Prim.Native.Nat.{ℕ}
use native.Mathlib.Omega.{arith}
use Rattle.mass.specs.Refusal.{first}
use Rattle.sets.specs.Sets.{bit, any_below}
use Rattle.plan.specs.Layout.{value}
use Rattle.plan.specs.Lists.{links_of}
use Rattle.plan.specs.File.{header_refusal, links_refusal, member_refusal, members_refusal, event_refusal, events_refusal, refusal, set_of}
use Rattle.plan.specs.File.{events_at, plan_of}
use Rattle.network.specs.Outage.{intact, union_of}
use Rattle.network.specs.Topology.{node_works, link_works, joins, adjacent}
use Rattle.topology.specs.Paths.{via, disconnected}
use Rattle.walk.specs.Ends.{ends}
use Rattle.pairs.specs.Pairs.{row, rows, table}
use Rattle.text.specs.Decimal.{digits, decimal}
use Rattle.text.proofs.DecimalLaws.{decimal-small, decimal-enough}
use Rattle.text.specs.Listing.{field, line, pair_line, plan_text, refused_text, answer_text, listing}

-- the file of the triangle: the header, three links, three events
triangle : List ℕ
triangle =
    82 ∷ 83 ∷ 71 ∷ 1 ∷ 0 ∷ 3 ∷ 3 ∷ 3 ∷ 1 ∷ 0 ∷ 0 ∷ 0 ∷ 0 ∷ 0 ∷ 0 ∷ 0 ∷ 100 ∷ 0 ∷ 0 ∷ 0 ∷ 0 ∷ 1 ∷ 0 ∷ 2 ∷ 1 ∷ 2 ∷ 1 ∷ 0 ∷ 0 ∷ 0 ∷ 1 ∷ 1 ∷ 0 ∷ 1 ∷ 0 ∷ 0 ∷ 0 ∷ 1 ∷ 1 ∷ 1 ∷ 1 ∷ 0 ∷ 0 ∷ 0 ∷ 1 ∷ 1 ∷ 2 ∷ []

-- its listing, line by line
triangle_text : List ℕ
triangle_text =
    (51 ∷ 32 ∷ 51 ∷ 32 ∷ 51 ∷ 32 ∷ 52 ∷ 32 ∷ 49 ∷ 32 ∷ 57 ∷ 57 ∷ 57 ∷ 57 ∷ 57 ∷ 57 ∷ 57 ∷ 57 ∷ 57 ∷ 57 ∷ 57 ∷ 57 ∷ 57 ∷ 57 ∷ 57 ∷ 57 ∷ 57 ∷ 54 ∷ 10 ∷ [])
    ++ ((48 ∷ 32 ∷ 49 ∷ 32 ∷ 48 ∷ 32 ∷ 52 ∷ 10 ∷ [])
    ++ ((48 ∷ 32 ∷ 50 ∷ 32 ∷ 48 ∷ 32 ∷ 52 ∷ 10 ∷ [])
    ++ (49 ∷ 32 ∷ 50 ∷ 32 ∷ 48 ∷ 32 ∷ 52 ∷ 10 ∷ [])))

mass-decimal : decimal 999999999999999996 ≡ 57 ∷ 57 ∷ 57 ∷ 57 ∷ 57 ∷ 57 ∷ 57 ∷ 57 ∷ 57 ∷ 57 ∷ 57 ∷ 57 ∷ 57 ∷ 57 ∷ 57 ∷ 57 ∷ 57 ∷ 54 ∷ []
unfolding digits
mass-decimal = sym (decimal-enough 17 999999999999999996 (omega arith))

triangle-listed : listing intact triangle ≡ triangle_text
unfolding triangle triangle_text listing answer_text plan_text pair_line flatten table rows row line field refusal header_refusal links_refusal events_refusal event_refusal members_refusal member_refusal first plan_of links_of events_at set_of value ends disconnected via node_works link_works joins adjacent any_below union_of bit
triangle-listed = rw (mass-decimal, decimal-small 0 (omega arith), decimal-small 1 (omega arith), decimal-small 2 (omega arith), decimal-small 3 (omega arith), decimal-small 4 (omega arith))

-- no bytes at all: `refused 1`
nothing-listed : listing intact [] ≡ 114 ∷ 101 ∷ 102 ∷ 117 ∷ 115 ∷ 101 ∷ 100 ∷ 32 ∷ 49 ∷ 10 ∷ []
unfolding listing answer_text refused_text line field decimal digits refusal header_refusal first
nothing-listed = refl
