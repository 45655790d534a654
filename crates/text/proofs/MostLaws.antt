-- No listing is longer than 92,789 bytes, a bound: 2,016 lines of at most 46 bytes, and a first line of at most 53.
-- Assumes nothing.
use mathlib.Core.Path.{◌≡◌, sym, ap, ◌∙◌}
use mathlib.Core.Bool.{Bool, true, false, not, ◌||◌, ◌&&◌}
use mathlib.Core.List.{List, [], ◌∷◌, flatten}
use Prim.Native.Nat.{ℕ, zero, suc, ◌+◌, ◌-◌, ◌*◌, ◌^◌, ◌<◌, ◌≤◌}
use native.Mathlib.Omega.{arith}
use borrow.Author.Tests.{ltb-false}
use lib.Dec.{ltb, leb, eqb}
use lib.ListN.{length, get_or, drop, length-append}
use Rattle.mass.specs.Refusal.{refuse, first}
use Rattle.mass.proofs.RefusalLaws.{refuse-none}
use Rattle.mass.specs.Split.{whole, certain, probability_test}
use Rattle.plan.specs.Plan.{Plan}
use Rattle.refusals.specs.Tests.{short_test, mark_test, version_test, counts_test, threshold_test, cap_test, ends_test, order_test, member_test}
use Rattle.refusals.specs.Tests.{count_of_kind, rank}
use Rattle.plan.specs.File.{header_refusal, links_refusal, member_refusal, members_refusal, event_refusal, events_refusal, refusal, plan_of}
use Rattle.plan.specs.File.{nodes_in, links_in, events_in, version_in, threshold_in, cap_in, probability_in, members_in, event_size}
use Rattle.plan.specs.LentLists.{plan_refusal}
use Rattle.refusals.proofs.TestLaws.{counts-none, Ranges, or-none}
use Rattle.plan_layout.proofs.LayoutFile.{valid-none}
use Rattle.sets.specs.Sets.{digit}
use Rattle.network.specs.Outage.{intact}
use Rattle.walk.specs.Walk.{count, complete, mass_examined, plan_ends}
use Rattle.walk.proofs.Theorems.{mass_examined-le, count-le}
use Rattle.walk.proofs.Valid.{plan-probable}
use Rattle.sums.proofs.BoundsLaws.{upper-le, lower-upper}
use Rattle.pairs.specs.Pairs.{row, rows, table, start}
use Rattle.pairs.proofs.PairLaws.{start-suc, start-zero, pairs-most}
use Rattle.bounds.specs.Bounds.{cuts, lower_of, upper_of}
use Rattle.text.proofs.DecimalLaws.{decimal-most}
use Rattle.text.specs.Listing.{field, line, pairs_text, pair_line, plan_text, answer_text, listing}
use Rattle.text.specs.Sums.{row_text, rows_text}
use Rattle.text.proofs.FieldLaws.{field-long, line-long, head-long}
use Rattle.text.proofs.RowLaws.{rows_step}

-- ---- no file is refused with a number above 11

first-most : (n : ℕ) (later : List ℕ) → n ≤ 11 → first later ≤ 11 → first (n ∷ later) ≤ 11
unfolding first
first-most zero later h k = k
first-most (suc n) later h k = h

none-most : first [] ≤ 11
unfolding first
none-most = omega arith

refuse-most : (test : Bool) (n : ℕ) → n ≤ 11 → refuse test n ≤ 11
refuse-most true n h = h
refuse-most false n h = omega arith

short-most : (left need : ℕ) → short_test left need ≤ 11
short-most left need = refuse-most (ltb left need) 1 (omega arith)

mark-most : (x y z a b c : ℕ) → mark_test x y z a b c ≤ 11
mark-most x y z a b c = refuse-most (not (eqb a x && eqb b y && eqb c z)) 2 (omega arith)

version-most : (version : ℕ) → version_test version ≤ 11
version-most version = refuse-most (not (eqb version 1)) 3 (omega arith)

counts-most : (nodes links events : ℕ) → counts_test nodes links events ≤ 11
counts-most nodes links events = refuse-most (ltb nodes 1 || ltb 64 nodes || ltb 128 links || ltb 128 events) 4 (omega arith)

threshold-most : (t : ℕ) → threshold_test t ≤ 11
threshold-most t = refuse-most (ltb t 1 || ltb whole t) 5 (omega arith)

cap-most : (cap : ℕ) → cap_test cap ≤ 11
cap-most cap = refuse-most (ltb cap 1 || ltb 1000000 cap) 6 (omega arith)

member-test-most : (nodes links least kind number : ℕ) → member_test nodes links least kind number ≤ 11
member-test-most nodes links least kind number =
    refuse-most (leb (count_of_kind nodes links kind) number || ltb (rank kind number) least) 10 (omega arith)

ends-most : (nodes low high : ℕ) → ends_test nodes low high ≤ 11
ends-most nodes low high = refuse-most (leb nodes low || leb nodes high || leb high low) 7 (omega arith)

probability-most : (q : ℕ) → probability_test q ≤ 11
probability-most q = refuse-most (ltb certain q) 8 (omega arith)

order-most : (before q : ℕ) → order_test before q ≤ 11
order-most before q = refuse-most (ltb before q) 9 (omega arith)

links-most : (nodes some : ℕ) (b : List ℕ) → links_refusal nodes some b ≤ 11
unfolding links_refusal
links-most nodes zero b = omega arith
links-most nodes (suc some) b =
    first-most _ _ (short-most (length b) 2)
    (first-most _ _ (ends-most nodes (get_or b 0 0) (get_or b 1 0)) (first-most _ _ (links-most nodes some (drop 2 b)) none-most))

member-most : (nodes links least : ℕ) (b : List ℕ) → member_refusal nodes links least b ≤ 11
unfolding member_refusal
member-most nodes links least b =
    first-most _ _ (short-most (length b) 2) (first-most _ _ (member-test-most nodes links least (get_or b 0 0) (get_or b 1 0)) none-most)

members-most : (nodes links least some : ℕ) (b : List ℕ) → members_refusal nodes links least some b ≤ 11
unfolding members_refusal
members-most nodes links least zero b = omega arith
members-most nodes links least (suc some) b =
    first-most _ _ (member-most nodes links least b)
    (first-most _ _ (members-most nodes links (rank (get_or b 0 0) (get_or b 1 0) + 1) some (drop 2 b)) none-most)

event-most : (nodes links before : ℕ) (b : List ℕ) → event_refusal nodes links before b ≤ 11
unfolding event_refusal
event-most nodes links before b =
    first-most _ _ (short-most (length b) 5)
    (first-most _ _ (probability-most (probability_in b))
    (first-most _ _ (order-most before (probability_in b)) (first-most _ _ (members-most nodes links 0 (members_in b) (drop 5 b)) none-most)))

events-most : (nodes links before some : ℕ) (b : List ℕ) → events_refusal nodes links before some b ≤ 11
unfolding events_refusal
events-most nodes links before zero b = refuse-most (ltb 0 (length b)) 11 (omega arith)
events-most nodes links before (suc some) b =
    first-most _ _ (event-most nodes links before b)
    (first-most _ _ (events-most nodes links (probability_in b) some (drop (event_size b) b)) none-most)

header-most : (b : List ℕ) → header_refusal b ≤ 11
unfolding header_refusal
header-most b =
    first-most _ _ (short-most (length b) 20)
    (first-most _ _ (mark-most 82 83 71 (get_or b 0 0) (get_or b 1 0) (get_or b 2 0))
    (first-most _ _ (version-most (version_in b))
    (first-most _ _ (counts-most (nodes_in b) (links_in b) (events_in b))
    (first-most _ _ (threshold-most (threshold_in b)) (first-most _ _ (cap-most (cap_in b)) none-most)))))

pub refusal-most : (b : List ℕ) → refusal b ≤ 11
unfolding refusal
refusal-most b =
    first-most _ _ (header-most b)
    (first-most _ _ (links-most (nodes_in b) (links_in b) (drop 20 b))
    (first-most _ _ (events-most (nodes_in b) (links_in b) certain (events_in b) (drop (20 + 2 * links_in b) b)) none-most))

-- ---- refused files

pub refused-same : (b c : List ℕ) (n : ℕ) → refusal b ≡ suc n → refusal c ≡ suc n → listing intact c ≡ listing intact b
unfolding listing answer_text
refused-same b c n e f = ap (λ (k : ℕ). answer_text intact k (plan_of c)) f ∙ sym (ap (λ (k : ℕ). answer_text intact k (plan_of b)) e)

-- ---- the lines of a plan

pub field-most : (k x end : ℕ) → x < 10 ^ suc k → length (field x end) ≤ suc (suc k)
field-most k x end h = omega (arith, field-long x end, decimal-most k x h)

module _ (f : ℕ → ℕ → List ℕ) (n : ℕ) (most : (v w : ℕ) → v < w → w < n → length (f v w) ≤ 46) where
  row-most : (v w some : ℕ) → v < w → w + some ≤ n → length (row_text f v w some) ≤ 46 * some
  unfolding row flatten
  row-most v w zero h k = omega arith
  row-most v w (suc some) h k =
      rw (length-append (f v w) (row_text f v (suc w) some))
      (omega (arith, most v w h (omega arith), row-most v (suc w) some (omega arith) (omega arith)))

  rows-most : (v some : ℕ) → v + some ≡ n → 46 * start n v + length (rows_text f n v some) ≤ 46 * start n n
  unfolding rows flatten
  rows-most v zero e = let last : v ≡ n = omega arith in rw last (omega arith)
  rows-most v (suc some) e =
      rw (rows_step f n v some, length-append (row_text f v (suc v) (n - suc v)) (rows_text f n (suc v) some))
      (omega (arith, row-most v (suc v) (n - suc v) (omega arith) (omega arith), rows-most (suc v) some (omega arith), start-suc n v))

  pub pairs-most-long : n ≤ 64 → length (pairs_text f n) ≤ 92736
  unfolding table
  pairs-most-long few = omega (arith, rows-most 0 n (omega arith), start-zero n, pairs-most n few)

times : (a t m : ℕ) → 1 ≤ t → a * t ≤ m → a ≤ m
times a zero m h k = absurd (omega arith)
times a (suc t) m h k = omega arith

digit-most : (b : Bool) → digit b ≤ 1
digit-most true = omega arith
digit-most false = omega arith

some-threshold : (t : ℕ) → threshold_test t ≡ 0 → 1 ≤ t
some-threshold t e = ltb-false t 1 (or-none (ltb t 1) _ (refuse-none _ 4 e)).0

-- the lines' lengths from the numbers in them
line-most : (v w lower upper : ℕ) → v < 100 → w < 100 → lower ≤ whole → upper ≤ whole → length (line (v ∷ w ∷ lower ∷ upper ∷ [])) ≤ 46
line-most v w lower upper a b c d =
    omega (arith, line-long v w lower upper, field-most 1 v 32 a, field-most 1 w 32 b, field-most 18 lower 32 (omega arith), field-most 18 upper 10 (omega arith))

head-most : (nodes links events number done mass : ℕ) → nodes ≤ 64 → links ≤ 128 → events ≤ 128 → number ≤ whole → done ≤ 1 → mass ≤ whole
    → length (line (nodes ∷ links ∷ events ∷ number ∷ done ∷ mass ∷ [])) ≤ 53
head-most nodes links events number done mass a b c d e f =
    omega (
      arith,
      head-long nodes links events number done mass,
      line-long events number done mass,
      field-most 1 nodes 32 (omega arith),
      field-most 2 links 32 (omega arith),
      field-most 2 events 32 (omega arith),
      field-most 18 number 32 (omega arith),
      field-most 0 done 32 (omega arith),
      field-most 18 mass 10 (omega arith),
    )

module _ (p : Plan) (valid : plan_refusal p ≡ 0) where
  ranges : Ranges p.nodes (length p.links) (length p.events)
  ranges = counts-none _ _ _ (valid-none p valid).counts

  number-most : count p ≤ whole
  number-most = times (count p) p.threshold whole (some-threshold p.threshold (valid-none p valid).threshold) (count-le p (plan-probable p valid))

  pair-most : (v w : ℕ) → v < w → w < p.nodes → length (pair_line intact p v w) ≤ 46
  unfolding pair_line
  pair-most v w h k =
      let few = ranges.nodes-fit in
      let high : upper_of intact p v w ≤ whole = upper-le p (plan-probable p valid) (cuts intact p v w) in
      let low : lower_of intact p v w ≤ upper_of intact p v w = lower-upper p (plan-probable p valid) (cuts intact p v w) in
      line-most v w (lower_of intact p v w) (upper_of intact p v w) (omega arith) (omega arith) (omega arith) high

  pub plan-most : length (plan_text intact p) ≤ 92789
  unfolding plan_text
  plan-most =
      let head = head-most p.nodes (length p.links) (length p.events) (count p) (complete p) (mass_examined p)
      ranges.nodes-fit
      ranges.links-fit
      ranges.events-fit
      number-most
      (digit-most (leb (length (plan_ends p)) p.cap))
      (mass_examined-le p (plan-probable p valid)) in
      let rows = pairs-most-long (pair_line intact p) p.nodes pair-most ranges.nodes-fit in
      rw (length-append (line (p.nodes ∷ length p.links ∷ length p.events ∷ count p ∷ complete p ∷ mass_examined p ∷ [])) (pairs_text (pair_line intact p) p.nodes))
      (omega (arith, head, rows))
