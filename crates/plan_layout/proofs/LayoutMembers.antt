-- Members of an event, from sets to bytes and back.
-- Assumes nothing.
use mathlib.Core.Path.{◌≡◌, refl, sym, ap}
use mathlib.Core.List.{List, [], ◌∷◌, ◌++◌, append_assoc}
use Prim.Native.Nat.{ℕ, zero, suc, ◌+◌, ◌-◌, ◌*◌, ◌^◌, ◌<◌, ◌≤◌}
use native.Mathlib.Nat.{sub-zero, suc-add, zero-add, add-zero, lt_of_lt_of_le}
use native.Mathlib.Omega.{arith}
use borrow.Author.Tests.{eq-eqb, ne_eqb}
use lib.Pow.{pow_mono}
use lib.ListN.{length, get_or, take, drop, length-append}
use Rattle.mass.specs.Refusal.{first}
use Rattle.mass.proofs.RefusalLaws.{first-none}
use Rattle.plan.specs.Plan.{Event}
use Rattle.refusals.specs.Tests.{count_of_kind, rank}
use Rattle.plan.specs.Layout.{elements, member_bytes, members, member_count}
use Rattle.plan.specs.File.{member_refusal, members_refusal, set_of}
use Rattle.refusals.proofs.TestLaws.{short_none, short-pass, member-none, member-pass}
use Rattle.plan_layout.proofs.LayoutSets.{Rising, moved, rising-weaken, elements-rising, moved-elements, elements-moved, moved-lt}

-- what an accepted member says
pub record Accepted (nodes links least count : ℕ) (b : List ℕ) : Type 0 where
  pub long : 2 ≤ length b
  pub counted : get_or b 1 0 < count_of_kind nodes links (get_or b 0 0)
  pub rises : least ≤ rank (get_or b 0 0) (get_or b 1 0)
  pub rest : members_refusal nodes links (rank (get_or b 0 0) (get_or b 1 0) + 1) count (drop 2 b) ≡ 0

pub member-facts : (nodes links least : ℕ) (b : List ℕ) → member_refusal nodes links least b ≡ 0
    → (2 ≤ length b) × (get_or b 1 0 < count_of_kind nodes links (get_or b 0 0)) × (least ≤ rank (get_or b 0 0) (get_or b 1 0))
unfolding member_refusal
member-facts nodes links least b e =
    let test = first-none _ _ e in
    let fits = member-none nodes links least (get_or b 0 0) (get_or b 1 0) (first-none _ _ test.1).0 in
    (short_none (length b) 2 test.0, fits.0, fits.1)

pub members-none : (nodes links least count : ℕ) (b : List ℕ) → members_refusal nodes links least (suc count) b ≡ 0
    → Accepted nodes links least count b
unfolding members_refusal
members-none nodes links least count b e =
    let here = first-none _ _ e in
    let facts = member-facts nodes links least b here.0 in
    record { long = facts.0; counted = facts.1; rises = facts.2; rest = (first-none _ _ here.1).0 }

pub members-pass : (nodes links least count : ℕ) (b : List ℕ) → Accepted nodes links least count b
    → members_refusal nodes links least (suc count) b ≡ 0
unfolding members_refusal member_refusal first
members-pass nodes links least count b a =
    rw (
      short-pass (length b) 2 a.long,
      member-pass nodes links least (get_or b 0 0) (get_or b 1 0) a.counted a.rises,
      a.rest,
    )

-- what is accepted from a rank on is accepted from a lower one on
pub members-lower : (nodes links low least count : ℕ) (b : List ℕ) → low ≤ least → members_refusal nodes links least count b ≡ 0
    → members_refusal nodes links low count b ≡ 0
members-lower nodes links low least zero b h e = unfold members_refusal in refl
members-lower nodes links low least (suc count) b h e =
    let a = members-none nodes links least count b e in
    members-pass nodes links low count b
    (record { long = a.long; counted = a.counted; rises = omega (arith, a.rises); rest = a.rest })

pub length-members : (kind : ℕ) (is : List ℕ) → length (member_bytes kind is) ≡ 2 * length is
unfolding member_bytes
length-members kind [] = refl
length-members kind (i ∷ is) = let rest = length-members kind is in omega arith

module _ (nodes links : ℕ) where
  -- a rising list of members of one kind is accepted, before members that are
  pub members-kind : (kind from least count : ℕ) (is r : List ℕ) → Rising from (count_of_kind nodes links kind) is
      → least ≤ rank kind from
      → members_refusal nodes links (rank kind (count_of_kind nodes links kind)) count r ≡ 0
      → least ≤ rank kind (count_of_kind nodes links kind)
      → members_refusal nodes links least (length is + count) (member_bytes kind is ++ r) ≡ 0
  unfolding member_bytes
  members-kind kind from least count [] r rising low e top =
      rw zero-add (members-lower nodes links least (rank kind (count_of_kind nodes links kind)) count r top e)
  members-kind kind from least count (i ∷ is) r rising low e top =
      let rest : members_refusal nodes links (rank kind i + 1) (length is + count) (member_bytes kind is ++ r) ≡ 0 =
      members-kind kind (suc i) (rank kind i + 1) count is r rising.2 (omega arith) e (omega (arith, rising.1)) in
      rw suc-add
      (members-pass nodes links least (length is + count) (kind ∷ i ∷ (member_bytes kind is ++ r))
      (record { long = omega arith; counted = rising.1; rises = omega (arith, rising.0); rest = rest }))

-- members of one kind leave the set of another kind as it is
pub set_other : (kind other count : ℕ) (is r : List ℕ) → (kind ≡ other → ⊥)
    → set_of other (length is + count) (member_bytes kind is ++ r) ≡ set_of other count r
unfolding member_bytes set_of
set_other kind other count [] r n = rw zero-add
set_other kind other count (i ∷ is) r n =
    rw (suc-add, ne_eqb kind other n, set_other kind other count is r n) (zero-add (set_of other count r))

-- and add their numbers to the set of their own
pub set_same : (kind count : ℕ) (is r : List ℕ)
    → set_of kind (length is + count) (member_bytes kind is ++ r) ≡ moved 0 is + set_of kind count r
unfolding member_bytes set_of moved
set_same kind count [] r = omega (arith, ap (λ (n : ℕ). set_of kind n r) (zero-add count))
set_same kind count (i ∷ is) r =
    rw (suc-add, eq-eqb kind kind refl, set_same kind count is r, sub-zero) (omega arith)

-- the members of an event whose sets stay below the counts
module _ (nodes links : ℕ) (e : Event) (r : List ℕ) (few : nodes ≤ 64) (some : links ≤ 128)
    (within : e.nodes < 2 ^ nodes) (inside : e.links < 2 ^ links) where
  abbrev ns : List ℕ
  ns = elements 64 0 e.nodes

  abbrev ls : List ℕ
  ls = elements 128 0 e.links

  joined_bytes : members e ++ r ≡ member_bytes 0 ns ++ (member_bytes 1 ls ++ r)
  unfolding members
  joined_bytes = append_assoc (member_bytes 0 ns) (member_bytes 1 ls) r

  pub members-accepted : members_refusal nodes links 0 (member_count e) (members e ++ r) ≡ 0
  unfolding member_count
  members-accepted =
      let tail : members_refusal nodes links (rank 1 links) 0 r ≡ 0 = unfold members_refusal in refl in
      let second : members_refusal nodes links (rank 0 nodes) (length ls + 0) (member_bytes 1 ls ++ r) ≡ 0 =
      members-kind nodes links 1 0 (rank 0 nodes) 0 ls r (elements-rising 128 0 e.links links (omega arith)) (omega arith) tail (omega arith) in
      rw (joined_bytes)
      (members-kind nodes links 0 0 0 (length ls) ns (member_bytes 1 ls ++ r) (elements-rising 64 0 e.nodes nodes (omega arith))
      (omega arith) (rw (add-zero (length ls)) at second) (omega arith))

  pub nodes-back : set_of 0 (member_count e) (members e ++ r) ≡ e.nodes
  unfolding member_count
  nodes-back =
      let none : set_of 0 0 r ≡ 0 = unfold set_of in refl in
      let second : set_of 0 (length ls + 0) (member_bytes 1 ls ++ r) ≡ set_of 0 0 r = set_other 1 0 0 ls r (λ z. omega arith) in
      let first_part : set_of 0 (length ns + length ls) (member_bytes 0 ns ++ (member_bytes 1 ls ++ r)) ≡ moved 0 ns + set_of 0 (length ls) (member_bytes 1 ls ++ r) =
      set_same 0 (length ls) ns (member_bytes 1 ls ++ r) in
      let low : e.nodes < 2 ^ 64 = lt_of_lt_of_le within (pow_mono few) in
      rw (joined_bytes)
      (omega (arith, rw (add-zero (length ls)) at second, moved-elements 64 0 e.nodes low))

  pub links-back : set_of 1 (member_count e) (members e ++ r) ≡ e.links
  unfolding member_count
  links-back =
      let none : set_of 1 0 r ≡ 0 = unfold set_of in refl in
      let second : set_of 1 (length ls + 0) (member_bytes 1 ls ++ r) ≡ moved 0 ls + set_of 1 0 r = set_same 1 0 ls r in
      let first_part : set_of 1 (length ns + length ls) (member_bytes 0 ns ++ (member_bytes 1 ls ++ r)) ≡ set_of 1 (length ls) (member_bytes 1 ls ++ r) =
      set_other 0 1 (length ls) ns (member_bytes 1 ls ++ r) (λ z. omega arith) in
      let low : e.links < 2 ^ 128 = lt_of_lt_of_le inside (pow_mono some) in
      rw (joined_bytes)
      (omega (arith, rw (add-zero (length ls)) at second, moved-elements 128 0 e.links low))

pub length-event-members : (e : Event) → length (members e) ≡ 2 * member_count e
unfolding members member_count
length-event-members e =
    let a = length-members 0 (elements 64 0 e.nodes) in
    let b = length-members 1 (elements 128 0 e.links) in
    rw length-append (omega arith)

-- accepted members as two rising lists: the nodes' numbers and the links'
pub record MemberLists (nodes links least count : ℕ) (b : List ℕ) : Type 0 where
  pub ns : List ℕ
  pub ls : List ℕ
  pub nodes-rise : Rising least nodes ns
  pub links-rise : Rising (least - 256) links ls
  pub counted : count ≡ length ns + length ls
  pub long : 2 * count ≤ length b
  pub bytes : take (2 * count) b ≡ member_bytes 0 ns ++ member_bytes 1 ls
  pub node-set : set_of 0 count b ≡ moved 0 ns
  pub link_set : set_of 1 count b ≡ moved 0 ls

two-more : (count : ℕ) → 2 * suc count ≡ suc (suc (2 * count))
two-more count = omega arith

module _ (nodes links least count number : ℕ) (r : List ℕ) where
  node-read : number < nodes → least ≤ rank 0 number → MemberLists nodes links (rank 0 number + 1) count r
      → MemberLists nodes links least (suc count) (0 ∷ number ∷ r)
  unfolding set_of moved member_bytes
  node-read h l p =
      record {
        ns = number ∷ p.ns;
        ls = p.ls;
        nodes-rise =
            (omega arith, h, rising-weaken (suc number) (rank 0 number + 1) nodes p.ns (omega arith) p.nodes-rise);
        links-rise = rising-weaken (least - 256) (rank 0 number + 1 - 256) links p.ls (omega arith) p.links-rise;
        counted = omega (arith, p.counted);
        long = omega (arith, p.long);
        bytes = rw two-more (ap (λ (x : List ℕ). 0 ∷ number ∷ x) p.bytes);
        node-set = rw (sub-zero, p.node-set);
        link_set = rw p.link_set (zero-add (moved 0 p.ls));
      }

  no-nodes : nodes ≤ 64 → (is : List ℕ) → Rising (rank 1 number + 1) nodes is → is ≡ []
  no-nodes few [] rise = refl
  no-nodes few (i ∷ is) rise = absurd (never rise.0 rise.1)
    where
      never : rank 1 number + 1 ≤ i → i < nodes → ⊥
      never a c = omega arith

  link-read : nodes ≤ 64 → number < links → least ≤ rank 1 number → MemberLists nodes links (rank 1 number + 1) count r
      → MemberLists nodes links least (suc count) (1 ∷ number ∷ r)
  unfolding set_of moved member_bytes
  link-read few h l p =
      let none : p.ns ≡ [] = no-nodes few p.ns p.nodes-rise in
      let same : take (2 * count) r ≡ member_bytes 1 p.ls = rw none at p.bytes in
      record {
        ns = [];
        ls = number ∷ p.ls;
        nodes-rise = tt;
        links-rise =
            (omega arith, h, rising-weaken (suc number) (rank 1 number + 1 - 256) links p.ls (omega arith) p.links-rise);
        counted = omega (arith, p.counted, ap length none);
        long = omega (arith, p.long);
        bytes = rw two-more (ap (λ (x : List ℕ). 1 ∷ number ∷ x) same);
        node-set = rw (p.node-set, none);
        link_set = rw (sub-zero, p.link_set);
      }

module _ (nodes links : ℕ) (few : nodes ≤ 64) where
  pub members-read : (least count : ℕ) (b : List ℕ) → members_refusal nodes links least count b ≡ 0 → MemberLists nodes links least count b
  members-read least zero b e =
      record {
        ns = [];
        ls = [];
        nodes-rise = tt;
        links-rise = tt;
        counted = refl;
        long = omega arith;
        bytes = unfold member_bytes in refl;
        node-set = unfold set_of moved in refl;
        link_set = unfold set_of moved in refl;
      }
  members-read least (suc count) [] e = absurd (short (members-none nodes links least count [] e).long)
    where
      short : 2 ≤ 0 → ⊥
      short h = omega arith
  members-read least (suc count) (k ∷ []) e = absurd (short (members-none nodes links least count (k ∷ []) e).long)
    where
      short : 2 ≤ 1 → ⊥
      short h = omega arith
  members-read least (suc count) (zero ∷ number ∷ r) e =
      let a = members-none nodes links least count (0 ∷ number ∷ r) e in
      node-read nodes links least count number r a.counted a.rises (members-read (rank 0 number + 1) count r a.rest)
  members-read least (suc count) (suc zero ∷ number ∷ r) e =
      let a = members-none nodes links least count (1 ∷ number ∷ r) e in
      link-read nodes links least count number r few a.counted a.rises (members-read (rank 1 number + 1) count r a.rest)
  members-read least (suc count) (suc (suc k) ∷ number ∷ r) e =
      absurd (nothing (members-none nodes links least count (suc (suc k) ∷ number ∷ r) e).counted)
    where
      nothing : number < 0 → ⊥
      nothing h = omega arith

-- what accepted members stand for: sets below the counts, of which they are the members
pub record ReadMembers (nodes links count : ℕ) (b : List ℕ) : Type 0 where
  pub long : 2 * count ≤ length b
  pub within : set_of 0 count b < 2 ^ nodes
  pub inside : set_of 1 count b < 2 ^ links
  pub counted : (q : ℕ) → member_count (record { probability = q; nodes = set_of 0 count b; links = set_of 1 count b }) ≡ count
  pub bytes : (q : ℕ) → members (record { probability = q; nodes = set_of 0 count b; links = set_of 1 count b }) ≡ take (2 * count) b

pub sets-read : (nodes links : ℕ) → nodes ≤ 64 → links ≤ 128 → (count : ℕ) (b : List ℕ) → members_refusal nodes links 0 count b ≡ 0
    → ReadMembers nodes links count b
unfolding members member_count
sets-read nodes links few some count b e =
    let m = members-read nodes links few 0 count b e in
    let ns-same : elements 64 0 (set_of 0 count b) ≡ m.ns =
    rw m.node-set (elements-moved 64 0 nodes m.ns (omega arith) m.nodes-rise) in
    let ls-same : elements 128 0 (set_of 1 count b) ≡ m.ls =
    rw m.link_set (elements-moved 128 0 links m.ls (omega arith) m.links-rise) in
    record {
      long = m.long;
      within = rw m.node-set (omega (arith, moved-lt 0 nodes m.ns (omega arith) m.nodes-rise));
      inside = rw m.link_set (omega (arith, moved-lt 0 links m.ls (omega arith) m.links-rise));
      counted = λ q. rw (ns-same, ls-same) (sym m.counted);
      bytes = λ q. rw (ns-same, ls-same) (sym m.bytes);
    }
