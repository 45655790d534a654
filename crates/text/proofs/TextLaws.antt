-- The listing: from what the run gave to the listing of the plan, and from the plan to that of the file.
-- Assumes nothing.
use mathlib.Core.Path.{◌≡◌, refl, sym, ap, ap₂, subst, ◌∙◌}
use mathlib.Core.List.{List, [], ◌∷◌, ◌++◌, flatten}
use Prim.Native.Nat.{ℕ, zero, suc, ◌+◌, ◌-◌, ◌<◌, ◌≤◌}
use native.Mathlib.Omega.{arith}
use borrow.Author.Tests.{le-ltb}
use lib.ListN.{length, get_or, take, length-append}
use lib.Seq.{sets, length-sets}
use Rattle.mass.specs.Split.{whole}
use Rattle.mass.specs.Refusal.{number}
use Rattle.mass.specs.declared.refusal.Refusal.{Refusal}
use Rattle.mass.proofs.RefusalLaws.{number-some}
use Rattle.plan.specs.Plan.{Plan}
use Rattle.refusals.specs.Tests.{room_test}
use Rattle.plan.specs.File.{refusal, plan_of}
use Rattle.plan.specs.LentLists.{plan_refusal, plan_of_lists}
use Rattle.plan.specs.Calls.{filled, header_of}
use Rattle.plan.specs.declared.Header.{Header}
use Rattle.plan_layout.proofs.ListLaws.{length-links-of, length-events-of}
use Rattle.plan_reading.proofs.ReaderLawsAnswer.{take-sets}
use Rattle.network.specs.Outage.{intact}
use Rattle.walk.specs.Walk.{count, complete, mass_examined}
use Rattle.pairs.specs.Pairs.{row, rows, table, place}
use Rattle.bounds.specs.Bounds.{lower_of}
use Rattle.pairs.specs.BoundsFit.{BoundsFit}
use Rattle.bounds.specs.Calls.{totals_of}
use Rattle.bounds.specs.Summed.{Summed}
use Rattle.bounds.specs.declared.Totals.{Totals}
use Rattle.bounds.proofs.Answers.{raised}
use Rattle.plan_reading.specs.Loaded.{Loaded}
use Rattle.text.specs.Listing.{line, pairs_text, pair_line, plan_text, refused_text, answer_text, listing}
use Rattle.text.specs.Sums.{Listable, sum_line, head_line, sums_text}
use Rattle.text.proofs.FieldLaws.{TextLaid, then}

-- ---- the first line and the rows

pub sums-long : (h : Header) (t : Totals) (sums : List ℕ)
    → length (sums_text h t sums) ≡ length (head_line h t) + length (pairs_text (sum_line h.nodes (whole - t.mass) sums) h.nodes)
unfolding sums_text
sums-long h t sums = length-append (head_line h t) _

pub sums-laid : (h : Header) (t : Totals) (sums out out₁ out₂ : List ℕ) (at r : ℕ)
    → (out₁ ≡ sets out 0 (head_line h t)) × (at ≡ length (head_line h t))
    → TextLaid out₁ at (pairs_text (sum_line h.nodes (whole - t.mass) sums) h.nodes) out₂ r
    → (out₂ ≡ sets out 0 (sums_text h t sums)) × (r ≡ length (sums_text h t sums))
unfolding sums_text
sums-laid h t sums out out₁ out₂ at r e f =
    let l =
    then out out₁ out₂ 0 at r (head_line h t) (pairs_text (sum_line h.nodes (whole - t.mass) sums) h.nodes) (e.0, omega (arith, e.1)) f in
    (l.0, omega (arith, l.1))

pub listable : (n mass : ℕ) (sums : List ℕ) → BoundsFit n mass sums sums sums → Listable n (whole - mass) sums
listable n mass sums g = record { few = g.few; sized = g.sized; fits = λ i. omega (arith, g.below i) }

-- ---- texts that are the same for each pair

module _ (f g : ℕ → ℕ → List ℕ) (n : ℕ) (same : (v w : ℕ) → v < w → w < n → f v w ≡ g v w) where
  row_same : (v w some : ℕ) → v < w → w + some ≤ n → row f v w some ≡ row g v w some
  unfolding row
  row_same v w zero h k = refl
  row_same v w (suc some) h k = ap₂ (λ (a : List ℕ) (b : List (List ℕ)). a ∷ b) (same v w h (omega arith)) (row_same v (suc w) some (omega arith) (omega arith))

  rows_same : (v some : ℕ) → v + some ≡ n → rows f n v some ≡ rows g n v some
  unfolding rows
  rows_same v zero e = refl
  rows_same v (suc some) e =
      ap₂ (λ (a b : List (List ℕ)). a ++ b) (row_same v (suc v) (n - suc v) (omega arith) (omega arith)) (rows_same (suc v) some (omega arith))

  pub pairs-same : pairs_text f n ≡ pairs_text g n
  unfolding table
  pairs-same = ap flatten (rows_same 0 n (omega arith))

-- ---- from the sums to the plan

module _ (p : Plan) (valid : plan_refusal p ≡ 0) (sums : List ℕ) (s : Summed intact p p.nodes sums) where
  line_same : (v w : ℕ) → v < w → w < p.nodes → sum_line p.nodes (whole - mass_examined p) sums v w ≡ pair_line intact p v w
  unfolding pair_line
  line_same v w h k =
      let low : get_or sums (place p.nodes v w) 0 ≡ lower_of intact p v w = s.each v w h k in
      ap₂ (λ (a b : ℕ). line (v ∷ w ∷ a ∷ b ∷ [])) low (ap (λ (x : ℕ). (whole - mass_examined p) + x) low ∙ raised intact p valid v w)

  -- the listing of a plan with the counts of its header
  plan-text : (links events : ℕ) → links ≡ length p.links → events ≡ length p.events
      → line (p.nodes ∷ links ∷ events ∷ count p ∷ complete p ∷ mass_examined p ∷ [])
      ++ pairs_text (sum_line p.nodes (whole - mass_examined p) sums) p.nodes
      ≡ plan_text intact p
  unfolding plan_text
  plan-text links events e f =
      ap₂ (λ (a b : List ℕ). a ++ b)
      (ap₂ (λ (a b : ℕ). line (p.nodes ∷ a ∷ b ∷ count p ∷ complete p ∷ mass_examined p ∷ [])) e f)
      (pairs-same (sum_line p.nodes (whole - mass_examined p) sums) (pair_line intact p) p.nodes line_same)

pub sums-text : (h : Header) (links words sums : List ℕ) (t : Totals) → plan_refusal (plan_of_lists h links words) ≡ 0
    → t ≡ totals_of (plan_of_lists h links words) → Summed intact (plan_of_lists h links words) h.nodes sums
    → sums_text h t sums ≡ plan_text intact (plan_of_lists h links words)
unfolding sums_text plan_of_lists
sums-text h links words sums t valid e s =
    ap (λ (x : Totals). head_line h x ++ pairs_text (sum_line h.nodes (whole - x.mass) sums) h.nodes) e
    ∙ plan-text (plan_of_lists h links words) valid sums s h.links h.events
    (sym (length-links-of h.links links))
    (sym (length-events-of h.events words))

-- ---- from the plan to the file

pub refused-listing : (b : List ℕ) (n : ℕ) (r : Refusal) → n ≡ number r → number r ≡ refusal b → refused_text n ≡ listing intact b
unfolding listing answer_text
refused-listing b n r e f = ap refused_text (e ∙ f) ∙ go (refusal b) (λ z. number-some r (f ∙ z))
  where
    go : (k : ℕ) → (k ≡ 0 → ⊥) → refused_text k ≡ answer_text intact k (plan_of b)
    go zero n = absurd (n refl)
    go (suc k) n = refl

module _ (b links words : List ℕ) (h : Header) (e : h ≡ header_of b) (z : refusal b ≡ 0) (l : refusal b ≡ 0 → Loaded b links words) where
  pub loaded-valid : plan_refusal (plan_of_lists h links words) ≡ 0
  loaded-valid = subst (λ (x : Header). plan_refusal (plan_of_lists x links words) ≡ 0) (sym e) (l z).valid

  pub accepted-listing : plan_text intact (plan_of_lists h links words) ≡ listing intact b
  unfolding listing answer_text
  accepted-listing =
      ap (λ (x : Header). plan_text intact (plan_of_lists x links words)) e
      ∙ ap (plan_text intact) (l z).denoted
      ∙ ap (λ (k : ℕ). answer_text intact k (plan_of b)) (sym z)

-- ---- the answer

-- the text fits the output, and is copied there
pub text-copied : (size : ℕ) (buffer made text out out' : List ℕ) → length text ≤ length buffer
    → made ≡ sets buffer 0 text → size ≡ length text → size ≤ length out → out' ≡ sets out 0 (take size made)
    → out' ≡ filled (room_test (length out) (length text)) text out
text-copied size buffer made text out out' fit m s room e =
    let copy : take size made ≡ text = ap₂ (λ (n : ℕ) (x : List ℕ). take n x) s m ∙ take-sets buffer text fit in
    let enough : length text ≤ length out = omega arith in
    rw (le-ltb (length out) (length text) enough) (e ∙ ap (sets out 0) copy)

-- what was laid down has room where it was laid down
pub size-kept : (buffer made text : List ℕ) (size : ℕ) → made ≡ sets buffer 0 text → size ≡ length text → length text ≤ length buffer → size ≤ length made
size-kept buffer made text size e s h =
    subst (λ (n : ℕ). n ≤ length made) (sym s) (subst (λ (n : ℕ). length text ≤ n) (sym (ap length e ∙ length-sets buffer 0 text)) h)

-- a text under another name
pub fits-as : (x y out : List ℕ) → x ≡ y → length y ≤ length out → length x ≤ length out
fits-as x y out e h = rw e h

pub laid_as : (x y out out' : List ℕ) (r : ℕ) → x ≡ y → (out' ≡ sets out 0 x) × (r ≡ length x) → (out' ≡ sets out 0 y) × (r ≡ length y)
laid_as x y out out' r e l = subst (λ (z : List ℕ). (out' ≡ sets out 0 z) × (r ≡ length z)) e l
