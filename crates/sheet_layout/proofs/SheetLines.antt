-- Lines of a sheet, from records to bytes and back.
-- Assumes nothing.
use mathlib.Core.Path.{◌≡◌, refl, sym, ap, ◌∙◌}
use mathlib.Core.List.{List, [], ◌∷◌, ◌++◌}
use Prim.Native.Nat.{ℕ, zero, suc, ◌+◌, ◌*◌, ◌^◌, ◌<◌, ◌≤◌}
use native.Mathlib.Omega.{arith}
use lib.ListN.{length, get_or, take, drop, length-drop, take-append-drop}
use lib.Seq.{length-take-le, drop_at, drop-drop, drop-cons}
use Rattle.mass.specs.Refusal.{first}
use Rattle.mass.proofs.RefusalLaws.{first-none}
use Rattle.refusals.proofs.TestLaws.{short_none, short-pass, left-none}
use Rattle.plan.specs.Layout.{value, little, members, member_count, Bytes}
use Rattle.plan.specs.File.{members_refusal}
use Rattle.plan_layout.proofs.LayoutNumbers.{value-little, value-lt, little-again, bytes_drop, bytes_take}
use Rattle.plan_layout.proofs.LayoutMembers.{members-accepted, nodes-back, links-back, length-event-members, sets-read}
use Rattle.sheets.specs.Sheet.{Line, unavailability, event_of_line}
use Rattle.sheets.specs.Valid.{ValidLine, ValidLines}
use Rattle.sheets.specs.SheetLayout.{line_bytes}
use Rattle.sheets.specs.SheetFile.{product_test, fit_in, hours_in, extent_in, line_members_in, line_size, line_refusal, lines_refusal}
use Rattle.sheets.specs.SheetFile.{line_in, lines_at}
use Rattle.sheets.proofs.CheckLaws.{product-none, product-pass}

-- what an accepted line says
pub record AcceptedLine (nodes links : ℕ) (b : List ℕ) : Type 0 where
  pub long : 13 ≤ length b
  pub inside : members_refusal nodes links 0 (line_members_in b) (drop 13 b) ≡ 0
  pub probable : product_test (fit_in b) (hours_in b) (extent_in b) ≡ 0

pub line-none : (nodes links : ℕ) (b : List ℕ) → line_refusal nodes links b ≡ 0 → AcceptedLine nodes links b
unfolding line_refusal
line-none nodes links b e =
    let a = first-none _ _ e in
    let m = first-none _ _ a.1 in
    record { long = short_none (length b) 13 a.0; inside = m.0; probable = (first-none _ _ m.1).0 }

pub line-pass : (nodes links : ℕ) (b : List ℕ) → AcceptedLine nodes links b → line_refusal nodes links b ≡ 0
unfolding line_refusal first
line-pass nodes links b a = rw (short-pass (length b) 13 a.long, a.inside, a.probable)

pub lines_none : (nodes links count : ℕ) (b : List ℕ) → lines_refusal nodes links (suc count) b ≡ 0
    → (line_refusal nodes links b ≡ 0) × (lines_refusal nodes links count (drop (line_size b) b) ≡ 0)
unfolding lines_refusal
lines_none nodes links count b e = let t = first-none _ _ e in (t.0, (first-none _ _ t.1).0)

-- the parts of a line's bytes, put together again
parts_again : (b : List ℕ) (k : ℕ) → 13 ≤ length b
    → take 4 b ++ (take 4 (drop 4 b) ++ (take 4 (drop 8 b) ++ (get_or b 12 0 ∷ (take k (drop 13 b) ++ drop (13 + k) b)))) ≡ b
parts_again b k h =
    rw (
      ← drop-drop k 13 b,
      take-append-drop k (drop 13 b),
      ← drop-cons b 12 0 h,
      ← drop-drop 4 8 b,
      take-append-drop 4 (drop 8 b),
      ← drop-drop 4 4 b,
      take-append-drop 4 (drop 4 b),
    )
    (take-append-drop 4 b)

-- a number of 32 bits fits four bytes
four_bytes : (x : ℕ) → x < 2 ^ 32 → x < 256 ^ 4
four_bytes x h = omega arith

-- the number in four bytes from a position on has 32 bits
pub field_fits : (at : ℕ) (b : List ℕ) → Bytes b → at + 4 ≤ length b → value (take 4 (drop at b)) < 2 ^ 32
field_fits at b bytes h =
    let long : length (take 4 (drop at b)) ≡ 4 = length-take-le 4 (drop at b) (omega (arith, length-drop at b)) in
    let fits : value (take 4 (drop at b)) < 256 ^ length (take 4 (drop at b)) =
    value-lt (take 4 (drop at b)) (bytes_take 4 (drop at b) (bytes_drop at b bytes)) in
    let low : value (take 4 (drop at b)) < 256 ^ 4 = rw long at fits in
    omega arith

-- the number in four bytes from a position on, written again
pub field-again : (at : ℕ) (b : List ℕ) → Bytes b → at + 4 ≤ length b → little 4 (value (take 4 (drop at b))) ≡ take 4 (drop at b)
field-again at b bytes h = little-again 4 (drop at b) (bytes_drop at b bytes) (omega (arith, length-drop at b))

module _ (nodes links : ℕ) (few : nodes ≤ 64) (some : links ≤ 128) where
  -- ---- from records to bytes

  -- the bytes of a line, before those of others
  module _ (l : Line) (ls : List Line) (v : ValidLine nodes links l) where
    fit-back : fit_in (line_bytes (l ∷ ls)) ≡ l.fit
    unfolding line_bytes little
    fit-back = unfold little in (value-little 4 l.fit (four_bytes l.fit v.fit-fits))

    hours-back : hours_in (line_bytes (l ∷ ls)) ≡ l.hours
    unfolding line_bytes little
    hours-back = unfold little in (value-little 4 l.hours (four_bytes l.hours v.hours-fit))

    extent-back : extent_in (line_bytes (l ∷ ls)) ≡ l.extent
    unfolding line_bytes little
    extent-back = unfold little in (value-little 4 l.extent (four_bytes l.extent v.extent-fits))

    line-back : line_in (line_bytes (l ∷ ls)) ≡ l
    unfolding line_bytes little
    line-back =
        rw (
          fit-back,
          hours-back,
          extent-back,
          nodes-back nodes links (event_of_line l) (line_bytes ls) few some v.within v.inside,
          links-back nodes links (event_of_line l) (line_bytes ls) few some v.within v.inside,
        )

    rest_back : drop (line_size (line_bytes (l ∷ ls))) (line_bytes (l ∷ ls)) ≡ line_bytes ls
    unfolding line_bytes little
    rest_back =
        sym (drop-drop (2 * member_count (event_of_line l)) 13 (line_bytes (l ∷ ls)))
        ∙ drop_at (members (event_of_line l)) (line_bytes ls) (2 * member_count (event_of_line l)) (length-event-members (event_of_line l))

    line-accepted : line_refusal nodes links (line_bytes (l ∷ ls)) ≡ 0
    unfolding line_bytes little
    line-accepted =
        line-pass nodes links (line_bytes (l ∷ ls))
        (record {
          long = omega arith;
          inside = members-accepted nodes links (event_of_line l) (line_bytes ls) few some v.within v.inside;
          probable = rw (fit-back, hours-back, extent-back) (product-pass l.fit l.hours l.extent v.probable);
        })

  first-line : (l : Line) (ls : List Line) → ValidLine nodes links l → lines_refusal nodes links (length ls) (line_bytes ls) ≡ 0
      → lines_refusal nodes links (suc (length ls)) (line_bytes (l ∷ ls)) ≡ 0
  unfolding lines_refusal first
  first-line l ls v rest = rw (line-accepted l ls v, rest_back l ls v, rest)

  first-listed : (l : Line) (ls : List Line) → ValidLine nodes links l → lines_at (length ls) (line_bytes ls) ≡ ls
      → lines_at (suc (length ls)) (line_bytes (l ∷ ls)) ≡ l ∷ ls
  unfolding lines_at
  first-listed l ls v rest = rw (line-back l ls v, rest_back l ls v, rest)

  -- the bytes of valid lines are accepted, and stand for the lines
  pub lines-accepted : (ls : List Line) → ValidLines nodes links ls
      → (lines_refusal nodes links (length ls) (line_bytes ls) ≡ 0) × (lines_at (length ls) (line_bytes ls) ≡ ls)
  lines-accepted [] v = (unfold lines_refusal line_bytes in refl, unfold lines_at in refl)
  lines-accepted (l ∷ ls) v =
      let rest = lines-accepted ls v.1 in
      (first-line l ls v.0 rest.0, first-listed l ls v.0 rest.1)

  -- ---- from bytes to records

  pub record ReadLines (count : ℕ) (b : List ℕ) : Type 0 where
    pub valid : ValidLines nodes links (lines_at count b)
    pub bytes : line_bytes (lines_at count b) ≡ b
    pub counted : length (lines_at count b) ≡ count

  no_line : (b : List ℕ) → lines_refusal nodes links 0 b ≡ 0 → ReadLines 0 b
  unfolding lines_refusal lines_at line_bytes
  no_line [] h = record { valid = tt; bytes = refl; counted = refl }
  no_line (x ∷ b) h = absurd (more (left-none (suc (length b)) h))
    where
      more : suc (length b) ≡ 0 → ⊥
      more z = omega arith

  one_line : (count : ℕ) (b : List ℕ) → Bytes b → AcceptedLine nodes links b → ReadLines count (drop (line_size b) b)
      → ReadLines (suc count) b
  unfolding lines_at line_bytes
  one_line count b bytes a rest =
      let r = sets-read nodes links few some (line_members_in b) (drop 13 b) a.inside in
      let long : 13 ≤ length b = a.long in
      record {
        valid = (
          record {
            fit-fits = field_fits 0 b bytes (omega arith);
            hours-fit = field_fits 4 b bytes (omega arith);
            extent-fits = field_fits 8 b bytes (omega arith);
            probable = product-none (fit_in b) (hours_in b) (extent_in b) a.probable;
            within = r.within;
            inside = r.inside;
          },
          rest.valid,
        );
        bytes =
            rw (
              rest.bytes,
              r.counted (unavailability (line_in b)),
              r.bytes (unavailability (line_in b)),
              field-again 0 b bytes (omega arith),
              field-again 4 b bytes (omega arith),
              field-again 8 b bytes (omega arith),
            )
            (parts_again b (2 * line_members_in b) long);
        counted = ap suc rest.counted;
      }

  -- accepted bytes of lines stand for valid lines, whose bytes they are
  pub lines-read : (count : ℕ) (b : List ℕ) → Bytes b → lines_refusal nodes links count b ≡ 0 → ReadLines count b
  lines-read zero b bytes h = no_line b h
  lines-read (suc count) b bytes h =
      let t = lines_none nodes links count b h in
      one_line count b bytes (line-none nodes links b t.0)
      (lines-read count (drop (line_size b) b) (bytes_drop (line_size b) b bytes) t.1)
