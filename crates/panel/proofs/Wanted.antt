-- How many ends a go-on is to reach, and its answer in each case.
-- Assumes nothing.
use mathlib.Core.Path.{◌≡◌, refl, sym, ap, subst, ◌∙◌}
use mathlib.Core.Bool.{true, false}
use mathlib.Core.Logic.{◌⊎◌, inl, inr}
use mathlib.Core.List.{[]}
use Prim.Native.Nat.{ℕ, ◌+◌, ◌-◌, ◌≤◌, ◌<◌, min}
use native.Mathlib.Decide.{dec_lt}
use native.Mathlib.Omega.{arith}
use borrow.Author.Tests.{lt-ltb, le-ltb, eqb-true, ne_eqb}
use lib.Dec.{eqb}
use lib.ListN.{length}
use Rattle.std.specs.Prelude.{Ok, Err}
use Rattle.mass.specs.Refusal.{number}
use Rattle.mass.specs.declared.refusal.Refusal.{Refusal}
use Rattle.mass.proofs.RefusalLaws.{number-some as refused-some}
use Rattle.sets.proofs.Bools.{which, so-unless}
use Rattle.plan.specs.Plan.{Plan}
use Rattle.network.specs.Outage.{intact}
use Rattle.walk.specs.Stack.{to_come}
use Rattle.walk.proofs.Resume.{none-to-come, some-to-come}
use Rattle.walk_state.specs.Sound.{sound}
use Rattle.panel.specs.Walks.{ends_to_come, ends_left, WalkAt}
use Rattle.panel.specs.Calls.{quota_test, ends_wanted, go_on_number, gone_on, WentOn}
use Rattle.panel.specs.Steps.{open_ends, ends_there, WalkedOn}
use Rattle.walk_state.specs.declared.Walk.{Walk}
use Rattle.panel.specs.declared.Quota.{Quota}
use Rattle.walk_state.proofs.SoundLaws.{sound-is}
use Rattle.panel.proofs.GoingOn.{sound-stack}

-- ---- the smallest of k, what the cap allows (c), what is to come (n) and the quota (q)

some-wanted : (k c n : ℕ) → 0 < min k c → 0 < n → 0 < min k (min c n)
some-wanted k c n a b = omega arith

smallest : (k c n q allowed : ℕ) → allowed ≡ min (min k c) q → min allowed n ≡ min (min k (min c n)) q
smallest k c n q allowed fits = omega arith

within : (k c q allowed : ℕ) → allowed ≡ min (min k c) q → allowed ≤ q
within k c q allowed fits = omega arith

put_back : (q x : ℕ) → x ≤ q → q - x + x ≡ q
put_back q x h = omega arith

-- ---- the ends that the cap allows

module _ (w : Walk) where
  pub open-unsound : sound w ≡ false → open_ends w ≡ 0
  unfolding open_ends
  open-unsound e = rw (e, open_ends)

  pub open-ended : 512 ≤ w.at → sound w ≡ true → open_ends w ≡ 0
  unfolding open_ends
  open-ended h e = rw (e, le-ltb w.at 512 h, open_ends)

  pub open-sound : w.at < 512 → sound w ≡ true → open_ends w ≡ w.header.cap - w.reached
  unfolding open_ends
  open-sound h e = rw (e, lt-ltb w.at 512 h, open_ends)

  module _ (k : ℕ) where
    wanted-unsound : sound w ≡ false → ends_wanted w k ≡ 0
    unfolding ends_wanted
    wanted-unsound e = rw (e, ends_wanted)

    pub wanted-sound : sound w ≡ true → ends_wanted w k ≡ min k (ends_left w)
    unfolding ends_wanted
    wanted-sound e = rw (e, ends_wanted)

-- where the smaller of k and these is 0, no end is to be reached; else the walk is sound, and some are
module _ (w : Walk) (size : length w.stack ≡ 512) (k : ℕ) where
  none_left : sound w ≡ true → 512 ≤ w.at → length (ends_to_come w) ≡ 0
  none_left e h =
      let s = sound-stack w (sound-is w e) size in
      let last : w.at ≡ 512 = omega (arith, s.within) in
      let nothing : ends_to_come w ≡ [] =
      ap (λ (i : ℕ). to_come w.header.events w.header.threshold w.events i w.stack) last
      ∙ none-to-come w.header.events w.header.threshold w.events w.stack size in
      ap length nothing

  pub none_open : min k (open_ends w) ≡ 0 → ends_wanted w k ≡ 0
  none_open z = step (which (sound w)) (dec_lt w.at 512)
    where
      step : (sound w ≡ true) ⊎ (sound w ≡ false) → Dec (w.at < 512) → ends_wanted w k ≡ 0
      step (inr e) d = wanted-unsound w k e
      step (inl e) (yes h) = omega (arith, wanted-sound w k e, open-sound w h e)
      step (inl e) (no h) = omega (arith, wanted-sound w k e, none_left e (omega arith))

  -- what holds where an end may be reached
  pub record Open : Type 0 where
    pub is-sound : sound w ≡ true
    pub allows : open_ends w ≡ w.header.cap - w.reached
    pub some : 0 < length (ends_to_come w)
    pub wanted : 0 < ends_wanted w k

  pub some-open : 0 < min k (open_ends w) → Open
  some-open z = step (which (sound w)) (dec_lt w.at 512)
    where
      step : (sound w ≡ true) ⊎ (sound w ≡ false) → Dec (w.at < 512) → Open
      step (inr e) d = absurd (omega (arith, open-unsound w e))
      step (inl e) (no h) = absurd (omega (arith, open-ended w (omega arith) e))
      step (inl e) (yes h) =
          let some = some-to-come w.header.events w.header.threshold w.events w.at w.stack (sound-stack w (sound-is w e) size) h in
          let left = open-sound w h e in
          record {
            is-sound = e;
            allows = left;
            some = some;
            wanted = rw (wanted-sound w k e) (some-wanted k (w.header.cap - w.reached) (length (ends_to_come w)) (rw left at z) some);
          }

-- ---- the quota

pub quota-passed : (left : ℕ) → 0 < left → 0 ≡ quota_test left
quota-passed left h = rw (ne_eqb left 0 (λ z. omega arith))

-- ---- the answers

module _ (w : Walk) (quota : Quota) (k : ℕ) where
  pub number-none : ends_wanted w k ≡ 0 → go_on_number w quota k ≡ 0
  unfolding go_on_number
  number-none e = rw (e, go_on_number)

  pub number-some : 0 < ends_wanted w k → go_on_number w quota k ≡ quota_test quota.left
  unfolding go_on_number
  number-some h = rw (lt-ltb 0 (ends_wanted w k) h, go_on_number)

  -- 19 needs an empty quota
  pub not-empty : 0 < quota.left → go_on_number w quota k ≡ 0
  not-empty h = step (dec_lt 0 (ends_wanted w k))
    where
      step : Dec (0 < ends_wanted w k) → go_on_number w quota k ≡ 0
      step (yes some) = number-some some ∙ sym (quota-passed quota.left h)
      step (no none) = number-none (omega arith)

  -- no end more
  still : (p : Plan) (n : ℕ) → WalkAt intact p n w → WalkAt intact p (n + 0) w
  still p n at = let same : n ≡ n + 0 = omega arith in subst (λ (x : ℕ). WalkAt intact p x w) same at

  -- nothing is to be reached
  pub none-wanted : ends_wanted w k ≡ 0 → WentOn w quota k (gone_on (Ok 0) w quota)
  none-wanted e =
      record {
        number = sym (number-none e);
        reached = omega (arith, e);
        drawn = omega arith;
        unmoved = λ z. refl;
        moved = still;
      }

  -- the quota is empty
  pub none-drawn : 0 < ends_wanted w k → (r : Refusal) → number r ≡ quota_test quota.left → WentOn w quota k (gone_on (Err r) w quota)
  none-drawn some r e =
      record {
        number = e ∙ sym (number-some some);
        reached = omega (arith, empty);
        drawn = omega arith;
        unmoved = λ z. refl;
        moved = still;
      }
    where
      empty : quota.left ≡ 0
      empty = eqb-true quota.left 0 (so-unless (eqb quota.left 0) (λ f. refused-some r (e ∙ rw f)))

-- so many ends are allowed
module _ (w : Walk) (quota : Quota) (k : ℕ) (size : length w.stack ≡ 512) (o : Open w size k) (allowed : ℕ)
    (fits : allowed ≡ min (min k (open_ends w)) quota.left) where
  abbrev cap-left : ℕ
  cap-left = w.header.cap - w.reached

  fits-cap : allowed ≡ min (min k cap-left) quota.left
  fits-cap = fits ∙ ap (λ (x : ℕ). min (min k x) quota.left) o.allows

  pub under-cap : allowed + w.reached ≤ w.header.cap
  under-cap = omega (arith, fits-cap, (sound-is w o.is-sound).under-cap)

  -- the walk goes on to `r`, by so many ends as there are of those
  module _ (some : 0 < quota.left) (r : Walk) (reached : ℕ) (is : reached ≡ ends_there w allowed) (on : WalkedOn w allowed r) where
    reached-is : reached ≡ min (ends_wanted w k) quota.left
    reached-is =
        is
        ∙ smallest k cap-left (length (ends_to_come w)) quota.left allowed fits-cap
        ∙ ap (λ (x : ℕ). min x quota.left) (sym (wanted-sound w k o.is-sound))

    pub in-quota : reached ≤ quota.left
    in-quota = omega (arith, is, within k cap-left quota.left allowed fits-cap)

    pub went : WentOn w quota k (gone_on (Ok reached) r (record { left = quota.left - reached }))
    went =
        record {
          number = sym (not-empty w quota k some);
          reached = reached-is;
          drawn = put_back quota.left reached in-quota;
          unmoved = λ (z : reached ≡ 0). absurd (omega (arith, reached-is, some, o.wanted));
          moved = λ p n at. subst (λ (x : ℕ). WalkAt intact p (n + x) r) (sym is) (on.moved p n at);
        }
