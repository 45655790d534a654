-- `panel::calls::go_on` meets its contract: at each `return` the tests that led there decide the answer. Assumes nothing.
use Rattle.std.proofs.lemmas.Result.{err_from_is_err_and}
use mathlib.Core.Path.{◌≡◌, ap, ◌∙◌}
use Prim.Native.Nat.{ℕ, min}
use native.Mathlib.Omega.{arith}
use Rattle.panel.specs.Steps.{open_ends}
use Rattle.panel.proofs.Wanted.{Open, none_open, some-open, none-wanted, none-drawn, under-cap, in-quota, went}
use Rattle.panel.proofs.calls.go_on.Goals.{After-min-wanted, After-min, Else-wanted-eq0}
use Rattle.panel.proofs.calls.go_on.Goals as goal

-- how many ends are wanted at most
wanted : (c : After-min-wanted) → (let a = c.args in c.min-wanted.result ≡ min a.k (open_ends a.walk.now))
wanted c = c.min-wanted.ensures ∙ ap (min c.args.k) c.ends_open.ensures.allowed

-- past the first test, some are there
opened : (c : Else-wanted-eq0) → Open c.args.walk.now c.ends_open.ensures.sized c.args.k
opened c = some-open _ _ _ (omega (arith, c.min-wanted.ensures, c.ends_open.ensures.allowed, c.if-wanted-eq0.false))

-- how many are allowed
allowed : (c : After-min) → (let a = c.args in c.min.result ≡ min (min a.k (open_ends a.walk.now)) a.quota.now.left)
allowed c =
    c.min.ensures
    ∙ ap (λ (x : ℕ). min x c.args.quota.now.left) (c.min-wanted.ensures ∙ ap (min c.args.k) c.ends_open.ensures.allowed)

pub returns-then-wanted-eq0 : goal.returns-then-wanted-eq0
returns-then-wanted-eq0 c =
    let a = c.args in
    let none : min a.k (open_ends a.walk.now) ≡ 0 = omega (arith, wanted (goal.at.returns-then-wanted-eq0 c).After-min-wanted, c.if-wanted-eq0.true) in
    none-wanted _ _ _ (none_open a.walk.now c.ends_open.ensures.sized a.k none)

pub returns-in_err-quota_test : goal.returns-in_err-quota_test
returns-in_err-quota_test c =
    let p = err_from_is_err_and c.from_residual.result c.from_residual.ensures.1 in
    let o = opened (goal.at.returns-in_err-quota_test c).Else-wanted-eq0 in
    rw (p.1, p.2) (none-drawn _ _ _ o.wanted _ c.in_err-quota_test.ensures.number)

pub reach_ends-reached-requires : goal.reach_ends-reached-requires
reach_ends-reached-requires c =
    let a = c.args in
    let at = goal.at.reach_ends-reached-requires c in
    let o = opened at.Else-wanted-eq0 in
    (o.is-sound, under-cap a.walk.now a.quota.now a.k c.ends_open.ensures.sized o _ (allowed at.After-min))

pub overflow_sub-quota : goal.overflow_sub-quota
overflow_sub-quota c =
    let a = c.args in
    let at = goal.at.overflow_sub-quota c in
    in-quota a.walk.now a.quota.now a.k c.ends_open.ensures.sized (opened at.Else-wanted-eq0) _ (allowed at.After-min) c.in_ok-quota_test.ensures.some
    c.reach_ends-reached.new.walk
    _
    c.reach_ends-reached.ensures.reached
    c.reach_ends-reached.ensures.walked

pub returns : goal.returns
returns c =
    let a = c.args in
    let at = goal.at.returns c in
    went a.walk.now a.quota.now a.k c.ends_open.ensures.sized (opened at.Else-wanted-eq0) _ (allowed at.After-min) c.in_ok-quota_test.ensures.some
    _
    _
    c.reach_ends-reached.ensures.reached
    c.reach_ends-reached.ensures.walked
