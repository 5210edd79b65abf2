-- The head's walk begins where nothing was walked, the arms' where the head ends; what each says makes up what the sheet's says. Each goes over
-- the context as it is cut then, and leaves the marks as they were.
use native.Mathlib.Omega.{arith}
use mathlib.Core.Path.{refl}
use Rattle.std.specs.Prelude.{Ok, Err}
use Rattle.sheet_walk.proofs.Section.{is-cut, tail-long, trailer-long, head-is, arms-are, asks-in, walks-no, walks-fell, walks-to}
use Rattle.sheet_walk.proofs.Whole.{head-to, arms-stand, head-fell, arms-told}
use Rattle.sheet_walk.proofs.walking.walk_all.Goals as goal

pub walk_clauses-requires : goal.walk_clauses-requires
walk_clauses-requires c =
    let q = c.requires.0 in
    asks-in q.set (is-cut c.args.p.tail c.args.context.now) (omega (arith, q.set.places)) _ refl q c.begin.ensures.stands

pub returns-in_err-walk_clauses-clause-walks : goal.returns-in_err-walk_clauses-clause-walks
returns-in_err-walk_clauses-clause-walks c =
    let h = c.requires.0.set in
    let b = c.begin.ensures in
    let k = is-cut c.args.p.tail c.args.context.now in
    let x = c.in_err-walk_clauses.ensures in
    head-fell b _ (walks-no k b.stands (head-is h k) x.takes (tail-long h) x.passes) c.from_residual.ensures

pub returns-in_err-check_end-clause-walks : goal.returns-in_err-check_end-clause-walks
returns-in_err-check_end-clause-walks c =
    let b = c.begin.ensures in
    let x = c.in_ok-walk_clauses.ensures in
    head-fell b _ (head-to c.requires.1 b x.takes x.passes (Err _) c.in_err-check_end.ensures) c.from_residual-in_err-check_end.ensures

pub walk_arms-requires : goal.walk_arms-requires
walk_arms-requires c =
    let q = c.requires.0 in
    let x = c.in_ok-walk_clauses.ensures in
    let st = arms-stand c.requires.1 c.begin.ensures x.takes x.passes c.in_ok-check_end.ensures in
    asks-in q.set (is-cut c.args.p.trailer c.args.context.now) (omega (arith, q.set.places)) _ refl (record { set = q.set; pairs = omega (arith, q.pairs, x.kept); clear = rw x.same q.clear }) st

pub returns-in_err-walk_arms-clause-walks : goal.returns-in_err-walk_arms-clause-walks
returns-in_err-walk_arms-clause-walks c =
    let h = c.requires.0.set in
    let b = c.begin.ensures in
    let k = is-cut c.args.p.trailer c.args.context.now in
    let x = c.in_ok-walk_clauses.ensures in
    let y = c.in_err-walk_arms.ensures in
    let st = arms-stand c.requires.1 b x.takes x.passes c.in_ok-check_end.ensures in
    arms-told b (head-to c.requires.1 b x.takes x.passes (Ok _) c.in_ok-check_end.ensures) _ h (walks-fell k st (arms-are h k) y.takes (trailer-long h) _ y.passes c.from_residual-in_err-walk_arms.ensures)

pub returns-clause-walks : goal.returns-clause-walks
returns-clause-walks c =
    let h = c.requires.0.set in
    let b = c.begin.ensures in
    let k = is-cut c.args.p.trailer c.args.context.now in
    let x = c.in_ok-walk_clauses.ensures in
    let y = c.in_ok-walk_arms.ensures in
    let st = arms-stand c.requires.1 b x.takes x.passes c.in_ok-check_end.ensures in
    arms-told b (head-to c.requires.1 b x.takes x.passes (Ok _) c.in_ok-check_end.ensures) _ h (walks-to k st (arms-are h k) y.takes (trailer-long h) y.passes _ c.check_end-2.ensures)
