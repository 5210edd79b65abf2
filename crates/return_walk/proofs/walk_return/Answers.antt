-- The scope is opened and left, projections and sort keys are walked from outside it, and it is current with the names that were visible
-- (`return-passes`).
use Rattle.std.specs.Prelude.{Ok}
use Rattle.std.proofs.Common.{rules}
use mathlib.Core.Path.{◌≡◌, refl}
use mathlib.Core.Bool.{true, false}
use Rattle.clauses.specs.Read.{max_depth}
use Rattle.steps.specs.Modes.{mode_of}
use Rattle.walk.specs.Goes.{Walked}
use Rattle.return_walk.specs.Returns.{sorts, outside_at}
use Rattle.return_walk.proofs.Returned.{outside-ready, return_refused, leave-asks, return-passes}
use Rattle.return_walk.proofs.walk_return.Goals.{in-SortedReturn+in_ok-walk_sorted-in-SortedReturn, in_default+in_ok-walk_returned-in_default}
use Rattle.return_walk.proofs.walk_return.Goals as goal

pub walk_sorted-requires : goal.walk_sorted-requires
walk_sorted-requires c =
    (rw c.in-SortedReturn.is at c.requires.0, outside-ready c.requires.1.1 c.enter.ensures c.leave.ensures)

pub walk_returned-requires : goal.walk_returned-requires
walk_returned-requires c =
    outside-ready c.requires.1.1 c.enter.ensures c.leave.ensures

pub returns-in_err-walk_sorted-in-SortedReturn-clause-passes : goal.returns-in_err-walk_sorted-in-SortedReturn-clause-passes
returns-in_err-walk_sorted-in-SortedReturn-clause-passes c =
    rw c.in-SortedReturn.is (return_refused c.requires.1.1 c.enter.ensures c.leave.ensures (mode_of c.args.mode) true c.requires.1.0 _ c.in_err-walk_sorted-in-SortedReturn.ensures.walked c.from_residual.ensures)

pub returns-in_err-walk_returned-in_default : goal.returns-in_err-walk_returned-in_default
returns-in_err-walk_returned-in_default c =
    let none : sorts c.args.head.kind ≡ false = search rules in
    record {
      same = refl;
      kept = refl;
      passes = rw none (return_refused c.requires.1.1 c.enter.ensures c.leave.ensures (mode_of c.args.mode) false c.requires.1.0 _ c.in_err-walk_returned-in_default.ensures c.from_residual-in_err-walk_returned-in_default.ensures);
    }

pub leave-requires-2 : goal.leave-requires-2
leave-requires-2 c =
    let m = mode_of c.args.mode in
    elim c.match-head.branch [
      | in-SortedReturn+in_ok-walk_sorted-in-SortedReturn w ↦ rw w.walk-is (leave-asks c.requires.1.1 c.enter.ensures c.leave.ensures m true c.requires.1.0 w.in_ok-walk_sorted-in-SortedReturn.ensures.walked)
      | in_default+in_ok-walk_returned-in_default w ↦ rw w.walk-is (leave-asks c.requires.1.1 c.enter.ensures c.leave.ensures m false c.requires.1.0 w.in_ok-walk_returned-in_default.ensures)
    ]

pub returns-clause-passes : goal.returns-clause-passes
returns-clause-passes c =
    let a = c.args in
    let outside : Walked max_depth a.context.now c.leave.new.self c.match-head.walk (outside_at a.context.now (mode_of a.mode) (sorts a.head.kind)) (Ok tt) =
    elim c.match-head.branch [
      | in-SortedReturn+in_ok-walk_sorted-in-SortedReturn w ↦ rw (w.walk-is, w.in-SortedReturn.is) w.in_ok-walk_sorted-in-SortedReturn.ensures.walked
      | in_default+in_ok-walk_returned-in_default w ↦ let none : sorts a.head.kind ≡ false = search rules in rw (w.walk-is, none) w.in_ok-walk_returned-in_default.ensures
    ] in
    return-passes c.requires.1.1 c.enter.ensures c.leave.ensures (mode_of a.mode) (sorts a.head.kind) c.requires.1.0 outside c.leave-2.ensures
