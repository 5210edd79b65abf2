-- Nothing is taken at first; projections and filter, and then what they took is bound in a new Root. Without keys it alone is visible there. With
-- keys the new Root is above what was visible, unless a star carries that; there they are walked, and then what was taken alone is seen.
use Prim.Native.Nat.{◌≤◌}
use mathlib.Core.Path.{◌≡◌}
use mathlib.Core.Bool.{false, cond}
use native.Mathlib.Omega.{arith}
use Rattle.std.proofs.Common.{rules}
use Rattle.steps.specs.Modes.{mode_of}
use Rattle.with_walk.specs.Binds.{sorts}
use Rattle.with_walk.proofs.Withs.{filtered, with-refused, with-asks, with-passes, keys-ask, keys-refused, again-asks, sorted-passes}
use Rattle.with_walk.proofs.walk_with.Goals.{then-pairs, else-pairs}
use Rattle.with_walk.proofs.walk_with.Goals as goal

pub returns-in_err-walk_filtered-clause-passes : goal.returns-in_err-walk_filtered-clause-passes
returns-in_err-walk_filtered-clause-passes c =
    with-refused (mode_of c.args.mode) (sorts c.args.head.kind) c.args.head.start c.args.head.end _ c.in_err-walk_filtered.ensures c.from_residual.ensures

-- sort keys
pub bind_with-requires : goal.bind_with-requires
bind_with-requires c =
    with-asks c.requires.0 c.requires.1 (filtered (mode_of c.args.mode) c.in_ok-walk_filtered.ensures) (omega arith)

pub walk_counted-requires : goal.walk_counted-requires
walk_counted-requires c =
    keys-ask c.requires.0 c.requires.1 (filtered (mode_of c.args.mode) c.in_ok-walk_filtered.ensures) c.bind_with.ensures (omega arith)

pub returns-in_err-walk_counted-in-SortedWith-clause-passes : goal.returns-in_err-walk_counted-in-SortedWith-clause-passes
returns-in_err-walk_counted-in-SortedWith-clause-passes c =
    rw c.in-SortedWith.is (keys-refused c.requires.0 c.requires.1 (filtered (mode_of c.args.mode) c.in_ok-walk_filtered.ensures) c.bind_with.ensures _ c.in_err-walk_counted-in-SortedWith.ensures c.from_residual-in_err-walk_counted-in-SortedWith.ensures)

pub see_again-requires : goal.see_again-requires
see_again-requires c =
    again-asks c.requires.0 c.requires.1 (filtered (mode_of c.args.mode) c.in_ok-walk_filtered.ensures) c.bind_with.ensures c.in_ok-walk_counted-in-SortedWith.ensures

pub returns-in_ok-walk_counted-in-SortedWith-clause-passes : goal.returns-in_ok-walk_counted-in-SortedWith-clause-passes
returns-in_ok-walk_counted-in-SortedWith-clause-passes c =
    rw c.in-SortedWith.is (sorted-passes c.requires.0 c.requires.1 (filtered (mode_of c.args.mode) c.in_ok-walk_filtered.ensures) c.bind_with.ensures c.in_ok-walk_counted-in-SortedWith.ensures c.see_again.ensures)

-- none
pub bind_with-requires-in_default : goal.bind_with-requires-in_default
bind_with-requires-in_default c =
    let low : c.if-pairs.top ≤ c.args.walk.now.visible.top = elim c.if-pairs.branch [ then-pairs w ↦ omega (arith, w.top-is) | else-pairs w ↦ omega (arith, w.top-is) ] in
    with-asks c.requires.0 c.requires.1 (filtered (mode_of c.args.mode) c.in_ok-walk_filtered.ensures) low

pub returns-after-pairs : goal.returns-after-pairs
returns-after-pairs c =
    let is : c.if-pairs.top ≡ cond c.walk_filtered.new.pairs.star c.args.walk.now.visible.top 0 = elim c.if-pairs.branch [ then-pairs w ↦ rw (w.top-is, w.if-pairs.true) | else-pairs w ↦ rw (w.top-is, w.if-pairs.false) ] in
    let none : sorts c.args.head.kind ≡ false = search rules in
    record { kept = search rules; passes = rw none (with-passes c.requires.0 c.requires.1 (filtered (mode_of c.args.mode) c.in_ok-walk_filtered.ensures) is c.bind_with-in_default.ensures) }
