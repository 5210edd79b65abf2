-- The passes so far looked at every level below low; what is left of the deepest level falls.
use native.Mathlib.Omega.{arith}
use mathlib.Core.Path.{◌∙◌}
use Rattle.condition_reader.proofs.Passes.{reject}
use Rattle.condition_reader.proofs.Whole.{none_yet, next, deepest-is, all-passed}
use Rattle.condition_reader.proofs.count.Goals as goal

pub loop-judged-init : goal.loop-judged-init
loop-judged-init c =
    none_yet

pub returns-in_err-judged : goal.returns-in_err-judged
returns-in_err-judged c =
    rw c.from_residual.ensures (reject _ _ _ _ _ (rw c.in_err-judged.was at c.judge.ensures))

pub overflow_sub-judged : goal.overflow_sub-judged
overflow_sub-judged c =
    let told = rw c.in_ok-judged.was at c.judge.ensures in
    let deep = told.1.1.0 ∙ deepest-is c.args.text.now c.loop-judged.low in
    omega (arith, deep)

pub returns-then-judged-low-lt-LEVELS : goal.returns-then-judged-low-lt-LEVELS
returns-then-judged-low-lt-LEVELS c =
    let told = rw c.in_ok-judged.was at c.judge.ensures in
    let deep = told.1.1.0 ∙ deepest-is c.args.text.now c.loop-judged.low in
    (all-passed (next c.loop-judged.invariant told.0) (omega (arith, deep)), (told.1.0, told.1.1.1))

pub loop-judged-smaller : goal.loop-judged-smaller
loop-judged-smaller c =
    let told = rw c.in_ok-judged.was at c.judge.ensures in
    let deep = told.1.1.0 ∙ deepest-is c.args.text.now c.loop-judged.low in
    omega (arith, deep)

pub loop-judged-preserved : goal.loop-judged-preserved
loop-judged-preserved c =
    let told = rw c.in_ok-judged.was at c.judge.ensures in
    next c.loop-judged.invariant told.0
