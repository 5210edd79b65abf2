-- A turn takes a plain head, whose parts join the row with a level of room less, or has an expression read whole. What is left tells the
-- answer unless room runs out (`Skimmed`), and each turn ends later, or leaves one less: the measure counts more for a word than a head
-- has parts.
use Rattle.std.proofs.Common.{arith}
use Rattle.flat.proofs.Skimmed.{found, skim-begin, skim-done, skim-next, skim-stop, skim-no, skim-parts, skim-none}
use Rattle.flat.proofs.skim.Goals as goal

pub loop-left-init : goal.loop-left-init
loop-left-init c = skim-begin _ _ _ _ _ (omega arith)

pub returns-in_err-q : goal.returns-in_err-q
returns-in_err-q c = skim-no c.loop-left.invariant (omega arith) (omega arith) _ _ c.in_err-q.ensures c.from_residual.ensures

pub overflow_add-left : goal.overflow_add-left
overflow_add-left c = let f = (found (rw c.in-Some.is at c.in_ok-q.ensures)) in omega arith

pub loop-left-smaller-then-m-gt0 : goal.loop-left-smaller-then-m-gt0
loop-left-smaller-then-m-gt0 c = let f = (found (rw c.in-Some.is at c.in_ok-q.ensures)) in omega arith

pub loop-left-preserved-then-m-gt0 : goal.loop-left-preserved-then-m-gt0
loop-left-preserved-then-m-gt0 c = skim-parts c.loop-left.invariant (omega arith) (omega arith) (found (rw c.in-Some.is at c.in_ok-q.ensures))

pub loop-left-smaller-else-m-gt0 : goal.loop-left-smaller-else-m-gt0
loop-left-smaller-else-m-gt0 c = let f = (found (rw c.in-Some.is at c.in_ok-q.ensures)) in omega arith

pub loop-left-preserved-else-m-gt0 : goal.loop-left-preserved-else-m-gt0
loop-left-preserved-else-m-gt0 c = skim-none c.loop-left.invariant (omega arith) (omega arith) (found (rw c.in-Some.is at c.in_ok-q.ensures)) (omega arith)

pub returns-in_err-p-in-None : goal.returns-in_err-p-in-None
returns-in_err-p-in-None c = skim-stop c.loop-left.invariant (omega arith) _ _ c.in_err-p-in-None.ensures c.from_residual-in_err-p-in-None.ensures

pub loop-left-preserved : goal.loop-left-preserved
loop-left-preserved c = skim-next c.loop-left.invariant (omega arith) c.in_ok-p-in-None.ensures

pub returns : goal.returns
returns c = skim-done c.loop-left.invariant (omega arith)
