use Rattle.std.proofs.Common.{rules, arith, ◌≡◌, ◌-◌, suc}
use Rattle.heads.proofs.Reading.{refused, past, failed, beyond, stopped, ended}
use Rattle.heads.proofs.Rows.{row_begun, row_next, row_stop, row_done}
use Rattle.expr.specs.Read.{read_expr, after_form}
use Rattle.expr.proofs.Rows.{mark_none, mark_then, kids_refused, items_read}
use Rattle.expr.proofs.+readers.Goals as goal

pub read_expr-returns-then-room-eq0 : goal.read_expr-returns-then-room-eq0
unfolding read_expr
read_expr-returns-then-room-eq0 t c = record { same = rw (c.if-room-eq0.true, ← c.too_deep.ensures); from = omega arith; within = omega arith }

pub read_expr-returns-in_err-form : goal.read_expr-returns-in_err-form
unfolding read_expr after_form
read_expr-returns-in_err-form t c =
    let e : c.args.room ≡ suc (c.args.room - 1) = omega arith in
    rw e (search (rules, past, failed, beyond, stopped, ended))

pub read_expr-returns-in_err-at : goal.read_expr-returns-in_err-at
unfolding read_expr after_form
read_expr-returns-in_err-at t c =
    let e : c.args.room ≡ suc (c.args.room - 1) = omega arith in
    rw e (search (rules, past, failed, beyond, stopped, ended))

pub read_expr-returns-in_err-at-2 : goal.read_expr-returns-in_err-at-2
read_expr-returns-in_err-at-2 t c = refused _ _ c.from_residual-in_err-at-2.ensures (kids_refused _ c.args.room (c.args.room - 1) (omega arith) c.in_ok-form.ensures.takes (rw c.has_pattern.ensures at c.in_ok-at.ensures) (rw c.kids.ensures at c.in_err-at-2.ensures))

pub read_expr-returns : goal.read_expr-returns
read_expr-returns t c = items_read _ c.args.room (c.args.room - 1) (omega arith) c.in_ok-form.ensures.takes (rw c.has_pattern.ensures at c.in_ok-at.ensures) (rw c.kids.ensures at c.in_ok-at-2.ensures) (rw c.items.ensures at c.read_marks.ensures)

pub read_kids-loop-init : goal.read_kids-loop-init
read_kids-loop-init t c = row_begun _ _ _ _ c.requires

pub read_kids-returns-in_err-p : goal.read_kids-returns-in_err-p
read_kids-returns-in_err-p t c = row_stop c.loop.invariant _ _ (omega arith) c.in_err-p.ensures c.from_residual.ensures

pub read_kids-loop-preserved : goal.read_kids-loop-preserved
read_kids-loop-preserved t c = row_next c.loop.invariant (omega arith) c.in_ok-p.ensures

pub read_kids-returns : goal.read_kids-returns
read_kids-returns t c = row_done c.loop.invariant (omega arith)

pub read_parts-loop-init : goal.read_parts-loop-init
read_parts-loop-init t c = row_begun _ _ _ _ c.requires

pub read_parts-returns-in_err-p : goal.read_parts-returns-in_err-p
read_parts-returns-in_err-p t c = row_stop c.loop.invariant _ _ (omega arith) c.in_err-p.ensures c.from_residual.ensures

pub read_parts-loop-preserved : goal.read_parts-loop-preserved
read_parts-loop-preserved t c = row_next c.loop.invariant (omega arith) c.in_ok-p.ensures

pub read_parts-returns : goal.read_parts-returns
read_parts-returns t c = row_done c.loop.invariant (omega arith)

pub read_elems-loop-init : goal.read_elems-loop-init
read_elems-loop-init t c = row_begun _ _ _ _ c.requires

pub read_elems-returns-in_err-p : goal.read_elems-returns-in_err-p
read_elems-returns-in_err-p t c = row_stop c.loop.invariant _ _ (omega arith) c.in_err-p.ensures c.from_residual.ensures

pub read_elems-loop-preserved : goal.read_elems-loop-preserved
read_elems-loop-preserved t c = row_next c.loop.invariant (omega arith) c.in_ok-p.ensures

pub read_elems-returns : goal.read_elems-returns
read_elems-returns t c = row_done c.loop.invariant (omega arith)

pub read_marks-loop-init : goal.read_marks-loop-init
read_marks-loop-init t c = row_begun _ _ _ _ c.requires

pub read_marks-returns : goal.read_marks-returns
read_marks-returns t c = row_done c.loop.invariant (omega arith)

pub read_marks-returns-in_err-mark : goal.read_marks-returns-in_err-mark
read_marks-returns-in_err-mark t c = row_stop c.loop.invariant _ _ (omega arith) (mark_none _ _ (rw (c.low.ensures, c.high.ensures) at c.in_err-mark.ensures.takes)) c.from_residual.ensures

pub read_marks-returns-in_err-p : goal.read_marks-returns-in_err-p
read_marks-returns-in_err-p t c = row_stop c.loop.invariant _ _ (omega arith) (mark_then _ _ (rw (c.low.ensures, c.high.ensures) at c.in_ok-mark.ensures.takes) (rw c.kids.ensures at c.in_err-p.ensures)) c.from_residual-in_err-p.ensures

pub read_marks-loop-preserved : goal.read_marks-loop-preserved
read_marks-loop-preserved t c = row_next c.loop.invariant (omega arith) (mark_then _ _ (rw (c.low.ensures, c.high.ensures) at c.in_ok-mark.ensures.takes) (rw c.kids.ensures at c.in_ok-p.ensures))
