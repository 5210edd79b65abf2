-- A head, what it does, and what follows it; a row, a mark, a pattern, a part and an element likewise (`Readings`). What a `?` hands up is refused
-- there (`unread`, `fell`), and the last walk's answer is the whole's (`tail`). A loop has so many rounds left (`Turning`), in two settings
-- (`Counting`), or at several levels (`Rowing`).
use native.Mathlib.Omega.{arith}
use mathlib.Core.Path.{refl, sym, ◌∙◌}
use Rattle.heads.proofs.Chain.{last}
use Rattle.heads.specs.Answer.{kind_of}
use Rattle.fused.specs.Fused.{expr_go}
use Rattle.steps.specs.Modes.{mode_of, setting_of}
use Rattle.steps.specs.Memory.{words_in}
use Rattle.walk.specs.Goes.{expr_at, elem_at, mark_at, part_at}
use Rattle.walk.proofs.Stage.{start, ready, stopped, unread, read, fell, go, tail, close, begun, turn, fall, over}
use Rattle.walk.proofs.Readings.{elem-begins, elem-read, elem-bound, part-begins, part-read, part-bound, pattern-begins, mark-begins, rest-begins, expr-begins, head-read, head-done}
use Rattle.walk.proofs.Paid.{form-paid, part-paid, elem-paid, mark-few}
use Rattle.walk.proofs.Climb.{Heading, count-begin, count-one, count-fall, count-done, row-begin, row-ready, row_done, row-pop, row_one, row-fall, act-asks, parts-ask, head-calm, head-acted, row-leaf, row-down}
use Rattle.walk.proofs.+walks.Goals.{walk_row-then-shows, walk_row-else-shows}
use Rattle.walk.proofs.+walks.Goals as goal

-- walk_elem
pub walk_elem-returns-in_err-h : goal.walk_elem-returns-in_err-h
walk_elem-returns-in_err-h t c =
    unread _ _ (elem-begins _ _ c.requires.1) c.in_err-h.ensures c.from_residual.ensures

pub walk_elem-bind_elem-requires : goal.walk_elem-bind_elem-requires
walk_elem-bind_elem-requires t c =
    ((elem-paid _ _ _ _ c.in_ok-h.ensures).2, ready (omega arith) c.requires.1 (elem-read c.args.room (mode_of c.args.mode) c.requires.1 c.in_ok-h.ensures))

pub walk_elem-walk_row-requires : goal.walk_elem-walk_row-requires
walk_elem-walk_row-requires t c =
    let answer = c.in_ok-h.ensures in
    let paid = elem-paid _ _ _ _ answer in
    let o = elem-bound c.args.room (mode_of c.args.mode) c.requires.1 c.in_ok-h.ensures c.bind_elem.ensures in
    (omega (arith, paid.0, answer.within, c.bind_elem.ensures.at, c.requires.0), ((c.requires.0, omega (arith, paid.1)), ready (omega arith) c.requires.1 o))

pub walk_elem-returns : goal.walk_elem-returns
walk_elem-returns t c =
    tail _ (omega arith) (elem-bound c.args.room (mode_of c.args.mode) c.requires.1 c.in_ok-h.ensures c.bind_elem.ensures) (rw c.all.ensures at c.walk_row.ensures)

-- walk_elems
pub walk_elems-loop-init : goal.walk_elems-loop-init
walk_elems-loop-init t c =
    let a = c.args in begun a.n (elem_at a.context.now a.room (mode_of a.mode)) c.requires.1

pub walk_elems-walk_elem-requires : goal.walk_elems-walk_elem-requires
walk_elems-walk_elem-requires t c =
    let o = c.loop.invariant.stage in (omega (arith, o.from, c.requires.0), (c.requires.0, ready (omega arith) c.requires.1 o))

pub walk_elems-returns-in_err-walk_elem : goal.walk_elems-returns-in_err-walk_elem
walk_elems-returns-in_err-walk_elem t c =
    fall c.loop.invariant _ (omega arith) c.in_err-walk_elem.ensures c.from_residual.ensures

pub walk_elems-loop-preserved : goal.walk_elems-loop-preserved
walk_elems-loop-preserved t c =
    turn c.loop.invariant (omega arith) (omega arith) c.in_ok-walk_elem.ensures

pub walk_elems-returns : goal.walk_elems-returns
walk_elems-returns t c =
    over c.loop.invariant (omega arith)

-- walk_expr
pub walk_expr-returns-then-room-eq0 : goal.walk_expr-returns-then-room-eq0
unfolding expr_go
walk_expr-returns-then-room-eq0 t c =
    let a = c.args in
    stopped (start (λ id u v. last (expr_at a.context.now a.room (mode_of a.mode) (setting_of a.set) id v)) c.requires.1 (λ id z r. refl)) (record { same = λ id z h. rw (c.if-room-eq0.true, ← c.too_deep.ensures) })

pub walk_expr-returns-in_err-f : goal.walk_expr-returns-in_err-f
walk_expr-returns-in_err-f t c =
    unread _ _ (expr-begins c.args.room (mode_of c.args.mode) c.requires.1 (setting_of c.args.set) (omega arith)) c.in_err-f.ensures.takes c.from_residual.ensures

pub walk_expr-begin-requires : goal.walk_expr-begin-requires
walk_expr-begin-requires t c =
    let answer = c.in_ok-f.ensures.takes in
    ((form-paid _ _ _ _ _ answer).1, ready (omega arith) c.requires.1 (head-read c.args.room (mode_of c.args.mode) c.requires.1 (setting_of c.args.set) (omega arith) answer))

pub walk_expr-walk_rest-requires : goal.walk_expr-walk_rest-requires
walk_expr-walk_rest-requires t c =
    let answer = c.in_ok-f.ensures.takes in
    let o = head-done c.args.room (mode_of c.args.mode) c.requires.1 (setting_of c.args.set) (omega arith) c.in_ok-f.ensures.takes c.begin.ensures in
    (omega (arith, c.in_ok-f.ensures.longer, answer.within, c.begin.ensures.at, c.requires.0), (omega (arith, c.requires.0), ready (omega arith) c.requires.1 o))

pub walk_expr-returns-in_err-walk_rest : goal.walk_expr-returns-in_err-walk_rest
walk_expr-returns-in_err-walk_rest t c =
    fell _ (head-done c.args.room (mode_of c.args.mode) c.requires.1 (setting_of c.args.set) (omega arith) c.in_ok-f.ensures.takes c.begin.ensures) c.in_err-walk_rest.ensures c.from_residual-in_err-walk_rest.ensures

pub walk_expr-finish-requires : goal.walk_expr-finish-requires
walk_expr-finish-requires t c =
    let o = go (head-done c.args.room (mode_of c.args.mode) c.requires.1 (setting_of c.args.set) (omega arith) c.in_ok-f.ensures.takes c.begin.ensures) c.in_ok-walk_rest.ensures (omega arith) in
    (o.keeps.kept.top, (ready {i = 0} (omega arith) c.requires.1 o).fit.sound)

pub walk_expr-returns : goal.walk_expr-returns
walk_expr-returns t c =
    close (mode_of c.args.mode) c.in_ok-f.f c.requires.1 (go (head-done c.args.room (mode_of c.args.mode) c.requires.1 (setting_of c.args.set) (omega arith) c.in_ok-f.ensures.takes c.begin.ensures) c.in_ok-walk_rest.ensures (omega arith)) c.finish.ensures

-- walk_many
pub walk_many-loop-init : goal.walk_many-loop-init
walk_many-loop-init t c =
    let a = c.args in count-begin a.room a.mode a.n a.settings c.requires.1

pub walk_many-walk_expr-requires : goal.walk_many-walk_expr-requires
walk_many-walk_expr-requires t c =
    let o = c.loop.invariant.stage in (omega (arith, o.from, c.requires.0), (c.requires.0, ready (omega arith) c.requires.1 o))

pub walk_many-returns-in_err-walk_expr : goal.walk_many-returns-in_err-walk_expr
walk_many-returns-in_err-walk_expr t c =
    count-fall c.loop.invariant _ (omega arith) c.in_err-walk_expr.ensures c.from_residual.ensures

pub walk_many-loop-preserved : goal.walk_many-loop-preserved
walk_many-loop-preserved t c =
    count-one c.loop.invariant (omega arith) c.in_ok-walk_expr.ensures

pub walk_many-returns : goal.walk_many-returns
walk_many-returns t c =
    count-done c.loop.invariant (omega arith)

-- walk_mark
pub walk_mark-returns-in_err-k : goal.walk_mark-returns-in_err-k
walk_mark-returns-in_err-k t c =
    unread _ _ (mark-begins c.args.room (mode_of c.args.mode) c.requires.1 (kind_of c.args.kind) c.low.ensures c.high.ensures) c.in_err-k.ensures.takes c.from_residual.ensures

pub walk_mark-walk_row-requires : goal.walk_mark-walk_row-requires
walk_mark-walk_row-requires t c =
    let answer = c.in_ok-k.ensures.takes in
    let few = mark-few (words_in c.args.context.now) c.args.walk.now.at c.in_ok-k.at (kind_of c.args.kind) c.in_ok-k.k (rw (c.low.ensures, c.high.ensures) at answer.same) in
    let o = read (mark-begins c.args.room (mode_of c.args.mode) c.requires.1 (kind_of c.args.kind) c.low.ensures c.high.ensures) 0 answer (omega arith) in
    (omega (arith, answer.within, c.in_ok-k.ensures.one, c.requires.0), ((c.requires.0, omega (arith, few, c.kids.ensures)), ready (omega arith) c.requires.1 o))

pub walk_mark-returns : goal.walk_mark-returns
walk_mark-returns t c =
    let answer = c.in_ok-k.ensures.takes in
    tail _ (omega arith) (read (mark-begins c.args.room (mode_of c.args.mode) c.requires.1 (kind_of c.args.kind) c.low.ensures c.high.ensures) 0 answer (omega arith)) (rw (c.all.ensures, c.kids.ensures) at c.walk_row.ensures)

-- walk_marks
pub walk_marks-loop-init : goal.walk_marks-loop-init
walk_marks-loop-init t c =
    let a = c.args in begun a.n (mark_at a.context.now a.room (mode_of a.mode) (kind_of a.kind)) c.requires.1

pub walk_marks-walk_mark-requires : goal.walk_marks-walk_mark-requires
walk_marks-walk_mark-requires t c =
    let o = c.loop.invariant.stage in (omega (arith, o.from, c.requires.0), (c.requires.0, ready (omega arith) c.requires.1 o))

pub walk_marks-returns-in_err-walk_mark : goal.walk_marks-returns-in_err-walk_mark
walk_marks-returns-in_err-walk_mark t c =
    fall c.loop.invariant _ (omega arith) c.in_err-walk_mark.ensures c.from_residual.ensures

pub walk_marks-loop-preserved : goal.walk_marks-loop-preserved
walk_marks-loop-preserved t c =
    turn c.loop.invariant (omega arith) (omega arith) c.in_ok-walk_mark.ensures

pub walk_marks-returns : goal.walk_marks-returns
walk_marks-returns t c =
    over c.loop.invariant (omega arith)

-- walk_part
pub walk_part-returns-in_err-h : goal.walk_part-returns-in_err-h
walk_part-returns-in_err-h t c =
    unread _ _ (part-begins _ _ c.requires.1) c.in_err-h.ensures c.from_residual.ensures

pub walk_part-bind_part-requires : goal.walk_part-bind_part-requires
walk_part-bind_part-requires t c =
    ready (omega arith) c.requires.1 (part-read c.args.room (mode_of c.args.mode) c.requires.1 c.in_ok-h.ensures)

pub walk_part-walk_elems-requires : goal.walk_part-walk_elems-requires
walk_part-walk_elems-requires t c =
    let answer = c.in_ok-h.ensures in
    let paid = part-paid _ _ _ _ answer in
    let o = part-bound c.args.room (mode_of c.args.mode) c.requires.1 c.in_ok-h.ensures c.bind_part.ensures in
    (omega (arith, paid.1, answer.within, c.bind_part.ensures.at, c.requires.0), (c.requires.0, ready (omega arith) c.requires.1 o))

pub walk_part-returns : goal.walk_part-returns
walk_part-returns t c =
    tail _ (omega arith) (part-bound c.args.room (mode_of c.args.mode) c.requires.1 c.in_ok-h.ensures c.bind_part.ensures) c.walk_elems.ensures

-- walk_parts
pub walk_parts-loop-init : goal.walk_parts-loop-init
walk_parts-loop-init t c =
    let a = c.args in begun a.n (part_at a.context.now a.room (mode_of a.mode)) c.requires.1

pub walk_parts-walk_part-requires : goal.walk_parts-walk_part-requires
walk_parts-walk_part-requires t c =
    let o = c.loop.invariant.stage in (omega (arith, o.from, c.requires.0), (c.requires.0, ready (omega arith) c.requires.1 o))

pub walk_parts-returns-in_err-walk_part : goal.walk_parts-returns-in_err-walk_part
walk_parts-returns-in_err-walk_part t c =
    fall c.loop.invariant _ (omega arith) c.in_err-walk_part.ensures c.from_residual.ensures

pub walk_parts-loop-preserved : goal.walk_parts-loop-preserved
walk_parts-loop-preserved t c =
    turn c.loop.invariant (omega arith) (omega arith) c.in_ok-walk_part.ensures

pub walk_parts-returns : goal.walk_parts-returns
walk_parts-returns t c =
    over c.loop.invariant (omega arith)

-- walk_pattern
pub walk_pattern-returns-in_err-n : goal.walk_pattern-returns-in_err-n
walk_pattern-returns-in_err-n t c =
    unread _ _ (pattern-begins c.args.room (mode_of c.args.mode) c.requires.1) c.in_err-n.ensures.takes c.from_residual.ensures

pub walk_pattern-returns : goal.walk_pattern-returns
walk_pattern-returns t c =
    let answer = c.in_ok-n.ensures.takes in
    tail _ (omega arith) (read (pattern-begins c.args.room (mode_of c.args.mode) c.requires.1) 0 answer (omega arith)) c.walk_parts.ensures

-- walk_rest
pub walk_rest-returns-in_err-walk_inner : goal.walk_rest-returns-in_err-walk_inner
walk_rest-returns-in_err-walk_inner t c =
    fell _ (rest-begins c.args.room (mode_of c.args.mode) c.requires.1 c.args.f (setting_of c.args.set)) c.in_err-walk_inner.ensures c.from_residual.ensures

pub walk_rest-walk_many-requires : goal.walk_rest-walk_many-requires
walk_rest-walk_many-requires t c =
    let o = go (rest-begins c.args.room (mode_of c.args.mode) c.requires.1 c.args.f (setting_of c.args.set)) c.in_ok-walk_inner.ensures (omega arith) in (omega (arith, o.from, c.requires.0), (omega (arith, c.requires.0), ready (omega arith) c.requires.1 o))

pub walk_rest-returns-in_err-walk_many : goal.walk_rest-returns-in_err-walk_many
walk_rest-returns-in_err-walk_many t c =
    fell _ (go (rest-begins c.args.room (mode_of c.args.mode) c.requires.1 c.args.f (setting_of c.args.set)) c.in_ok-walk_inner.ensures (omega arith)) (rw (c.kids.ensures, c.settings_of-settings.ensures) at c.in_err-walk_many.ensures) c.from_residual-in_err-walk_many.ensures

pub walk_rest-walk_marks-requires : goal.walk_rest-walk_marks-requires
walk_rest-walk_marks-requires t c = (
  omega (arith, c.in_ok-walk_inner.ensures.goes.from, c.in_ok-walk_many.ensures.goes.from, c.requires.0),
  (
    omega (arith, c.requires.0),
    ready (omega arith) c.requires.1
        (go (go (rest-begins c.args.room (mode_of c.args.mode) c.requires.1 c.args.f (setting_of c.args.set)) c.in_ok-walk_inner.ensures (omega arith)) (rw (c.kids.ensures, c.settings_of-settings.ensures) at c.in_ok-walk_many.ensures) (omega arith)),
  ),
)

pub walk_rest-returns : goal.walk_rest-returns
walk_rest-returns t c =
    tail _ (omega arith) (go (go (rest-begins c.args.room (mode_of c.args.mode) c.requires.1 c.args.f (setting_of c.args.set)) c.in_ok-walk_inner.ensures (omega arith)) (rw (c.kids.ensures, c.settings_of-settings.ensures) at c.in_ok-walk_many.ensures) (omega arith)) (rw c.items.ensures at c.walk_marks.ensures)

-- walk_row
pub walk_row-loop-left-init : goal.walk_row-loop-left-init
walk_row-loop-left-init t c =
    let a = c.args in row-begin a.room a.mode a.n a.settings c.requires.0.0 c.requires.0.1 c.requires.1

pub walk_row-returns-then-d-room : goal.walk_row-returns-then-d-room
walk_row-returns-then-d-room t c =
    row_done c.loop-left.invariant (omega arith) (omega arith)

pub walk_row-loop-left-preserved-then-left-eq0 : goal.walk_row-loop-left-preserved-then-left-eq0
walk_row-loop-left-preserved-then-left-eq0 t c =
    let i = c.loop-left.invariant in
    row-pop i (omega arith) (omega (arith, i.le, c.if-d-room.false)) (omega (arith, c.type_inv))

pub walk_row-walk_expr-requires : goal.walk_row-walk_expr-requires
walk_row-walk_expr-requires t c =
    let i = c.loop-left.invariant in
    (omega (arith, i.stage.from, (row-ready i c.requires.1).fit.within, c.requires.0), (omega (arith, i.le, i.low), row-ready i c.requires.1))

pub walk_row-returns-in_err-walk_expr : goal.walk_row-returns-in_err-walk_expr
walk_row-returns-in_err-walk_expr t c =
    row-fall c.loop-left.invariant _ (omega arith) c.in_err-walk_expr.ensures c.from_residual.ensures

pub walk_row-loop-left-preserved-then-t-eq0 : goal.walk_row-loop-left-preserved-then-t-eq0
walk_row-loop-left-preserved-then-t-eq0 t c =
    row_one c.loop-left.invariant (omega arith) c.in_ok-walk_expr.ensures

pub walk_row-act-requires : goal.walk_row-act-requires
walk_row-act-requires t c =
    act-asks c.loop-left.invariant c.word-code.ensures c.word-a.ensures c.if-left-eq0.false c.if-t-eq0.false c.plain_at-t.ensures c.requires.1

pub walk_row-parts_of-k-requires : goal.walk_row-parts_of-k-requires
walk_row-parts_of-k-requires t c =
    parts-ask c.loop-left.invariant c.word-code.ensures c.word-a.ensures c.if-left-eq0.false c.if-t-eq0.false c.plain_at-t.ensures

pub walk_row-loop-left-preserved-then-k-eq0 : goal.walk_row-loop-left-preserved-then-k-eq0
walk_row-loop-left-preserved-then-k-eq0 t c =
    let l = c.loop-left in
    let o : Heading c.args.context.now c.args.walk.now c.args.room c.args.mode c.args.n c.args.settings c.if-shows.walk l.left l.set l.later l.d c.plain_at-t.result c.word-code.result c.word-a.result =
    elim c.if-shows.branch [
      | walk_row-then-shows w ↦ rw w.walk-is (head-acted l.invariant c.word-code.ensures c.word-a.ensures c.if-left-eq0.false c.if-t-eq0.false c.plain_at-t.ensures w.act.ensures)
      | walk_row-else-shows w ↦ rw w.walk-is (head-calm l.invariant c.word-code.ensures c.word-a.ensures c.if-left-eq0.false c.if-t-eq0.false c.plain_at-t.ensures (sym c.shows.ensures ∙ w.if-shows.false))
    ] in
    row-leaf o c.parts_of-k.ensures c.if-k-eq0.true

pub walk_row-loop-left-preserved : goal.walk_row-loop-left-preserved
walk_row-loop-left-preserved t c =
    let l = c.loop-left in
    let o : Heading c.args.context.now c.args.walk.now c.args.room c.args.mode c.args.n c.args.settings c.if-shows.walk l.left l.set l.later l.d c.plain_at-t.result c.word-code.result c.word-a.result =
    elim c.if-shows.branch [
      | walk_row-then-shows w ↦ rw w.walk-is (head-acted l.invariant c.word-code.ensures c.word-a.ensures c.if-left-eq0.false c.if-t-eq0.false c.plain_at-t.ensures w.act.ensures)
      | walk_row-else-shows w ↦ rw w.walk-is (head-calm l.invariant c.word-code.ensures c.word-a.ensures c.if-left-eq0.false c.if-t-eq0.false c.plain_at-t.ensures (sym c.shows.ensures ∙ w.if-shows.false))
    ] in
    row-down o c.parts_of-k.ensures (λ id. c.pair-p.ensures) (omega (arith, l.invariant.le, l.invariant.low)) (omega (arith, l.invariant.le, l.invariant.low))
