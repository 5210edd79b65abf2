-- A refusal is handed on. Then the lists' room is tested, and only where all of them have it are they filled: what is carried is copied from
-- the scratch where it was stored, or the sheet is run again.
use Rattle.std.proofs.Common.{◌∙◌, arith}
use Rattle.checker.specs.Checked.{lent}
use Rattle.checker.proofs.Answers.{handed-on, short-answer, tested, again-asks, copied, carried-fits, fill-asks, full-answer}
use Rattle.checker.proofs.check_in.Goals as goal

pub returns-in_err-index-clause-answers : goal.returns-in_err-index-clause-answers
returns-in_err-index-clause-answers c =
    handed-on c.args.warns c.args.s.now (lent c.args.lists.now) c.args.room _ c.from_residual.ensures.1 c.in_err-index.ensures.refused

pub returns-then-not-fit-clause-answers : goal.returns-then-not-fit-clause-answers
returns-then-not-fit-clause-answers c =
    let h = c.in_ok-index.ensures.heard in
    short-answer c.args.warns c.args.s.now (lent c.args.lists.now) c.args.room h.read (tested h _ _ c.count.ensures c.fit.ensures ∙ c.if-not-fit.true)

pub overflow_mul-n : goal.overflow_mul-n
overflow_mul-n c =
    let h = c.in_ok-index.ensures.heard in
    let long = carried-fits h (lent c.args.lists.now) c.args.room (tested h _ _ c.count.ensures c.fit.ensures ∙ c.if-not-fit.false) in
    omega (arith, long, c.well_formed)

pub check_again-requires : goal.check_again-requires
check_again-requires c =
    let h = c.in_ok-index.ensures.heard in
    again-asks h (lent c.args.lists.now) c.args.room (tested h _ _ c.count.ensures c.fit.ensures ∙ c.if-not-fit.false) c.args.scratch.now c.requires c.listen.ensures.sized

pub copy-requires : goal.copy-requires
copy-requires c =
    let h = c.in_ok-index.ensures.heard in
    (c.if-kept-n.false, carried-fits h (lent c.args.lists.now) c.args.room (tested h _ _ c.count.ensures c.fit.ensures ∙ c.if-not-fit.false))

pub fill-requires : goal.fill-requires
fill-requires c =
    let h = c.in_ok-index.ensures.heard in
    let fit = tested h (lent c.args.lists.now) c.args.room c.count.ensures c.fit.ensures ∙ c.if-not-fit.false in
    let held = copied h (omega (arith, c.if-kept-n.false, c.listen.ensures.kept)) (carried-fits h _ _ fit) c.copy.ensures in
    fill-asks h _ _ fit held (omega (arith, c.listen.ensures.sized.pairs, c.requires.pairs))

pub returns-clause-answers : goal.returns-clause-answers
returns-clause-answers c =
    let h = c.in_ok-index.ensures.heard in
    let fit = tested h (lent c.args.lists.now) c.args.room c.count.ensures c.fit.ensures ∙ c.if-not-fit.false in
    let held = copied h (omega (arith, c.if-kept-n.false, c.listen.ensures.kept)) (carried-fits h _ _ fit) c.copy.ensures in
    full-answer h _ _ fit held c.fill.ensures.fills
