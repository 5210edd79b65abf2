-- The sheet was accepted, so it is again, and its lists fit. The scratch is cleared, and what is carried goes into the list that is lent.
use Rattle.std.proofs.Common.{arith}
use Rattle.checker.specs.Checked.{lent}
use Rattle.checker.proofs.Answers.{same-fits, carried-fits, fill-asks, full-answer}
use Rattle.checker.proofs.check_again.Goals as goal

pub fill-requires-4 : goal.fill-requires-4
fill-requires-4 c =
    let h = c.in_ok-index.ensures.heard in
    let fit = same-fits c.args.warns c.args.s.now (lent c.args.lists.now) c.args.room c.requires.read h.read c.requires.fits in
    fill-asks h _ _ fit (h.carries (carried-fits h _ _ fit)) (omega (arith, c.listen.ensures.sized.pairs, c.requires.pairs))

pub returns-clause-answers : goal.returns-clause-answers
returns-clause-answers c =
    let h = c.in_ok-index.ensures.heard in
    let fit = same-fits c.args.warns c.args.s.now (lent c.args.lists.now) c.args.room c.requires.read h.read c.requires.fits in
    full-answer h _ _ fit (h.carries (carried-fits h _ _ fit)) c.fill-4.ensures.fills
