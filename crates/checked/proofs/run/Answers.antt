-- The array's first n entries are lent and come back as the call leaves them, before the markers that were not lent.
use Rattle.std.proofs.Common.{◌≡◌, ◌-◌, arith}
use Rattle.checked.specs.Ran.{marks, after}
use Rattle.checked.proofs.run.Goals as goal

pub returns-clause-ran : goal.returns-clause-ran
unfolding after marks
returns-clause-ran c =
    let same : c.args.n - 0 ≡ c.args.n = omega arith in
    let did = rw same at c.check_into-answer.ensures in
    (did.answers, rw (← did.leaves, ← did.flat) (rw same at c.load_all.ensures))
