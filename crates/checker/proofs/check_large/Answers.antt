-- Scratch for as many words as the sheet's bytes make, and a sheet that is longer is refused by cause 1.
use Rattle.std.proofs.Common.{arith}
use Rattle.words.proofs.Words.{length-words}
use Rattle.checker.specs.Checked.{lent}
use Rattle.checker.proofs.Answers.{long-answer}
use Rattle.checker.proofs.check_large.Goals as goal

pub check_sized-requires-clause-few : goal.check_sized-requires-clause-few
check_sized-requires-clause-few c =
    simp length-words (omega arith)

pub check_sized-requires-in-4097-to-8192-clause-few : goal.check_sized-requires-in-4097-to-8192-clause-few
check_sized-requires-in-4097-to-8192-clause-few c =
    simp length-words (omega arith)

pub returns-in_default-clause-answers : goal.returns-in_default-clause-answers
returns-in_default-clause-answers c =
    long-answer c.args.warns c.args.s.now (lent c.args.lists.now) c.args.room (omega arith)
