-- Scratch for as many words as the sheet's bytes make.
use Rattle.std.proofs.Common.{arith}
use Rattle.words.proofs.Words.{length-words}
use Rattle.checker.proofs.check_words.Goals as goal

pub check_sized-requires-clause-few : goal.check_sized-requires-clause-few
check_sized-requires-clause-few c =
    simp length-words (omega arith)

pub check_sized-requires-in-257-to-1024-clause-few : goal.check_sized-requires-in-257-to-1024-clause-few
check_sized-requires-in-257-to-1024-clause-few c =
    simp length-words (omega arith)
