use Rattle.condition_text.proofs.writing.+print.Given as goal
use Rattle.heads.specs.Answer.{words_of}
use Rattle.expr.specs.Read.{reader_of}
use Rattle.condition_text.proofs.Operators.{length_of}
use lib.ListN.{drop}

-- the length of the expression at a word
abbrev pub decreases-print : goal.decreases-print
decreases-print l = length_of (reader_of l.section.now l.room (drop l.at (words_of l.section.now)))
