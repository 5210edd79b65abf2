-- The seven words that are copied are the record's.
use Rattle.std.proofs.Common.{◌∙◌, arith}
use Rattle.finding.proofs.Storing.{copied-sets}
use Rattle.finding.proofs.words_at.Goals as goal

pub returns : goal.returns
returns c = copied-sets _ _ _ _ _ (c.copy_from_slice.ensures.after ∙ c.into-words.ensures) (omega arith) (omega arith)
