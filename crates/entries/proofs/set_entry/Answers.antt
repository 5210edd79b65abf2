-- The words that are copied are the entry's.
use Rattle.std.proofs.Common.{arith}
use Rattle.finding.proofs.Storing.{copied-sets}
use Rattle.entries.proofs.set_entry.Goals as goal

pub returns : goal.returns
returns g c = copied-sets _ _ _ _ _ c.copy_from_slice.ensures.after (omega arith) (omega arith)
