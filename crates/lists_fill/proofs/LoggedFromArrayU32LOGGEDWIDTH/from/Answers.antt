-- Six words of no sort are a finding.
use Rattle.std.proofs.Common.{sym}
use Rattle.lists_fill.proofs.Sorts.{no-sort}
use Rattle.lists_fill.proofs.LoggedFromArrayU32LOGGEDWIDTH.from.Goals as goal

pub returns-in-Err : goal.returns-in-Err
returns-in-Err c id = rw c.from.ensures (sym (no-sort id _ _ _ _ _ c.in-Err.ensures))
