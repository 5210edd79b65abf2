-- Each size has tables with a place for every word, and a sheet that is longer is refused by cause 1.
use Rattle.std.proofs.Common.{sym, arith}
use Rattle.sheet.proofs.Placing.{too_long}
use Rattle.sheet.proofs.Whole.{places-refused}
use Rattle.sheet.proofs.open.Goals as goal

pub returns-in_default : goal.returns-in_default
returns-in_default c = places-refused _ (sym (too_long _ (omega arith)))
