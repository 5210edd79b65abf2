-- Every finding of an accepted sheet has its message: it comes from one of the two walks, whose findings are pushes that there are, and
-- each such push has its text.
use Rattle.sheet.proofs.WrittenSheet.{written-sheet}
use Rattle.semantics.specs.Lists.{findings}
use Rattle.told.specs.Told.{AllTold}
use Rattle.told.proofs.Rows.{join, member}
use Rattle.told.proofs.Resolved.{resolved}
use Rattle.told.proofs.Kinded.{kinded}
use Rattle.told.proofs.Texts.{pushed-told}

pub all_told : AllTold
unfolding findings
all_told warns s st e f m =
    let h = (written-sheet s st e).1 in
    let p = member (join (resolved warns st h) (kinded warns st h)) m in
    (p, pushed-told s st e p)
