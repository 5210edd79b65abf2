-- What the flat reading answers is right unless it is Depth, and then the expressions are read one by one.
use Rattle.flat.proofs.Skimmed.{told}
use Rattle.flat.proofs.read_kids.Goals as goal

pub returns : goal.returns
returns c = told c.skim-told.result c.skim-told.ensures (λ e. let z = rw e at c.if-eq.ensures in cc)
