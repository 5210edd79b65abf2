-- A variable with an entry has its place; another gets the next.
use Rattle.rowless.proofs.Entries.{place-new}
use Rattle.rowless.proofs.Rowless.place.Goals as goal

pub returns : goal.returns
returns c = place-new c.ranges.v.fits c.requires.1.0 c.in_default.ensures c.add.ensures
