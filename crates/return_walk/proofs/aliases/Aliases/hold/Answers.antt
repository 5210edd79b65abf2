-- No alias is nothing held; one is held at the end (`hold-one`).
use mathlib.Core.Path.{refl}
use Rattle.return_walk.proofs.Marking.{hold-none, hold-one}
use Rattle.return_walk.proofs.aliases.Aliases.hold.Goals as goal

pub returns : goal.returns
returns c = record { lent = refl; held = hold-one c.in-Some.is c.requires.0 }

pub returns-in_default : goal.returns-in_default
returns-in_default c = record { lent = refl; held = hold-none c.in_default.is }
