-- The aliases are marked, so the walk is one in which they are no use (`hushed-walk`), and then no longer, so every mark is 0 again.
use Rattle.steps.specs.Modes.{mode_of}
use Rattle.return_walk.proofs.Hushed.{hushed-walk}
use Rattle.return_walk.proofs.walk_hushed.Goals as goal

pub returns-clause-walked : goal.returns-clause-walked
returns-clause-walked c =
    hushed-walk _ c.requires.0.0 c.mark.ensures (mode_of c.args.mode) _ c.walk_counted-r.ensures
