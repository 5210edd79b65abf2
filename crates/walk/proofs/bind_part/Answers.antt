-- A path is bound as `steps` binds it; without one nothing is done (`path-none`).
use Rattle.walk.proofs.Acts.{path-none}
use Rattle.walk.proofs.bind_part.Goals as goal

pub returns-in-Some : goal.returns-in-Some
returns-in-Some c =
    rw c.in-Some.is c.bind_path.ensures

pub returns-in_default : goal.returns-in_default
returns-in_default c =
    path-none c.args.mode c.in_default.is
