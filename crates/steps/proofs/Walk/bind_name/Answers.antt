-- The binding is said where it is wanted, and then the name is the newest entry (`names`).
use Rattle.steps.proofs.Moved.{names}
use Rattle.steps.proofs.Walk.bind_name.Goals as goal

pub returns : goal.returns
returns c =
    names c.requires c.is_again-again.ensures c.name-name.ensures.name c.say_bound.ensures c.bind.ensures
