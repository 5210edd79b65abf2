-- Where names are resolved the use is said, if it is wanted.
use Rattle.steps.proofs.Heads.{var-said}
use Rattle.steps.proofs.Walk.record_var.Goals as goal

pub returns-then-mode : goal.returns-then-mode
returns-then-mode c =
    var-said c.args.mode c.args.v c.args.k c.if-mode.true c.say_wanted.ensures
