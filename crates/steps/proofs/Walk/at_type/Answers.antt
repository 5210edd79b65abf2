-- Where nothing is minded, nothing is told (`minds-no-type`).
use mathlib.Core.Path.{sym, ◌∙◌}
use Rattle.steps.proofs.Heads.{none_told}
use Rattle.steps.proofs.Numbers.{minds-no-type}
use Rattle.steps.proofs.Walk.at_type.Goals as goal

pub returns-else-eq : goal.returns-else-eq
returns-else-eq c =
    none_told (minds-no-type c.args.set _ (sym c.list_code.ensures ∙ c.in_default.is) (sym c.eq.ensures ∙ c.if-eq.false))
