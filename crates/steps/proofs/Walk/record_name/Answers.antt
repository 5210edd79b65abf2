-- What is found is what the visible list has; where no event is wanted, none is kept.
use mathlib.Core.Path.{sym, ◌∙◌}
use Rattle.steps.proofs.Heads.{unwanted-name, found_name, missing-name}
use Rattle.steps.proofs.Walk.record_name.Goals as goal

pub returns-then-not-context : goal.returns-then-not-context
returns-then-not-context c =
    unwanted-name _ c.if-not-context.true

pub returns-in-Some : goal.returns-in-Some
returns-in-Some c =
    found_name c.args.x c.requires.0 c.requires.1.fit _ c.if-not-context.false _ _ (sym c.find.ensures ∙ c.in-Some.is) c.kind.ensures c.say.ensures

pub returns-in-None : goal.returns-in-None
returns-in-None c =
    missing-name c.args.x c.requires.0 c.requires.1.fit _ c.if-not-context.false (sym c.find.ensures ∙ c.in-None.is) c.say-in-None.ensures
