-- A run that answers has heard the sheet.
use mathlib.Core.Path.{refl}
use Rattle.checker.proofs.Hearing.{heard-of, refused-of}
use Rattle.checker.proofs.listen.Goals as goal

pub returns-clause-heard : goal.returns-clause-heard
returns-clause-heard c = heard-of _ _ _ _ _ c.run.result c.run.ensures.runs refl

pub returns-clause-refused : goal.returns-clause-refused
returns-clause-refused c = refused-of _ _ _ _ _ c.run.result c.run.ensures.runs
