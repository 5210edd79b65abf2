-- Scopes do not rise from the newest entry to the oldest, so the newest entry of the name tells (`newest-binds`).
use Rattle.std.proofs.Common.{rules}
use mathlib.Core.Path.{◌∙◌}
use Rattle.visible.proofs.Names.{newest-binds}
use Rattle.steps.proofs.Shown.{found-of}
use Rattle.steps.proofs.Walk.is_again.Goals as goal

pub returns : goal.returns
returns c =
    found-of _ _ c.args.self.now.cur _ (λ v h. search rules) (rw c.find.ensures at c.is_some_and.ensures) ∙ newest-binds _ _ _ c.requires.descends
