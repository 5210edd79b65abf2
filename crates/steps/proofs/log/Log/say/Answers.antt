-- The six words after those of the events before are the event's, and it is counted (`said-put`).
use native.Mathlib.Numerals.{add-one}
use mathlib.Core.Path.{refl}
use Rattle.steps.proofs.Stored.{said-put}
use Rattle.steps.proofs.log.Log.say.Goals as goal

pub returns : goal.returns
returns c =
    said-put c.requires c.put.ensures refl refl (add-one _) refl
