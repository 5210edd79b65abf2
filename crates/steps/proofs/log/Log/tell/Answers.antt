-- The six words before those of the findings before are the finding's, and it is counted (`told-put`).
use native.Mathlib.Numerals.{add-one}
use mathlib.Core.Path.{refl}
use Rattle.steps.proofs.Stored.{told-put}
use Rattle.steps.proofs.log.Log.tell.Goals as goal

pub returns : goal.returns
returns c =
    told-put c.requires c.put.ensures refl refl refl (add-one _)
