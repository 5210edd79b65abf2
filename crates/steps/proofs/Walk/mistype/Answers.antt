-- The name's index is counted from 1.
use native.Mathlib.Numerals.{add-one}
use Rattle.steps.proofs.Held.{as-steps, tells-step}
use Rattle.steps.proofs.Walk.mistype.Goals as goal

pub returns : goal.returns
returns c =
    as-steps _ (tells-step c.tell.ensures) (λ id s. rw (add-one c.args.x))
