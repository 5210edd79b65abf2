-- The count is read, and the projections are walked.
use Rattle.std.specs.Prelude.{Some}
use mathlib.Core.Path.{refl}
use native.Mathlib.Omega.{arith}
use Rattle.heads.proofs.Chain.{step, last}
use Rattle.heads.specs.Got.{word_in}
use Rattle.clauses.specs.Read.{max_depth}
use Rattle.fused.specs.Fused.{Mode}
use Rattle.steps.specs.Modes.{mode_of}
use Rattle.steps.specs.Hold.{Ready}
use Rattle.steps.specs.declared.Walk.{Walk}
use Rattle.steps.specs.declared.context.Context.{Context}
use Rattle.walk.proofs.Stage.{Stage, tail, start}
use Rattle.clause_parts.proofs.Passing.{past}
use Rattle.return_walk.specs.Returns.{outputs_at, returned_at}
use Rattle.return_walk.proofs.walk_returned.Goals as goal

begun : {c : Context} {w : Walk} (m : Mode) → Ready 0 c w → Stage (Some max_depth) 0 c w (returned_at c m) 0 w (λ id u v. step (word_in 0 4294967296) (λ n. last (outputs_at c m n id v)))
begun m h = start _ h (λ id s r. refl)

pub returns : goal.returns
returns c =
    tail _ (omega arith) (past (begun (mode_of c.args.mode) c.requires) c.in_ok-n.ensures) c.walk_outputs.ensures
