-- The alias is read, and the expression is the walk's in the general setting.
use Rattle.std.specs.Prelude.{Some}
use Prim.Native.Nat.{◌+◌}
use native.Mathlib.Numerals.{add-one}
use native.Mathlib.Omega.{arith}
use Rattle.heads.proofs.Chain.{step, last}
use Rattle.heads.specs.Got.{word_in}
use Rattle.clauses.specs.Read.{max_depth}
use Rattle.semantics.specs.Kinds.{general}
use Rattle.fused.specs.Fused.{Mode}
use Rattle.fused.specs.Clauses.{within}
use Rattle.steps.specs.Modes.{mode_of}
use Rattle.steps.specs.Memory.{names_in, world_at}
use Rattle.steps.specs.Hold.{Ready}
use Rattle.steps.specs.declared.Walk.{Walk}
use Rattle.steps.specs.declared.context.Context.{Context}
use Rattle.walk.proofs.Stage.{Stage, tail, start}
use Rattle.clause_parts.proofs.Passing.{past}
use Rattle.return_walk.specs.Returns.{output_at}
use Rattle.return_walk.proofs.walk_output.Goals as goal

begun : {c : Context} {w : Walk} (m : Mode) → Ready 0 c w → Stage (Some max_depth) 0 c w (output_at c m) 0 w (λ id u v. step (word_in 0 (names_in c + 1)) (λ x. last (within (world_at c id) (names_in c) m general v)))
begun {c} m h = start _ h (λ id s r. rw (add-one (names_in c)))

pub returns : goal.returns
returns c =
    tail _ (omega arith) (past (begun (mode_of c.args.mode) c.requires) c.in_ok-next_alias.ensures) c.walk_expr.ensures
