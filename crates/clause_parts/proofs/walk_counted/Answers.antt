-- The count is read, and the expressions are the walk's in the general setting.
use Rattle.std.specs.Prelude.{Some}
use mathlib.Core.Path.{refl}
use native.Mathlib.Omega.{arith}
use Rattle.clauses.specs.Read.{max_depth}
use Rattle.fused.specs.Clauses.{within}
use Rattle.fused.specs.Fused.{Mode, row_go}
use Rattle.heads.proofs.Chain.{step, last}
use Rattle.heads.specs.Got.{word_in}
use Rattle.semantics.specs.Kinds.{plain}
use Rattle.steps.specs.Modes.{mode_of}
use Rattle.steps.specs.Memory.{names_in, world_at}
use Rattle.steps.specs.Hold.{Ready}
use Rattle.steps.specs.declared.Walk.{Walk}
use Rattle.steps.specs.declared.context.Context.{Context}
use Rattle.walk.proofs.Stage.{Stage, tail, start, ready}
use Rattle.clause_parts.specs.Passes.{counted_at}
use Rattle.clause_parts.proofs.Passing.{past, no_word}
use Rattle.clause_parts.proofs.walk_counted.Goals as goal

begun : {c : Context} {w : Walk} (m : Mode) → Ready 0 c w →
    Stage (Some max_depth) 0 c w (counted_at c m) 0 w (λ id u v. step (word_in 0 4294967296) (λ n. last (row_go (within (world_at c id) (names_in c) m) n plain v)))
begun m h = start _ h (λ id s r. refl)

pub returns-in_err-n : goal.returns-in_err-n
returns-in_err-n c =
    no_word _ (begun (mode_of c.args.mode) c.requires) c.in_err-n.ensures c.from_residual.ensures

pub walk_many-requires : goal.walk_many-requires
walk_many-requires c =
    (omega arith, ready (omega arith) c.requires (past (begun (mode_of c.args.mode) c.requires) c.in_ok-n.ensures))

pub returns : goal.returns
returns c =
    tail _ (omega arith) (past (begun (mode_of c.args.mode) c.requires) c.in_ok-n.ensures) (rw c.all.ensures at c.walk_many.ensures)
