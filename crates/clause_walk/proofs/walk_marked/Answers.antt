-- The count is read, and the marks are the walk's.
use Rattle.std.specs.Prelude.{None}
use Prim.Native.Nat.{ℕ}
use mathlib.Core.Path.{refl}
use native.Mathlib.Omega.{arith}
use Rattle.heads.proofs.Chain.{step, last}
use Rattle.heads.specs.Got.{word_in}
use Rattle.heads.specs.Answer.{kind_of}
use Rattle.clauses.specs.Read.{max_depth}
use Rattle.fused.specs.Fused.{Mode}
use Rattle.fused.specs.Clauses.{marked_go}
use Rattle.steps.specs.Modes.{mode_of}
use Rattle.steps.specs.Hold.{Ready}
use Rattle.steps.specs.declared.Walk.{Walk}
use Rattle.steps.specs.declared.context.Context.{Context}
use Rattle.walk.specs.Goes.{marks_at}
use Rattle.walk.proofs.Stage.{Stage, start}
use Rattle.clause_parts.proofs.Passing.{forget, last_one, past, halted}
use Rattle.clause_walk.specs.Clauses.{marked_at}
use Rattle.clause_walk.proofs.walk_marked.Goals as goal

begun : {c : Context} {w : Walk} (m : Mode) (kind : ℕ) → Ready 0 c w → Stage None 0 c w (marked_at c m 0 0 kind) 0 w (λ id u v. step (word_in 0 4294967296) (λ n. last (marks_at c max_depth m kind n id v)))
unfolding marked_go
begun m kind h = start _ h (λ id s r. refl)

pub returns-in_err-n : goal.returns-in_err-n
returns-in_err-n c =
    halted _ (begun (mode_of c.args.mode) (kind_of c.args.kind) c.requires) c.in_err-n.ensures c.from_residual.ensures

pub returns : goal.returns
returns c =
    last_one _ (omega arith) (past (begun (mode_of c.args.mode) (kind_of c.args.kind) c.requires) c.in_ok-n.ensures) (forget _ c.walk_marks.ensures)
