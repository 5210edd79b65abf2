-- The span and the count are read, nothing is visible any more, and the clauses are walked.
use Rattle.std.specs.Prelude.{None}
use mathlib.Core.List.{[]}
use mathlib.Core.Path.{refl}
use native.Mathlib.Omega.{arith}
use Rattle.heads.proofs.Chain.{step, last}
use Rattle.heads.specs.Got.{word_in}
use Rattle.semantics.specs.Resolve.{standing}
use Rattle.fused.specs.Clauses.{arm_go}
use Rattle.steps.specs.Hold.{Ready, on_names}
use Rattle.steps.specs.declared.Walk.{Walk}
use Rattle.steps.specs.declared.context.Context.{Context}
use Rattle.walk.proofs.Stage.{Stage, start, ready}
use Rattle.clause_parts.proofs.Passing.{last_one, past, halted}
use Rattle.clause_parts.proofs.Cleared.{cleared}
use Rattle.clause_walk.specs.Clauses.{names_alone}
use Rattle.arm_walk.specs.Clauses.{both_walks, arm_at, clauses_at}
use Rattle.arm_walk.proofs.Taken.{refused-takes}
use Rattle.arm_walk.proofs.Arms.{arm-takes}
use Rattle.arm_walk.proofs.walk_arm.Goals as goal

begun : {c : Context} {w : Walk} → Ready 0 c w →
    Stage None 0 c w (arm_at c both_walks) 0 w (λ id u v. step (word_in 0 4294967296) (λ x. step (word_in x 4294967296) (λ y. step (word_in 0 4294967296) (λ n. last (clauses_at c names_alone n id (on_names (standing [] 0) v))))))
unfolding arm_go
begun h = start _ h (λ id s r. refl)

pub returns-in_err-start-clause-takes : goal.returns-in_err-start-clause-takes
returns-in_err-start-clause-takes c =
    refused-takes _ c.from_residual.ensures.0 refl (halted _ (begun c.requires.1) c.in_err-start.ensures c.from_residual.ensures)

pub returns-in_err-start-clause-passes : goal.returns-in_err-start-clause-passes
returns-in_err-start-clause-passes c =
    halted _ (begun c.requires.1) c.in_err-start.ensures c.from_residual.ensures

pub returns-in_err-next_word-clause-takes : goal.returns-in_err-next_word-clause-takes
returns-in_err-next_word-clause-takes c =
    refused-takes _ c.from_residual-in_err-next_word.ensures.0 refl (halted _ (past (begun c.requires.1) c.in_ok-start.ensures) c.in_err-next_word.ensures c.from_residual-in_err-next_word.ensures)

pub returns-in_err-next_word-clause-passes : goal.returns-in_err-next_word-clause-passes
returns-in_err-next_word-clause-passes c =
    halted _ (past (begun c.requires.1) c.in_ok-start.ensures) c.in_err-next_word.ensures c.from_residual-in_err-next_word.ensures

pub returns-in_err-n-clause-takes : goal.returns-in_err-n-clause-takes
returns-in_err-n-clause-takes c =
    refused-takes _ c.from_residual-in_err-n.ensures.0 refl (halted _ (past (past (begun c.requires.1) c.in_ok-start.ensures) c.in_ok-next_word.ensures) c.in_err-n.ensures c.from_residual-in_err-n.ensures)

pub returns-in_err-n-clause-passes : goal.returns-in_err-n-clause-passes
returns-in_err-n-clause-passes c =
    halted _ (past (past (begun c.requires.1) c.in_ok-start.ensures) c.in_ok-next_word.ensures) c.in_err-n.ensures c.from_residual-in_err-n.ensures

pub walk_clauses-requires : goal.walk_clauses-requires
walk_clauses-requires c =
    let three = past (past (past (begun c.requires.1) c.in_ok-start.ensures) c.in_ok-next_word.ensures) c.in_ok-n.ensures in
    (c.requires.0, ready (omega arith) c.requires.1 (cleared (λ id u v. last (clauses_at c.args.context.now names_alone c.in_ok-n.n id v)) c.leave.ensures three))

pub returns-clause-takes : goal.returns-clause-takes
returns-clause-takes c =
    arm-takes c.in_ok-start.ensures c.in_ok-next_word.ensures c.in_ok-n.ensures c.leave.ensures c.walk_clauses.ensures.takes

pub returns-clause-passes : goal.returns-clause-passes
returns-clause-passes c =
    let three = past (past (past (begun c.requires.1) c.in_ok-start.ensures) c.in_ok-next_word.ensures) c.in_ok-n.ensures in
    last_one _ (omega arith) (cleared (λ id u v. last (clauses_at c.args.context.now names_alone c.in_ok-n.n id v)) c.leave.ensures three) c.walk_clauses.ensures.passes
