-- Three words are read, and pay for what the body opens; no body is right after a code that no kind has.
use Rattle.std.specs.Prelude.{None}
use mathlib.Core.Path.{refl}
use native.Mathlib.Omega.{arith}
use Rattle.heads.proofs.Chain.{step, last}
use Rattle.heads.specs.Got.{word_in}
use Rattle.fused.specs.Fused.{Mode}
use Rattle.fused.specs.Clauses.{clause_go}
use Rattle.steps.specs.Modes.{mode_of}
use Rattle.steps.specs.Hold.{Ready}
use Rattle.steps.specs.declared.Walk.{Walk}
use Rattle.steps.specs.declared.context.Context.{Context}
use Rattle.walk.proofs.Stage.{Stage, start}
use Rattle.clause_parts.proofs.Passing.{last_one, past, halted, refused}
use Rattle.clause_walk.proofs.Bodies.{no-kind}
use Rattle.clause_walk.specs.Clauses.{body_at, clause_at}
use Rattle.clause_walk.proofs.walk_clause.Goals as goal

begun : {c : Context} {w : Walk} (m : Mode) → Ready 0 c w → Stage None 0 c w (clause_at c m) 0 w (λ id u v. step (word_in 0 4294967296) (λ kind. step (word_in 0 4294967296) (λ x. step (word_in x 4294967296) (λ y. last (body_at c m x y kind id v)))))
unfolding clause_go
begun m h = start _ h (λ id s r. refl)

pub returns-in_err-code-clause-passes : goal.returns-in_err-code-clause-passes
returns-in_err-code-clause-passes c =
    halted _ (begun (mode_of c.args.mode) c.requires.1) c.in_err-code.ensures c.from_residual.ensures

pub returns-in_err-start-clause-passes : goal.returns-in_err-start-clause-passes
returns-in_err-start-clause-passes c =
    halted _ (past (begun (mode_of c.args.mode) c.requires.1) c.in_ok-code.ensures) c.in_err-start.ensures c.from_residual-in_err-start.ensures

pub returns-in_err-end-clause-passes : goal.returns-in_err-end-clause-passes
returns-in_err-end-clause-passes c =
    halted _ (past (past (begun (mode_of c.args.mode) c.requires.1) c.in_ok-code.ensures) c.in_ok-start.ensures) c.in_err-end.ensures c.from_residual-in_err-end.ensures

pub returns-in_err-kind-clause-passes : goal.returns-in_err-kind-clause-passes
returns-in_err-kind-clause-passes c =
    let m = mode_of c.args.mode in
    let o = past (past (past (begun m c.requires.1) c.in_ok-code.ensures) c.in_ok-start.ensures) c.in_ok-end.ensures in
    refused _ o (no-kind m _ _ _ o c.in_err-kind.ensures) c.from_residual-in_err-kind.ensures

pub returns-clause-passes : goal.returns-clause-passes
returns-clause-passes c =
    last_one _ (omega arith) (past (past (past (begun (mode_of c.args.mode) c.requires.1) c.in_ok-code.ensures) c.in_ok-start.ensures) c.in_ok-end.ensures) (rw c.in_ok-kind.ensures at c.walk_body.ensures.passes)
