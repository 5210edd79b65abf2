-- The count is read. Then each alias is held and its expression walked, and the sort keys are walked at the end (`Sorting`).
use Rattle.std.specs.Prelude.{Some, Ok}
use Prim.Native.Nat.{ℕ}
use mathlib.Core.Path.{refl, ◌∙◌}
use native.Mathlib.Omega.{arith}
use Rattle.heads.proofs.Chain.{step, last}
use Rattle.heads.specs.Got.{word_in}
use Rattle.clauses.specs.Read.{max_depth}
use Rattle.clauses.proofs.ReadsBackClause.{alias-same}
use Rattle.fused.specs.Fused.{Mode}
use Rattle.steps.specs.Modes.{mode_of}
use Rattle.steps.specs.Hold.{Ready}
use Rattle.steps.specs.declared.Walk.{Walk}
use Rattle.steps.specs.declared.context.Context.{Context}
use Rattle.walk.proofs.Stage.{Stage, tail, start, ready}
use Rattle.clause_parts.specs.Passes.{Next}
use Rattle.clause_parts.proofs.Passing.{past}
use Rattle.return_walk.specs.Returns.{keyed_at, sorted_at}
use Rattle.return_walk.proofs.Sorted.{none_held, ended, no-alias, expr-ready, fell-expr, turned}
use Rattle.return_walk.proofs.walk_sorted.Goals as goal

begun : {c : Context} {w : Walk} (m : Mode) → Ready 0 c w → Stage (Some max_depth) 0 c w (sorted_at c m) 0 w (λ id u v. step (word_in 0 4294967296) (λ n. last (keyed_at c m n id v)))
begun m h = start _ h (λ id s r. refl)

-- a projection may begin behind it
counted : {c : Context} {w w1 : Walk} {n : ℕ} (m : Mode) → Ready 0 c w → Next c 0 4294967296 w w1 (Ok n) → Ready 0 c w1
counted m h x = ready (omega arith) h (past (begun m h) x)

pub loop-init : goal.loop-init
loop-init c =
    record { lent = refl; sorting = none_held (counted (mode_of c.args.mode) c.requires.1 c.in_ok-n.ensures) }

pub returns-in_err-alias-clause-walked : goal.returns-in_err-alias-clause-walked
returns-in_err-alias-clause-walked c =
    tail _ (omega arith) (past (begun (mode_of c.args.mode) c.requires.1) c.in_ok-n.ensures) (no-alias c.loop.invariant.sorting (omega arith) _ c.in_err-alias.ensures c.from_residual-in_err-alias.ensures)

pub walk_expr-requires : goal.walk_expr-requires
walk_expr-requires c =
    (omega arith, expr-ready c.loop.invariant.sorting (omega arith) c.in_ok-alias.ensures (counted (mode_of c.args.mode) c.requires.1 c.in_ok-n.ensures))

pub returns-in_err-walk_expr-clause-walked : goal.returns-in_err-walk_expr-clause-walked
returns-in_err-walk_expr-clause-walked c =
    tail _ (omega arith) (past (begun (mode_of c.args.mode) c.requires.1) c.in_ok-n.ensures) (fell-expr c.loop.invariant.sorting (omega arith) c.in_ok-alias.ensures _ c.in_err-walk_expr.ensures c.from_residual-in_err-walk_expr.ensures)

pub loop-preserved : goal.loop-preserved
loop-preserved c = record {
  lent = c.hold.ensures.lent ∙ c.loop.invariant.lent;
  sorting = turned c.loop.invariant.sorting (omega arith) c.in_ok-alias.ensures (rw (alias-same c.in_ok-alias.alias) c.hold.ensures.held) c.in_ok-walk_expr.ensures;
}

pub walk_hushed-requires : goal.walk_hushed-requires
walk_hushed-requires c =
    let i = c.loop.invariant.sorting in
    let r = ready {i = 0} (omega arith) (counted (mode_of c.args.mode) c.requires.1 c.in_ok-n.ensures) i.stage in
    ((c.requires.0.1, record { wide = omega (arith, i.few, i.kept, r.fit.within, c.requires.0.0.room); named = i.named }), r)

pub returns-clause-walked : goal.returns-clause-walked
returns-clause-walked c =
    tail _ (omega arith) (past (begun (mode_of c.args.mode) c.requires.1) c.in_ok-n.ensures) (tail _ (omega arith) (ended c.loop.invariant.sorting (omega arith)) c.walk_hushed.ensures.walked)
