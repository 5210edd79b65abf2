-- The alias is read, and then the expression.
use native.Mathlib.Omega.{arith}
use Rattle.clauses.specs.Read.{alias_of}
use Rattle.clauses.proofs.ReadsBackClause.{alias-same}
use Rattle.steps.specs.Modes.{mode_of}
use Rattle.steps.specs.Memory.{names_in, world_at}
use Rattle.walk.specs.Goes.{rest_in}
use Rattle.clause_parts.proofs.Passing.{in_range}
use Rattle.projection_walk.specs.Carries.{carried_at, projections_at}
use Rattle.projection_walk.proofs.Chained.{as-passes, word-passes, word-refused, word-ready, word-holding}
use Rattle.projection_walk.proofs.Projected.{first-as, alias-within}
use Rattle.projection_walk.proofs.walk_projection.Goals as goal

pub returns-in_err-alias : goal.returns-in_err-alias
returns-in_err-alias c =
    let a = c.args in
    let x = a.context.now in
    let m = mode_of a.mode in
    as-passes (projections_at x m 1) _ (λ id q s. first-as (world_at x id) (names_in x) m q s (rest_in x a.walk.now)) (word-refused (λ n. carried_at x m (alias_of n)) _ c.in_err-alias.ensures c.from_residual.ensures)

pub walk_carried-requires : goal.walk_carried-requires
walk_carried-requires c =
    let n = c.in_ok-alias.ensures in
    (alias-within (names_in c.args.context.now) c.in_ok-alias.alias (in_range n).1, (c.requires.0, (word-holding n (omega arith) c.requires.1.0, word-ready n (omega arith) c.requires.1.1)))

pub returns : goal.returns
returns c =
    let a = c.args in
    let x = a.context.now in
    let m = mode_of a.mode in
    as-passes (projections_at x m 1) _ (λ id q s. first-as (world_at x id) (names_in x) m q s (rest_in x a.walk.now))
    (word-passes c.in_ok-alias.ensures {i = 1} (omega arith) (λ n. carried_at x m (alias_of n)) _ (rw (alias-same c.in_ok-alias.alias) c.walk_carried.ensures))
