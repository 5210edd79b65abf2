-- By the head: a Var or a name is its use and what it adds, any other expression is walked.
use mathlib.Core.Path.{ap}
use Rattle.fused.specs.Clauses.{direct_form}
use Rattle.steps.specs.Modes.{mode_of}
use Rattle.steps.specs.Memory.{names_in, world_at}
use Rattle.projection_walk.proofs.Projected.{var-within, name-within, var-paid, name-paid, form-ready, form-holding, form-refused, other-form, direct-passes, other-passes}
use Rattle.projection_walk.proofs.walk_carried.Goals as goal

pub returns-in_err-f : goal.returns-in_err-f
returns-in_err-f c =
    form-refused _ c.args.alias (mode_of c.args.mode) _ c.in_err-f.ensures.takes c.from_residual.ensures

pub carry_var-requires : goal.carry_var-requires
carry_var-requires c =
    let form = c.in_ok-f.ensures.takes in
    let paid = var-paid _ form c.in-Var.is in
    (c.requires.0, (form-holding paid form c.requires.1.1.0, form-ready paid form c.requires.1.1.1))

pub carry_name-requires : goal.carry_name-requires
carry_name-requires c =
    let form = c.in_ok-f.ensures.takes in
    let paid = name-paid _ form c.in-Unresolved.is in
    ((c.requires.0, paid.1), (form-holding paid.0 form c.requires.1.1.0, form-ready paid.0 form c.requires.1.1.1))

pub returns-in-Var : goal.returns-in-Var
returns-in-Var c =
    let a = c.args in
    let form = c.in_ok-f.ensures.takes in
    let is = c.in-Var.is in
    direct-passes (var-paid _ form is) form a.alias (mode_of a.mode) c.carry_var.ensures (ap direct_form is) (λ id s. var-within (world_at a.context.now id) (names_in a.context.now) (mode_of a.mode) s _ (rw is at form.same))

pub returns-in-Unresolved : goal.returns-in-Unresolved
returns-in-Unresolved c =
    let a = c.args in
    let form = c.in_ok-f.ensures.takes in
    let is = c.in-Unresolved.is in
    direct-passes (name-paid _ form is).0 form a.alias (mode_of a.mode) c.carry_name.ensures (ap direct_form is) (λ id s. name-within (world_at a.context.now id) (names_in a.context.now) (mode_of a.mode) s _ c.requires.1.0.resolves (rw is at form.same))

pub returns-in_ok-walk_expr-in_default : goal.returns-in_ok-walk_expr-in_default
returns-in_ok-walk_expr-in_default c =
    let form = c.in_ok-f.ensures.takes in
    other-passes (mode_of c.args.mode) c.in_ok-walk_expr-in_default.ensures c.args.alias c.requires.0 c.requires.1.1.1 c.carry_other.ensures (rw form.same (other-form _ c.in_default.not-Var c.in_default.not-Unresolved))
