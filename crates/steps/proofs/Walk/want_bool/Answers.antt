-- A type that is no Bool's is a finding.
use mathlib.Core.Path.{refl, sym, ◌∙◌}
use Rattle.semantics.specs.Kinds.{at_type}
use Rattle.steps.proofs.Numbers.{type-number}
use Rattle.steps.proofs.Held.{tells-step}
use Rattle.steps.proofs.Heads.{none_told}
use Rattle.steps.proofs.Walk.want_bool.Goals as goal

pub returns-then-is_scalar : goal.returns-then-is_scalar
unfolding at_type
returns-then-is_scalar c =
    rw (c.in-Some.is, sym c.is_scalar.ensures ∙ c.if-is_scalar.true, type-number c.in-Some.t) (tells-step c.tell.ensures)

pub returns-else-is_scalar : goal.returns-else-is_scalar
unfolding at_type
returns-else-is_scalar c =
    rw (c.in-Some.is, sym c.is_scalar.ensures ∙ c.if-is_scalar.false) (none_told refl)

pub returns-in_default : goal.returns-in_default
unfolding at_type
returns-in_default c =
    rw c.in_default.is (none_told refl)
