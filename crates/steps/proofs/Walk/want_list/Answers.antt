-- No type is no finding.
use mathlib.Core.Path.{refl}
use Rattle.semantics.specs.Kinds.{at_type}
use Rattle.steps.proofs.Numbers.{type-number, some-type}
use native.Mathlib.Omega.{arith}
use borrow.Author.Tests.{ne_eqb}
use Rattle.steps.proofs.Held.{as-steps, tells-step}
use Rattle.steps.proofs.Heads.{none_told}
use Rattle.steps.proofs.Walk.want_list.Goals as goal

pub returns-in-Some : goal.returns-in-Some
unfolding at_type
returns-in-Some c =
    as-steps _ (tells-step c.tell.ensures) (λ id s. rw (c.in-Some.is, some-type c.in-Some.t, type-number c.in-Some.t, ne_eqb c.args.code 6 (λ e. omega (arith, c.requires.0))))

pub returns-in_default : goal.returns-in_default
unfolding at_type
returns-in_default c =
    rw c.in_default.is (none_told refl)
