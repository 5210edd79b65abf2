-- A Value is minded nowhere.
use borrow.Author.Tests.{eq-eqb, ne_eqb}
use mathlib.Core.Path.{refl}
use native.Mathlib.Omega.{arith}
use Rattle.steps.proofs.Held.{as-steps, tells-step}
use Rattle.steps.proofs.Heads.{none_told}
use Rattle.steps.proofs.Walk.want_kind.Goals as goal

pub returns-then-k : goal.returns-then-k
returns-then-k c =
    as-steps _ (tells-step c.tell.ensures) (λ id s. rw (ne_eqb _ 4 c.if-k.true, ne_eqb c.args.code 6 (λ e. omega (arith, c.requires.0))))

pub returns-else-k : goal.returns-else-k
returns-else-k c =
    rw (eq-eqb _ 4 c.if-k.false) (none_told refl)
