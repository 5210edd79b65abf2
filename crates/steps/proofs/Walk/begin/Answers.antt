-- An expression 25 is counted (`counts-old`). Of any other head each act is a function's; where names are not resolved, a name and a comprehension do nothing.
use mathlib.Core.Path.{sym, ◌∙◌}
use Rattle.steps.proofs.Heads.{resolved_step, unresolved-step, by-act}
use Rattle.steps.proofs.Olds.{counts-old}
use Rattle.steps.proofs.Walk.begin.Goals as goal

pub returns-then-is_old : goal.returns-then-is_old
returns-then-is_old c =
    let a = c.args in counts-old a.f (c.is_old.ensures ∙ rw c.if-is_old.true) a.mode a.set

pub returns-in-Shows : goal.returns-in-Shows
returns-in-Shows c =
    let a = c.args in by-act a.f (c.is_old.ensures ∙ rw c.if-is_old.false) (sym c.act_of.ensures ∙ c.in-Shows.is) a.mode a.set c.show.ensures

pub returns-in-Uses : goal.returns-in-Uses
returns-in-Uses c =
    let a = c.args in by-act a.f (c.is_old.ensures ∙ rw c.if-is_old.false) (sym c.act_of.ensures ∙ c.in-Uses.is) a.mode a.set c.use_var.ensures

pub returns-then-mode : goal.returns-then-mode
returns-then-mode c =
    let a = c.args in by-act a.f (c.is_old.ensures ∙ rw c.if-is_old.false) (sym c.act_of.ensures ∙ c.in-Names.is) a.mode a.set (resolved_step a.mode _ c.if-mode.true c.use_name.ensures)

pub returns-else-mode : goal.returns-else-mode
returns-else-mode c =
    let a = c.args in by-act a.f (c.is_old.ensures ∙ rw c.if-is_old.false) (sym c.act_of.ensures ∙ c.in-Names.is) a.mode a.set (unresolved-step a.mode _ c.if-mode.false)

pub returns-then-mode-2 : goal.returns-then-mode-2
returns-then-mode-2 c =
    let a = c.args in by-act a.f (c.is_old.ensures ∙ rw c.if-is_old.false) (sym c.act_of.ensures ∙ c.in-Opens.is) a.mode a.set (resolved_step a.mode _ c.if-mode-2.true c.enter.ensures)

pub returns-else-mode-2 : goal.returns-else-mode-2
returns-else-mode-2 c =
    let a = c.args in by-act a.f (c.is_old.ensures ∙ rw c.if-is_old.false) (sym c.act_of.ensures ∙ c.in-Opens.is) a.mode a.set (unresolved-step a.mode _ c.if-mode-2.false)
