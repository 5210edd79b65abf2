-- A quiet use and one without a row write nothing; else the use is recorded, and then the row is checked.
use native.Mathlib.Omega.{arith}
use mathlib.Core.Path.{sym, ◌∙◌}
use Rattle.steps.proofs.Shown.{names_small}
use Rattle.steps.proofs.Heads.{quiet-use, rowless-use, checked-use, unchecked-use}
use Rattle.steps.proofs.Walk.use_var.Goals as goal

pub returns-then-is_quiet : goal.returns-then-is_quiet
returns-then-is_quiet c =
    let a = c.args in quiet-use a.mode a.set a.v _ (sym c.is_quiet.ensures ∙ c.if-is_quiet.true)

pub at_row-requires : goal.at_row-requires
at_row-requires c =
    let p = c.requires in let r = rw c.in-Some.is at c.row_of.ensures.range in (omega (arith, r.0, names_small p), (r.1, record { fine = p.fine; fit = c.record_var.ensures.fit 1 1 1 p.fit }))

pub returns-in_default : goal.returns-in_default
returns-in_default c =
    let a = c.args in rowless-use a.mode a.set a.v _ (sym c.row_of.ensures.value ∙ c.in_default.is)

pub returns-then-mode : goal.returns-then-mode
returns-then-mode c =
    let a = c.args in checked-use a.mode a.set a.v _ _ _ (sym c.row_of.ensures.value ∙ c.in-Some.is) c.if-mode.true c.record_var.ensures c.at_row.ensures

pub returns-else-mode : goal.returns-else-mode
returns-else-mode c =
    let a = c.args in unchecked-use a.mode a.set a.v _ _ _ (sym c.row_of.ensures.value ∙ c.in-Some.is) c.if-mode.false c.record_var.ensures
