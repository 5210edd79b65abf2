-- The names decide first; where they are right, the bindings do.
use mathlib.Core.Path.{◌∙◌}
use Rattle.expr.proofs.Inverse.{never}
use Rattle.sheet.proofs.sections.check_tables.Goals as goal

pub returns-then-not-are_names : goal.returns-then-not-are_names
returns-then-not-are_names c =
    let named = c.are_names.ensures in
    let x = rw (c.if-not-are_names.true) at named in
    record { same = rw x.same; names = λ e. never (cc) }

pub returns : goal.returns
returns c =
    let named = c.are_names.ensures in
    let x = rw (c.if-not-are_names.false) at named in
    record { same = c.check_rows.ensures ∙ rw x.same; names = λ e. x }
