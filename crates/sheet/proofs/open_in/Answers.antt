-- Places, tables, head and arms, in the definition's order: the first that is refused refuses the sheet. Where none is, the lent tables
-- hold the names of their section, which are the statement's (`names-kept`).
use Rattle.std.proofs.Common.{refl, ◌∙◌, arith}
use Rattle.sheet.proofs.Placing.{placed_at}
use Rattle.sheet.proofs.Causes.{refusal_told}
use Rattle.sheet.proofs.Whole.{places-refused, tables-refused, clauses-refused, whole-accepted, no_names, names-kept}
use Rattle.sheet.proofs.open_in.Goals as goal

pub returns-in_err-p : goal.returns-in_err-p
returns-in_err-p c =
    let e = places-refused c.args.s.now c.in_err-p.ensures in
    (refusal_told _ _ c.from_residual.ensures ∙ e, no_names _ _ _ e)

pub check_tables-requires : goal.check_tables-requires
check_tables-requires c =
    let placed = placed_at c.args.s.now c.in_ok-p.ensures in
    (placed.1, omega (arith, placed.1))

pub returns-in_err-check_tables : goal.returns-in_err-check_tables
returns-in_err-check_tables c =
    let placed = placed_at c.args.s.now c.in_ok-p.ensures in
    let e = tables-refused _ _ placed.0 c.in_err-check_tables.ensures.same in
    (refusal_told _ _ c.from_residual-in_err-check_tables.ensures ∙ e, no_names _ _ _ e)

pub check_clauses-requires : goal.check_clauses-requires
check_clauses-requires c =
    let placed = placed_at c.args.s.now c.in_ok-p.ensures in
    placed.1

pub returns-in_err-check_clauses : goal.returns-in_err-check_clauses
returns-in_err-check_clauses c =
    let placed = placed_at c.args.s.now c.in_ok-p.ensures in
    let e = clauses-refused _ _ placed.0 c.in_ok-check_tables.ensures.same c.in_err-check_clauses.ensures in
    (refusal_told _ _ c.from_residual-in_err-check_clauses.ensures ∙ e, no_names _ _ _ e)

pub returns : goal.returns
returns c =
    let placed = placed_at c.args.s.now c.in_ok-p.ensures in
    (whole-accepted _ _ placed.0 c.in_ok-check_tables.ensures.same c.in_ok-check_clauses.ensures, names-kept _ _ _ _ placed.0 (c.in_ok-check_tables.ensures.names refl) _ refl)
