-- Places, tables, head and arms, in the definition's order: the first that is refused refuses the sheet; else what was said is the
-- statement's (`runs`).
use Rattle.std.proofs.Common.{sym, arith}
use Rattle.words.proofs.Words.{length-words}
use Rattle.sheet.proofs.Placing.{placed_at}
use Rattle.sheet_walk.proofs.Told.{places-no, refused_run, refuses, runs}
use Rattle.sheet_walk.proofs.run.Goals as goal

pub returns-in_err-p-clause-runs : goal.returns-in_err-p-clause-runs
returns-in_err-p-clause-runs c = refused_run _ _ _ _ _ _ _ (places-no c.args.s.now (sym c.in_err-p.ensures)) c.from_residual.ensures

pub read_tables-requires : goal.read_tables-requires
read_tables-requires c =
    let s = c.args.s.now in
    let q = c.requires in
    let o = placed_at s c.in_ok-p.ensures in
    ((o.0, (record { short = o.1.short; places = omega (arith, q.placed, length-words s); uses = omega (arith, q.used, length-words s) }, omega (arith, q.pairs))), record { long = q.long; clear = q.hung })

pub returns-in_err-walk_sheet-clause-runs : goal.returns-in_err-walk_sheet-clause-runs
returns-in_err-walk_sheet-clause-runs c =
    let x = c.in_ok-index.ensures in
    refused_run _ _ _ _ _ _ _ (refuses x.reads (omega (arith, x.sized, c.requires.used)) c.in_err-walk_sheet.ensures.walks) c.from_residual-in_err-walk_sheet.ensures

pub returns-clause-runs : goal.returns-clause-runs
returns-clause-runs c =
    let x = c.in_ok-index.ensures in
    runs x.reads (omega (arith, x.sized, c.requires.used)) (omega (arith, x.sized, c.requires.placed)) c.requires.room c.in_ok-walk_sheet.ensures.walks
