-- Bindings that are refused refuse the sheet; else they are hung up, and a variable that stands twice is cause 4.
use Rattle.std.proofs.Common.{arith}
use Rattle.words.proofs.Words.{length-words}
use Rattle.refusal.proofs.Handed.{handed}
use Rattle.sheet.proofs.Reading.{rows-fit}
use Rattle.sheet_walk.proofs.Rows.{rows-fell, rows-hung}
use Rattle.sheet_walk.proofs.reading.rows_of.Goals as goal

pub returns-in_err-read_bindings : goal.returns-in_err-read_bindings
returns-in_err-read_bindings c = rw (handed _ _ c.from_residual.ensures) (rows-fell _ c.in_err-read_bindings.ensures)

pub hang-requires : goal.hang-requires
hang-requires c =
    let a = c.args in
    let q = c.requires in
    let w = rows-fit a.s.now a.p q.0.0 c.in_ok-read_bindings.ensures in
    ((omega (arith, w, q.0.0.head, q.0.0.tail, q.0.0.trailer, length-words a.s.now), omega (arith, w, q.0.0.head, q.0.0.tail, q.0.0.trailer, q.0.0.short)), q.1)

pub returns : goal.returns
returns c = rw c.ok_or.ensures.value (rows-hung c.requires.0.0 c.in_ok-read_bindings.ensures c.hang.ensures)
