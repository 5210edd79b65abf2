-- The loop's invariant is `Scan`: the names read so far are in the tables, and those that are left give the rest.
-- A name takes at least a word, so the tables have a place for each.
use Rattle.std.proofs.Common.{◌≡◌, ◌-◌, ◌+◌, refl, arith}
use lib.ListN.{length-set}
use Rattle.tables.proofs.Scan.{begin, room, turn, refused, done}
use Rattle.tables.proofs.names.scan_names.Goals as goal

pub loop-i-init : goal.loop-i-init
loop-i-init c =
    let all : c.args.n - 0 ≡ c.args.n = omega arith in
    (rw all begin, refl, refl)

pub returns-in_err-q : goal.returns-in_err-q
returns-in_err-q c =
    refused _ _ _ c.loop-i.invariant.0 (c.in_err-q.ensures.ends, c.in_err-q.ensures.ans) (omega arith) c.from_residual.ensures

pub bounds-tab-i : goal.bounds-tab-i
bounds-tab-i c =
    omega (arith, room c.loop-i.invariant.0 (c.in_ok-q.ensures.ends, c.in_ok-q.ensures.ans))

pub bounds-ids-i : goal.bounds-ids-i
bounds-ids-i c =
    omega (arith, room c.loop-i.invariant.0 (c.in_ok-q.ensures.ends, c.in_ok-q.ensures.ans))

pub loop-i-preserved : goal.loop-i-preserved
loop-i-preserved c =
    let l = c.loop-i in
    let here = room l.invariant.0 (c.in_ok-q.ensures.ends, c.in_ok-q.ensures.ans) in
    let less : c.args.n - l.i - 1 ≡ c.args.n - (l.i + 1) = omega arith in
    simp length-set
    (rw less at (turn _ l.invariant.0 (c.in_ok-q.ensures.ends, c.in_ok-q.ensures.ans) (omega arith) (omega (arith, here)) (omega (arith, here)) c.in_ok-q.ensures.names), l.invariant.1, l.invariant.2)

pub returns : goal.returns
returns c =
    done _ c.loop-i.invariant.0 (omega arith)
