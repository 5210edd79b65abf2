-- A refusal is handed on; a run that counted too many bindings or carried names gives 8; else what it found is written.
use native.Mathlib.Omega.{arith}
use Rattle.listing.proofs.Opened.{ran-no, from-run, many-made, many-carried}
use Rattle.listing.proofs.list_in.Goals as goal

pub returns-in_err-run : goal.returns-in_err-run
returns-in_err-run c = ran-no c.args.warns c.args.page.now c.args.s.now _ _ c.in_err-run.ensures.runs c.from_residual.ensures

pub returns-then-scratch-gt-ENTRIES : goal.returns-then-scratch-gt-ENTRIES
returns-then-scratch-gt-ENTRIES c =
    (many-made c.args.warns c.in_ok-run.ensures.runs c.args.page.now c.if-scratch-gt-ENTRIES.true, omega arith)

pub returns-then-scratch-gt-ENTRIES-2 : goal.returns-then-scratch-gt-ENTRIES-2
returns-then-scratch-gt-ENTRIES-2 c =
    (many-carried c.args.warns c.in_ok-run.ensures.runs c.args.page.now c.if-scratch-gt-ENTRIES-2.true, omega arith)

pub write-requires : goal.write-requires
write-requires c =
    from-run c.args.warns c.in_ok-run.ensures.runs c.if-scratch-gt-ENTRIES.false c.if-scratch-gt-ENTRIES-2.false
