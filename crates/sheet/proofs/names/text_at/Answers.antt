-- The text stands in the part of the sheet that ends with the names' section.
use Rattle.std.proofs.Common.{sym}
use lib.Seq.{length-take-le}
use Rattle.refusal.proofs.Handed.{handed}
use Rattle.sheet.proofs.names.text_at.Goals as goal

pub returns-in_err-p : goal.returns-in_err-p
returns-in_err-p c = rw (handed _ _ c.from_residual.ensures, ← c.in_err-p.ensures.reads)

pub slice_bounds-name_at-end : goal.slice_bounds-name_at-end
slice_bounds-name_at-end c = sym (length-take-le c.in_ok-p.e c.args.s.now c.in_ok-p.ensures.within)

pub returns : goal.returns
returns c = rw (c.name_at.ensures, ← c.in_ok-p.ensures.reads)
