-- The reader's answer, where the section ends, is the section's.
use Rattle.std.proofs.Common.{arith, ap}
use lib.ListN.{length, length-take}
use Rattle.words.specs.Words.{words}
use Rattle.words.proofs.Words.{length-words}
use Rattle.sheet.proofs.Cutting.{part-words}
use Rattle.sheet.proofs.Causes.{part_refused, part_read}
use Rattle.sheet.proofs.sections.check_section.Goals as goal

pub read_many-requires : goal.read_many-requires
read_many-requires g c =
    let a = c.args in
    omega (arith, ap length (part-words c.section-section.ensures), length-take a.to (words a.s.now), length-words a.s.now)

pub returns-in_err-at : goal.returns-in_err-at
returns-in_err-at g c = part_refused g.I.Item.one _ _ _ _ _ c.section-section.ensures _ _ c.in_err-at.ensures c.from_residual.ensures

pub returns : goal.returns
returns g c = part_read g.I.Item.one _ _ _ _ _ c.section-section.ensures c.check_end.result c.in_ok-at.ensures c.count.ensures c.check_end.ensures
