-- The head's refusal is the whole's; where it is accepted, the arms decide.
use Rattle.std.proofs.Common.{◌∙◌}
use Rattle.clauses.specs.Read.{read_clause, read_arm}
use Rattle.sheet.specs.Read.{read_clauses}
use Rattle.sheet.specs.Answer.{section_of}
use Rattle.sheet.proofs.Causes.{refusal_told, then-refused, then-accepted}
use Rattle.sheet.proofs.sections.check_clauses.Goals as goal

pub returns-in_err-check_section : goal.returns-in_err-check_section
unfolding read_clauses
returns-in_err-check_section c =
    let a = c.args in
    refusal_told _ _ c.from_residual.ensures
    ∙ then-refused (section_of read_arm a.s.now a.p a.p.arms a.p.tail a.p.trailer) (section_of read_clause a.s.now a.p a.p.clauses a.p.head a.p.tail) c.in_err-check_section.ensures

pub returns : goal.returns
unfolding read_clauses
returns c =
    let a = c.args in
    then-accepted (section_of read_arm a.s.now a.p a.p.arms a.p.tail a.p.trailer) (section_of read_clause a.s.now a.p a.p.clauses a.p.head a.p.tail) c.in_ok-check_section.ensures c.check_section-2.ensures
