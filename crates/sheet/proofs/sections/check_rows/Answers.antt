-- What stops the bindings and a variable that stands twice are cause 4, and nothing else is.
use Rattle.std.proofs.Common.{◌≡◌, sym, ◌∙◌, ap, true, false, arith}
use lib.ListN.{length, drop, length-take}
use Rattle.words.specs.Words.{words}
use Rattle.words.proofs.Words.{length-words}
use Rattle.heads.specs.Answer.{is_in, row_ids}
use Rattle.tables.specs.Distinct.{distinct}
use Rattle.sheet.proofs.Causes.{refusal_told}
use Rattle.sheet.proofs.Cutting.{part-words, held, ids-take}
use Rattle.sheet.proofs.Reading.{rows-no, rows-fit, rows-once}
use Rattle.sheet.proofs.sections.check_rows.Goals as goal

pub returns-in_err-read_bindings : goal.returns-in_err-read_bindings
returns-in_err-read_bindings c = refusal_told _ _ c.from_residual.ensures ∙ rows-no c.args.s.now c.args.p c.in_err-read_bindings.ensures

pub distinct_ids-requires : goal.distinct_ids-requires
distinct_ids-requires c =
    let a = c.args in
    omega (arith, rows-fit _ _ c.requires c.in_ok-read_bindings.ensures, c.section-section.ensures.rows, ap length (part-words c.section-section.ensures), length-take a.p.head (words a.s.now), length-words a.s.now)

pub returns-then-distinct_ids : goal.returns-then-distinct_ids
returns-then-distinct_ids c =
    let a = c.args in
    let fit = rows-fit _ _ c.requires c.in_ok-read_bindings.ensures in
    let once = held c.section-section.ensures (λ ws names rows. true ≡ distinct is_in (row_ids a.p.bindings (drop rows ws))) (sym c.if-distinct_ids.true ∙ c.distinct_ids.ensures) in
    rows-once _ _ c.requires c.in_ok-read_bindings.ensures {b = true} (once ∙ ap (distinct is_in) (ids-take a.p.bindings a.p.rows a.p.head (words a.s.now) fit (omega (arith, length-words a.s.now))))

pub returns : goal.returns
returns c =
    let a = c.args in
    let fit = rows-fit _ _ c.requires c.in_ok-read_bindings.ensures in
    let once = held c.section-section.ensures (λ ws names rows. false ≡ distinct is_in (row_ids a.p.bindings (drop rows ws))) (sym c.if-distinct_ids.false ∙ c.distinct_ids.ensures) in
    rows-once _ _ c.requires c.in_ok-read_bindings.ensures {b = false} (once ∙ ap (distinct is_in) (ids-take a.p.bindings a.p.rows a.p.head (words a.s.now) fit (omega (arith, length-words a.s.now))))
