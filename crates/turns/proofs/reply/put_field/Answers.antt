-- The digits fit ten bytes (`put-digits`); they are put, and the byte behind them.
use Rattle.std.proofs.Common.{[], ◌∷◌, refl, sym, ◌∙◌, arith, append_assoc, length-take-le}
use Rattle.words.specs.Decimal.{decimal}
use Rattle.turns.proofs.Digits.{put-digits}
use Rattle.turns.proofs.reply.put_field.Goals as goal

pub slice_bounds-digits-end : goal.slice_bounds-digits-end
slice_bounds-digits-end c =
    let d = put-digits _ _ _ _ c.ranges.n.fits refl c.put_decimal-k.ensures in
    omega (arith, d.few, d.long)

pub slice_bounds-put-end : goal.slice_bounds-put-end
slice_bounds-put-end c =
    let d = put-digits _ _ _ _ c.ranges.n.fits refl c.put_decimal-k.ensures in
    sym (length-take-le _ _ (omega (arith, d.few, d.long)))

pub returns-clause-text : goal.returns-clause-text
returns-clause-text c =
    let d = put-digits _ _ _ _ c.ranges.n.fits refl c.put_decimal-k.ensures in
    c.put-2.ensures ∙ rw (c.put.ensures, d.are) (append_assoc c.args.page.now (decimal c.args.n) (c.args.after ∷ []))
