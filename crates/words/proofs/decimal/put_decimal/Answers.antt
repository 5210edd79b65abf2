-- At the start no digit is written, and at the end none is left.
use Rattle.std.proofs.Common.{◌≡◌, sym, ◌∙◌, arith}
use Rattle.words.specs.Decimal.{low_digits, decimal}
use Rattle.words.proofs.Digits.{length-decimal}
use Rattle.words.proofs.Front.{put-fits}
use Rattle.words.proofs.decimal.put_decimal.Goals as goal

pub loop-i-init : goal.loop-i-init
unfolding decimal
loop-i-init c =
    rw c.decimal_width-k.ensures

pub returns : goal.returns
unfolding low_digits
returns c =
    let fits = put-fits _ c.args.out.now _ (length-decimal c.args.n ∙ sym c.decimal_width-k.ensures) (omega arith) in
    let none_left : c.loop-i.i ≡ 0 = omega arith in
    let whole = rw none_left at c.loop-i.invariant in
    (fits.0, sym whole ∙ fits.1)
