-- A message that is written ends within its page.
use Rattle.std.proofs.Common.{◌≤◌, length, sym, arith, length-take-le}
use Rattle.texts.proofs.Giving.{written-within}
use Rattle.messages.proofs.line.Goals as goal

pub slice_bounds-page-end : goal.slice_bounds-page-end
slice_bounds-page-end g c = omega (arith, written-within _ c.in-Ok.ensures.answer)

pub slice_bounds-text-end : goal.slice_bounds-text-end
slice_bounds-text-end g c =
    let fits : c.in-Ok.n ≤ length c.message.new.page = omega (arith, written-within _ c.in-Ok.ensures.answer) in
    sym (length-take-le c.in-Ok.n c.message.new.page fits)
