-- Four digits and the length of the text that is found, or the digits of a code that has none.
use native.Mathlib.Omega.{arith}
use mathlib.Core.Path.{sym, ◌∙◌}
use Rattle.texts.proofs.Short.{text-short}
use Rattle.lines.proofs.Four.{four-digits}
use Rattle.lines.proofs.measure.said_len.Goals as goal

pub overflow_add-result : goal.overflow_add-result
overflow_add-result c = omega (arith, c.text_len.ensures, text-short c.in-Some.t c.args.x.now c.args.f.two, c.requires)

pub returns-in-Some : goal.returns-in-Some
returns-in-Some c =
    let is = sym c.text_for.ensures ∙ c.in-Some.is in
    rw is (omega (arith, c.text_len.ensures, four-digits c.args.f.code c.args.f.one is))
