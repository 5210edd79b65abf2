-- The next digit that is left goes behind the value.
use Rattle.std.proofs.Common.{sym, ◌∙◌, arith}
use Rattle.std.proofs.lemmas.Bool.Decides.{nat_tests}
use Rattle.words.proofs.Words.{drop-word, drop-none}
use Rattle.turns.specs.Command.{digits_from}
use Rattle.turns.proofs.line.value.Goals as goal

pub returns-then-not-is_ascii_digit : goal.returns-then-not-is_ascii_digit
unfolding digits_from
returns-then-not-is_ascii_digit c =
    let no = c.if-not-is_ascii_digit.ensures.value in
    sym (c.loop-digit.invariant ∙ rw (drop-word _ _ c.loop-digit-test.true) (grind (arith, nat_tests, no)))

pub returns-in_err-checked_mul : goal.returns-in_err-checked_mul
unfolding digits_from
returns-in_err-checked_mul c =
    sym (c.loop-digit.invariant ∙ rw (drop-word _ _ c.loop-digit-test.true, c.from_residual.ensures) (grind (arith, nat_tests, c.in_err-checked_mul.ensures)))

pub returns-in_err-value : goal.returns-in_err-value
unfolding digits_from
returns-in_err-value c =
    sym (c.loop-digit.invariant ∙ rw (drop-word _ _ c.loop-digit-test.true, c.from_residual-in_err-value.ensures) (grind (arith, nat_tests, c.in_err-value.ensures, c.in_ok-checked_mul.ensures, c.from.ensures)))

pub loop-digit-preserved : goal.loop-digit-preserved
unfolding digits_from
loop-digit-preserved c =
    let yes = c.if-not-is_ascii_digit.ensures.value in
    c.loop-digit.invariant ∙ rw (drop-word _ _ c.loop-digit-test.true) (grind (arith, nat_tests, yes, c.in_ok-value.ensures, c.in_ok-checked_mul.ensures, c.from.ensures))

pub returns : goal.returns
unfolding digits_from
returns c =
    sym (c.loop-digit.invariant ∙ rw (drop-none _ _ c.loop-digit-test.false))
