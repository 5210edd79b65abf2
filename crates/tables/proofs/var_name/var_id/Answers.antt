-- A text without the prefix is no variable's name; one with it is that of the variable that its digits say, or none's.
use Rattle.std.proofs.Common.{◌∙◌, sym, refl}
use Rattle.std.proofs.lemmas.Bool.{false≢true}
use Rattle.std.proofs.lemmas.Slice.Eq.{bytes_eq-Decides}
use Rattle.words.proofs.Words.{drop-word, drop-none}
use Rattle.tables.proofs.VarNames.{say, spelt, said}
use Rattle.tables.proofs.var_name.var_id.Goals as goal

pub returns-in_err-digits : goal.returns-in_err-digits
returns-in_err-digits c =
    rw c.from_residual.ensures (λ v h e. false≢true (sym (rw (spelt v _ e) at c.in_err-digits.ensures.cases)))

pub loop-digit-preserved : goal.loop-digit-preserved
unfolding say
loop-digit-preserved c =
    c.loop-digit.invariant ∙ rw (drop-word _ _ c.loop-digit-test.true, c.from.ensures) refl

pub returns : goal.returns
unfolding say
returns c = λ v h e.
    let d = c.in_ok-digits.ensures.cases.1 in
    let s = c.loop-digit.invariant ∙ rw (drop-none _ c.loop-digit.digit-index c.loop-digit-test.false) refl in
    let same = said c.loop-digit.v v c.args.text.now c.in_ok-digits.digits.now d s h e in
    false≢true (c.if-eq.ensures ∙ (bytes_eq-Decides _ _).1 (c.text.ensures ∙ c.new.ensures ∙ sym same))
