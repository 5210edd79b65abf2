-- The next row has v, or those after it decide; past the words and past the last row there is none.
use Rattle.std.proofs.Common.{◌≡◌, rules, ◌+◌, ◌-◌, ◌∙◌, true, false, sym, arith}
use Rattle.std.specs.Prelude.{get_or, eqb}
use borrow.Author.Tests.{eq-eqb, ne_eqb}
use Rattle.words.proofs.Words.{length-words}
use Rattle.heads.specs.Answer.{words_of}
use Rattle.heads.proofs.Bindings.{rows_more, rows-past, rows_none}
use Rattle.heads.proofs.Section.has_row.Goals as goal

pub loop-i-init : goal.loop-i-init
loop-i-init c = search rules

pub returns-then-count-at : goal.returns-then-count-at
returns-then-count-at c =
    let l = c.loop-i in
    sym (l.invariant ∙ rows-past _ l.at (c.args.n - l.i) _ (omega arith))

pub returns-then-word-v : goal.returns-then-word-v
returns-then-word-v c =
    let l = c.loop-i in
    let ws = words_of c.args.self.now in
    let here : eqb c.args.v (get_or ws l.at 0) ≡ true = eq-eqb _ _ (sym c.if-word-v.true ∙ c.word.ensures) in
    sym (l.invariant ∙ rows_more ws l.at (c.args.n - l.i) c.args.v (omega arith) (omega arith) ∙ rw here)

pub overflow_add-at : goal.overflow_add-at
overflow_add-at c = omega (arith, length-words c.args.self.now.bytes.now)

pub loop-i-preserved : goal.loop-i-preserved
loop-i-preserved c =
    let l = c.loop-i in
    let ws = words_of c.args.self.now in
    let other : eqb c.args.v (get_or ws l.at 0) ≡ false = ne_eqb _ _ (λ e. c.if-word-v.false (c.word.ensures ∙ sym e)) in
    let less : c.args.n - l.i - 1 ≡ c.args.n - (l.i + 1) = omega arith in
    l.invariant ∙ rows_more ws l.at (c.args.n - l.i) c.args.v (omega arith) (omega arith) ∙ rw (other, less)

pub returns : goal.returns
returns c =
    let l = c.loop-i in
    sym (l.invariant ∙ rows_none _ l.at (c.args.n - l.i) _ (omega arith))
