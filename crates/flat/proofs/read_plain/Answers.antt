-- The code, the end of the words and the range of the word decide (`Reading`).
use native.Mathlib.Omega.{arith}
use mathlib.Core.Path.{refl, sym, ◌∙◌}
use Rattle.words.proofs.Words.{length-words}
use Rattle.flat.proofs.Reading.{missing, out_of, read_is}
use Rattle.flat.proofs.read_plain.Goals as goal

pub overflow_add-p : goal.overflow_add-p
overflow_add-p c =
    omega (arith, length-words c.args.section.now.bytes.now)

pub overflow_add-q : goal.overflow_add-q
overflow_add-q c =
    omega (arith, c.words.ensures, length-words c.args.section.now.bytes.now)

pub returns-in_default : goal.returns-in_default
returns-in_default c =
    c.read_other.ensures

pub returns-then-count-q : goal.returns-then-count-q
returns-then-count-q c =
    let k = c.in-Some.ensures in
    let q = c.word.ensures in
    missing _ _ _ (rw q at k.1) (rw (c.count.ensures, c.words.ensures, k.0, q) at c.if-count-q.true)

pub returns-then-is_out : goal.returns-then-is_out
returns-then-is_out c =
    let k = c.in-Some.ensures in
    let q = c.word.ensures in
    out_of _ _ _ (rw q at k.1) (omega (arith, c.word-a.ensures, c.word-a.type_inv)) (rw (c.count.ensures, c.words.ensures, k.0, q) at c.if-count-q.false) (rw (k.0, q, c.word-a.ensures) at (sym c.is_out.ensures ∙ c.if-is_out.true))

pub returns : goal.returns
returns c =
    let k = c.in-Some.ensures in
    let q = c.word.ensures in
    let e = rw (c.count.ensures, c.words.ensures, k.0, q) at c.if-count-q.false in
    let f = read_is _ _ _ (rw q at k.1) (omega (arith, c.word-a.ensures, c.word-a.type_inv)) e (rw (k.0, q, c.word-a.ensures) at (sym c.is_out.ensures ∙ c.if-is_out.false)) in
    rw (c.parts.ensures, c.words.ensures, k.0, q, c.word-a.ensures) (f.0, (f.1.0, (f.1.1, record { rest = refl; longer = omega arith; within = e })))
