-- The tests are those of `plain-made`.
use native.Mathlib.Omega.{arith}
use mathlib.Core.Path.{ap, ◌∙◌}
use Rattle.words.specs.Words.{words}
use Rattle.words.proofs.Words.{length-words}
use Rattle.walk.specs.Plain.{shape}
use Rattle.walk.proofs.Plains.{plain-made}
use Rattle.walk.proofs.plain.plain_at.Goals as goal

pub overflow_add-at : goal.overflow_add-at
overflow_add-at c =
    omega (arith, length-words c.args.s.now)

pub returns-else-names-a : goal.returns-else-names-a
returns-else-names-a c =
    let made = let a = c.args in
    plain-made (words a.s.now) a.names a.room a.at c.shape-t.result (omega arith) (c.shape-t.ensures ∙ ap shape c.word-code.ensures) (omega arith)
    (omega (arith, c.word-code.type_inv, c.word-code.ensures)) (rw (c.word-a.ensures, c.limit.ensures, c.word-code.ensures) at c.if-limit-a.false) in
    made (λ e. omega (arith, c.if-names-a.false, c.word-a.ensures))

pub returns-else-t-eq1 : goal.returns-else-t-eq1
returns-else-t-eq1 c =
    let made = let a = c.args in
    plain-made (words a.s.now) a.names a.room a.at c.shape-t.result (omega arith) (c.shape-t.ensures ∙ ap shape c.word-code.ensures) (omega arith)
    (omega (arith, c.word-code.type_inv, c.word-code.ensures)) (rw (c.word-a.ensures, c.limit.ensures, c.word-code.ensures) at c.if-limit-a.false) in
    made (λ e. absurd (c.if-t-eq1.false e))
