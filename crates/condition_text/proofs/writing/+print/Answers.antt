-- A text in stages (`Stages`): an operator's opening bracket, left operand, sign, right operand and closing bracket each stand where the last
-- ended, with 15 bytes of room for each word. The expression's length falls.
use native.Mathlib.Omega.{arith}
use mathlib.Core.Path.{refl, sym, ap, ◌∙◌}
use Rattle.heads.specs.Answer.{words_of}
use Rattle.heads.specs.Got.{is_ok}
use Rattle.condition_text.proofs.Stages.{fits, piece, ready, part}
use Rattle.condition_text.proofs.Operators.{task, bracket-short, binary-short, unary-short, operator, binary-begun, left-shorter, second, right-shorter, binary-put, prefix, unary-begun, operand-shorter, unary-put, atom-fits, atom-put}
use Rattle.condition_text.proofs.writing.+print.Goals as goal

pub overflow_sub-room : goal.overflow_sub-room
overflow_sub-room t c =
    let two = let a = c.args in task (words_of a.section.now) a.section.now.names a.room a.at a.least a.page.now.end a.page.now.bytes.now c.requires in
    let code = sym c.word.ensures ∙ c.in-15.is in
    (operator two code).deep

pub print-middle-requires : goal.print-middle-requires
print-middle-requires t c =
    let two = let a = c.args in task (words_of a.section.now) a.section.now.names a.room a.at a.least a.page.now.end a.page.now.bytes.now c.requires in
    let code = sym c.word.ensures ∙ c.in-15.is in
    let op = operator two code in
    let s1 = piece (binary-begun two code) 1 14 c.put_if.ensures.wrote (bracket-short _ _) (omega arith) in
    (rw (← c.decreases) (left-shorter two code), ready s1 _ (ap is_ok op.first) two.ready.few)

pub put-requires : goal.put-requires
put-requires t c =
    let two = let a = c.args in task (words_of a.section.now) a.section.now.names a.room a.at a.least a.page.now.end a.page.now.bytes.now c.requires in
    let code = sym c.word.ensures ∙ c.in-15.is in
    let op = operator two code in
    let s1 = piece (binary-begun two code) 1 14 c.put_if.ensures.wrote (bracket-short _ _) (omega arith) in
    let s2 = part s1 c.print-middle.ensures.put op.left op.mid op.first in
    rw c.binary_sign.ensures (fits s2 13 _ (binary-short c.word-operator.result) (omega arith))

pub overflow_sub-room-in-15 : goal.overflow_sub-room-in-15
overflow_sub-room-in-15 t c =
    let two = let a = c.args in task (words_of a.section.now) a.section.now.names a.room a.at a.least a.page.now.end a.page.now.bytes.now c.requires in
    let code = sym c.word.ensures ∙ c.in-15.is in
    (operator two code).deep

pub print-next-requires : goal.print-next-requires
print-next-requires t c =
    let two = let a = c.args in task (words_of a.section.now) a.section.now.names a.room a.at a.least a.page.now.end a.page.now.bytes.now c.requires in
    let code = sym c.word.ensures ∙ c.in-15.is in
    let op = operator two code in
    let s1 = piece (binary-begun two code) 1 14 c.put_if.ensures.wrote (bracket-short _ _) (omega arith) in
    let s2 = part s1 c.print-middle.ensures.put op.left op.mid op.first in
    let s3 = piece s2 13 1 (rw c.binary_sign.ensures at c.put.ensures.wrote) (binary-short c.word-operator.result) (omega arith) in
    let next = second two code _ c.print-middle.ensures.put in
    (rw (← c.decreases) (right-shorter two code _ c.print-middle.ensures.put), ready s3 _ (ap is_ok next) two.ready.few)

pub put_if-requires-in-15 : goal.put_if-requires-in-15
put_if-requires-in-15 t c =
    let two = let a = c.args in task (words_of a.section.now) a.section.now.names a.room a.at a.least a.page.now.end a.page.now.bytes.now c.requires in
    let code = sym c.word.ensures ∙ c.in-15.is in
    let op = operator two code in
    let s1 = piece (binary-begun two code) 1 14 c.put_if.ensures.wrote (bracket-short _ _) (omega arith) in
    let s2 = part s1 c.print-middle.ensures.put op.left op.mid op.first in
    let s3 = piece s2 13 1 (rw c.binary_sign.ensures at c.put.ensures.wrote) (binary-short c.word-operator.result) (omega arith) in
    let next = second two code _ c.print-middle.ensures.put in
    let s4 = part s3 c.print-next.ensures.put _ _ next in
    fits s4 1 _ (bracket-short _ _) (omega arith)

pub returns-in-15 : goal.returns-in-15
returns-in-15 t c =
    let two = let a = c.args in task (words_of a.section.now) a.section.now.names a.room a.at a.least a.page.now.end a.page.now.bytes.now c.requires in
    let code = sym c.word.ensures ∙ c.in-15.is in
    let op = operator two code in
    let s1 = piece (binary-begun two code) 1 14 c.put_if.ensures.wrote (bracket-short _ _) (omega arith) in
    let s2 = part s1 c.print-middle.ensures.put op.left op.mid op.first in
    let s3 = piece s2 13 1 (rw c.binary_sign.ensures at c.put.ensures.wrote) (binary-short c.word-operator.result) (omega arith) in
    let next = second two code _ c.print-middle.ensures.put in
    let s4 = part s3 c.print-next.ensures.put _ _ next in
    let s5 = piece s4 1 0 c.put_if-in-15.ensures.wrote (bracket-short _ _) (omega arith) in
    record {
      put = binary-put two code _ c.print-middle.ensures.put c.word-operator.ensures c.binary_level-level.ensures c.left_level.ensures refl c.print-next.ensures.put s5;
      lent = c.put_if-in-15.ensures.lent ∙ (c.print-next.ensures.lent ∙ (c.put.ensures.lent ∙ (c.print-middle.ensures.lent ∙ c.put_if.ensures.lent)));
    }

pub overflow_sub-room-in-16 : goal.overflow_sub-room-in-16
overflow_sub-room-in-16 t c =
    let two = let a = c.args in task (words_of a.section.now) a.section.now.names a.room a.at a.least a.page.now.end a.page.now.bytes.now c.requires in
    let code = sym c.word.ensures ∙ c.in-16.is in
    (prefix two code).deep

pub print-next-requires-in-16 : goal.print-next-requires-in-16
print-next-requires-in-16 t c =
    let two = let a = c.args in task (words_of a.section.now) a.section.now.names a.room a.at a.least a.page.now.end a.page.now.bytes.now c.requires in
    let code = sym c.word.ensures ∙ c.in-16.is in
    let op = prefix two code in
    let u1 = piece (unary-begun two code) 1 14 c.put_if-in-16.ensures.wrote (bracket-short _ _) (omega arith) in
    let u2 = piece u1 4 10 (rw c.unary_sign.ensures at c.put-in-16.ensures.wrote) (unary-short c.word-operator-in-16.result) (omega arith) in
    (rw (← c.decreases) (operand-shorter two code), ready u2 _ (ap is_ok op.first) two.ready.few)

pub put_if-requires-in-16-2 : goal.put_if-requires-in-16-2
put_if-requires-in-16-2 t c =
    let two = let a = c.args in task (words_of a.section.now) a.section.now.names a.room a.at a.least a.page.now.end a.page.now.bytes.now c.requires in
    let code = sym c.word.ensures ∙ c.in-16.is in
    let op = prefix two code in
    let u1 = piece (unary-begun two code) 1 14 c.put_if-in-16.ensures.wrote (bracket-short _ _) (omega arith) in
    let u2 = piece u1 4 10 (rw c.unary_sign.ensures at c.put-in-16.ensures.wrote) (unary-short c.word-operator-in-16.result) (omega arith) in
    let u3 = part u2 c.print-next-in-16.ensures.put op.operand _ op.first in
    fits u3 1 _ (bracket-short _ _) (omega arith)

pub returns-in-16 : goal.returns-in-16
returns-in-16 t c =
    let two = let a = c.args in task (words_of a.section.now) a.section.now.names a.room a.at a.least a.page.now.end a.page.now.bytes.now c.requires in
    let code = sym c.word.ensures ∙ c.in-16.is in
    let op = prefix two code in
    let u1 = piece (unary-begun two code) 1 14 c.put_if-in-16.ensures.wrote (bracket-short _ _) (omega arith) in
    let u2 = piece u1 4 10 (rw c.unary_sign.ensures at c.put-in-16.ensures.wrote) (unary-short c.word-operator-in-16.result) (omega arith) in
    let u3 = part u2 c.print-next-in-16.ensures.put op.operand _ op.first in
    let u4 = piece u3 1 0 c.put_if-in-16-2.ensures.wrote (bracket-short _ _) (omega arith) in
    record {
      put = unary-put two code c.word-operator-in-16.ensures c.unary_level-own.ensures c.print-next-in-16.ensures.put u4;
      lent = c.put_if-in-16-2.ensures.lent ∙ (c.print-next-in-16.ensures.lent ∙ (c.put-in-16.ensures.lent ∙ c.put_if-in-16.ensures.lent));
    }

pub put_atom-requires : goal.put_atom-requires
put_atom-requires t c =
    let two = let a = c.args in task (words_of a.section.now) a.section.now.names a.room a.at a.least a.page.now.end a.page.now.bytes.now c.requires in
    atom-fits two

pub returns-in_default : goal.returns-in_default
returns-in_default t c =
    let two = let a = c.args in task (words_of a.section.now) a.section.now.names a.room a.at a.least a.page.now.end a.page.now.bytes.now c.requires in
    record {
      put = atom-put two (λ e. omega (arith, e, c.word.ensures)) (λ e. omega (arith, e, c.word.ensures)) c.skip.ensures c.put_atom.ensures.wrote;
      lent = c.put_atom.ensures.lent;
    }
