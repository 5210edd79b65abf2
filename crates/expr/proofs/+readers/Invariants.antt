use Rattle.std.proofs.Common.{◌*◌, ◌-◌, ◌+◌, length}
use Rattle.heads.specs.Answer.{words_of, kind_of}
use Rattle.heads.proofs.Rows.{Row}
use Rattle.expr.specs.Read.{reader_of}
use Rattle.expr.proofs.Rows.{elem_rows, kid_rows, mark_rows, part_rows}
use Rattle.expr.proofs.+readers.Given as goal

-- seven for each word that is left, and the function's rank
abbrev pub decreases-read_expr : goal.decreases-read_expr
decreases-read_expr l = 7 * (length (words_of l.section.now) - l.at) + 0

abbrev pub decreases-read_kids : goal.decreases-read_kids
decreases-read_kids l = 7 * (length (words_of l.section.now) - l.at) + 1

abbrev pub decreases-read_marks : goal.decreases-read_marks
decreases-read_marks l = 7 * (length (words_of l.section.now) - l.at) + 2

abbrev pub decreases-read_elem : goal.decreases-read_elem
decreases-read_elem l = 7 * (length (words_of l.section.now) - l.at) + 2

abbrev pub decreases-read_elems : goal.decreases-read_elems
decreases-read_elems l = 7 * (length (words_of l.section.now) - l.at) + 3

abbrev pub decreases-read_part : goal.decreases-read_part
decreases-read_part l = 7 * (length (words_of l.section.now) - l.at) + 4

abbrev pub decreases-read_parts : goal.decreases-read_parts
decreases-read_parts l = 7 * (length (words_of l.section.now) - l.at) + 5

abbrev pub decreases-read_pattern : goal.decreases-read_pattern
decreases-read_pattern l = 7 * (length (words_of l.section.now) - l.at) + 6

abbrev pub invariant-read_kids-loop : goal.invariant-read_kids-loop
invariant-read_kids-loop l = Row (kid_rows (reader_of l.section l.room)) (words_of l.section) l.at l.n l.counter l.p

abbrev pub invariant-read_marks-loop : goal.invariant-read_marks-loop
invariant-read_marks-loop l = Row (mark_rows (kind_of l.kind) (reader_of l.section l.room)) (words_of l.section) l.at l.n l.counter l.p

abbrev pub invariant-read_parts-loop : goal.invariant-read_parts-loop
invariant-read_parts-loop l = Row (part_rows (reader_of l.section l.room)) (words_of l.section) l.at l.n l.counter l.p

abbrev pub invariant-read_elems-loop : goal.invariant-read_elems-loop
invariant-read_elems-loop l = Row (elem_rows (reader_of l.section l.room)) (words_of l.section) l.at l.n l.counter l.p
