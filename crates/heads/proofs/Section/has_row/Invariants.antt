-- The loop's invariant: whether the whole table has v is whether the rows that are left have it.
use Rattle.std.proofs.Common.{◌≡◌, ◌-◌, drop}
use Rattle.heads.specs.Answer.{is_in, row_ids, words_of}
use Rattle.heads.proofs.Section.has_row.Given as goal

abbrev pub invariant-loop-i : goal.invariant-loop-i
invariant-loop-i l = is_in l.v (row_ids l.n (drop l.self.rows (words_of l.self))) ≡ is_in l.v (row_ids (l.n - l.i) (drop l.at (words_of l.self)))
