-- The loop's invariant: the first i rows hang in their chains, and the whole is decided by those that are left.
use Rattle.std.proofs.Common.{◌≡◌, drop}
use Rattle.words.specs.Words.{words}
use Rattle.heads.specs.Answer.{row_ids, is_in}
use Rattle.tables.specs.Distinct.{distinct}
use Rattle.rows.specs.Rows.{id_at, Hung}
use Rattle.rows.proofs.Ids.{fresh}
use Rattle.rows.proofs.Index.hang_rows.Given as goal

abbrev pub invariant-loop-i : goal.invariant-loop-i
invariant-loop-i l = record {
  hung : Hung l.self.mult l.self.slots l.i (id_at (words l.bytes) l.self.first) l.chains;
  same : distinct is_in (row_ids l.self.count (drop l.self.first (words l.bytes))) ≡ fresh (words l.bytes) l.self.first l.self.count l.i;
}
