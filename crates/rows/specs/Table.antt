-- The rows of a sheet, as they are sought and hung up.
use Rattle.std.specs.Prelude.{ℕ, ◌+◌, ◌*◌, ◌≤◌, ◌≡◌, Bool, true, List, length, drop, Option}
use Rattle.words.specs.Words.{words}
use Rattle.heads.specs.Answer.{row_ids, is_in}
use Rattle.tables.specs.Distinct.{distinct}
use Rattle.tables.specs.Row.{Row}
use Rattle.rows.specs.Rows.{id_at, seek, row_told, Hung}
use Rattle.rows.specs.declared.Index.{Index}
use Rattle.rows.specs.declared.Rows.{Rows}

-- the chains of an index are those of all rows in these words
abbrev pub HungBy : Index → (ws chains : List ℕ) → Type 0
HungBy x ws chains = Hung x.mult x.slots x.count (id_at ws x.first) chains

-- the row of a variable among the rows of an index, in these words
abbrev pub row_by : Index → List ℕ → ℕ → Option Row
row_by x ws v = row_told ws x.first (seek (id_at ws x.first) v x.count)

abbrev pub row_in : Rows → ℕ → Option Row
row_in r v = row_by r.index (words r.bytes.now) v

-- the rows of an index stand in the words, and hang in the chains
pub record Stands (x : Index) (ws chains : List ℕ) : Type 0 where
  pub within : x.first + x.count * 5 ≤ length ws
  pub hung : HungBy x ws chains

abbrev pub Standing : Rows → Type 0
Standing r = Stands r.index (words r.bytes.now) r.chains.now

-- all rows are looked at: whether their variables are distinct, and if so they are all hung up
pub record Indexed (x : Index) (ws old new : List ℕ) (r : Bool) : Type 0 where
  pub same : r ≡ distinct is_in (row_ids x.count (drop x.first ws))
  pub kept : length new ≡ length old
  pub hung : r ≡ true → HungBy x ws new
