-- How many expressions 25 a sheet has, in head and arms (document 02, CR 6).
use Rattle.std.specs.Prelude.{ℕ, ◌+◌}
use Rattle.clauses.specs.Olds.{olds_cs, olds_as}
use Rattle.sheet.specs.Statement.{Statement}

unfoldable pub old_exists : Statement → ℕ
old_exists s = olds_cs s.head + olds_as s.arms
