-- A WITH and a RETURN with sort keys, as their readers read them: without their spans. Only contracts need these.
use Rattle.std.specs.Prelude.{ℕ, List}
use Rattle.heads.specs.Got.{Got}
use Rattle.clauses.specs.Tree.{Clause}
use Rattle.clauses.specs.Read.{some_keys, read_with, read_return}

abbrev pub sorted_with : ℕ → List ℕ → Got Clause
sorted_with names = read_with names 0 0 (some_keys names)

abbrev pub sorted_return : ℕ → List ℕ → Got Clause
sorted_return names = read_return names 0 0 (some_keys names)
