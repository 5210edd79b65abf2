-- The loop's invariant: the first i variables are distinct, so the whole is decided by those that are left.
use Prim.Native.Nat.{ℕ, ◌+◌, ◌-◌, ◌*◌, ◌≤◌}
use mathlib.Core.Path.{◌≡◌}
use mathlib.Core.List.{List}
use lib.ListN.{drop}
use Rattle.heads.specs.Answer.{words_of, row_ids, is_in}
use Rattle.tables.specs.Distinct.{fresh_after, distinct}
use Rattle.tables.proofs.rows.distinct_ids.Given as goal

pub record Inv (ws : List ℕ) (rows n i : ℕ) : Type 0 where
  pub most : i ≤ n
  pub same : distinct is_in (row_ids n (drop rows ws)) ≡ fresh_after is_in (row_ids i (drop rows ws)) (row_ids (n - i) (drop (rows + i * 5) ws))

abbrev pub invariant-loop-i : goal.invariant-loop-i
invariant-loop-i l = Inv (words_of l.section) l.section.rows l.n l.i
