-- What comes out of both walks against the words of the sheet (cause 8: "fewer entries than the sheet has words"), but for what its WITHs carry
-- and bind, of which stars make more than words: see Needs (document 02, CR 2).
use Rattle.std.specs.Prelude.{ℕ, ◌+◌, ◌≤◌, Bool, length}
use Rattle.clauses.specs.Tree.{Clause}
use Rattle.clauses.specs.Write.{write_clause}
use Rattle.sheet.specs.Statement.{Statement}
use Rattle.semantics.specs.World.{World, world_of}
use Rattle.semantics.specs.Resolve.{State, clause, log}
use Rattle.semantics.specs.Kinds.{kinds_c, kinds}
use Rattle.semantics.specs.Lists
use Rattle.theorems.specs.Woven

-- One clause, from any state: what it says, save what it carries and binds as a WITH, with what the kinds walk finds in it is at most its
-- words.
abbrev pub ClauseFits : World → Clause → State → Type 0
ClauseFits w t s = length (Woven.written (clause w t s).log) + length (kinds_c w t) ≤ length (write_clause t) + length (Woven.written s.log)

-- The written part of the log with the kinds findings, and so each of three lists, has at most n entries.
pub record Fits (warns : Bool) (st : Statement) (n : ℕ) : Type 0 where
  pub written : length (Woven.written (log warns st)) + length (kinds (world_of warns st) st.head) ≤ n
  pub scopes : length (Lists.scopes warns st) ≤ n
  pub recorded : length (Lists.recorded warns st) ≤ n
  pub findings : length (Lists.findings warns st) ≤ n
