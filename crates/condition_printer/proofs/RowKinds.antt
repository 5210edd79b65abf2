-- The two kinds of things in rows: clauses and arms.
use Prim.Native.Nat.{ℕ}
use Rattle.clauses.specs.Tree.{Clause, Arm}
use Rattle.clauses.specs.Read.{read_clause, read_arm}
use Rattle.clauses.specs.Write.{write_clause, write_arm}
use Rattle.clauses.proofs.WrittenClause.{clause-written, arm_written}
use Rattle.condition_printer.specs.Conditions.{of_clause, of_arm}
use Rattle.condition_printer.proofs.Rows.{Things}

abbrev pub clauses : ℕ → Things Clause
clauses names = record { one = read_clause names; write = write_clause; of = of_clause; spelt = λ l x r e. (clause-written names l x r e).0 }

abbrev pub arms : ℕ → Things Arm
arms names = record { one = read_arm names; write = write_arm; of = of_arm; spelt = λ l x r e. (arm_written names l x r e).0 }
