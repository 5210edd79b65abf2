-- The kinds of clauses and their codes (document 01, "Clause"; document 02 adds 12 and 13, a WITH and a RETURN with sort keys).
use Rattle.std.specs.Prelude.{ℕ, ◌≡◌, ◌≢◌, Result, Ok, Err}
use Rattle.refusal.specs.declared.Refusal.{Refusal}
use Rattle.refusal.specs.declared.Refusal.TheVariants.{Word}
use Rattle.clauses.specs.declared.kind.ClauseKind.{ClauseKind}
use Rattle.clauses.specs.declared.kind.ClauseKind.TheVariants.{Match, Where, With, Return, Unwind, Create, Merge, Set, Remove, Delete, Call, SortedWith, SortedReturn}

abbrev pub code_of : ClauseKind → ℕ
code_of Match = 1
code_of Where = 2
code_of With = 3
code_of Return = 4
code_of Unwind = 5
code_of Create = 6
code_of Merge = 7
code_of Set = 8
code_of Remove = 9
code_of Delete = 10
code_of Call = 11
code_of SortedWith = 12
code_of SortedReturn = 13

-- the kind with a code, or cause 5 for a code that no kind has
abbrev pub Decodes : ℕ → Result ClauseKind Refusal → Type 0
Decodes code (Ok kind) = code_of kind ≡ code
Decodes code (Err e) = (e ≡ Word) × ((kind : ClauseKind) → code_of kind ≢ code)
