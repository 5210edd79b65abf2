-- The conditions of a sheet in sheet order: "The predicates of WHERE clauses and the filters of WITH", head and then arms.
use Rattle.std.specs.Prelude.{ℕ, ◌+◌, List, [], ◌∷◌, ◌++◌, length}
use Rattle.words.specs.Words.{words}
use Rattle.clauses.specs.Tree.{Reading, where', set, remove, delete, Clause, opening, reading, with', return, unwind, call, Arm, arm}
use Rattle.clauses.specs.Write.{write_projection, counted_words, write_clause, write_arm}
use Rattle.expr.specs.Tree.{Exprs}
use Rattle.sheet.specs.Trailer.{places_of}
use Rattle.sheet.specs.Read.{Sheet, accepted, then', read_sheet}
use Rattle.sheet.specs.declared.trailer.Places.{Places}
use Rattle.condition.specs.Cond.{Cond}
use Rattle.condition_text.specs.Tree.{cond_es}

-- the condition of a clause whose first word is number `at`, if it has one: a WHERE's predicate stands after kind and span
abbrev pub of_reading : Reading → Exprs → ℕ → List Cond
of_reading where' es at = cond_es es (at + 3)
of_reading set es at = []
of_reading remove es at = []
of_reading delete es at = []

-- a WITH's filter, after projections and flag; sort keys are no conditions
unfoldable pub of_clause : Clause → ℕ → List Cond
of_clause (opening o a b s) at = []
of_clause (reading r a b es) at = of_reading r es at
of_clause (with' a b ps f ks) at = cond_es f (at + 3 + length (counted_words write_projection ps) + 1)
of_clause (return a b ps ks) at = []
of_clause (unwind a b v e) at = []
of_clause (call a b es ys) at = []

-- those of a row, one after the other
unfoldable pub in_row : {A : Type 0} → (A → List ℕ) → (A → ℕ → List Cond) → List A → ℕ → List Cond
in_row write of [] at = []
in_row write of (x ∷ xs) at = of x at ++ in_row write of xs (at + length (write x))

-- an arm's clauses stand after its span and their count
unfoldable pub of_arm : Arm → ℕ → List Cond
of_arm (arm a b cs) at = in_row write_clause of_clause cs (at + 3)

-- head and arms begin where the trailer says
abbrev pub conditions_of : Places → List Clause → List Arm → List Cond
conditions_of p head arms = in_row write_clause of_clause head p.head ++ in_row write_arm of_arm arms p.tail

-- those of an accepted sheet: "a sheet refused by 1 to 6 gives that number"
unfoldable pub read_conditions : List ℕ → Sheet (List Cond)
read_conditions s = then' (read_sheet s) (λ st. accepted (conditions_of (places_of (words s)) st.head st.arms))
