-- The conditions on a page, "printed one a line", each line ended by a line feed; 12 where the page is too short.
use Rattle.std.specs.Prelude.{ℕ, ◌<◌, ◌≤◌, ◌≡◌, true, cond, ◌⊎◌, leb, length, drop, Option, Some, None}
use mathlib.Core.List.{List, [], ◌∷◌, ◌++◌, flat_map}
use Rattle.words.specs.Front.{put_front}
use Rattle.heads.specs.Got.{ok, is_ok, many}
use Rattle.expr.specs.Tree.{Expr}
use Rattle.expr.specs.Read.{read_expr}
use Rattle.clauses.specs.Tree.{Clause}
use Rattle.clauses.specs.Read.{max_depth, read_clause, read_arm}
use Rattle.clauses.specs.Write.{write_clause, write_arm}
use Rattle.sheet.specs.Read.{Sheet, accepted, refused}
use Rattle.condition.specs.Cond.{Cond}
use Rattle.condition.specs.Printed.{printed}
use Rattle.condition_text.specs.Tree.{cond_e}
use Rattle.condition_text.specs.Write.{PutOn}
use Rattle.condition_text.specs.declared.page.Page.{Page}
use Rattle.condition_printer.specs.Conditions.{of_clause, of_arm, in_row}

-- a line
abbrev pub line : Cond → List ℕ
line c = printed 0 c ++ (10 ∷ [])

-- "printed one a line in sheet order"
unfoldable pub page_of : List Cond → List ℕ
page_of cs = flat_map line cs

-- the length of the text, or the refusal
unfoldable pub conditions_as : Sheet (List Cond) → ℕ → Sheet ℕ
conditions_as (accepted cs) room = cond (leb (length (page_of cs)) room) (accepted (length (page_of cs))) (refused 12)
conditions_as (refused c) room = refused c

-- what is left of the page: the text at its front, where it fits
unfoldable pub page_as : Sheet (List Cond) → List ℕ → List ℕ
page_as (accepted cs) page = put_front (page_of cs) page
page_as (refused c) page = page

-- the conditions of a sheet that was accepted
abbrev pub conds_in : Sheet (List Cond) → List Cond
conds_in (accepted cs) = cs
conds_in (refused c) = []

-- the text of things in sheet order that was read at a word
abbrev pub text_of : {A : Type 0} → (A → ℕ → List Cond) → ℕ → A → List ℕ
text_of of at x = page_of (of x at)

-- the words of a row
abbrev pub row_words : {A : Type 0} → (A → List ℕ) → List A → List ℕ
row_words write xs = flat_map write xs

-- the lines of the clause, or of the n clauses, at a word were added to a page
abbrev pub PutClause : List ℕ → ℕ → ℕ → Page → Page → ℕ → Type 0
PutClause ws names at old new next = PutOn (read_clause names (drop at ws)) write_clause (text_of of_clause at) ws at old new next

abbrev pub PutClauses : List ℕ → ℕ → ℕ → ℕ → Page → Page → ℕ → Type 0
PutClauses ws names n at old new next = PutOn (many (read_clause names) n (drop at ws)) (row_words write_clause) (text_of (in_row write_clause of_clause) at) ws at old new next

-- and of arms
abbrev pub PutArm : List ℕ → ℕ → ℕ → Page → Page → ℕ → Type 0
PutArm ws names at old new next = PutOn (read_arm names (drop at ws)) write_arm (text_of of_arm at) ws at old new next

abbrev pub PutArms : List ℕ → ℕ → ℕ → ℕ → Page → Page → ℕ → Type 0
PutArms ws names n at old new next = PutOn (many (read_arm names) n (drop at ws)) (row_words write_arm) (text_of (in_row write_arm of_arm) at) ws at old new next

-- the kinds of a WITH, without and with sort keys
abbrev pub IsWith : ℕ → Type 0
IsWith kind = (kind ≡ 3) ⊎ (kind ≡ 12)

-- where the condition of a clause stands: the tree there is the clause's, and ends no later
pub record Stands (ws : List ℕ) (names at q : ℕ) : Type 0 where
  pub fine : is_ok (read_expr names max_depth (drop q ws)) ≡ true
  pub from : at < q
  pub within : q ≤ length ws
  pub is : (c : Clause) (r : List ℕ) (e : Expr) (u : List ℕ) → read_clause names (drop at ws) ≡ ok c r → read_expr names max_depth (drop q ws) ≡ ok e u → (of_clause c at ≡ cond_e e q ∷ []) × (length r ≤ length u)

-- the condition of a clause stands here, or it has none
abbrev pub Placed : List ℕ → ℕ → ℕ → Option ℕ → Type 0
Placed ws names at (Some q) = Stands ws names at q
Placed ws names at None = (c : Clause) (r : List ℕ) → read_clause names (drop at ws) ≡ ok c r → of_clause c at ≡ []
