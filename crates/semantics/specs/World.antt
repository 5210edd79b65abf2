-- What the walks know, and what the tables say of a variable and of a name. The sentences in quotes are document 01's.
use Rattle.std.specs.Prelude.{ℕ, zero, suc, Bool, false, cond, ◌&&◌, List, [], ◌∷◌, eqb, get_or, Option, None, Some}
use Rattle.words.specs.Fnv.{use_id}
use Rattle.heads.specs.Answer.{is_in}
use Rattle.scope.specs.Graph.{match_scope, create_scope, merge_scope, Name, indexed, generated, same_name}
use Rattle.expr.specs.Tree.{Expr, var, unresolved, node, predicate, comprehension}
use Rattle.clauses.specs.Tree.{Opening, match, create, merge}
use Rattle.tables.specs.Index.{index_of}
use Rattle.tables.specs.Row.{value_kind, Row, row}
use Rattle.tables.specs.VarName.{var_name}
use Rattle.sheet.specs.Statement.{Statement}

-- Of a name, by its index: its use id, whether it is `*`, whether it is `id`, whether it is no use here (document 02, CR 1: an alias of a
-- RETURN, in its sort keys). Of a variable: its row of the binding table, if it has one; and the index + 1 of the sheet's name that has the text of
-- a variable without one, or 0.
pub record World : Type 0 where
  pub id : ℕ → ℕ
  pub is_star : ℕ → Bool
  pub is_id : ℕ → Bool
  pub hushed : ℕ → Bool
  pub row : ℕ → Option Row
  pub named : ℕ → ℕ
  pub warns : Bool  -- the warning choice

-- the same, where just these names are no use
abbrev pub hush : List ℕ → World → World
hush xs w = record { id = w.id; is_star = w.is_star; is_id = w.is_id; hushed = λ x. is_in x xs; row = w.row; named = w.named; warns = w.warns }

-- the table's row for a variable
unfoldable pub row_of : ℕ → List Row → Option Row
row_of v [] = None
row_of v (row i x k a b ∷ t) = cond (eqb v i) (Some (row i x k a b)) (row_of v t)

-- a row's name; without one the sheet's name with the text of the variable, "given by its index", else the generated one (document 02, CR 5)
unfoldable pub listed_name : ℕ → (index : ℕ) → Name
listed_name v zero = generated v
listed_name v (suc x) = indexed x

unfoldable pub row_name : ℕ → (index : ℕ) → Option Row → Name
row_name v i None = listed_name v i
row_name v i (Some (row j x k a b)) = indexed x

-- a row's kind: "the table's, Value if it has none"
unfoldable pub row_kind : Option Row → ℕ
row_kind None = value_kind
row_kind (Some (row i x k a b)) = k

-- the names `*` and `id`
unfoldable pub star_name : List ℕ → Bool
star_name [] = false
star_name (b ∷ []) = eqb b 42
star_name (b ∷ c ∷ bs) = false

unfoldable pub id_name : List ℕ → Bool
id_name [] = false
id_name (b ∷ []) = false
id_name (b ∷ c ∷ []) = eqb b 105 && eqb c 100
id_name (b ∷ c ∷ d ∷ bs) = false

-- the bytes of a name
unfoldable pub bytes_of : Statement → ℕ → List ℕ
bytes_of s x = get_or s.names x []

unfoldable pub world_of : Bool → Statement → World
world_of warns s =
    record {
      id = λ x. use_id (bytes_of s x);
      is_star = λ x. star_name (bytes_of s x);
      is_id = λ x. id_name (bytes_of s x);
      hushed = λ x. false;
      row = λ v. row_of v s.bindings;
      named = λ v. index_of (var_name v) s.names;
      warns = warns;
    }

-- the variable of a binder, if it has one
unfoldable pub variable : Option ℕ → Option ℕ
variable (Some v) = Some v
variable None = None

-- the scope that Match, Create and Merge open
unfoldable pub opens : Opening → ℕ
opens (match o) = match_scope
opens create = create_scope
opens merge = merge_scope

-- The two forms of an expression that WITH may carry.
pub data Direct : Type 0 where
  a_var a_name : ℕ → Direct
  other : Direct

unfoldable pub direct : Expr → Direct
direct (var v) = a_var v
direct (unresolved x) = a_name x
direct (node f es) = other
direct (predicate s) = other
direct (comprehension a b s es) = other

-- a yield's alias, or its name if it has none
unfoldable pub yield_name : ℕ → Option ℕ → ℕ
yield_name x None = x
yield_name x (Some y) = y

module _ (w : World) where
  unfoldable pub name_of : ℕ → Name
  name_of v = row_name v (w.named v) (w.row v)

  unfoldable pub kind_of : ℕ → ℕ
  kind_of v = row_kind (w.row v)

-- `unfolding worlds` opens the above.
unfoldable pub worlds : Unit {0}
unfolding is_in row_of same_name listed_name row_name row_kind star_name id_name bytes_of world_of variable opens direct yield_name name_of kind_of
worlds = tt
