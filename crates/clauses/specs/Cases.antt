-- The deepest expression that is read, and one too deep. An edit of the limit is refused here.
use Rattle.std.specs.Prelude.{ℕ, ◌-◌, ◌≡◌, refl, List, [], ◌∷◌, ◌++◌, replicate}
use Rattle.heads.specs.Got.{ok, no, bare, word_in}
use Rattle.heads.specs.Head.{deep_cause}
use Rattle.heads.specs.Form.{read_form, rest_of, shape_of, form_none}
use Rattle.expr.specs.Read.{reading}
use Rattle.clauses.specs.Read.{read_clause, clausal}

-- WHERE with an IsNull in an IsNull and so on, and Null in the last: the depth of the Null
unfoldable pub nested : ℕ → List ℕ
nested depth = 2 ∷ 0 ∷ 0 ∷ (replicate (depth - 1) 18 ++ 1 ∷ [])

module _ (names : ℕ) where
  -- "depth 19 is accepted"
  pub deepest : bare (read_clause names (nested 19)) ≡ ok tt []
  unfolding nested clausal reading read_form rest_of shape_of form_none word_in
  deepest = refl

  -- "and 20 gets refusal 6"
  pub deeper : read_clause names (nested 20) ≡ no 6
  unfolding nested clausal reading read_form rest_of shape_of form_none word_in deep_cause
  deeper = refl
