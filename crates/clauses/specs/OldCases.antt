-- Expressions 25 in each place of a clause, counted, and one that is read. Edits of the count are refused here.
use Rattle.std.specs.Prelude.{ℕ, ◌≡◌, refl, List, [], ◌∷◌, map, None}
use Rattle.heads.specs.Got.{ok, word_in}
use Rattle.heads.specs.Form.{read_form, rest_of, shape_of, form_none}
use Rattle.expr.specs.Tree.{done, more, mark, tree}
use Rattle.expr.specs.Olds.{olds_e}
use Rattle.expr.specs.OldCases.{old, null, old_within}
use Rattle.expr.specs.Read.{reading as read}
use Rattle.clauses.specs.Tree.{Projection, projection, yield, match, where', set, sorted, unsorted, Clause, opening, reading, with', return, unwind, call, arm, exprs, keys_of}
use Rattle.clauses.specs.Read.{read_clause, clausal}
use Rattle.clauses.specs.Olds.{olds_c, olds_cs, olds_a, olds_as}

-- WHERE and one of them
abbrev pub old_where : Clause
old_where = reading where' 0 0 (more old done)

abbrev one : List Projection
one = projection None old ∷ []

-- a Match's property; a Set's item; a With's projection, filter and sort key; a Return's projection and sort key; Unwind's list; a Call's argument
pub places : map olds_c
    (opening (match 0) 0 0 old_within
    ∷ old_where
    ∷ reading set 0 0 (mark 1 (more null (more old done)))
    ∷ with' 0 0 one (more old done) (sorted (more old done))
    ∷ return 0 0 one (sorted (more old done))
    ∷ unwind 0 0 1 old
    ∷ call 0 0 (more old done) (yield 0 None 1 ∷ [])
    ∷ return 0 0 [] unsorted
    ∷ []) ≡ 1 ∷ 1 ∷ 1 ∷ 3 ∷ 2 ∷ 1 ∷ 1 ∷ 0 ∷ []
unfolding olds_c olds_e exprs keys_of
places = refl

-- two arms
pub arms : olds_as (arm 0 0 (old_where ∷ old_where ∷ []) ∷ arm 0 0 (old_where ∷ []) ∷ []) ≡ 3
unfolding olds_as olds_a olds_cs olds_c olds_e
arms = refl

-- "they are read as before"
pub stored : (names : ℕ) → read_clause names (2 ∷ 0 ∷ 0 ∷ 25 ∷ []) ≡ ok old_where []
unfolding clausal read tree read_form rest_of shape_of form_none word_in
stored names = refl
