-- Expressions 25 in each place of an expression, counted. Edits of the count are refused here.
use Rattle.std.specs.Prelude.{◌≡◌, refl, [], ◌∷◌, map, None}
use Rattle.heads.specs.declared.Form.TheVariants.{Leaf, Two, MapProjection}
use Rattle.expr.specs.Tree.{Expr, node, predicate, comprehension, done, more, mark, Steps, end, part, elem}
use Rattle.expr.specs.Olds.{olds_e}

-- one of them, and any other
abbrev pub old : Expr
old = node (Leaf 25) done

abbrev pub null : Expr
null = node (Leaf 1) done

-- a pattern with one in its property
abbrev pub old_within : Steps
old_within = part None (elem 1 0 0 None (more old done) end)

-- alone; another alone; both operands and one in an operand; a Map's base and an item; a PatternPredicate's property; a PatternComprehension's
-- property and map
pub places : map olds_e
    (old
    ∷ null
    ∷ node (Two 19) (more old (more (node (Two 19) (more null (more old done))) done))
    ∷ node (MapProjection 2) (more old (mark 0 (mark 1 (more old done))))
    ∷ predicate old_within
    ∷ comprehension 0 0 old_within (more old done)
    ∷ []) ≡ 1 ∷ 0 ∷ 2 ∷ 2 ∷ 1 ∷ 2 ∷ []
unfolding olds_e
places = refl
