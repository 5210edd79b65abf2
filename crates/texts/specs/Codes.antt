-- Which text a code and a detail one stand for (document 01: "Detail one, numbered from 1").
use Rattle.std.specs.Prelude.{ℕ, cond, eqb, Option, None, Some}
use Rattle.texts.specs.declared.Text.{Text}
use Rattle.texts.specs.declared.Text.TheVariants as text

-- "E2007 arithmetic, property"
unfoldable pub of2007 : ℕ → Option Text
of2007 one = cond (eqb one 1) (Some text.Arithmetic) (cond (eqb one 2) (Some text.PropAccess) None)

-- "E2008 path, node, relationship"
unfoldable pub of2008 : ℕ → Option Text
of2008 one =
    cond (eqb one 1) (Some text.PathBinder) (cond (eqb one 2) (Some text.NodePosition) (cond (eqb one 3) (Some text.RelPosition) None))

-- "E5010 index, slice, iterate over"
unfoldable pub of5010 : ℕ → Option Text
of5010 one = cond (eqb one 1) (Some text.Index) (cond (eqb one 2) (Some text.Slice) (cond (eqb one 3) (Some text.IterateOver) None))

-- "An unused detail is 0"
unfoldable pub unused : Text → ℕ → Option Text
unused t one = cond (eqb one 0) (Some t) None

unfoldable pub text_for : ℕ → ℕ → Option Text
text_for code one =
    cond (eqb code 1001) (unused text.Unresolved one)
    (cond (eqb code 1002) (unused text.Shadows one)
    (cond (eqb code 2007) (of2007 one)
    (cond (eqb code 2008) (of2008 one)
    (cond (eqb code 2011) (unused text.BoolPredicate one)
    (cond (eqb code 5010) (of5010 one) (cond (eqb code 5011) (unused text.ListIterable one) None))))))
