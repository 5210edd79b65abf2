-- The type that is shown, if any, in the definition's numbers.
use Rattle.std.specs.Prelude.{ℕ, [], ◌∷◌, get_or, Option, None, Some}
use Rattle.expr.specs.Types.{number_of}
use Rattle.expr.specs.declared.types.«Type».{«Type»}
use Rattle.expr.specs.declared.types.«Type».TheVariants.{Bool, Int, Float, String, Null, Map, Pattern, Node, Relationship, Path}
use Rattle.semantics.specs.Kinds.{no_type}

abbrev pub type_number : Option «Type» → ℕ
type_number None = no_type
type_number (Some t) = number_of t

-- the type with a number
abbrev pub type_at : ℕ → Option «Type»
type_at n =
    get_or (None ∷ Some Bool ∷ Some Int ∷ Some Float ∷ Some String ∷ Some Null ∷ Some Map ∷ Some Pattern ∷ Some Node ∷ Some Relationship ∷ Some Path ∷ []) n None
