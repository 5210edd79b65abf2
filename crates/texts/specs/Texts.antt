-- The texts of the findings, as the pushes of resolve.rs and kinds.rs word them.
use Rattle.std.specs.Prelude.{ℕ, List, [], ◌∷◌, ◌++◌, get_or}
use Rattle.texts.specs.Bytes.{bytes}
use Rattle.texts.specs.declared.Text.{Text}
use Rattle.texts.specs.declared.Text.TheVariants as text

-- "the type, 1 Bool, Int, Float, String, Null, Map, Pattern, Node, Relationship, 10 Path"
abbrev pub type_names : List (List ℕ)
type_names =
    bytes "Bool" ∷ bytes "Int" ∷ bytes "Float" ∷ bytes "String" ∷ bytes "Null" ∷ bytes "Map" ∷ bytes "Pattern" ∷ bytes "Node" ∷ bytes "Relationship" ∷ bytes "Path" ∷ []

unfoldable pub type_name : ℕ → List ℕ
type_name t = get_or ([] ∷ type_names) t []

-- "kind (1 Node, 2 Relationship, 3 Path, 4 Value)"
abbrev pub kind_names : List (List ℕ)
kind_names = bytes "Node" ∷ bytes "Relationship" ∷ bytes "Path" ∷ bytes "Value" ∷ []

unfoldable pub kind_name : ℕ → List ℕ
kind_name k = get_or ([] ∷ kind_names) k []

-- the text that a push gives, for the name x and detail two
unfoldable pub text_of : Text → List ℕ → ℕ → List ℕ
text_of text.Unresolved x two = bytes "unresolved variable `" ++ (x ++ bytes "`")
text_of text.Shadows x two = bytes "variable `" ++ (x ++ bytes "` shadows an earlier binding")
text_of text.Arithmetic x two =
    bytes "variable `" ++ (x ++ (bytes "` has kind `" ++ (kind_name two ++ bytes "` but is used in an arithmetic expression; only `Value` variables are valid here")))
text_of text.PropAccess x two =
    bytes "variable `" ++ (x ++ bytes "` has kind `Path` and does not support property access; use `nodes()` or `relationships()` to extract graph elements first")
text_of text.PathBinder x two =
    bytes "variable `" ++ (x ++ (bytes "` used as path binder but has kind `" ++ (kind_name two ++ bytes "`; expected `Path`")))
text_of text.NodePosition x two =
    bytes "variable `" ++ (x ++ (bytes "` used in node-pattern position but has kind `" ++ (kind_name two ++ bytes "`; expected `Node`")))
text_of text.RelPosition x two =
    bytes "variable `" ++ (x ++ (bytes "` used in relationship-pattern position but has kind `" ++ (kind_name two ++ bytes "`; expected `Relationship`")))
text_of text.Index x two =
    bytes "cannot index non-list expression of type `" ++ (type_name two ++ bytes "`; list indexing and slicing require a list target")
text_of text.Slice x two =
    bytes "cannot slice non-list expression of type `" ++ (type_name two ++ bytes "`; list indexing and slicing require a list target")
text_of text.IterateOver x two =
    bytes "cannot iterate over non-list expression of type `" ++ (type_name two ++ bytes "`; list indexing and slicing require a list target")
text_of text.ListIterable x two =
    bytes "list-predicate iterable must be a list but found `" ++ (type_name two ++ bytes "`; ANY/ALL/NONE/SINGLE require a `LIST<T>` source")
text_of text.BoolPredicate x two =
    bytes "list-predicate WHERE clause requires a `Bool` predicate but found `" ++ (type_name two ++ bytes "`")
