-- The visible names of a walk: in its words a name is its place, which stands there as an index, and the places are those of `rowless`.
use Rattle.std.specs.Prelude.{ℕ, ◌<◌, ◌≡◌, List, [], ◌∷◌}
use Rattle.scope.specs.Graph.{Name, name}
use Rattle.semantics.specs.Resolve.{Seen, seen}
use Rattle.rowless.specs.Rowless.{named}
use Rattle.rowless.specs.declared.Rowless.{Rowless}

-- the name at a place that stands as an index
abbrev pub name_of : Rowless → Name → Name
name_of r (name m x) = named r x

-- entries by their names
unfoldable pub as_named : Rowless → List Seen → List Seen
as_named r [] = []
as_named r (seen n h p ∷ l) = seen (name_of r n) h p ∷ as_named r l

-- entries by places below n
unfoldable pub Below : ℕ → List Seen → Type 0
Below n [] = Unit {0}
Below n (seen (name m x) h p ∷ l) = ((m ≡ 0) × (x < n)) × Below n l
