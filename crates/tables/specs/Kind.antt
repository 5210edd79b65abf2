-- The kinds of variables as the numbers of a binding's word.
use Rattle.std.specs.Prelude.{ℕ}
use Rattle.tables.specs.Row.{node_kind, relationship_kind, path_kind, value_kind}
use Rattle.tables.specs.declared.kind.VarKind.{VarKind}
use Rattle.tables.specs.declared.kind.VarKind.TheVariants.{Node, Relationship, Path, Value}

abbrev pub number_of : VarKind → ℕ
number_of Node = node_kind
number_of Relationship = relationship_kind
number_of Path = path_kind
number_of Value = value_kind
