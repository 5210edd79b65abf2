-- "the type, 1 Bool, Int, Float, String, Null, Map, Pattern, Node, Relationship, 10 Path"
use Rattle.std.specs.Prelude.{ℕ}
use Rattle.expr.specs.declared.types.Type as declared
use Rattle.expr.specs.declared.types.Type.TheVariants.{Bool, Int, Float, String, Null, Map, Pattern, Node, Relationship, Path}

abbrev pub number_of : declared.Type → ℕ
number_of Bool = 1
number_of Int = 2
number_of Float = 3
number_of String = 4
number_of Null = 5
number_of Map = 6
number_of Pattern = 7
number_of Node = 8
number_of Relationship = 9
number_of Path = 10
