-- The number of each cause (document 01, its table of causes; document 02 adds 12, a list with too few entries for a text's tokens).
use Rattle.std.specs.Prelude.{ℕ}
use Rattle.refusal.specs.declared.Refusal.{Refusal}
use Rattle.refusal.specs.declared.Refusal.TheVariants.{Size, Places, Names, Bindings, Word, Depth, Entries, Asked, Page, Room}

abbrev pub number_of : Refusal → ℕ
number_of Size = 1
number_of Places = 2
number_of Names = 3
number_of Bindings = 4
number_of Word = 5
number_of Depth = 6
number_of Entries = 8
number_of Asked = 9
number_of Page = 10
number_of Room = 12
