-- A refusal as programs print it: `refused`, a blank and its number.
use Rattle.std.specs.Prelude.{ℕ, List, ◌++◌, codes}
use Rattle.std.specs.Fmt.{decimal}
use Rattle.refusal.specs.Number.{number_of}
use Rattle.refusal.specs.declared.Refusal.{Refusal}

abbrev pub shown : Refusal → List ℕ
shown refusal = codes "refused " ++ decimal (number_of refusal)
