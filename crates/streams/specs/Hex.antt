-- A number in hexadecimal, in lower case.
use Rattle.std.specs.Prelude.{ℕ, ◌-◌, false, List, ◌++◌, length, replicate}
use Rattle.std.specs.Fmt.{digits}

-- its digits, with zeros before them where they are fewer than the width
abbrev pub hex : (width n : ℕ) → List ℕ
hex width n = replicate (width - length (digits 16 false n)) 48 ++ digits 16 false n
