-- What a line asks: `add`, a queue's number and an item, or `take`. Numbers are decimal without leading zeros, below 2 ^ 32; one blank parts
-- them. Any other line is unread.
use Rattle.std.specs.Prelude.{ℕ, suc, ◌+◌, ◌*◌, ◌-◌, ◌^◌, cond, ◌&&◌, List, [], ◌∷◌, eqb, leb, ltb, take, drop, Option, Some, None}
use Prim.Native.Char.{code}
use Prim.Native.String.{String, [] as end, ◌∷◌ as ◌▹◌}
use Rattle.turns.specs.declared.line.Command.{Command}
use Rattle.turns.specs.declared.line.Command.TheVariants.{Add, Take}

-- a quoted text as bytes
abbrev pub bytes : String → List ℕ
bytes end = []
bytes (c ▹ cs) = code c ∷ bytes cs

-- the bytes after a text that they begin with
unfoldable pub strip : (text : List ℕ) → List ℕ → Option (List ℕ)
strip [] s = Some s
strip (t ∷ ts) [] = None
strip (t ∷ ts) (b ∷ s) = cond (eqb t b) (strip ts s) None

-- the number that digits write behind those of v
unfoldable pub digits_from : (v : ℕ) → List ℕ → Option ℕ
digits_from v [] = Some v
digits_from v (d ∷ ds) =
    cond (leb 48 d && (leb d 57 && ltb (v * 10 + (d - 48)) (2 ^ 32))) (digits_from (v * 10 + (d - 48)) ds) None

-- 0 stands alone
abbrev pub zero_alone : List ℕ → Option ℕ
zero_alone [] = Some 0
zero_alone (d ∷ ds) = None

unfoldable pub number_of : List ℕ → Option ℕ
number_of [] = None
number_of (d ∷ ds) = cond (eqb d 48) (zero_alone ds) (digits_from 0 (d ∷ ds))

-- how many bytes stand before the first blank
unfoldable pub before_blank : List ℕ → ℕ
before_blank [] = 0
before_blank (b ∷ s) = cond (eqb b 32) 0 (suc (before_blank s))

abbrev pub adding : Option ℕ → Option ℕ → Option Command
adding None item = None
adding (Some q) None = None
adding (Some q) (Some item) = Some (Add q item)

-- a queue's number, a blank and an item
unfoldable pub pair_of : List ℕ → Option Command
pair_of s = adding (number_of (take (before_blank s) s)) (number_of (drop (before_blank s + 1) s))

-- what follows `take`, and what follows `add` and a blank
abbrev pub taking : Option (List ℕ) → Option Command → Option Command
taking None other = other
taking (Some []) other = Some Take
taking (Some (b ∷ s)) other = None

abbrev pub pair_in : Option (List ℕ) → Option Command
pair_in None = None
pair_in (Some s) = pair_of s

unfoldable pub command_of : List ℕ → Option Command
command_of line = taking (strip (bytes "take") line) (pair_in (strip (bytes "add ") line))
