-- The text of a listing: "findings N", then a line a finding: code, start, end, message; then the number of expressions 25, if there are any.
-- Every line ends in a line feed.
use Rattle.std.specs.Prelude.{ℕ, zero, suc, length, get_or, Option, None, Some}
use mathlib.Core.List.{List, [], ◌++◌, flat_map}
use Rattle.words.specs.Decimal.{decimal}
use Rattle.scope.specs.Graph.{Name, name}
use Rattle.tables.specs.VarName.{var_name}
use Rattle.semantics.specs.Log.{Finding, finding}
use Rattle.texts.specs.Bytes.{bytes}
use Rattle.texts.specs.Texts.{text_of}
use Rattle.texts.specs.Codes.{text_for}
use Rattle.texts.specs.declared.Text.{Text}

-- the text of the name that is cited, if one is: the sheet's by its index, or a generated one by its id
abbrev pub name_of : List (List ℕ) → Option Name → List ℕ
name_of names None = []
name_of names (Some (name zero i)) = get_or names i []
name_of names (Some (name (suc m) v)) = var_name v

abbrev pub said_text : Option Text → List ℕ → ℕ → List ℕ
said_text (Some t) x two = text_of t x two
said_text None x two = []

-- `E` and the code, start, end, and a blank after each
unfoldable pub front : (code start stop : ℕ) → List ℕ
front code a b = (bytes "E" ++ decimal code) ++ ((bytes " " ++ decimal a) ++ ((bytes " " ++ decimal b) ++ bytes " "))

-- a line, for the name x
unfoldable pub line_for : (code start stop one two : ℕ) → List ℕ → List ℕ
line_for code a b one two x = front code a b ++ (said_text (text_for code one) x two ++ bytes "\n")

unfoldable pub line : List (List ℕ) → Finding → List ℕ
line names (finding code a b x one two) = line_for code a b one two (name_of names x)

-- "the listing ends with the line `old exists`, a blank and the number of such expressions in the whole sheet when it isn't 0" (document 02, CR 6)
unfoldable pub old_line : ℕ → List ℕ
old_line zero = []
old_line (suc n) = bytes "old exists " ++ (decimal (suc n) ++ bytes "\n")

unfoldable pub listed : List (List ℕ) → List Finding → (olds : ℕ) → List ℕ
listed names fs olds = (bytes "findings " ++ decimal (length fs)) ++ (bytes "\n" ++ (flat_map (line names) fs ++ old_line olds))
