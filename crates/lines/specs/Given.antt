-- What the writer of the lines goes by: the names, and the findings as the flat words of a log, six each.
use Rattle.std.specs.Prelude.{ℕ, zero, suc, ◌-◌, ◌*◌, ◌≤◌, ◌≡◌, Bool, cond, List, [], ◌∷◌, ◌++◌, map, ltb, leb, length, take}
use Rattle.tables.specs.Name.{name_at}
use Rattle.semantics.specs.Log.{Finding}
use Rattle.finding.specs.Logged.{logged_at}
use Rattle.lines.specs.Lines.{listed}
use Rattle.lines.specs.declared.names.Names.{Names}
use Rattle.lines.specs.declared.names.NameText.{NameText}
use Rattle.lines.specs.declared.names.NameText.TheVariants.{Listed, Generated}
use Rattle.lines.specs.declared.found.Found.{Found}

-- the texts of the names
abbrev pub texts_of : Names → List (List ℕ)
texts_of names = map (name_at names.section.now) names.places.now

-- the bytes of a name
abbrev pub bytes_in : NameText → List ℕ
bytes_in (Listed text) = text.now
bytes_in (Generated name) = take name.len name.bytes

-- where the finding numbered i stands: the first ones from the front of the words on, so many, the others from their end back
abbrev pub word_of : ℕ → List ℕ → ℕ → ℕ
word_of front l i = cond (ltb i front) (i * 6) (length l - suc (i - front) * 6)

-- n findings in order
unfoldable pub findings_in : ℕ → ℕ → List ℕ → List Finding
findings_in front zero l = []
findings_in front (suc n) l = findings_in front n l ++ (logged_at l (word_of front l n) ∷ [])

abbrev pub nth : Found → ℕ → Finding
nth found i = logged_at found.words.now (word_of found.front found.words.now i)

-- the first n findings
abbrev pub first : Found → ℕ → List Finding
first found n = findings_in found.front n found.words.now

-- the text of a listing
abbrev pub text_of : Names → Found → List ℕ
text_of names found = listed (texts_of names) (first found found.count) found.olds

-- whether so many bytes hold a listing of that length; that of a sheet's findings is below 2^32
pub record Measured (len room : ℕ) (r : Bool) : Type 0 where
  pub fits : r ≡ leb len room
  pub small : len ≤ 17119274
