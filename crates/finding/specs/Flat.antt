-- Findings as flat words, seven each: "code, start, end, name + 1 or 0, two details", and the name's mark; with the mark 1 the name's word is "the
-- bare id" (document 02, CR 5).
use Rattle.std.specs.Prelude.{ℕ, zero, suc, List, [], ◌∷◌, get_or, Option, None, Some}
use Rattle.scope.specs.Graph.{Name, name}
use Rattle.scope.specs.Flat.{entries_of}
use Rattle.semantics.specs.Log.{Finding, finding, cited}

abbrev pub finding_width : ℕ
finding_width = 7

-- the word of a name that a finding cites, and its mark
abbrev pub name_word : Option Name → ℕ
name_word None = 0
name_word (Some (name zero x)) = suc x
name_word (Some (name (suc m) x)) = x

abbrev pub mark_word : Option Name → ℕ
mark_word None = 0
mark_word (Some (name m x)) = m

-- the name that such words cite
abbrev pub cited_by : (mark word : ℕ) → Option Name
cited_by zero x = cited x
cited_by (suc m) x = Some (name (suc m) x)

abbrev pub finding_words : Finding → List ℕ
finding_words (finding c a b x o t) = c ∷ a ∷ b ∷ name_word x ∷ o ∷ t ∷ mark_word x ∷ []

abbrev pub finding_of : List ℕ → Finding
finding_of ws = finding (get_or ws 0 0) (get_or ws 1 0) (get_or ws 2 0) (cited_by (get_or ws 6 0) (get_or ws 3 0)) (get_or ws 4 0) (get_or ws 5 0)

-- the first n findings of a flat list
abbrev pub findings_of : ℕ → List ℕ → List Finding
findings_of = entries_of finding_width finding_of
