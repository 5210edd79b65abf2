-- The answers of the exported calls as numbers: a refusal's, or 256 and more.
use Rattle.std.specs.Prelude.{ℕ, ◌+◌, ◌/◌, not, eqb, length, List, [], ◌∷◌}
use Rattle.scope.specs.Lookup.{Looked, at, nothing, refused}
use Rattle.scope.specs.Offset.{Offset, in', nowhere}
use Rattle.scope.specs.Offset as offsets
use Rattle.sheet.specs.Read.{Sheet, accepted}
use Rattle.sheet.specs.Read as sheets
use Rattle.finding.specs.Flat.{finding_width}
use Rattle.checker.specs.Checked.{Lent, answer_in, left_in}
use Rattle.checker.specs.declared.Counts.{Counts}

-- the five lent lists
abbrev pub flat : (scopes bindings carried recorded findings : List ℕ) → Lent ℕ
flat a b c d e = record { scopes = a; bindings = b; carried = c; recorded = d; findings = e }

-- what is answered, and what is left, where any warning number but 0 stands for on, and findings are flat words
abbrev pub answer_by : ℕ → List ℕ → Lent ℕ → Sheet Counts
answer_by warnings s l = answer_in (not (eqb warnings 0)) s l (length l.findings / finding_width)

abbrev pub left_by : ℕ → List ℕ → Lent ℕ → Lent ℕ
left_by warnings s l = left_in (not (eqb warnings 0)) s l (length l.findings / finding_width)

-- 256 where the lists are filled
abbrev pub checked_number : Sheet Counts → ℕ
checked_number (accepted c) = 256
checked_number (sheets.refused n) = n

-- the five counts in the order of the lists; a refusal alters nothing
abbrev pub with_counts : Sheet Counts → List ℕ → List ℕ
with_counts (accepted c) l = c.scopes ∷ c.bindings ∷ c.carried ∷ c.recorded ∷ c.findings ∷ []
with_counts (sheets.refused n) l = l

-- 256 where a name is found, or 0 for nothing
abbrev pub looked_number : Looked → ℕ
looked_number (at v s) = 256
looked_number nothing = 0
looked_number (refused n) = n

-- the variable, and the scope that binds the name; nothing and a refusal alter nothing
abbrev pub with_found : Looked → List ℕ → List ℕ
with_found (at v s) l = v ∷ s ∷ []
with_found nothing l = l
with_found (refused n) l = l

-- 256 and the scope, or 0 for none
abbrev pub offset_number : Offset → ℕ
offset_number (in' s) = 256 + s
offset_number nowhere = 0
offset_number (offsets.refused n) = n
