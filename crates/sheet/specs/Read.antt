-- A sheet read: the statement that its bytes hold, or the refusal of document 01's table that comes first.
use Rattle.std.specs.Prelude.{ℕ, ◌*◌, Bool, true, false, ltb, take, get_or}
use mathlib.Core.List.{List, [], ◌∷◌, map}
use Rattle.words.specs.Words.{words}
use Rattle.heads.specs.Got.{Got, ok, no, many}
use Rattle.heads.specs.Answer.{is_in}
use Rattle.clauses.specs.Tree.{Clause, Arm}
use Rattle.clauses.specs.Read.{read_clause, read_arm}
use Rattle.tables.specs.Distinct.{name_in, distinct}
use Rattle.tables.specs.Name.{read_name}
use Rattle.tables.specs.Row.{Row, row_id, read_row}
use Rattle.sheet.specs.Trailer.{sized, in_place, places_of, section}
use Rattle.sheet.specs.Statement.{Statement}
use Rattle.sheet.specs.declared.trailer.Places.{Places}

pub data Sheet (A : Type 0) : Type 0 where
  accepted : A → Sheet A
  refused : (cause : ℕ) → Sheet A

abbrev pub then' : {A B : Type 0} → Sheet A → (A → Sheet B) → Sheet B
then' (accepted a) k = k a
then' (refused c) k = refused c

-- a cause is given where its test fails
abbrev pub unless : {A : Type 0} → ℕ → Bool → Sheet A → Sheet A
unless c true x = x
unless c false x = refused c

-- a section that is read to its end, and else refused by c
abbrev pub entire : {A : Type 0} → ℕ → Got A → Sheet A
entire c (ok a []) = accepted a
entire c (ok a (w ∷ ws)) = refused c
entire c (no d) = refused c

-- a section that is read to its end; what stops it gives the cause, and a word that is left over 5
abbrev pub used_up : {A : Type 0} → Got A → Sheet A
used_up (ok a []) = accepted a
used_up (ok a (w ∷ ws)) = refused 5
used_up (no c) = refused c

-- cause 3, over the section's bytes
unfoldable pub read_names : ℕ → List ℕ → Sheet (List (List ℕ))
read_names n s = then' (entire 3 (many read_name n s)) (λ ns. unless 3 (distinct name_in ns) (accepted ns))

-- cause 4
unfoldable pub read_rows : ℕ → ℕ → List ℕ → Sheet (List Row)
read_rows names n ws = then' (entire 4 (many (read_row names) n ws)) (λ rs. unless 4 (distinct is_in (map row_id rs)) (accepted rs))

-- causes 5 and 6 in head and arms
unfoldable pub read_clauses : List ℕ → Places → Sheet (List Clause × List Arm)
read_clauses ws p =
    then' (used_up (many (read_clause p.names) p.clauses (section ws p.head p.tail)))
    (λ head. then' (used_up (many (read_arm p.names) p.arms (section ws p.tail p.trailer))) (λ arms. accepted (head, arms)))

-- causes 1 and 2
unfoldable pub locate : List ℕ → Sheet Places
locate s = unless 1 (sized s) (unless 2 (in_place (words s)) (accepted (places_of (words s))))

-- causes 3 to 6, the sections in order
unfoldable pub read_sections : List ℕ → List ℕ → Places → Sheet Statement
read_sections s ws p =
    then' (read_names p.names (take (p.rows * 4) s))
    (λ names. then' (read_rows p.names p.bindings (section ws p.rows p.head))
    (λ rs. then' (read_clauses ws p)
    (λ x. accepted (record { names = names; bindings = rs; head = x.0; arms = x.1; start = p.start; stop = p.end }))))

unfoldable pub read_sheet : List ℕ → Sheet Statement
read_sheet s = then' (locate s) (λ p. read_sections s (words s) p)

-- the text of the name with the index i; an index past the table is cause 5
unfoldable pub read_text : List ℕ → ℕ → Sheet (List ℕ)
read_text s i =
    then' (locate s)
    (λ p. then' (read_names p.names (take (p.rows * 4) s)) (λ ns. unless 5 (ltb i p.names) (accepted (get_or ns i []))))
