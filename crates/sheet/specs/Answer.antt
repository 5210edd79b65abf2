-- The answers of the public calls, by document 01's numbers.
use Rattle.std.specs.Prelude.{ℕ, ◌+◌, ◌*◌, ◌/◌, ◌≤◌, ◌≡◌, Bool, true, false, not, List, [], map, ltb, length, take, get_or, Result, Ok, Err}
use denote.Ref.{Bor}
use Rattle.words.specs.Words.{words}
use Rattle.words.specs.Fnv.{use_id}
use Rattle.heads.specs.Got.{Got, many}
use Rattle.heads.specs.declared.Section.{Section}
use Rattle.tables.specs.Answer.{names_in}
use Rattle.tables.specs.Name.{name_at, places_from}
use Rattle.tables.specs.Row.{Row, read_row}
use Rattle.sheet.specs.Trailer.{places_of, section}
use Rattle.sheet.specs.Statement.{Statement}
use Rattle.sheet.specs.Read.{Sheet, accepted, refused, then', unless, entire, used_up, read_names, read_rows, locate, read_sheet, read_text}
use Rattle.sheet.specs.declared.trailer.Places.{Places}
use Rattle.refusal.specs.Number.{number_of}
use Rattle.refusal.specs.declared.Refusal.{Refusal}

-- an answer as the definition puts it
abbrev pub sheet_of : {A : Type 0} → Result A Refusal → Sheet A
sheet_of (Ok a) = accepted a
sheet_of (Err e) = refused (number_of e)

-- accepted, and no more of it; and accepted with another value
abbrev pub judged : {A : Type 0} → Sheet A → Sheet (Unit {0})
judged (accepted a) = accepted tt
judged (refused c) = refused c

abbrev pub with_value : {A B : Type 0} → B → Sheet A → Sheet B
with_value b (accepted a) = accepted b
with_value b (refused c) = refused c

-- where the sections of an accepted sheet stand
abbrev pub opened_as : List ℕ → Sheet Places
opened_as s = with_value (places_of (words s)) (read_sheet s)

abbrev pub text_of : Sheet (List ℕ) → List ℕ
text_of (accepted text) = text
text_of (refused c) = []

-- a text that is a part of the sheet, as the definition puts it
abbrev pub text_told : Result (Bor (List ℕ)) Refusal → Sheet (List ℕ)
text_told (Ok x) = accepted x.now
text_told (Err e) = refused (number_of e)

-- the names, or cause 3
abbrev pub names_if : Bool → List (List ℕ) → Sheet (List (List ℕ))
names_if true ns = accepted ns
names_if false ns = refused 3

-- n names were looked for in the bytes of their section; where they are right, one table has the byte where each stands, the other its
-- use id, and each name takes a word at least
pub record Tabled (n : ℕ) (s tab ids : List ℕ) (r : Bool) : Type 0 where
  pub same : read_names n s ≡ names_if r (names_in s n tab)
  pub uses : r ≡ true → take n ids ≡ map use_id (names_in s n tab)
  pub placed : r ≡ true → take n tab ≡ places_from 0 (names_in s n tab)
  pub many : r ≡ true → n * 4 ≤ length s

-- two tables hold the names of a statement: the byte where each stands in their section, and its use id; there are no more than words
pub record Held (s tab ids : List ℕ) (st : Statement) : Type 0 where
  pub places : names_in (take ((places_of (words s)).rows * 4) s) (places_of (words s)).names tab ≡ st.names
  pub uses : take (places_of (words s)).names ids ≡ map use_id st.names
  pub many : (places_of (words s)).names ≤ length s / 4

-- what two tables hold after a sheet was read; where it is refused, anything
abbrev pub Names : Sheet Statement → List ℕ → List ℕ → List ℕ → Type 0
Names (accepted st) s tab ids = Held s tab ids st
Names (refused c) s tab ids = Unit {0}

-- where the sections stand within a sheet
pub record InPlaces (s : List ℕ) (p : Places) : Type 0 where
  pub short : length s ≤ 8192
  pub rows : p.rows ≤ p.head
  pub head : p.head ≤ p.tail
  pub tail : p.tail ≤ p.trailer
  pub trailer : p.trailer * 4 + 40 ≡ length s

-- the bindings of a sheet, up to the head and nothing left over, or cause 4; and no variable twice
abbrev pub bindings_of : List ℕ → Places → Sheet (List Row)
bindings_of s p = entire 4 (many (read_row p.names) p.bindings (section (words s) p.rows p.head))

abbrev pub rows_of : List ℕ → Places → Sheet (List Row)
rows_of s p = read_rows p.names p.bindings (section (words s) p.rows p.head)

-- causes 3 and 4
abbrev pub tables_of : List ℕ → Places → Sheet (List Row)
tables_of s p = then' (read_names p.names (take (p.rows * 4) s)) (λ ns. rows_of s p)

-- the two tables were judged; where they are accepted, the lent ones hold the names
pub record Settled (s : List ℕ) (p : Places) (tab ids : List ℕ) (r : Result (Unit {0}) Refusal) : Type 0 where
  pub same : sheet_of r ≡ judged (tables_of s p)
  pub names : r ≡ Ok tt → Tabled p.names (take (p.rows * 4) s) tab ids true

-- what was read up to `at` ends at `end`, or a word is left over
abbrev pub reached : ℕ → ℕ → Sheet (Unit {0})
reached at end = unless 5 (not (ltb at end)) (accepted tt)

-- a section that has the words of a sheet before `to`
pub record Part (s : List ℕ) (p : Places) (to : ℕ) (x : Section) : Type 0 where
  pub bytes : x.bytes.now ≡ take (to * 4) s
  pub names : x.names ≡ p.names
  pub rows : x.rows ≡ p.rows

-- n of a kind in the section between two words
abbrev pub section_of : {A : Type 0} → (ℕ → List ℕ → Got A) → List ℕ → Places → ℕ → ℕ → ℕ → Sheet (List A)
section_of one s p n from to = used_up (many (one p.names) n (section (words s) from to))

-- a name found: the byte where its length stands, and the end of the names section; an index past the table is cause 5
abbrev pub found_as : Sheet (List (List ℕ)) → (end i : ℕ) → Sheet (ℕ × ℕ)
found_as (accepted ns) end i = unless 5 (ltb i (length ns)) (accepted (get_or (places_from 0 ns) i 0, end))
found_as (refused c) end i = refused c

-- the text that was found
abbrev pub found : List ℕ → Result (ℕ × ℕ) Refusal → Sheet (List ℕ)
found s (Ok x) = accepted (name_at (take x.1 s) x.0)
found s (Err e) = refused (number_of e)

abbrev pub found_end : Result (ℕ × ℕ) Refusal → ℕ
found_end (Ok x) = x.1
found_end (Err e) = 0

-- the name with the index i, of n names in the bytes of their section
abbrev pub text_in : ℕ → List ℕ → ℕ → Sheet (List ℕ)
text_in n s i = then' (read_names n s) (λ ns. unless 5 (ltb i n) (accepted (get_or ns i [])))

-- a name of a sheet, whose names section ends where the bindings begin
abbrev pub found_in : Sheet Places → List ℕ → ℕ → Sheet (ℕ × ℕ)
found_in (accepted p) s i = found_as (read_names p.names (take (p.rows * 4) s)) (p.rows * 4) i
found_in (refused c) s i = refused c

-- the answer r is what is to be found, and so is the text that it leads to in s
pub record Finds (answer : Sheet (ℕ × ℕ)) (s : List ℕ) (text : Sheet (List ℕ)) (r : Result (ℕ × ℕ) Refusal) : Type 0 where
  pub same : sheet_of r ≡ answer
  pub reads : found s r ≡ text
  pub within : found_end r ≤ length s

-- of n names in the bytes of their section, and of a sheet
abbrev pub FindsIn : (n i : ℕ) → List ℕ → Result (ℕ × ℕ) Refusal → Type 0
FindsIn n i s = Finds (found_as (read_names n s) (length s) i) s (text_in n s i)

abbrev pub FindsName : (i : ℕ) → List ℕ → Result (ℕ × ℕ) Refusal → Type 0
FindsName i s = Finds (found_in (locate s) s i) s (read_text s i)
