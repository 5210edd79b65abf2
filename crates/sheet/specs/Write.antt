-- The words of a statement's sheet, and which statements a sheet can hold.
use Rattle.std.specs.Prelude.{ℕ, ◌+◌, ◌*◌, ◌/◌, ◌%◌, ◌≤◌, ◌<◌, ◌≡◌, true, length}
use mathlib.Core.List.{List, [], ◌∷◌, ◌++◌, map, flat_map}
use Rattle.words.specs.Utf8.{is_utf8}
use Rattle.heads.specs.Answer.{is_in}
use Rattle.expr.specs.Well.{IsWord, IsSpan}
use Rattle.clauses.specs.Write.{write_clause, write_arm}
use Rattle.clauses.specs.Well.{Each, WellClause, WellArm}
use Rattle.tables.specs.Distinct.{name_in, distinct}
use Rattle.tables.specs.Name.{max_name, name_words}
use Rattle.tables.specs.Row.{Row, row, row_id, row_words}
use Rattle.sheet.specs.Trailer.{max_bytes}
use Rattle.sheet.specs.Statement.{Statement}

-- the bytes of words, the lowest first
unfoldable pub bytes_of : List ℕ → List ℕ
bytes_of [] = []
bytes_of (w ∷ ws) = w % 256 ∷ w / 256 % 256 ∷ w / 65536 % 256 ∷ w / 16777216 ∷ bytes_of ws

-- the four sections
unfoldable pub names_words : Statement → List ℕ
names_words st = flat_map name_words st.names

unfoldable pub table_words : Statement → List ℕ
table_words st = flat_map row_words st.bindings

unfoldable pub head_words : Statement → List ℕ
head_words st = flat_map write_clause st.head

unfoldable pub arms_words : Statement → List ℕ
arms_words st = flat_map write_arm st.arms

-- "a trailer of 10 words: names back, name count, bindings back, binding count, head back, clause count, arms back, arm count, span
-- start, span end"
unfoldable pub trailer_of : (n t h a : ℕ) → Statement → List ℕ
trailer_of n t h a st =
    (n + (t + (h + a)))
    ∷ length st.names
    ∷ (t + (h + a))
    ∷ length st.bindings
    ∷ (h + a)
    ∷ length st.head
    ∷ a
    ∷ length st.arms
    ∷ st.start
    ∷ st.stop
    ∷ []

unfoldable pub sheet_words : Statement → List ℕ
sheet_words st =
    let n = names_words st in
    let t = table_words st in
    let h = head_words st in
    let a = arms_words st in
    n ++ (t ++ (h ++ (a ++ trailer_of (length n) (length t) (length h) (length a) st)))

abbrev pub WellName : List ℕ → Type 0
WellName text = (length text ≤ max_name) × (is_utf8 text ≡ true)

unfoldable pub WellRow : ℕ → Row → Type 0
WellRow names (row i x k a b) = IsWord i × (x < names) × ((1 ≤ k) × (k ≤ 4)) × IsSpan a b

-- each name, binding, clause and arm is one that words give, none stands twice, and the whole fits a sheet
pub record WellStatement (st : Statement) : Type 0 where
  pub names : Each WellName st.names
  pub apart : distinct name_in st.names ≡ true
  pub bindings : Each (WellRow (length st.names)) st.bindings
  pub once : distinct is_in (map row_id st.bindings) ≡ true
  pub head : Each (WellClause (length st.names)) st.head
  pub arms : Each (WellArm (length st.names)) st.arms
  pub span : st.start ≤ st.stop
  pub size : length (sheet_words st) * 4 ≤ max_bytes
