-- Conditions as trees of operators and atoms, their signs and their levels (CR 9).
use Rattle.std.specs.Prelude.{ℕ, ◌<◌, List, [], ◌∷◌, ◌++◌, get_or}
use Rattle.words.specs.Decimal.{decimal}
use Rattle.condition.specs.Bytes.{bytes}

-- "its tree of operators and atoms"
pub data Cond : Type 0 where
  atom : (place : ℕ) → Cond  -- "every other expression", by its word position in the sheet
  unary : (op : ℕ) → Cond → Cond  -- 0 Neg, 1 Not
  binary : (op : ℕ) → Cond → Cond → Cond  -- 0 to 19, in BinOp's order

-- "Levels, loosest first: OR; XOR; AND; NOT; = <> < <= > >=; STARTS WITH, ENDS WITH, CONTAINS, =~; + - ||; * / %; ^; unary -", from 0 on
abbrev pub binary_level : ℕ → ℕ
binary_level o = get_or (6 ∷ 6 ∷ 7 ∷ 7 ∷ 7 ∷ 8 ∷ 4 ∷ 4 ∷ 4 ∷ 4 ∷ 4 ∷ 4 ∷ 2 ∷ 0 ∷ 1 ∷ 5 ∷ 5 ∷ 5 ∷ 5 ∷ 6 ∷ []) o 0

-- the same of unary `-` and NOT
abbrev pub unary_level : ℕ → ℕ
unary_level o = get_or (9 ∷ 3 ∷ []) o 0

-- the least level of a bare left operand: "a left operand, save a comparison's, ... may also have the same level"
abbrev pub left_level : ℕ → ℕ
left_level o = get_or (6 ∷ 6 ∷ 7 ∷ 7 ∷ 7 ∷ 8 ∷ 5 ∷ 5 ∷ 5 ∷ 5 ∷ 5 ∷ 5 ∷ 2 ∷ 0 ∷ 1 ∷ 5 ∷ 5 ∷ 5 ∷ 5 ∷ 6 ∷ []) o 0

-- signs with their blanks: "One blank parts words, signs and bracketed parts"
abbrev pub binary_signs : List (List ℕ)
binary_signs =
    (bytes " + "
    ∷ bytes " - "
    ∷ bytes " * "
    ∷ bytes " / "
    ∷ bytes " % "
    ∷ bytes " ^ "
    ∷ bytes " = "
    ∷ bytes " <> "
    ∷ bytes " < "
    ∷ bytes " <= "
    ∷ bytes " > "
    ∷ bytes " >= "
    ∷ bytes " AND "
    ∷ bytes " OR "
    ∷ bytes " XOR "
    ∷ bytes " STARTS WITH "
    ∷ bytes " ENDS WITH "
    ∷ bytes " CONTAINS "
    ∷ bytes " =~ "
    ∷ bytes " || "
    ∷ [])

-- the sign of a BinOp, by its number
abbrev pub binary_sign : ℕ → List ℕ
binary_sign o = get_or binary_signs o []

-- "a sign ... before its operands"
abbrev pub unary_signs : List (List ℕ)
unary_signs = bytes "- " ∷ bytes "NOT " ∷ []

-- the sign of a UnaryOp, by its number
abbrev pub unary_sign : ℕ → List ℕ
unary_sign o = get_or unary_signs o []

-- "`e` and its word position in the sheet, in decimal without leading zeros"
abbrev pub atom_text : ℕ → List ℕ
atom_text n = 101 ∷ decimal n

-- "none stands just inside a bracket"
abbrev pub bracketed : List ℕ → List ℕ
bracketed s = 40 ∷ (s ++ (41 ∷ []))

-- which trees there are: places "0 to 2047", operators by number
unfoldable pub Well : Cond → Type 0
Well (atom n) = n < 2048
Well (unary o x) = (o < 2) × Well x
Well (binary o l r) = (o < 20) × (Well l × Well r)

-- "entries in prefix order (15, 16, or 0 for an atom, then the operator's or atom's number)"
unfoldable pub entries : Cond → List ℕ
entries (atom n) = 0 ∷ n ∷ []
entries (unary o x) = 16 ∷ o ∷ entries x
entries (binary o l r) = 15 ∷ o ∷ (entries l ++ entries r)
