-- Plain heads: those whose parts follow at once, and uses. By code: how a plain head is read, how many parts it has and in which settings
-- they stand.
use Rattle.std.specs.Prelude.{ℕ, zero, suc, ◌+◌, ◌-◌, ◌*◌, ◌/◌, ◌%◌, ◌<◌, ◌≤◌, ◌≡◌, cond, List, [], ◌∷◌, eqb, length, get_or, drop}
use Rattle.heads.specs.Got.{ok, look}
use Rattle.heads.specs.Form.{shape_of, form_none, form_one, read_form}
use Rattle.heads.specs.declared.Form.{Form}
use Rattle.steps.specs.declared.mode.Setting.{Setting}
use Rattle.steps.specs.declared.mode.Setting.TheVariants.{General, Arithmetic, Property, Boolean, Indexed, Sliced, Iterated, Quantified}

-- What a shape is the sum of: that a head is plain; that a word follows its code; how many parts it has at least; that the word counts
-- more parts, and that half of it is not counted (a Slice's bits); that the word is a name; the settings (`number_of`) of the first part and of the others; and
-- 65536 times a bit for each setting in which the head does something itself.
abbrev pub worded : ℕ
worded = 1

abbrev pub head : ℕ
head = 2

abbrev pub parts : ℕ → ℕ
parts n = 4 * n

abbrev pub counts : ℕ
counts = 16

abbrev pub halves : ℕ
halves = 32

abbrev pub named : ℕ
named = 64

abbrev pub first : ℕ → ℕ
first set = 256 * set

abbrev pub later : ℕ → ℕ
later set = 2048 * set

-- where a list is wanted (settings 4 to 7), where a list or a Bool is (3 to 7), and everywhere
abbrev pub lists : ℕ
lists = 65536 * 240

abbrev pub shown : ℕ
shown = 65536 * 248

abbrev pub always : ℕ
always = 65536 * 255

-- by code; 0 for a head that is not plain and for no code
abbrev pub shapes : List ℕ
shapes =
    0  -- none
    ∷ (head + lists)  -- 1 Null
    ∷ (head + lists)  -- 2 Bool
    ∷ (head + shown)  -- 3 Int
    ∷ (head + shown)  -- 4 Float
    ∷ (head + shown)  -- 5 String
    ∷ head  -- 6 Param
    ∷ (head + worded + always)  -- 7 Var
    ∷ (head + worded + named + always)  -- 8 Unresolved
    ∷ (head + worded + named + parts 1 + first 2)  -- 9 Prop
    ∷ (head + parts 2 + first 4)  -- 10 Index
    ∷ (head + worded + parts 1 + counts + halves + first 5)  -- 11 Slice
    ∷ (head + worded + counts)  -- 12 List
    ∷ (head + worded + counts + lists)  -- 13 Map
    ∷ (head + worded + counts)  -- 14 Call
    ∷ (head + worded + parts 2 + first 1 + later 1)  -- 15 BinOp
    ∷ (head + worded + parts 1)  -- 16 UnaryOp
    ∷ 0  -- 17 Case
    ∷ (head + parts 1)  -- 18 IsNull
    ∷ (head + parts 2)  -- 19 InList
    ∷ 0  -- 20 PatternPredicate
    ∷ (head + worded + parts 2 + counts + first 6)  -- 21 ListComprehension
    ∷ 0  -- 22 PatternComprehension
    ∷ (head + worded + parts 1 + counts + first 7 + later 3)  -- 23 ListPredicate
    ∷ 0  -- 24 MapProjection
    ∷ 0  -- 25 ExistsSubqueryDeferred, which is counted
    ∷ []

abbrev pub shape : ℕ → ℕ
shape code = get_or shapes code 0

-- what the word after the code may be at most, where it is no name
abbrev pub most : ℕ
most = 524287

abbrev pub limit : ℕ → ℕ
limit code = look code ((11, 3) ∷ (12, most) ∷ (13, most) ∷ (14, most) ∷ (15, 19) ∷ (16, 1) ∷ (21, 1) ∷ (23, 1) ∷ []) 4294967295

-- the head with the code and the word after it
abbrev pub headed : ℕ → ℕ → Form
headed code a = cond (eqb (shape_of code) 1) (form_none code) (form_one code a)

-- how many parts it has
abbrev pub parts_of : ℕ → ℕ → ℕ
parts_of t a = t / 4 % 4 + (cond (eqb (t / 16 % 2) 1) a 0 - cond (eqb (t / 32 % 2) 1) (a / 2) 0)

-- the settings by their numbers in the shapes
abbrev pub number_of : Setting → ℕ
number_of General = 0
number_of Arithmetic = 1
number_of Property = 2
number_of Boolean = 3
number_of Indexed = 4
number_of Sliced = 5
number_of Iterated = 6
number_of Quantified = 7

-- the type that it shows: 1 Null, 2 Bool, 3 Int, 4 Float, 5 String, 13 Map
abbrev pub type_by : ℕ → ℕ
type_by code = look code ((1, 5) ∷ (2, 1) ∷ (3, 2) ∷ (4, 3) ∷ (5, 4) ∷ (13, 6) ∷ []) 0

-- a plain head was read at `at`, where t is its shape; the words that are read are there
pub record Plain (ws : List ℕ) (names room at t : ℕ) : Type 0 where
  pub level : 0 < room
  pub shaped : t ≡ shape (get_or ws at 0)
  pub same : read_form names (drop at ws) ≡ ok (headed (get_or ws at 0) (get_or ws (at + 1) 0)) (drop (at + 1 + t % 2) ws)
  pub within : at + 2 ≤ length ws
  pub limited : get_or ws (at + 1) 0 ≤ limit (get_or ws at 0)
  pub named : t / 64 % 2 ≡ 1 → get_or ws (at + 1) 0 < names

-- or none that the loop takes
abbrev pub Plainly : (ws : List ℕ) → (names room at t : ℕ) → Type 0
Plainly ws names room at zero = Unit {0}
Plainly ws names room at (suc t) = Plain ws names room at (suc t)
