-- Plain heads: at most one word follows the code, and then so many expressions in a row and nothing else.
use Rattle.std.specs.Prelude.{ℕ, ◌+◌, ◌*◌, ◌/◌, ◌%◌, ◌^◌, ◌<◌, ◌≤◌, ◌≡◌, Bool, false, cond, ◌&&◌, ◌||◌, List, eqb, leb, ltb, length, drop, Option, None, Some, Result, Ok, Err}
use Rattle.heads.specs.Got.{ok, no}
use Rattle.heads.specs.Form.{read_form, kids_of, items_of, has_pattern}
use Rattle.heads.specs.declared.Form.{Form}
use Rattle.heads.specs.declared.Form.TheVariants.{Leaf, Var, Unresolved, Prop, Two, Many, BinOp, UnaryOp, IsNull, ListComprehension, ListPredicate}
use Rattle.refusal.specs.Number.{number_of}
use Rattle.refusal.specs.declared.Refusal.{Refusal}

-- Tables by code, a bit each, the bit of code 0 the lowest: the plain heads, those that a word follows; those whose word
-- is the number of the parts or adds to it, is a name, is below 2. And by two bits each, the parts without that word.
abbrev pub plain_codes : ℕ
plain_codes = 44955646

abbrev pub word_codes : ℕ
word_codes = 10613632

abbrev pub count_codes : ℕ
count_codes = 10514432

abbrev pub name_codes : ℕ
name_codes = 768

abbrev pub flag_codes : ℕ
flag_codes = 10551296

abbrev pub parts_bits : ℕ
parts_bits = 79789757300736

-- the bit of a code in a table, whether the table has the code, and the number of parts by the code and the word after it
abbrev pub bit_of : ℕ → ℕ → ℕ
bit_of table code = table / 2 ^ code % 2

abbrev pub has : ℕ → ℕ → Bool
has table code = cond (ltb code 26) (eqb (bit_of table code) 1) false

abbrev pub counted : ℕ → ℕ → ℕ
counted code a = cond (eqb (bit_of count_codes code) 1) a 0

abbrev pub parts_of : ℕ → ℕ → ℕ
parts_of code a = parts_bits / 2 ^ (code * 2) % 4 + counted code a

-- whether the word after a plain head's code is out of range
abbrev pub is_out : ℕ → ℕ → ℕ → Bool
is_out code names a =
    (eqb (bit_of name_codes code) 1 && leb names a) || ((eqb (bit_of flag_codes code) 1 && leb 2 a) || (eqb code 15 && leb 20 a))

-- a head that is no use of a name or a variable, and how many expressions follow it
pub data Parts : Form → ℕ → Type 0 where
  leaf : {code : ℕ} → Parts (Leaf code) 0
  prop : {name : ℕ} → Parts (Prop name) 1
  two : {code : ℕ} → Parts (Two code) 2
  many : {code n : ℕ} → Parts (Many code n) n
  binary : {op : ℕ} → Parts (BinOp op) 2
  unary : {op : ℕ} → Parts (UnaryOp op) 1
  is-null : Parts IsNull 1
  list-comprehension : {flag : ℕ} → Parts (ListComprehension flag) (2 + flag)
  list-predicate : {flag : ℕ} → Parts (ListPredicate flag) (1 + flag)

-- any plain head, and any other after which so many expressions follow and nothing else
pub data Simple : Form → ℕ → Type 0 where
  variable : {v : ℕ} → Simple (Var v) 0
  name : {x : ℕ} → Simple (Unresolved x) 0
  parts : {f : Form} {k : ℕ} → Parts f k → Simple f k
  other : {f : Form} → has_pattern f ≡ false → items_of f ≡ 0 → Simple f (kids_of f)

-- the words after a head, from p on
pub record Ends (ws : List ℕ) (at p : ℕ) (r : List ℕ) : Type 0 where
  pub rest : r ≡ drop p ws
  pub longer : at < p
  pub within : p ≤ length ws

-- such a head that reads, another one, or none that does
abbrev pub PlainAt : List ℕ → ℕ → ℕ → Result (Option (ℕ × ℕ)) Refusal → Type 0
PlainAt ws names at (Ok (Some (p, k))) = (f : Form) × (Simple f k × ((read_form names (drop at ws) ≡ ok f (drop p ws)) × Ends ws at p (drop p ws)))
PlainAt ws names at (Ok None) = Unit {0}
PlainAt ws names at (Err e) = read_form names (drop at ws) ≡ no (number_of e)
