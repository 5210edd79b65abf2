-- The tokens of a text, from its last to its first. A text is taken from its end, as a list whose first byte is the text's last.
use Rattle.std.specs.Prelude.{ℕ, zero, suc, ◌+◌, ◌-◌, ◌*◌, Bool, true, false, ◌&&◌, ◌||◌, List, [], ◌∷◌, reverse, eqb, leb, ltb, length, Option, None, Some}
use Rattle.words.specs.Decimal.{width}
use Rattle.condition.specs.Cond.{binary_sign, unary_sign, atom_text}

-- brackets, atoms by their number, signs by their operator's, and what is none
pub data Tok : Type 0 where
  open' close' bad : Tok
  number un bin : ℕ → Tok

-- what a token is written as
abbrev pub tok_text : Tok → List ℕ
tok_text open' = 40 ∷ []
tok_text close' = 41 ∷ []
tok_text bad = []
tok_text (number n) = atom_text n
tok_text (un o) = unary_sign o
tok_text (bin o) = binary_sign o

-- the last token and what stands before it
pub data Last : Type 0 where
  found : Tok → List ℕ → Last
  nothing : Last

-- a choice by a test
abbrev pub pick : {A : Type 0} → Bool → A → A → A
pick true a b = a
pick false a b = b

-- what is left of r after these bytes at its front
unfoldable pub strip : List ℕ → List ℕ → Option (List ℕ)
strip [] r = Some r
strip (c ∷ s) [] = None
strip (c ∷ s) (d ∷ r) = pick (eqb d c) (strip s r) None

-- the token, where its sign stands here
abbrev pub or_else : Option (List ℕ) → Tok → Last → Last
or_else (Some r) t l = found t r
or_else None t l = l

-- the first of k operators from o on whose sign stands here
unfoldable pub first_sign : ℕ → ℕ → List ℕ → Last
first_sign zero o r = nothing
first_sign (suc k) o r = or_else (strip (reverse (binary_sign o)) r) (bin o) (first_sign k (suc o) r)

-- whether an operand can end with this byte: a digit or a bracket
abbrev pub is_digit : ℕ → Bool
is_digit b = leb 48 b && leb b 57

-- the same of a bracket too
abbrev pub is_end : ℕ → Bool
is_end b = eqb b 41 || is_digit b

-- whether an operand and a blank end here
unfoldable pub after_operand : List ℕ → Bool
after_operand [] = false
after_operand (a ∷ []) = false
after_operand (a ∷ (b ∷ r)) = eqb a 32 && is_end b

-- a minus is unary unless it stands after an operand
abbrev pub minus : Option (List ℕ) → Last → Last
minus (Some r) l = pick (after_operand r) l (found (un 0) r)
minus None l = l

-- a sign
unfoldable pub sign_last : List ℕ → Last
sign_last r = or_else (strip (reverse (unary_sign 1)) r) (un 1) (minus (strip (reverse (unary_sign 0)) r) (first_sign 20 0 r))

-- v is the value of k digits, before which the letter stands
unfoldable pub number_end : ℕ → ℕ → List ℕ → Last
number_end v k [] = nothing
number_end v k (c ∷ r) = pick (eqb c 101) (pick (eqb (width v) k) (pick (ltb v 2048) (found (number v) r) nothing) nothing) nothing

-- so many more digits, the next of which counts scale
unfoldable pub number_last : ℕ → ℕ → ℕ → ℕ → List ℕ → Last
number_last zero v scale k r = number_end v k r
number_last (suc f) v scale k [] = nothing
number_last (suc f) v scale k (c ∷ r) = pick (is_digit c) (number_last f (v + (c - 48) * scale) (scale * 10) (suc k) r) (number_end v k (c ∷ r))

-- by the last byte
unfoldable pub last : List ℕ → Last
last [] = nothing
last (c ∷ r) = pick (eqb c 40) (found open' r) (pick (eqb c 41) (found close' r) (pick (eqb c 32) (sign_last (c ∷ r)) (number_last 4 0 1 0 (c ∷ r))))

-- all tokens; a bad one ends them
abbrev pub more : Last → (List ℕ → List Tok) → List Tok
more (found t r) k = t ∷ k r
more nothing k = bad ∷ []

-- the tokens of a text of no more than f bytes
unfoldable pub tokens : ℕ → List ℕ → List Tok
tokens zero r = []
tokens (suc f) [] = []
tokens (suc f) (c ∷ r) = more (last (c ∷ r)) (tokens f)

-- every token has a byte, so that this is enough
unfoldable pub lex : List ℕ → List Tok
lex r = tokens (length r) r
