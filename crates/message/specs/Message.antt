-- The text of a finding, or the refusal that comes first (document 01's table: 1 to 3, then 9).
use denote.Ref.{Bor}
use Rattle.std.specs.Prelude.{ℕ, zero, suc, ◌≡◌, Bool, true, false, cond, not, ◌&&◌, List, [], eqb, ltb, Option, None, Some, Result, Ok, Err}
use Rattle.refusal.specs.Number.{number_of}
use Rattle.refusal.specs.declared.Refusal.{Refusal}
use Rattle.tables.specs.Distinct.{same_bytes}
use Rattle.tables.specs.VarName.{var_name}
use Rattle.sheet.specs.Read.{Sheet, accepted, refused, then', unless, read_text}
use Rattle.texts.specs.Bytes.{bytes}
use Rattle.texts.specs.Texts.{text_of}
use Rattle.texts.specs.Codes.{text_for}
use Rattle.message.specs.Pushes.{push_of, gives}
use Rattle.texts.specs.declared.Text.{Text}

-- no name is asked for, so a missing one is no cause
abbrev pub nameless : Sheet (List ℕ) → Sheet (List ℕ)
nameless (accepted x) = accepted []
nameless (refused c) = cond (eqb c 5) (accepted []) (refused c)

-- 9 for an index past the table
abbrev pub name_or9 : Sheet (List ℕ) → Sheet (List ℕ)
name_or9 (accepted x) = accepted x
name_or9 (refused c) = refused (cond (eqb c 5) 9 c)

-- the text of "name + 1 or 0"
unfoldable pub name_text : List ℕ → ℕ → Sheet (List ℕ)
name_text s zero = nameless (read_text s 0)
name_text s (suc i) = name_or9 (read_text s i)

-- the text of a name that is cited or not, and whether one is
abbrev pub text_in : Option (Bor (List ℕ)) → List ℕ
text_in None = []
text_in (Some x) = x.now

abbrev pub is_cited : Option (Bor (List ℕ)) → Bool
is_cited None = false
is_cited (Some x) = true

-- what is found of "name + 1 or 0"
abbrev pub Cites : List ℕ → ℕ → Result (Option (Bor (List ℕ))) Refusal → Type 0
Cites s name (Ok x) = (name_text s name ≡ accepted (text_in x)) × (ltb 0 name ≡ is_cited x)
Cites s name (Err e) = name_text s name ≡ refused (number_of e)

-- E1001 comes "except `*`"
abbrev pub starred : ℕ → List ℕ → Bool
starred code x = eqb code 1001 && same_bytes x (bytes "*")

-- 9: "code, name and details that no push in 000 or 001 can give together"
unfoldable pub text_if : Option Text → Bool → ℕ → List ℕ → ℕ → Sheet (List ℕ)
text_if None named code x two = refused 9
text_if (Some t) named code x two = unless 9 (gives (push_of t) named two && not (starred code x)) (accepted (text_of t x two))

-- Of a generated name the mark is 1 and the name's word "the bare id", and only an E1002 can have one; "any other mark gets 9" (document 02, CR 5).
-- No table is searched for it.
unfoldable pub message : List ℕ → (code name one two mark : ℕ) → Sheet (List ℕ)
message s code name one two mark =
    cond (eqb mark 0)
    (then' (name_text s name) (λ x. text_if (text_for code one) (ltb 0 name) code x two))
    (then' (name_text s 0) (λ x. unless 9 (eqb mark 1 && eqb code 1002) (text_if (text_for code one) true code (var_name name) two)))
