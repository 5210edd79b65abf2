-- Two sheets that agree, `MATCH (a) WITH a RETURN b UNION RETURN a` and `MATCH (a) MATCH (a) WITH a RETURN b UNION RETURN a`, computed from
-- their bytes: the premises of `apart-sheets` can be met where all later spans differ and the new Roots' numbers are 3 and 4.
use Rattle.std.specs.Prelude.{None, Some}
use Prim.Native.Nat.{ℕ}
use mathlib.Core.Path.{◌≡◌, refl}
use mathlib.Core.Bool.{true}
use mathlib.Core.List.{List, [], ◌∷◌}
use Rattle.words.specs.Words.{words}
use Rattle.words.specs.Utf8.{is_utf8, goes_on, step, after}
use Rattle.heads.specs.Got.{word_in, many, counted}
use Rattle.heads.specs.Form.{shape_of, limit_of, form_none, form_one, case_rest, comp_rest, rest_of, read_form}
use Rattle.heads.specs.Head.{read_maybe, read_part, read_elem, deep_cause}
use Rattle.heads.specs.Answer.{is_in}
use Rattle.expr.specs.Tree.{var, unresolved, done, end, part, elem, tree}
use Rattle.expr.specs.Read.{reading}
use Rattle.clauses.specs.Tree.{Clause, unsorted, opening, match, return, projection, Arm, arm, keys_of}
use Rattle.clauses.specs.Read.{clausal}
use Rattle.clauses.specs.Erase.{erase_keys, erase_c, erase_a}
use Rattle.tables.specs.Distinct.{same_bytes, name_in, fresh_after, distinct}
use Rattle.tables.specs.Name.{all_zero, name_body, read_name}
use Rattle.tables.specs.Row.{row, row_id, read_row}
use Rattle.sheet.specs.Trailer.{sized, in_place, places_of}
use Rattle.sheet.specs.Statement.{Statement}
use Rattle.sheet.specs.Read.{read_names, read_rows, read_clauses, locate, read_sections, read_sheet}
use Rattle.sheet.specs.Write.{bytes_of}
use Rattle.semantics.specs.Log.{logs}
use Rattle.semantics.specs.Resolve.{walk}
use Rattle.semantics.specs.Lists.{lists}
use Rattle.theorems.specs.Site.{Cut, whole, in_head, new_root, sites}
use Rattle.theorems.specs.Sheets.{names_section, bindings_section, key_words, later_clause_words, later_arm_words, AgreeSheets}

-- a Match of a Node with the variable 1, and a Return of a name, with their spans
abbrev matching : (start stop first : ℕ) → Clause
matching a b c = opening (match 0) a b (part None (elem 1 c b (Some 1) done end))

abbrev returning : (start stop name : ℕ) → Clause
returning a b x = return a b (projection None (unresolved x) ∷ []) unsorted

-- these clauses before a WITH of the variable 1, and a Return after it
abbrev cut_at : List Clause → (start stop : ℕ) → Clause → Cut
cut_at before a b after = record { before = before; start = a; stop = b; projections = projection None (var 1) ∷ []; filter = done; keys = unsorted; after = after ∷ [] }

-- the statement with these clauses and this arm, two names and a binding
abbrev statement : Cut → Arm → ℕ → Statement
statement c later stop = record { names = (97 ∷ []) ∷ (98 ∷ []) ∷ []; bindings = row 1 0 1 7 8 ∷ []; head = whole c; arms = later ∷ []; start = 0; stop = stop }

-- `MATCH (a) WITH a RETURN b UNION RETURN a`
abbrev one : List ℕ
one =
    1 ∷ 97 ∷ 1 ∷ 98
    ∷ 1 ∷ 0 ∷ 1 ∷ 7 ∷ 8
    ∷ 1 ∷ 0 ∷ 9 ∷ 0 ∷ 1 ∷ 0 ∷ 1 ∷ 1 ∷ 6 ∷ 9 ∷ 1 ∷ 1 ∷ 0
    ∷ 3 ∷ 10 ∷ 16 ∷ 1 ∷ 0 ∷ 7 ∷ 1 ∷ 0
    ∷ 4 ∷ 17 ∷ 25 ∷ 1 ∷ 0 ∷ 8 ∷ 1
    ∷ 26 ∷ 40 ∷ 1 ∷ 4 ∷ 32 ∷ 40 ∷ 1 ∷ 0 ∷ 8 ∷ 0
    ∷ 47 ∷ 2 ∷ 43 ∷ 1 ∷ 38 ∷ 3 ∷ 10 ∷ 1 ∷ 0 ∷ 40 ∷ []

abbrev cut₁ : Cut
cut₁ = cut_at (matching 0 9 6 ∷ []) 10 16 (returning 17 25 1)

abbrev first : Statement
first = statement cut₁ (arm 26 40 (returning 32 40 0 ∷ [])) 40

-- `MATCH (a) MATCH (a) WITH a RETURN b UNION RETURN a`
abbrev two : List ℕ
two =
    1 ∷ 97 ∷ 1 ∷ 98
    ∷ 1 ∷ 0 ∷ 1 ∷ 7 ∷ 8
    ∷ 1 ∷ 0 ∷ 9 ∷ 0 ∷ 1 ∷ 0 ∷ 1 ∷ 1 ∷ 6 ∷ 9 ∷ 1 ∷ 1 ∷ 0
    ∷ 1 ∷ 10 ∷ 19 ∷ 0 ∷ 1 ∷ 0 ∷ 1 ∷ 1 ∷ 16 ∷ 19 ∷ 1 ∷ 1 ∷ 0
    ∷ 3 ∷ 20 ∷ 26 ∷ 1 ∷ 0 ∷ 7 ∷ 1 ∷ 0
    ∷ 4 ∷ 27 ∷ 35 ∷ 1 ∷ 0 ∷ 8 ∷ 1
    ∷ 36 ∷ 50 ∷ 1 ∷ 4 ∷ 42 ∷ 50 ∷ 1 ∷ 0 ∷ 8 ∷ 0
    ∷ 60 ∷ 2 ∷ 56 ∷ 1 ∷ 51 ∷ 4 ∷ 10 ∷ 1 ∷ 0 ∷ 50 ∷ []

abbrev cut₂ : Cut
cut₂ = cut_at (matching 0 9 6 ∷ matching 10 19 16 ∷ []) 20 26 (returning 27 35 1)

abbrev second : Statement
second = statement cut₂ (arm 36 50 (returning 42 50 0 ∷ [])) 50

pub agreeing : AgreeSheets true (bytes_of one) (bytes_of two) first second (in_head cut₁) (in_head cut₂)
unfolding words is_utf8 goes_on step after word_in many counted shape_of limit_of form_none form_one case_rest comp_rest rest_of read_form read_maybe read_part read_elem deep_cause is_in tree reading clausal same_bytes name_in fresh_after distinct all_zero name_body read_name row_id read_row sized in_place places_of read_names read_rows read_clauses locate read_sections read_sheet bytes_of names_section bindings_section key_words later_clause_words later_arm_words keys_of erase_keys erase_c erase_a logs walk lists sites
agreeing =
    record {
      reads₁ = refl;
      reads₂ = refl;
      stands₁ = refl;
      stands₂ = refl;
      sort = refl;
      names = refl;
      table = refl;
      carried = refl;
      keys = refl;
      clauses = refl;
      arms = refl;
    }

pub roots : (new_root true first (in_head cut₁) ≡ 3) × (new_root true second (in_head cut₂) ≡ 4)
unfolding logs walk sites
roots = (refl, refl)
