-- Document 01's cases that are marked +, and its traps, and of document 02 a sort key (CR 1), a star and an alias (CR 2), a name that came
-- over a WITH beside a fresh one (CR 3), variables without a row (CR 5), and expressions 25 (CR 6), one table: from bytes to use ids, refusals,
-- lists and the listing.
use Rattle.std.specs.Prelude.{ℕ, ◌≡◌, refl, true, false, List, [], ◌∷◌, map, replicate, Option, None, Some}
use Rattle.words.specs.Words.{words}
use Rattle.words.specs.Fnv.{use_id, fnv1_of, fnv_from, fnv_step}
use Rattle.words.specs.Decimal.{low_digits, width_within, width as decimal_width, decimal}
use Rattle.words.specs.Utf8.{is_utf8, goes_on, step, after}
use Rattle.heads.specs.Got.{word_in, many, counted}
use Rattle.heads.specs.Form.{shape_of, limit_of, form_none, form_one, case_rest, comp_rest, rest_of, read_form}
use Rattle.heads.specs.Head.{read_maybe, read_part, read_elem, deep_cause}
use Rattle.heads.specs.Answer.{is_in}
use Rattle.expr.specs.Tree.{tree}
use Rattle.expr.specs.Read.{reading}
use Rattle.expr.specs.Olds.{olds_e, olds, olds_s}
use Rattle.clauses.specs.Read.{clausal}
use Rattle.clauses.specs.Olds.{olds_c, olds_cs, olds_a, olds_as}
use Rattle.tables.specs.Distinct.{same_bytes, name_in, fresh_after, distinct}
use Rattle.tables.specs.Index.{index_of}
use Rattle.tables.specs.Name.{all_zero, name_body, read_name}
use Rattle.tables.specs.Row.{row_id, read_row}
use Rattle.tables.specs.VarName.{var_name}
use Rattle.sheet.specs.Trailer.{sized, in_place, places_of}
use Rattle.sheet.specs.Read.{Sheet, accepted, refused, read_names, read_rows, read_clauses, locate, read_sections, read_sheet}
use Rattle.sheet.specs.Olds.{old_exists}
use Rattle.sheet.specs.Write.{bytes_of}
use Rattle.scope.specs.Graph.{Scope, scope, Name, indexed, generated, Entry, entry, Carried, carried}
use Rattle.scope.specs.Lookup.{Looked, at, nothing, bound_in, carries as carries_name, parent_at, kind_at, answer_at, passes, climb, lookup_in}
use Rattle.scope.specs.Offset.{covers, width, better, narrowest, scope_at_offset}
use Rattle.semantics.specs.Log.{Finding, finding, found, missing, Write, write, logs}
use Rattle.semantics.specs.Resolve.{walk}
use Rattle.semantics.specs.Kinds.{kind_walk}
use Rattle.semantics.specs.Lists.{scopes, bindings, carried_list, recorded, findings, lists}
use Rattle.texts.specs.Bytes.{bytes}
use Rattle.texts.specs.Texts.{type_name, kind_name, text_of}
use Rattle.texts.specs.Codes.{of2007, of2008, of5010, unused, text_for}
use Rattle.lines.specs.Lines.{front, line_for, line, old_line, listed}
use Rattle.listing.specs.Listing.{fits, listing}

-- What a case shows.
pub data Shown : Type 0 where
  turned_back : (cause : ℕ) → Shown
  use_ids : ℕ → Shown
  scope_list : List Scope → Shown
  binding_list : List Entry → Shown
  carries : List Carried → Shown
  records : List Write → Shown
  finds : List Finding → Shown
  in_scope : Option ℕ → Shown  -- the scope at an offset
  looked : Looked → Shown  -- what a lookup gives
  text : List ℕ → Shown

-- Bytes, what is asked of them, and what that shows.
pub data Case : Type 0 where
  case : (bytes : List ℕ) (asks : List ℕ → Shown) → Shown → Case

-- what is asked of an accepted sheet; else its refusal
abbrev pub ask : {A : Type 0} → (A → Shown) → Sheet A → Shown
ask q (accepted a) = q a
ask q (refused c) = turned_back c

abbrev pub its_use_id : List ℕ → Shown
its_use_id name = use_ids (use_id name)

abbrev pub its_scopes : List ℕ → Shown
its_scopes s = ask (λ st. scope_list (scopes true st)) (read_sheet s)

abbrev pub its_bindings : List ℕ → Shown
its_bindings s = ask (λ st. binding_list (bindings true st)) (read_sheet s)

abbrev pub its_carried : List ℕ → Shown
its_carried s = ask (λ st. carries (carried_list true st)) (read_sheet s)

abbrev pub its_recorded : List ℕ → Shown
its_recorded s = ask (λ st. records (recorded true st)) (read_sheet s)

abbrev pub its_findings : List ℕ → Shown
its_findings s = ask (λ st. finds (findings true st)) (read_sheet s)

abbrev pub its_findings_quietly : List ℕ → Shown
its_findings_quietly s = ask (λ st. finds (findings false st)) (read_sheet s)

abbrev pub looks_up : ℕ → Name → List ℕ → Shown
looks_up from x s = ask (λ st. looked (lookup_in (scopes true st) (bindings true st) (carried_list true st) from x)) (read_sheet s)

abbrev pub scope_at : ℕ → List ℕ → Shown
scope_at o s = ask (λ st. in_scope (scope_at_offset (scopes true st) o)) (read_sheet s)

abbrev pub its_listing : List ℕ → Shown
its_listing s = ask text (listing true s)

abbrev pub given : Case → Shown
given (case s asks a) = asks s

abbrev pub expected : Case → Shown
expected (case s asks a) = a

-- `MATCH (a) WITH a RETURN b`
abbrev pub example : List ℕ
example =
    1 ∷ 97 ∷ 1 ∷ 98
    ∷ 1 ∷ 0 ∷ 1 ∷ 7 ∷ 8
    ∷ 1 ∷ 0 ∷ 9 ∷ 0 ∷ 1 ∷ 0 ∷ 1 ∷ 1 ∷ 6 ∷ 9 ∷ 1 ∷ 1 ∷ 0
    ∷ 3 ∷ 10 ∷ 16 ∷ 1 ∷ 0 ∷ 7 ∷ 1 ∷ 0
    ∷ 4 ∷ 17 ∷ 25 ∷ 1 ∷ 0 ∷ 8 ∷ 1
    ∷ 37 ∷ 2 ∷ 33 ∷ 1 ∷ 28 ∷ 3 ∷ 0 ∷ 0 ∷ 0 ∷ 25 ∷ []

-- `CALL f() YIELD t, t`
abbrev pub yields : List ℕ
yields =
    1 ∷ 116
    ∷ 0 ∷ 0 ∷ 4 ∷ 15 ∷ 16 ∷ 1 ∷ 0 ∷ 4 ∷ 18 ∷ 19
    ∷ 11 ∷ 0 ∷ 19 ∷ 0 ∷ 2 ∷ 0 ∷ 0 ∷ 0 ∷ 0 ∷ 0 ∷ 1
    ∷ 23 ∷ 1 ∷ 21 ∷ 2 ∷ 11 ∷ 1 ∷ 0 ∷ 0 ∷ 0 ∷ 19 ∷ []

-- `MATCH (a) UNWIND [1] AS a`
abbrev pub unwinds : List ℕ
unwinds =
    1 ∷ 97
    ∷ 0 ∷ 0 ∷ 1 ∷ 7 ∷ 8 ∷ 1 ∷ 0 ∷ 4 ∷ 24 ∷ 25
    ∷ 1 ∷ 0 ∷ 9 ∷ 0 ∷ 1 ∷ 0 ∷ 1 ∷ 1 ∷ 6 ∷ 9 ∷ 1 ∷ 0 ∷ 0
    ∷ 5 ∷ 10 ∷ 25 ∷ 1 ∷ 12 ∷ 1 ∷ 3
    ∷ 32 ∷ 1 ∷ 30 ∷ 2 ∷ 20 ∷ 2 ∷ 0 ∷ 0 ∷ 0 ∷ 25 ∷ []

-- `MATCH (a), (b) WITH a AS t, b AS t`
abbrev pub replaces : List ℕ
replaces =
    1 ∷ 97 ∷ 1 ∷ 98 ∷ 1 ∷ 116
    ∷ 0 ∷ 0 ∷ 1 ∷ 7 ∷ 8 ∷ 1 ∷ 1 ∷ 1 ∷ 12 ∷ 13
    ∷ 1 ∷ 0 ∷ 14 ∷ 0 ∷ 2 ∷ 0 ∷ 1 ∷ 1 ∷ 6 ∷ 9 ∷ 1 ∷ 0 ∷ 0 ∷ 0 ∷ 1 ∷ 1 ∷ 11 ∷ 14 ∷ 1 ∷ 1 ∷ 0
    ∷ 3 ∷ 15 ∷ 34 ∷ 2 ∷ 3 ∷ 7 ∷ 0 ∷ 3 ∷ 7 ∷ 1 ∷ 0
    ∷ 48 ∷ 3 ∷ 42 ∷ 2 ∷ 32 ∷ 2 ∷ 0 ∷ 0 ∷ 0 ∷ 34 ∷ []

-- `MATCH p = (a) RETURN p.id`
abbrev pub path_id : List ℕ
path_id =
    1 ∷ 112 ∷ 1 ∷ 97 ∷ 2 ∷ 25705
    ∷ 0 ∷ 0 ∷ 3 ∷ 6 ∷ 7 ∷ 1 ∷ 1 ∷ 1 ∷ 11 ∷ 12
    ∷ 1 ∷ 0 ∷ 13 ∷ 0 ∷ 1 ∷ 1 ∷ 0 ∷ 1 ∷ 1 ∷ 10 ∷ 13 ∷ 1 ∷ 1 ∷ 0
    ∷ 4 ∷ 14 ∷ 25 ∷ 1 ∷ 0 ∷ 9 ∷ 2 ∷ 7 ∷ 0
    ∷ 39 ∷ 3 ∷ 33 ∷ 2 ∷ 23 ∷ 2 ∷ 0 ∷ 0 ∷ 0 ∷ 25 ∷ []

-- `MATCH p = (a) RETURN p.x`
abbrev pub path_other : List ℕ
path_other =
    1 ∷ 112 ∷ 1 ∷ 97 ∷ 1 ∷ 120
    ∷ 0 ∷ 0 ∷ 3 ∷ 6 ∷ 7 ∷ 1 ∷ 1 ∷ 1 ∷ 11 ∷ 12
    ∷ 1 ∷ 0 ∷ 13 ∷ 0 ∷ 1 ∷ 1 ∷ 0 ∷ 1 ∷ 1 ∷ 10 ∷ 13 ∷ 1 ∷ 1 ∷ 0
    ∷ 4 ∷ 14 ∷ 24 ∷ 1 ∷ 0 ∷ 9 ∷ 2 ∷ 7 ∷ 0
    ∷ 39 ∷ 3 ∷ 33 ∷ 2 ∷ 23 ∷ 2 ∷ 0 ∷ 0 ∷ 0 ∷ 24 ∷ []

-- `MATCH p = (r)-[a]-(), a = () RETURN a + 1, p.x, 1[0], 'row'[..2], [x IN {} | 1], any(x IN 5 WHERE 'late'), seat`, the table giving `r`
-- and both `a` other kinds than their places want: every message. The name `seat` has four bytes, and no padding.
abbrev pub every_message : List ℕ
every_message =
    1 ∷ 112 ∷ 1 ∷ 114 ∷ 1 ∷ 97 ∷ 1 ∷ 120 ∷ 4 ∷ 1952540019
    ∷ 0 ∷ 0 ∷ 3 ∷ 6 ∷ 7 ∷ 1 ∷ 1 ∷ 2 ∷ 11 ∷ 12 ∷ 2 ∷ 2 ∷ 1 ∷ 15 ∷ 16 ∷ 3 ∷ 2 ∷ 1 ∷ 22 ∷ 23
    ∷ 1 ∷ 0 ∷ 28 ∷ 0 ∷ 2 ∷ 1 ∷ 0 ∷ 3 ∷ 1 ∷ 10 ∷ 13 ∷ 1 ∷ 1 ∷ 0 ∷ 2 ∷ 13 ∷ 18 ∷ 1 ∷ 2 ∷ 0 ∷ 1 ∷ 18 ∷ 20 ∷ 0 ∷ 0 ∷ 1 ∷ 3 ∷ 1 ∷ 1 ∷ 26 ∷ 28 ∷ 0
    ∷ 0 ∷ 4 ∷ 29 ∷ 111 ∷ 7 ∷ 0 ∷ 15 ∷ 0 ∷ 7 ∷ 2 ∷ 3 ∷ 0 ∷ 9 ∷ 3 ∷ 7 ∷ 0 ∷ 0 ∷ 10 ∷ 3 ∷ 3 ∷ 0 ∷ 11 ∷ 2 ∷ 5 ∷ 3 ∷ 0 ∷ 21 ∷ 0 ∷ 13 ∷ 0 ∷ 3 ∷ 0 ∷ 23 ∷ 1 ∷ 3 ∷ 5 ∷ 0 ∷ 8 ∷ 4
    ∷ 101 ∷ 5 ∷ 91 ∷ 4 ∷ 71 ∷ 2 ∷ 0 ∷ 0 ∷ 0 ∷ 111 ∷ []

-- `MATCH p = (a) WITH p AS t, a AS t, a AS u CREATE (c) MERGE (d) RETURN [(e) | u], a ^ 1, a = 1, a <> 1, a < 1, a >= 1, a AND 1`, where the
-- last `a` of the WITH is a name and the others are variables
abbrev pub traps : List ℕ
traps =
    1 ∷ 112 ∷ 1 ∷ 97 ∷ 1 ∷ 116 ∷ 1 ∷ 117 ∷ 1 ∷ 99 ∷ 1 ∷ 100 ∷ 1 ∷ 101
    ∷ 0 ∷ 0 ∷ 3 ∷ 6 ∷ 7 ∷ 1 ∷ 1 ∷ 1 ∷ 11 ∷ 12 ∷ 2 ∷ 4 ∷ 1 ∷ 0 ∷ 0 ∷ 3 ∷ 5 ∷ 1 ∷ 0 ∷ 0 ∷ 4 ∷ 6 ∷ 1 ∷ 0 ∷ 0
    ∷ 1 ∷ 0 ∷ 13 ∷ 0 ∷ 1 ∷ 1 ∷ 0 ∷ 1 ∷ 1 ∷ 10 ∷ 13 ∷ 1 ∷ 1 ∷ 0
    ∷ 3 ∷ 14 ∷ 40 ∷ 3 ∷ 3 ∷ 7 ∷ 0 ∷ 3 ∷ 7 ∷ 1 ∷ 4 ∷ 8 ∷ 1 ∷ 0
    ∷ 6 ∷ 41 ∷ 50 ∷ 1 ∷ 0 ∷ 1 ∷ 1 ∷ 48 ∷ 50 ∷ 1 ∷ 2 ∷ 0
    ∷ 7 ∷ 51 ∷ 60 ∷ 1 ∷ 0 ∷ 1 ∷ 1 ∷ 58 ∷ 60 ∷ 1 ∷ 3 ∷ 0
    ∷ 4 ∷ 61 ∷ 99 ∷ 7 ∷ 0 ∷ 22 ∷ 70 ∷ 80 ∷ 0 ∷ 1 ∷ 0 ∷ 1 ∷ 1 ∷ 71 ∷ 74 ∷ 1 ∷ 4 ∷ 0 ∷ 8 ∷ 3
    ∷ 0 ∷ 15 ∷ 5 ∷ 7 ∷ 1 ∷ 3 ∷ 0 ∷ 15 ∷ 6 ∷ 7 ∷ 1 ∷ 3 ∷ 0 ∷ 15 ∷ 7 ∷ 7 ∷ 1 ∷ 3
    ∷ 0 ∷ 15 ∷ 8 ∷ 7 ∷ 1 ∷ 3 ∷ 0 ∷ 15 ∷ 11 ∷ 7 ∷ 1 ∷ 3 ∷ 0 ∷ 15 ∷ 12 ∷ 7 ∷ 1 ∷ 3
    ∷ 147 ∷ 7 ∷ 133 ∷ 5 ∷ 108 ∷ 5 ∷ 0 ∷ 0 ∷ 0 ∷ 99 ∷ []

-- `MATCH (a) RETURN a ORDER BY b`
abbrev pub sort_key : List ℕ
sort_key =
    1 ∷ 97 ∷ 1 ∷ 98
    ∷ 1 ∷ 0 ∷ 1 ∷ 7 ∷ 8
    ∷ 1 ∷ 0 ∷ 9 ∷ 0 ∷ 1 ∷ 0 ∷ 1 ∷ 1 ∷ 6 ∷ 9 ∷ 1 ∷ 1 ∷ 0
    ∷ 13 ∷ 10 ∷ 29 ∷ 1 ∷ 0 ∷ 7 ∷ 1 ∷ 1 ∷ 8 ∷ 1
    ∷ 32 ∷ 2 ∷ 28 ∷ 1 ∷ 23 ∷ 2 ∷ 0 ∷ 0 ∷ 0 ∷ 29 ∷ []

-- `MATCH (a), (b) UNWIND [1] AS a WITH * RETURN a, b`, the last two being names
abbrev pub star : List ℕ
star =
    1 ∷ 97 ∷ 1 ∷ 98 ∷ 1 ∷ 42
    ∷ 0 ∷ 0 ∷ 1 ∷ 7 ∷ 8 ∷ 1 ∷ 1 ∷ 1 ∷ 12 ∷ 13 ∷ 2 ∷ 0 ∷ 4 ∷ 29 ∷ 30
    ∷ 1 ∷ 0 ∷ 14 ∷ 0 ∷ 2 ∷ 0 ∷ 1 ∷ 1 ∷ 6 ∷ 9 ∷ 1 ∷ 0 ∷ 0 ∷ 0 ∷ 1 ∷ 1 ∷ 11 ∷ 14 ∷ 1 ∷ 1 ∷ 0
    ∷ 5 ∷ 15 ∷ 30 ∷ 2 ∷ 12 ∷ 1 ∷ 3
    ∷ 3 ∷ 31 ∷ 37 ∷ 1 ∷ 0 ∷ 8 ∷ 2 ∷ 0
    ∷ 4 ∷ 38 ∷ 49 ∷ 2 ∷ 0 ∷ 8 ∷ 0 ∷ 0 ∷ 8 ∷ 1
    ∷ 67 ∷ 3 ∷ 61 ∷ 3 ∷ 46 ∷ 4 ∷ 0 ∷ 0 ∷ 0 ∷ 49 ∷ []

-- `MATCH (a) WITH a.x AS y RETURN y`, the last `y` being a name
abbrev pub computed : List ℕ
computed =
    1 ∷ 97 ∷ 1 ∷ 120 ∷ 1 ∷ 121
    ∷ 1 ∷ 0 ∷ 1 ∷ 7 ∷ 8
    ∷ 1 ∷ 0 ∷ 9 ∷ 0 ∷ 1 ∷ 0 ∷ 1 ∷ 1 ∷ 6 ∷ 9 ∷ 1 ∷ 1 ∷ 0
    ∷ 3 ∷ 10 ∷ 23 ∷ 1 ∷ 3 ∷ 9 ∷ 1 ∷ 7 ∷ 1 ∷ 0
    ∷ 4 ∷ 24 ∷ 32 ∷ 1 ∷ 0 ∷ 8 ∷ 2
    ∷ 41 ∷ 3 ∷ 35 ∷ 1 ∷ 30 ∷ 3 ∷ 0 ∷ 0 ∷ 0 ∷ 32 ∷ []

-- `MATCH (a) WITH a MATCH (b) RETURN a, b`, the last two being names
abbrev pub carried_and_fresh : List ℕ
carried_and_fresh =
    1 ∷ 97 ∷ 1 ∷ 98
    ∷ 1 ∷ 0 ∷ 1 ∷ 7 ∷ 8 ∷ 2 ∷ 1 ∷ 1 ∷ 24 ∷ 25
    ∷ 1 ∷ 0 ∷ 9 ∷ 0 ∷ 1 ∷ 0 ∷ 1 ∷ 1 ∷ 6 ∷ 9 ∷ 1 ∷ 1 ∷ 0
    ∷ 3 ∷ 10 ∷ 16 ∷ 1 ∷ 0 ∷ 7 ∷ 1 ∷ 0
    ∷ 1 ∷ 17 ∷ 26 ∷ 0 ∷ 1 ∷ 0 ∷ 1 ∷ 1 ∷ 23 ∷ 26 ∷ 1 ∷ 2 ∷ 0
    ∷ 4 ∷ 27 ∷ 38 ∷ 2 ∷ 0 ∷ 8 ∷ 0 ∷ 0 ∷ 8 ∷ 1
    ∷ 58 ∷ 2 ∷ 54 ∷ 2 ∷ 44 ∷ 4 ∷ 0 ∷ 0 ∷ 0 ∷ 38 ∷ []

-- `MATCH p = (), p = ()`, where `p` is a variable without a row
abbrev pub path_again : List ℕ
path_again =
    1 ∷ 0 ∷ 20 ∷ 0 ∷ 2 ∷ 1 ∷ 5 ∷ 1 ∷ 1 ∷ 10 ∷ 12 ∷ 0 ∷ 0 ∷ 1 ∷ 5 ∷ 1 ∷ 1 ∷ 18 ∷ 20 ∷ 0 ∷ 0
    ∷ 21 ∷ 0 ∷ 21 ∷ 0 ∷ 21 ∷ 1 ∷ 0 ∷ 0 ∷ 0 ∷ 20 ∷ []

-- `UNWIND [1] AS __var7 RETURN __var7`, the Unwind's variable without a row, and the last `__var7` a name
abbrev pub listed_variable : List ℕ
listed_variable =
    6 ∷ 1635147615 ∷ 14194
    ∷ 5 ∷ 0 ∷ 20 ∷ 7 ∷ 12 ∷ 1 ∷ 3
    ∷ 4 ∷ 21 ∷ 34 ∷ 1 ∷ 0 ∷ 8 ∷ 0
    ∷ 17 ∷ 1 ∷ 14 ∷ 0 ∷ 14 ∷ 2 ∷ 0 ∷ 0 ∷ 0 ∷ 34 ∷ []

-- `MATCH (a) WITH *`, where `a` is a variable without a row
abbrev pub rowless_star : List ℕ
rowless_star =
    1 ∷ 42
    ∷ 1 ∷ 0 ∷ 9 ∷ 0 ∷ 1 ∷ 0 ∷ 1 ∷ 1 ∷ 6 ∷ 9 ∷ 1 ∷ 5 ∷ 0
    ∷ 3 ∷ 10 ∷ 16 ∷ 1 ∷ 0 ∷ 8 ∷ 0 ∷ 0
    ∷ 23 ∷ 1 ∷ 21 ∷ 0 ∷ 21 ∷ 2 ∷ 0 ∷ 0 ∷ 0 ∷ 16 ∷ []

-- a Where, an Unwind's list, a sort key of a Return, and a Where of an arm, each the same expression of one word
abbrev pub four_places : ℕ → List ℕ
four_places e =
    1 ∷ 97
    ∷ 0 ∷ 0 ∷ 4 ∷ 11 ∷ 12
    ∷ 2 ∷ 0 ∷ 9 ∷ e
    ∷ 5 ∷ 10 ∷ 20 ∷ 0 ∷ e
    ∷ 13 ∷ 21 ∷ 30 ∷ 1 ∷ 0 ∷ 3 ∷ 1 ∷ e
    ∷ 31 ∷ 40 ∷ 1 ∷ 2 ∷ 31 ∷ 40 ∷ e
    ∷ 31 ∷ 1 ∷ 29 ∷ 1 ∷ 24 ∷ 3 ∷ 7 ∷ 1 ∷ 0 ∷ 40 ∷ []

abbrev pub cases : List Case
cases =
    -- 40 zero bytes are accepted; 36, 42 and 8,196 bytes are not
    case (replicate 40 0) its_scopes (scope_list (scope 1 None 0 0 ∷ []))
    ∷ case (replicate 40 0) its_listing (text (bytes "findings 0\n"))
    ∷ case (replicate 36 0) its_findings (turned_back 1)
    ∷ case (replicate 42 0) its_findings (turned_back 1)
    ∷ case (replicate 8196 0) its_findings (turned_back 1)
    -- use ids
    ∷ case [] its_use_id (use_ids 0xFEE3623A)
    ∷ case (bytes "a") its_use_id (use_ids 0xFAF3A281)
    ∷ case (bytes "*") its_use_id (use_ids 0xFAF3A2CA)
    -- `MATCH (a) WITH a RETURN b`
    ∷ case (bytes_of example) its_scopes (scope_list (scope 1 None 0 25 ∷ scope 2 (Some 0) 0 9 ∷ scope 7 (Some 1) 10 16 ∷ scope 1 (Some 2) 16 16 ∷ scope 8 (Some 3) 17 25 ∷ []))
    ∷ case (bytes_of example) (scope_at 16) (in_scope (Some 2))
    ∷ case (bytes_of example) (scope_at 26) (in_scope None)
    -- from the barrier, which carries `a` and lets it through
    ∷ case (bytes_of example) (looks_up 2 (indexed 0)) (looked (at 1 1))
    ∷ case (bytes_of example) its_findings (finds (finding 1001 0 0 (Some (indexed 1)) 0 0 ∷ []))
    ∷ case (bytes_of example) its_listing (text (bytes "findings 1\nE1001 0 0 unresolved variable `b`\n"))
    -- two yields `t`, and an Unwind of a visible name
    ∷ case (bytes_of yields) its_findings (finds (finding 1002 0 19 (Some (indexed 0)) 0 0 ∷ []))
    ∷ case (bytes_of yields) its_listing (text (bytes "findings 1\nE1002 0 19 variable `t` shadows an earlier binding\n"))
    ∷ case (bytes_of yields) its_findings_quietly (finds [])
    -- Root and Call have one span
    ∷ case (bytes_of yields) (scope_at 5) (in_scope (Some 1))
    ∷ case (bytes_of unwinds) its_listing (text (bytes "findings 0\n"))
    -- `WITH a AS t, b AS t`
    ∷ case (bytes_of replaces) its_bindings (binding_list (entry 1 (indexed 0) 0 1 None ∷ entry 1 (indexed 1) 1 1 None ∷ entry 3 (indexed 2) 1 1 (Some 0) ∷ []))
    ∷ case (bytes_of replaces) its_carried (carries (carried 2 (indexed 2) 0 ∷ carried 2 (indexed 2) 1 ∷ []))
    -- from the new Root `t` is there, and the barrier stops `a`
    ∷ case (bytes_of replaces) (looks_up 3 (indexed 2)) (looked (at 1 3))
    ∷ case (bytes_of replaces) (looks_up 3 (indexed 0)) (looked nothing)
    -- a path's property `id`, and another
    ∷ case (bytes_of path_id) its_listing (text (bytes "findings 0\n"))
    ∷ case (bytes_of path_other) its_findings (finds (finding 2007 0 0 (Some (indexed 0)) 2 3 ∷ []))
    ∷ case (bytes_of path_other) its_listing (text (bytes "findings 1\nE2007 0 0 variable `p` has kind `Path` and does not support property access; use `nodes()` or `relationships()` to extract graph elements first\n"))
    -- Create's and Merge's scopes; a comprehension in Return looks from outside it
    ∷ case (bytes_of traps) its_scopes (scope_list (scope 1 None 0 99 ∷ scope 2 (Some 0) 0 13 ∷ scope 7 (Some 1) 14 40 ∷ scope 1 (Some 2) 40 40 ∷ scope 3 (Some 3) 41 50 ∷ scope 4 (Some 4) 51 60 ∷ scope 8 (Some 5) 61 99 ∷ scope 9 (Some 5) 70 80 ∷ []))
    -- an aliased name is carried too; a binding that replaces another takes its own kind
    ∷ case (bytes_of traps) its_carried (carries (carried 2 (indexed 2) 0 ∷ carried 2 (indexed 2) 1 ∷ carried 2 (indexed 3) 1 ∷ []))
    ∷ case (bytes_of traps) its_bindings (binding_list (entry 1 (indexed 0) 0 3 None ∷ entry 1 (indexed 1) 1 1 None ∷ entry 3 (indexed 2) 1 1 (Some 0) ∷ entry 3 (indexed 3) 1 1 None ∷ entry 4 (indexed 4) 2 1 None ∷ entry 5 (indexed 5) 3 1 None ∷ entry 7 (indexed 6) 4 1 None ∷ []))
    -- of the operators `^`, `<` and `>=` are arithmetic, `=`, `<>` and `AND` are not
    ∷ case (bytes_of traps) its_findings (finds (finding 2007 0 0 (Some (indexed 1)) 1 1 ∷ finding 2007 0 0 (Some (indexed 1)) 1 1 ∷ finding 2007 0 0 (Some (indexed 1)) 1 1 ∷ []))
    -- every message
    ∷ case (bytes_of every_message) its_listing (text (bytes "findings 12\nE1002 0 0 variable `a` shadows an earlier binding\nE1001 0 0 unresolved variable `seat`\nE2008 10 13 variable `r` used in node-pattern position but has kind `Relationship`; expected `Node`\nE2008 13 18 variable `a` used in relationship-pattern position but has kind `Node`; expected `Relationship`\nE2008 0 0 variable `a` used as path binder but has kind `Node`; expected `Path`\nE2007 0 0 variable `a` has kind `Node` but is used in an arithmetic expression; only `Value` variables are valid here\nE2007 0 0 variable `p` has kind `Path` and does not support property access; use `nodes()` or `relationships()` to extract graph elements first\nE5010 0 0 cannot index non-list expression of type `Int`; list indexing and slicing require a list target\nE5010 0 0 cannot slice non-list expression of type `String`; list indexing and slicing require a list target\nE5010 0 0 cannot iterate over non-list expression of type `Map`; list indexing and slicing require a list target\nE5011 0 0 list-predicate iterable must be a list but found `Int`; ANY/ALL/NONE/SINGLE require a `LIST<T>` source\nE2011 0 0 list-predicate WHERE clause requires a `Bool` predicate but found `String`\n"))
    -- a sort key that is misspelt
    ∷ case (bytes_of sort_key) its_findings (finds (finding 1001 0 0 (Some (indexed 1)) 0 0 ∷ []))
    ∷ case (bytes_of sort_key) its_listing (text (bytes "findings 1\nE1001 0 0 unresolved variable `b`\n"))
    -- a star carries `b`, then `a` with its newest variable; both are found after it
    ∷ case (bytes_of star) its_carried (carries (carried 3 (indexed 1) 1 ∷ carried 3 (indexed 0) 2 ∷ []))
    ∷ case (bytes_of star) its_bindings (binding_list (entry 1 (indexed 0) 0 1 None ∷ entry 1 (indexed 1) 1 1 None ∷ entry 2 (indexed 0) 2 4 None ∷ entry 4 (indexed 1) 1 1 None ∷ entry 4 (indexed 0) 2 4 None ∷ []))
    ∷ case (bytes_of star) its_listing (text (bytes "findings 0\n"))
    -- the alias of a computed expression has its use id as its variable
    ∷ case (bytes_of computed) its_carried (carries (carried 2 (indexed 2) 0xFAF3A299 ∷ []))
    ∷ case (bytes_of computed) its_listing (text (bytes "findings 0\n"))
    -- of the names after a star both came over the WITH, as did a computed alias
    ∷ case (bytes_of star) its_recorded (records (write 0xFAF3A2CA missing ∷ write 0xFAF3A281 (found 2 4 1) ∷ write 0xFAF3A282 (found 1 1 1) ∷ []))
    ∷ case (bytes_of computed) its_recorded (records (write 1 (found 1 1 0) ∷ write 0xFAF3A299 (found 0xFAF3A299 4 1) ∷ []))
    -- `a` came over the WITH, `b` is fresh, and a Var says nothing; from the Return's scope they are found in the new Root and in the second Match
    ∷ case (bytes_of carried_and_fresh) its_recorded (records (write 1 (found 1 1 0) ∷ write 0xFAF3A281 (found 1 1 1) ∷ write 0xFAF3A282 (found 2 1 0) ∷ []))
    ∷ case (bytes_of carried_and_fresh) (looks_up 5 (indexed 0)) (looked (at 1 3))
    ∷ case (bytes_of carried_and_fresh) (looks_up 5 (indexed 1)) (looked (at 2 4))
    -- a path without a row is bound under a generated name, and bound again it gives 1002
    ∷ case (bytes_of path_again) its_bindings (binding_list (entry 1 (generated 5) 5 3 (Some 5) ∷ []))
    ∷ case (bytes_of path_again) (looks_up 1 (generated 5)) (looked (at 5 1))
    ∷ case (bytes_of path_again) its_findings (finds (finding 1002 0 0 (Some (generated 5)) 0 0 ∷ []))
    ∷ case (bytes_of path_again) its_findings_quietly (finds [])
    ∷ case (bytes_of path_again) its_listing (text (bytes "findings 1\nE1002 0 0 variable `__var5` shadows an earlier binding\n"))
    -- the name of the sheet that has the variable's text is the name: a use of it is found, and no generated name is there
    ∷ case (bytes_of listed_variable) its_bindings (binding_list (entry 1 (indexed 0) 7 4 None ∷ []))
    ∷ case (bytes_of listed_variable) its_recorded (records (write 0xDBD4A33E (found 7 4 0) ∷ []))
    ∷ case (bytes_of listed_variable) (looks_up 1 (generated 7)) (looked nothing)
    ∷ case (bytes_of listed_variable) its_listing (text (bytes "findings 0\n"))
    -- a star carries a generated name
    ∷ case (bytes_of rowless_star) its_carried (carries (carried 2 (generated 5) 5 ∷ []))
    ∷ case (bytes_of rowless_star) its_bindings (binding_list (entry 1 (generated 5) 5 1 None ∷ entry 3 (generated 5) 5 4 None ∷ []))
    ∷ case (bytes_of rowless_star) (looks_up 3 (generated 5)) (looked (at 5 3))
    -- expressions 25 are counted wherever they stand, and no other
    ∷ case (bytes_of (four_places 25)) its_listing (text (bytes "findings 0\nold exists 4\n"))
    ∷ case (bytes_of (four_places 1)) its_listing (text (bytes "findings 0\n"))
    ∷ []

pub cases-hold : map given cases ≡ map expected cases
unfolding words use_id fnv1_of fnv_from fnv_step low_digits width_within decimal_width decimal is_utf8 goes_on step after word_in many counted shape_of limit_of form_none form_one case_rest comp_rest rest_of read_form read_maybe read_part read_elem deep_cause is_in tree reading clausal same_bytes name_in fresh_after distinct index_of all_zero name_body read_name row_id read_row var_name sized in_place places_of read_names read_rows read_clauses locate read_sections read_sheet bytes_of bound_in carries_name parent_at kind_at answer_at passes climb lookup_in covers width better narrowest scope_at_offset logs walk kind_walk lists type_name kind_name text_of of2007 of2008 of5010 unused text_for front line_for line old_line listed olds_e olds olds_s olds_c olds_cs olds_a olds_as old_exists fits listing
cases-hold = refl
