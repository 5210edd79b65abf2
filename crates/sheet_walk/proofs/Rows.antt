-- The bindings of a sheet: refused by cause 4 (`rows-fell`), else read and hung up (`rows-hung`); and what their words are, where they are read
-- (`row_words_lem`).
use Prim.Native.Nat.{ℕ, zero, suc, ◌+◌, ◌*◌, ◌<◌, ◌≤◌}
use native.Mathlib.Omega.{arith}
use mathlib.Core.Path.{◌≡◌, refl, sym, ◌∙◌}
use mathlib.Core.Bool.{true, false}
use mathlib.Core.List.{List, [], ◌∷◌, ◌++◌, flat_map}
use lib.ListN.{length, take, get_or, length-take, length-drop}
use lib.Seq.{get_or-drop, get_or-take}
use Rattle.words.specs.Words.{words}
use Rattle.heads.specs.Got.{ok, many}
use Rattle.expr.proofs.Inverse.{never}
use Rattle.clauses.specs.Well.{Each}
use Rattle.clauses.proofs.WrittenClause.{many-gives}
use Rattle.tables.specs.Row.{Row, row, row_words, read_row}
use Rattle.sheet.specs.Trailer.{section}
use Rattle.sheet.specs.Read.{Sheet, accepted, refused}
use Rattle.sheet.specs.Write.{WellRow}
use Rattle.sheet.specs.Answer.{InPlaces, judged, bindings_of, rows_of}
use Rattle.sheet.specs.declared.trailer.Places.{Places}
use Rattle.std.specs.Prelude.{Option, None, Some, Ok, Err}
use Rattle.std.proofs.Common.{ok_or}
use Rattle.refusal.specs.Number.{number_of}
use Rattle.refusal.specs.declared.Refusal.{Refusal}
use Rattle.refusal.specs.declared.Refusal.TheVariants.{Bindings}
use Rattle.sheet.proofs.Reading.{row_gives, rows-read, rows-no, rows-once}
use Rattle.rows.specs.declared.Index.{Index}
use Rattle.sheet_walk.specs.Parts.{Hangs, HungIf, HungAs, RowedIf, RowedAs}

-- what is judged refused
judged-no : {A : Type 0} (x : Sheet A) {c : ℕ} → refused c ≡ judged x → x ≡ refused c
judged-no (accepted a) e = cc
judged-no (refused d) e = cc

-- bindings that are refused are so whatever hangs
pub rows-fell : {s : List ℕ} {p : Places} {chains : List ℕ} (r : Refusal) → refused (number_of r) ≡ judged (bindings_of s p) → RowedAs s p chains chains (Err r)
rows-fell {s} {p} r e = record { kept = refl; rowed = judged-no _ (rows-no s p e) }

module _ {s : List ℕ} {p : Places} (h : InPlaces s p) (e : accepted tt ≡ judged (bindings_of s p)) where
  pub rows-hung : {old new : List ℕ} {o : Option Index} → HungAs (words s) p.rows p.bindings old new o → RowedAs s p old new (ok_or o Bindings)
  rows-hung {new = new} {o} y = record { kept = y.kept; rowed = go o y.hung }
    where
      rowed : {i : Index} (g : Sheet (List Row)) → rows_of s p ≡ g → accepted tt ≡ judged g → Hangs (words s) p.rows p.bindings new i → RowedIf s p new (Ok i)
      rowed (accepted rs) f k x = record { rows = rs; read = f; first = x.first; count = x.count; stands = x.stands }
      rowed (refused c) f k x = never (cc)

      go : (o : Option Index) → HungIf (words s) p.rows p.bindings new o → RowedIf s p new (ok_or o Bindings)
      go (Some i) x = rowed _ refl (rows-once s p h e {b = true} (sym x.apart)) x
      go None x = judged-no _ (rows-once s p h e {b = false} (sym x))

-- a row's name is one of the names, and its kind at most Value
well-at : (names : ℕ) (rs : List Row) (r : List ℕ) → Each (WellRow names) rs → (j : ℕ) → j < length rs → (get_or (flat_map row_words rs ++ r) (j * 5 + 1) 0 < names) × (get_or (flat_map row_words rs ++ r) (j * 5 + 2) 0 ≤ 4)
unfolding Each WellRow flat_map row_words
well-at names [] r w j h = absurd (omega arith)
well-at names (row i x k a b ∷ rs) r w zero h = (w.0.1, w.0.2.1)
well-at names (row i x k a b ∷ rs) r w (suc j) h =
    let y : suc j * 5 + 1 ≡ suc (suc (suc (suc (suc (j * 5 + 1))))) = omega arith in
    let z : suc j * 5 + 2 ≡ suc (suc (suc (suc (suc (j * 5 + 2))))) = omega arith in
    rw (y, z) (well-at names rs r w.1 j (omega arith))

pub row_words_lem : (names n head rows : ℕ) (ws : List ℕ) (rs : List Row) → many (read_row names) n (section ws rows head) ≡ ok rs [] → (j : ℕ) → j < n → (get_or ws (rows + j * 5 + 1) 0 < names) × (get_or ws (rows + j * 5 + 2) 0 ≤ 4)
row_words_lem names n head rows ws rs e j l =
    let g = (many-gives row_words (WellRow names) (row_gives names) n (section ws rows head)).given rs [] e in
    let long = (rows-read names n (section ws rows head) rs e).1 in
    let same : (i : ℕ) → i < n * 5 → get_or ws (rows + i) 0 ≡ get_or (section ws rows head) i 0 = λ i k. sym (get_or-drop rows (take head ws) i 0 ∙ get_or-take head ws (rows + i) 0 (omega (arith, long, length-drop rows (take head ws), length-take head ws))) in
    let y : rows + j * 5 + 1 ≡ rows + (j * 5 + 1) = omega arith in
    let z : rows + j * 5 + 2 ≡ rows + (j * 5 + 2) = omega arith in
    rw (y, z, same (j * 5 + 1) (omega arith), same (j * 5 + 2) (omega arith), g.0) (well-at names rs [] g.1 j (omega (arith, g.2)))
