-- The row that is found is the one that the definition's table has: `row-found`. The table is what the words read as, and with distinct
-- variables the newest row of a variable is the first.
use Rattle.std.specs.Prelude.{None, Some}
use Prim.Native.Nat.{ℕ, zero, suc, ◌+◌, ◌*◌, ◌<◌, ◌≤◌}
use native.Mathlib.Omega.{arith}
use mathlib.Core.Path.{◌≡◌, refl, ap, sym, ◌∙◌}
use mathlib.Core.Logic.{◌≢◌}
use mathlib.Core.Bool.{true}
use mathlib.Core.List.{List, [], ◌∷◌, ◌++◌, flat_map}
use lib.ListN.{length, take, drop, get_or, length-drop, length-take}
use lib.Seq.{get_or-drop, get_or-take}
use borrow.Author.Tests.{eq-eqb, ne_eqb}
use Rattle.heads.specs.Got.{ok, many}
use Rattle.heads.specs.Answer.{row_ids, is_in}
use Rattle.clauses.proofs.WrittenClause.{many-gives}
use Rattle.tables.specs.Distinct.{distinct}
use Rattle.tables.specs.Row.{Row, row, row_words, read_row}
use Rattle.sheet.specs.Trailer.{section}
use Rattle.sheet.specs.Write.{WellRow}
use Rattle.sheet.proofs.Reading.{row_gives}
use Rattle.semantics.specs.World.{row_of}
use Rattle.rows.specs.Rows.{id_at, seek, row_at, row_told}
use Rattle.rows.proofs.Chains.{seek-le, seek_hit, seek-miss}
use Rattle.rows.proofs.Ids.{once}

-- the n rows from the word p on
unfoldable rows_at : List ℕ → ℕ → ℕ → List Row
rows_at ws p zero = []
rows_at ws p (suc n) = row_at ws p ∷ rows_at ws (p + 5) n

-- where no row has the variable, and where one has it and none before
absent : (ws : List ℕ) (p n v : ℕ) → ((j : ℕ) → j < n → get_or ws (p + j * 5) 0 ≢ v) → row_of v (rows_at ws p n) ≡ None
unfolding rows_at row_of
absent ws p zero v k = refl
absent ws p (suc n) v k =
    let z : p + 0 * 5 ≡ p = omega arith in
    rw (ne_eqb v (get_or ws p 0) (λ q. (rw z at (k 0 (omega arith))) (sym q)))
    (absent ws (p + 5) n v (λ j l. let y : p + suc j * 5 ≡ p + 5 + j * 5 = omega arith in rw y at (k (suc j) (omega arith))))

first : (ws : List ℕ) (p n v j : ℕ) → j < n → get_or ws (p + j * 5) 0 ≡ v → ((i : ℕ) → i < j → get_or ws (p + i * 5) 0 ≢ v) → row_of v (rows_at ws p n) ≡ Some (row_at ws (p + j * 5))
unfolding rows_at row_of
first ws p zero v j h e k = absurd (omega arith)
first ws p (suc n) v zero h e k =
    let z : p + 0 * 5 ≡ p = omega arith in
    rw (z, eq-eqb v (get_or ws p 0) (sym (rw z at e)))
first ws p (suc n) v (suc j) h e k =
    let z : p + 0 * 5 ≡ p = omega arith in
    let y : p + suc j * 5 ≡ p + 5 + j * 5 = omega arith in
    rw (y, ne_eqb v (get_or ws p 0) (λ q. (rw z at (k 0 (omega arith))) (sym q)))
    (first ws (p + 5) n v j (omega arith) (rw y at e) (λ i l. let x : p + suc i * 5 ≡ p + 5 + i * 5 = omega arith in rw x at (k (suc i) (omega arith))))

told : (ws : List ℕ) (rows n v : ℕ) → ((i j : ℕ) → i < j → j < n → id_at ws rows i ≢ id_at ws rows j) → row_of v (rows_at ws rows n) ≡ row_told ws rows (seek (id_at ws rows) v n)
told ws rows n v u = go (seek (id_at ws rows) v n) refl
  where
    go : (s : ℕ) → seek (id_at ws rows) v n ≡ s → row_of v (rows_at ws rows n) ≡ row_told ws rows s
    go zero e = absent ws rows n v (λ j l. seek-miss (id_at ws rows) v n j e l)
    go (suc j) e =
        let hit = seek_hit (id_at ws rows) v n j e in
        let low : j < n = omega (arith, e, seek-le (id_at ws rows) v n) in
        first ws rows n v j low hit (λ i l q. u i j l low (q ∙ sym hit))

-- rows that are written from the word p on are those that stand there
written : (ws r : List ℕ) (rs : List Row) (p : ℕ) → ((i : ℕ) → i < length (flat_map row_words rs ++ r) → get_or ws (p + i) 0 ≡ get_or (flat_map row_words rs ++ r) i 0) → rs ≡ rows_at ws p (length rs)
unfolding rows_at flat_map row_words
written ws r [] p k = refl
written ws r (row i x t a b ∷ rs) p k =
    let z : p + 0 ≡ p = omega arith in
    let e0 : get_or ws p 0 ≡ i = rw z at (k 0 (omega arith)) in
    rw (e0, k 1 (omega arith), k 2 (omega arith), k 3 (omega arith), k 4 (omega arith))
    (ap (◌∷◌ (row i x t a b)) (written ws r rs (p + 5) (λ j l. let y : p + suc (suc (suc (suc (suc j)))) ≡ p + 5 + j = omega arith in rw y at (k (suc (suc (suc (suc (suc j))))) (omega arith)))))

pub row-found : (names n to : ℕ) (ws r : List ℕ) (rs : List Row) (rows v : ℕ) → many (read_row names) n (section ws rows to) ≡ ok rs r → rows + n * 5 ≤ length ws → distinct is_in (row_ids n (drop rows ws)) ≡ true → row_of v rs ≡ row_told ws rows (seek (id_at ws rows) v n)
row-found names n to ws r rs rows v e fit d =
    let h = (many-gives row_words (WellRow names) (row_gives names) n (section ws rows to)).given rs r e in
    let same : (i : ℕ) → i < length (section ws rows to) → get_or ws (rows + i) 0 ≡ get_or (section ws rows to) i 0 = λ i l. sym (get_or-drop rows (take to ws) i 0 ∙ get_or-take to ws (rows + i) 0 (omega (arith, length-drop rows (take to ws), length-take to ws))) in
    let t : rs ≡ rows_at ws rows n = written ws r rs rows (rw h.0 at same) ∙ ap (rows_at ws rows) h.2 in
    rw t (told ws rows n v (once ws rows n fit d))
