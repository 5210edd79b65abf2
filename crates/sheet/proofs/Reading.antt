-- Laws of the bindings: those that are read give their variables, and what stops them is cause 4.
use Prim.Native.Nat.{ℕ, ◌+◌, ◌*◌, ◌≤◌}
use native.Mathlib.Omega.{arith}
use mathlib.Core.Path.{◌≡◌, refl, sym, ap, ◌∙◌}
use mathlib.Core.Bool.{Bool, true, false}
use mathlib.Core.List.{List, [], ◌∷◌, ◌++◌, map, flat_map, append-nil}
use borrow.Author.Tests.{eqb-true, eqb-false}
use lib.Dec.{eqb}
use lib.ListN.{length, take, drop, length-take, length-drop}
use Rattle.std.specs.Prelude.{Result, Ok, Err}
use Rattle.std.specs.Result.{result_eq}
use Rattle.std.proofs.Common.{nat_eq}
use Rattle.refusal.specs.declared.Refusal.{Refusal}
use Rattle.words.specs.Words.{words}
use Rattle.words.proofs.Words.{length-words, drop-word, drop-none}
use Rattle.heads.specs.Got.{Got, ok, no, bare, many}
use Rattle.heads.specs.Answer.{Reads, row_ids, is_in}
use Rattle.expr.proofs.Inverse.{never, Gives, gave, after, word-gives}
use Rattle.clauses.proofs.WrittenClause.{Is, many-gives}
use Rattle.tables.specs.Distinct.{distinct}
use Rattle.tables.specs.Row.{Row, row, row_id, row_words, read_row}
use Rattle.sheet.specs.Trailer.{section}
use Rattle.sheet.specs.Read.{Sheet, accepted, refused, then', unless, entire, read_rows}
use Rattle.sheet.specs.Answer.{InPlaces, judged, bindings_of, rows_of}
use Rattle.sheet.specs.Write.{WellRow}
use Rattle.sheet.specs.declared.trailer.Places.{Places}
use Rattle.sheet.proofs.Cutting.{ids-take}

pub row_gives : (names : ℕ) (ws : List ℕ) → Gives (read_row names ws) (Is row_words (WellRow names) ws)
unfolding read_row row_words WellRow
row_gives names ws =
    after (word-gives 0 4294967296 ws)
    (λ i r p. after (word-gives 0 names r)
    (λ x r2 p2. after (word-gives 1 5 r2)
    (λ k r3 p3. after (word-gives 0 4294967296 r3) (λ a r4 p4. after (word-gives a 4294967296 r4) (λ b r5 p5. gave (cc, (p.2, p2.2, omega arith, (p5.1, p5.2))))))))

ids-written : (rs : List Row) (r : List ℕ) → map row_id rs ≡ row_ids (length rs) (flat_map row_words rs ++ r)
unfolding row_id row_words row_ids flat_map
ids-written [] r = refl
ids-written (row i x k a b ∷ rs) r = ap (◌∷◌ i) (ids-written rs r)

words-written : (rs : List Row) → length (flat_map row_words rs) ≡ length rs * 5
unfolding row_words flat_map
words-written [] = refl
words-written (row i x k a b ∷ rs) = omega (arith, words-written rs)

-- n bindings that are read to the end
pub rows-read : (names n : ℕ) (ws : List ℕ) (rs : List Row) → many (read_row names) n ws ≡ ok rs [] → (map row_id rs ≡ row_ids n ws) × (length ws ≡ n * 5)
rows-read names n ws rs e =
    let h = (many-gives row_words (WellRow names) (row_gives names) n ws).given rs [] e in
    (rw (← h.2, h.0) (ids-written rs []), rw (h.0, append-nil) (omega (arith, words-written rs)))

-- what is read up to the end or not, as the code tells it
by_shape : {A : Type 0} (c : ℕ) (g : Got A) → judged (entire c g) ≡ judged (entire c (bare g))
by_shape c (ok a []) = refl
by_shape c (ok a (w ∷ ws)) = refl
by_shape c (no d) = refl

pub read_to : {A : Type 0} (c : ℕ) (f : List ℕ → Got A) {ws : List ℕ} {at end : ℕ} (F : Refusal → Refusal → Bool) (r : Result ℕ Refusal) {b : Bool} → Reads ws at f r → length ws ≡ end → b ≡ result_eq nat_eq F r (Ok end) → unless c b (accepted tt) ≡ judged (entire c (f (drop at ws)))
read_to c f {ws} {at} {end} F (Ok q) {b} x l e = go b (sym e) ∙ sym (by_shape c (f (drop at ws)) ∙ rw x.same)
  where
    go : (b : Bool) → eqb q end ≡ b → unless c b (accepted tt) ≡ judged (entire {A = Unit {0}} c (ok tt (drop q ws)))
    go true e = let h = eqb-true q end e in rw (drop-none ws q (omega arith))
    go false e = let h = eqb-false q end e in rw (drop-word ws q (omega arith))
read_to c f {ws} {at} F (Err k) x l e = rw e (sym (by_shape c (f (drop at ws)) ∙ rw x.same))

-- the bindings of a sheet: what stops them stops the rows (`rows-no`); where they are read, they fit before the head (`rows-fit`), and what
-- is left to say is whether a variable stands twice (`rows-once`)
no-more : {A B : Type 0} (x : Sheet A) (k : A → Sheet B) {c : ℕ} → refused c ≡ judged x → refused c ≡ judged (then' x k)
no-more (accepted a) k e = never (cc)
no-more (refused d) k e = e

rows_all : (names n : ℕ) (ws : List ℕ) (g : Got (List Row)) → many (read_row names) n ws ≡ g → accepted tt ≡ judged (entire 4 g) → (rs : List Row) × (g ≡ ok rs []) × (map row_id rs ≡ row_ids n ws) × (length ws ≡ n * 5)
rows_all names n ws (ok rs []) e f = let h = rows-read names n ws rs e in (rs, refl, h.0, h.1)
rows_all names n ws (ok rs (w ∷ r)) e f = never (cc)
rows_all names n ws (no c) e f = never (cc)

module _ (s : List ℕ) (p : Places) where
  pub rows-no : {c : ℕ} → refused c ≡ judged (bindings_of s p) → refused c ≡ judged (rows_of s p)
  unfolding read_rows
  rows-no e = no-more (bindings_of s p) _ e

  module _ (h : InPlaces s p) (e : accepted tt ≡ judged (bindings_of s p)) where
    part-long : length (take p.head (words s)) ≡ p.head
    part-long = omega (arith, length-take p.head (words s), h.head, h.tail, h.trailer, length-words s)

    read : (rs : List Row) × (many (read_row p.names) p.bindings (section (words s) p.rows p.head) ≡ ok rs []) × (map row_id rs ≡ row_ids p.bindings (section (words s) p.rows p.head)) × (length (section (words s) p.rows p.head) ≡ p.bindings * 5)
    read = rows_all p.names p.bindings (section (words s) p.rows p.head) _ refl e

    pub rows-fit : p.rows + p.bindings * 5 ≤ p.head
    rows-fit = omega (arith, read.3, part-long, length-drop p.rows (take p.head (words s)), h.rows)

    pub rows-once : {b : Bool} → b ≡ distinct is_in (row_ids p.bindings (drop p.rows (words s))) → unless 4 b (accepted tt) ≡ judged (rows_of s p)
    unfolding read_rows
    rows-once {b} d =
        let ids = ids-take p.bindings p.rows p.head (words s) rows-fit (omega (arith, part-long, length-take p.head (words s))) in
        rw (read.1, read.2, ids, ← d) (decided b read.0)
      where
        decided : (b : Bool) (rs : List Row) → unless 4 b (accepted tt) ≡ judged (unless 4 b (accepted rs))
        decided true rs = refl
        decided false rs = refl
