-- What is written reads back: the trailer that `trailer_of` gives says where each section stands, and what stands there reads back as the
-- statement's names, bindings, clauses and arms.
use Prim.Native.Nat.{ℕ, ◌+◌, ◌-◌, ◌≤◌}
use native.Mathlib.Omega.{arith}
use mathlib.Core.Path.{◌≡◌, refl, sym, ◌∙◌}
use mathlib.Core.List.{List, [], ◌++◌, append-nil, flat_map}
use lib.ListN.{length, take, get_or, length-append}
use lib.Seq.{take-append-add, drop-append-add, take-append_seam, drop-append_seam, get_or-append-add}
use Rattle.heads.specs.Got.{Got, ok, many}
use Rattle.expr.proofs.Inverse.{word_back, low-back}
use Rattle.clauses.specs.Well.{Each, WellClause, WellArm}
use Rattle.clauses.specs.Read.{read_clause, read_arm}
use Rattle.clauses.specs.Write.{write_clause, write_arm}
use Rattle.clauses.proofs.ReadsBackClause.{many-back, clause-back, arm_back}
use Rattle.tables.specs.Row.{Row, row, read_row, row_words}
use Rattle.sheet.specs.Trailer.{trailer_at, trailer, places_of, section}
use Rattle.sheet.specs.Statement.{Statement}
use Rattle.sheet.specs.Read.{accepted, read_names, read_rows, read_clauses, locate, read_sections, read_sheet}
use Rattle.sheet.specs.Write.{bytes_of, names_words, table_words, head_words, arms_words, trailer_of, sheet_words, WellRow, WellStatement}
use Rattle.sheet.specs.declared.trailer.Places.{Places}
use Rattle.sheet.proofs.Placing.{Sized, is-sized, Falling, falls-in-place}
use Rattle.sheet.proofs.Bytes.{words-bytes, length-bytes, bytes-front}
use Rattle.sheet.proofs.NameBytes.{names-bytes, names-back}

-- ---- each section reads back

row_back : (names : ℕ) (x : Row) (r : List ℕ) → WellRow names x → read_row names (row_words x ++ r) ≡ ok x r
unfolding read_row row_words WellRow
row_back names (row i x k a b) r h =
    rw (low-back _ i _ h.0, low-back names x _ h.1, word_back 1 5 k _ h.2.0 (omega arith), low-back 4294967296 a _ (omega arith), word_back a _ b r h.3.0 h.3.1)

all_back : {A : Type 0} (one : List ℕ → Got A) (write : A → List ℕ) (Well : A → Type 0) → ((x : A) (r : List ℕ) → Well x → one (write x ++ r) ≡ ok x r) →
    (xs : List A) → Each Well xs → many one (length xs) (flat_map write xs) ≡ ok xs []
all_back one write Well back xs h = rw (append-nil (flat_map write xs)) at (many-back one write Well back xs [] h)

module _ (st : Statement) (h : WellStatement st) where
  names-read : read_names (length st.names) (bytes_of (names_words st)) ≡ accepted st.names
  unfolding read_names names_words
  names-read = rw (names-bytes st.names h.names, names-back st.names h.names, h.apart)

  rows-read : read_rows (length st.names) (length st.bindings) (table_words st) ≡ accepted st.bindings
  unfolding read_rows table_words
  rows-read =
      let w = length st.names in
      rw (all_back (read_row w) row_words (WellRow w) (row_back w) st.bindings h.bindings, h.once)

  -- head and arms, where they stand
  clauses-read : (ws : List ℕ) (p : Places) → p.names ≡ length st.names → p.clauses ≡ length st.head → p.arms ≡ length st.arms →
      section ws p.head p.tail ≡ head_words st → section ws p.tail p.trailer ≡ arms_words st →
      read_clauses ws p ≡ accepted (st.head, st.arms)
  unfolding read_clauses head_words arms_words
  clauses-read ws p names clauses arms head tail =
      let w = length st.names in
      rw (names, clauses, arms, head, tail, all_back (read_clause w) write_clause (WellClause w) (clause-back w) st.head h.head, all_back (read_arm w) write_arm (WellArm w) (arm_back w) st.arms h.arms)

-- ---- where the sections stand, one after the other

next : (x y z : List ℕ) → section (x ++ (y ++ z)) (length x) (length x + length y) ≡ y
next x y z = rw (take-append-add x (y ++ z) (length y), take-append_seam y z) (drop-append_seam x y)

skip : (x ys : List ℕ) (i j : ℕ) → section (x ++ ys) (length x + i) (length x + j) ≡ section ys i j
skip x ys i j = rw (take-append-add x ys j) (drop-append-add x (take j ys) i)

word_after : (n t d a z : List ℕ) (i : ℕ) → get_or (n ++ (t ++ (d ++ (a ++ z)))) (length n + (length t + (length d + (length a + i)))) 0 ≡ get_or z i 0
word_after n t d a z i =
    get_or-append-add n _ (length t + (length d + (length a + i))) 0
    ∙ get_or-append-add t _ (length d + (length a + i)) 0
    ∙ get_or-append-add d _ (length a + i) 0
    ∙ get_or-append-add a z i 0

length-all : (n t d a z : List ℕ) → length (n ++ (t ++ (d ++ (a ++ z)))) ≡ length n + (length t + (length d + length a)) + length z
length-all n t d a z =
    omega (arith, length-append n (t ++ (d ++ (a ++ z))), length-append t (d ++ (a ++ z)), length-append d (a ++ z), length-append a z)

module _ (st : Statement) where
  -- how many words each section has, and the trailer
  abbrev n : ℕ
  n = length (names_words st)

  abbrev t : ℕ
  t = length (table_words st)

  abbrev d : ℕ
  d = length (head_words st)

  abbrev a : ℕ
  a = length (arms_words st)

  abbrev z : List ℕ
  z = trailer_of n t d a st

  -- where the trailer says that they stand
  places : Places
  places =
      record {
        names = length st.names;
        bindings = length st.bindings;
        clauses = length st.head;
        arms = length st.arms;
        rows = n;
        head = n + t;
        tail = n + (t + d);
        trailer = n + (t + (d + a));
        start = st.start;
        end = st.stop;
      }

  long : length (sheet_words st) ≡ n + (t + (d + a)) + 10
  unfolding sheet_words trailer_of
  long = length-all (names_words st) (table_words st) (head_words st) (arms_words st) z

  last : trailer_at (sheet_words st) ≡ n + (t + (d + a))
  last = omega (arith, long)

  word : (i : ℕ) → trailer (sheet_words st) i ≡ get_or z i 0
  unfolding sheet_words
  word i =
      let e : trailer_at (sheet_words st) + i ≡ n + (t + (d + (a + i))) = omega (arith, last) in
      rw e (word_after (names_words st) (table_words st) (head_words st) (arms_words st) z i)

  placed : places_of (sheet_words st) ≡ places
  unfolding places_of places trailer_of
  placed =
      let rows : trailer_at (sheet_words st) - trailer (sheet_words st) 2 ≡ n = omega (arith, last, word 2) in
      let head : trailer_at (sheet_words st) - trailer (sheet_words st) 4 ≡ n + t = omega (arith, last, word 4) in
      let tail : trailer_at (sheet_words st) - trailer (sheet_words st) 6 ≡ n + (t + d) = omega (arith, last, word 6) in
      rw (rows, head, tail, word 1, word 3, word 5, word 7, word 8, word 9, last)

  falls : st.start ≤ st.stop → Falling (sheet_words st) (trailer_at (sheet_words st))
  unfolding trailer_of
  falls span =
      record {
        names = word 0 ∙ sym last;
        rows = omega (arith, word 0, word 2);
        head = omega (arith, word 2, word 4);
        tail = omega (arith, word 4, word 6);
        span = omega (arith, word 8, word 9);
      }

  module _ (h : WellStatement st) where
    located : locate (bytes_of (sheet_words st)) ≡ accepted places
    unfolding locate
    located =
        let bytes = length-bytes (sheet_words st) in
        let size : Sized (bytes_of (sheet_words st)) = record { whole = omega (arith, bytes); least = omega (arith, bytes, long); most = omega (arith, bytes, h.size) } in
        rw (is-sized (bytes_of (sheet_words st)) size, words-bytes (sheet_words st), falls-in-place (sheet_words st) (falls h.span), placed)

    sections-read : read_sections (bytes_of (sheet_words st)) (sheet_words st) places ≡ accepted st
    unfolding read_sections places sheet_words
    sections-read =
        let c = arms_words st ++ z in
        let b = head_words st ++ c in
        let r = table_words st ++ b in
        let head : section (sheet_words st) (n + t) (n + (t + d)) ≡ head_words st = skip (names_words st) r t (t + d) ∙ next (table_words st) (head_words st) c in
        let arms : section (sheet_words st) (n + (t + d)) (n + (t + (d + a))) ≡ arms_words st =
        skip (names_words st) r (t + d) (t + (d + a)) ∙ skip (table_words st) b d (d + a) ∙ next (head_words st) (arms_words st) z in
        rw (bytes-front (names_words st) r, names-read st h, next (names_words st) (table_words st) b, rows-read st h, clauses-read st h (sheet_words st) places refl refl refl head arms)

pub sheet-back : (st : Statement) → WellStatement st → read_sheet (bytes_of (sheet_words st)) ≡ accepted st
unfolding read_sheet
sheet-back st h = rw (located st h, words-bytes (sheet_words st)) (sections-read st h)
