-- What reads is what is written: an accepted sheet's words are those of its statement, and the statement is well-formed. The sections stand
-- one after the other up to the trailer, and each is its rows' words; so how far back each begins is the length of what follows.
use Prim.Native.Nat.{ℕ, zero, suc, ◌+◌, ◌*◌, ◌≤◌}
use native.Mathlib.Omega.{arith}
use mathlib.Core.Path.{◌≡◌, sym, ap, ◌∙◌}
use mathlib.Core.List.{List, [], ◌∷◌, ◌++◌, append-nil}
use lib.ListN.{length, take, drop, get_or, length-take, length-drop, take-append-drop}
use lib.Seq.{drop-append-le}
use Rattle.words.specs.Words.{words}
use Rattle.words.proofs.Words.{length-words, drop-word, drop-none}
use Rattle.clauses.proofs.WrittenClause.{many-gives}
use Rattle.tables.specs.Row.{row_words}
use Rattle.sheet.specs.Trailer.{trailer_at, places_of, section}
use Rattle.sheet.specs.Statement.{Statement}
use Rattle.sheet.specs.Read.{accepted, read_sheet}
use Rattle.sheet.specs.Write.{names_words, table_words, head_words, arms_words, trailer_of, sheet_words, WellRow, WellStatement}
use Rattle.sheet.specs.declared.trailer.Places.{Places}
use Rattle.sheet.proofs.Placing.{Falling}
use Rattle.sheet.proofs.Cutting.{words-front}
use Rattle.sheet.proofs.Reading.{row_gives}
use Rattle.sheet.proofs.NameBytes.{names-words, names-give}
use Rattle.sheet.proofs.Accepted.{accepted-words}

module _ (ws : List ℕ) where
  -- what stands from a word on is a section and what stands after it
  pub cut : (from to : ℕ) → from ≤ to → to ≤ length ws → drop from ws ≡ section ws from to ++ drop to ws
  cut from to h l =
      ap (drop from) (sym (take-append-drop to ws)) ∙ drop-append-le from (take to ws) (drop to ws) (omega (arith, length-take to ws))

  -- and the section ends where the next begins
  ends : {l : List ℕ} (from to : ℕ) → section ws from to ≡ l → from ≤ to → to ≤ length ws → from + length l ≡ to
  ends from to e h l = rw (← e) (omega (arith, length-drop from (take to ws), length-take to ws))

  -- n words from the word t + k on
  picked : ℕ → ℕ → ℕ → List ℕ
  picked t k zero = []
  picked t k (suc n) = get_or ws (t + k) 0 ∷ picked t (suc k) n

  picks : (t k n : ℕ) → t + k + n ≡ length ws → drop (t + k) ws ≡ picked t k n
  unfolding picked
  picks t k zero h = drop-none ws (t + k) (omega arith)
  picks t k (suc n) h =
      let e : t + k + 1 ≡ t + suc k = omega arith in
      rw (drop-word ws (t + k) (omega arith), e) (ap (◌∷◌ (get_or ws (t + k) 0)) (picks t (suc k) n (omega arith)))

-- where the trailer says that the sections stand
record Standing (ws : List ℕ) (p : Places) : Type 0 where
  whole : p.trailer + 10 ≡ length ws
  names : p.trailer ≡ get_or ws (p.trailer + 0) 0
  rows : p.rows + get_or ws (p.trailer + 2) 0 ≡ p.trailer
  head : p.head + get_or ws (p.trailer + 4) 0 ≡ p.trailer
  tail : p.tail + get_or ws (p.trailer + 6) 0 ≡ p.trailer
  falls : (p.rows ≤ p.head) × (p.head ≤ p.tail)

standing : (ws : List ℕ) → 10 ≤ length ws → Falling ws (trailer_at ws) → Standing ws (places_of ws)
unfolding places_of
standing ws long f =
    record {
      whole = omega (arith, long);
      names = sym f.names;
      rows = omega arith;
      head = omega arith;
      tail = omega arith;
      falls = omega arith;
    }

-- the statement's sections and counts are those of the places
record Pieces (ws : List ℕ) (st : Statement) (p : Places) : Type 0 where
  names : take p.rows ws ≡ names_words st
  rows : section ws p.rows p.head ≡ table_words st
  head : section ws p.head p.tail ≡ head_words st
  arms : section ws p.tail p.trailer ≡ arms_words st
  named : length st.names ≡ get_or ws (p.trailer + 1) 0
  bindings : length st.bindings ≡ get_or ws (p.trailer + 3) 0
  clauses : length st.head ≡ get_or ws (p.trailer + 5) 0
  armed : length st.arms ≡ get_or ws (p.trailer + 7) 0
  start : st.start ≡ get_or ws (p.trailer + 8) 0
  stop : st.stop ≡ get_or ws (p.trailer + 9) 0

module _ (ws : List ℕ) (st : Statement) (p : Places) (h : Standing ws p) (c : Pieces ws st p) where
  trail : (n r d a : ℕ) → n + (r + (d + a)) ≡ get_or ws (p.trailer + 0) 0 → r + (d + a) ≡ get_or ws (p.trailer + 2) 0 →
      d + a ≡ get_or ws (p.trailer + 4) 0 → a ≡ get_or ws (p.trailer + 6) 0 → drop p.trailer ws ≡ trailer_of n r d a st
  unfolding trailer_of picked
  trail n r d a x y z w =
      let at : p.trailer ≡ p.trailer + 0 = omega arith in
      ap (λ (i : ℕ). drop i ws) at ∙ picks ws p.trailer 0 10 (omega (arith, h.whole)) ∙ rw (x, y, z, w, c.named, c.bindings, c.clauses, c.armed, c.start, c.stop)

  joined : ws ≡ sheet_words st
  unfolding sheet_words
  joined =
      let n : length (names_words st) ≡ p.rows = sym (ap length c.names) ∙ omega (arith, length-take p.rows ws) in
      let r : p.rows + length (table_words st) ≡ p.head = ends ws p.rows p.head c.rows (omega arith) (omega arith) in
      let d : p.head + length (head_words st) ≡ p.tail = ends ws p.head p.tail c.head (omega arith) (omega arith) in
      let a : p.tail + length (arms_words st) ≡ p.trailer = ends ws p.tail p.trailer c.arms (omega arith) (omega arith) in
      sym (take-append-drop p.rows ws)
      ∙ rw (cut ws p.rows p.head (omega arith) (omega arith), cut ws p.head p.tail (omega arith) (omega arith), cut ws p.tail p.trailer (omega arith) (omega arith), c.names, c.rows, c.head, c.arms)
      (ap (λ (l : List ℕ). names_words st ++ (table_words st ++ (head_words st ++ (arms_words st ++ l)))) (trail (length (names_words st)) (length (table_words st)) (length (head_words st)) (length (arms_words st)) (omega arith) (omega arith) (omega arith) (omega arith)))

pub written-sheet : (s : List ℕ) (st : Statement) → read_sheet s ≡ accepted st → (words s ≡ sheet_words st) × WellStatement st
unfolding names_words table_words head_words arms_words places_of
written-sheet s st e =
    let a = accepted-words s st e in
    let ws = words s in
    let p = places_of ws in
    let n = (names-give p.names (take (p.rows * 4) s)).given st.names [] a.2.names_read in
    let r = (many-gives row_words (WellRow p.names) (row_gives p.names) p.bindings (section ws p.rows p.head)).given st.bindings [] a.2.rows_read in
    let pieces : Pieces ws st p = record {
      names = sym (words-front p.rows s) ∙ ap words (n.0 ∙ append-nil _) ∙ names-words st.names;
      rows = r.0 ∙ append-nil _;
      head = a.1.head_words;
      arms = a.1.arm_words;
      named = n.2;
      bindings = r.2;
      clauses = a.1.clauses;
      armed = a.1.armed;
      start = a.3.start;
      stop = a.3.stop;
    } in
    let same : ws ≡ sheet_words st = joined ws st p (standing ws a.0 a.4.1) pieces in (
      same,
      record {
        names = n.1;
        apart = a.2.apart;
        bindings = rw n.2 r.1;
        once = a.2.once;
        head = rw n.2 a.1.head_well;
        arms = rw n.2 a.1.arms_well;
        span = rw (a.3.start, a.3.stop) a.4.1.span;
        size = rw (← same) (omega (arith, length-words s, a.4.0.whole, a.4.0.most));
      },
    )
