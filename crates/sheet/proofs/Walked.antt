-- What an accepted sheet gives the walks: its sections stand in order, and its names, bindings, head and arms are the statement's.
use Prim.Native.Nat.{ℕ, ◌+◌, ◌*◌}
use native.Mathlib.Omega.{arith}
use mathlib.Core.Path.{◌≡◌, ◌∙◌}
use mathlib.Core.List.{List, [], flat_map, append-nil}
use lib.ListN.{length, take, length-take, length-drop}
use Rattle.words.specs.Words.{words}
use Rattle.words.proofs.Words.{length-words}
use Rattle.heads.specs.Got.{ok, many}
use Rattle.clauses.specs.Read.{read_clause, read_arm}
use Rattle.clauses.proofs.WrittenClause.{many-gives}
use Rattle.tables.specs.Row.{row_words}
use Rattle.sheet.specs.Trailer.{places_of, section}
use Rattle.sheet.specs.Statement.{Statement}
use Rattle.sheet.specs.Read.{accepted, read_sheet}
use Rattle.sheet.specs.Answer.{InPlaces}
use Rattle.sheet.specs.Write.{WellRow}
use Rattle.sheet.specs.declared.trailer.Places.{Places}
use Rattle.sheet.proofs.Placing.{within}
use Rattle.sheet.proofs.Reading.{row_gives, rows-read}
use Rattle.sheet.proofs.NameBytes.{names-give}
use Rattle.sheet.proofs.Accepted.{TwoTables, Sections, accepted-words}

-- what is known of a sheet s whose sections stand at p, and which holds the statement st
pub record WalkedSheet (s : List ℕ) (p : Places) (st : Statement) : Type 0 where
  -- where the sections stand; the bindings fill theirs
  pub places : InPlaces s p
  pub whole : p.trailer + 10 ≡ length (words s)
  pub table : p.rows + p.bindings * 5 ≡ p.head
  -- the names and the bindings
  pub tabled : TwoTables s (words s) p st.names st.bindings
  pub named : length st.names ≡ p.names
  pub bindings : length st.bindings ≡ p.bindings
  pub rows : section (words s) p.rows p.head ≡ flat_map row_words st.bindings
  -- the head and the arms
  pub head_read : many (read_clause p.names) p.clauses (section (words s) p.head p.tail) ≡ ok st.head []
  pub arms_read : many (read_arm p.names) p.arms (section (words s) p.tail p.trailer) ≡ ok st.arms []

module _ (s : List ℕ) (p : Places) (st : Statement) where
  -- the bindings are their section's words, so they fill it
  walks : InPlaces s p → Sections (words s) p st.head st.arms → TwoTables s (words s) p st.names st.bindings → WalkedSheet s p st
  walks h x t =
      let ws = words s in
      let names = (names-give p.names (take (p.rows * 4) s)).given st.names [] t.names_read in
      let rows = (many-gives row_words (WellRow p.names) (row_gives p.names) p.bindings (section ws p.rows p.head)).given st.bindings [] t.rows_read in
      let long = (rows-read p.names p.bindings (section ws p.rows p.head) st.bindings t.rows_read).1 in
      record {
        places = h;
        whole = omega (arith, length-words s);
        table = omega (arith, long, length-drop p.rows (take p.head ws), length-take p.head ws, length-words s);
        tabled = t;
        named = names.2;
        bindings = rows.2;
        rows = rows.0 ∙ append-nil _;
        head_read = x.head_read;
        arms_read = x.arms_read;
      }

pub walked : (s : List ℕ) (st : Statement) → read_sheet s ≡ accepted st → WalkedSheet s (places_of (words s)) st
walked s st e =
    let a = accepted-words s st e in
    walks s (places_of (words s)) st (within s a.4.0 a.4.1) a.1 a.2
