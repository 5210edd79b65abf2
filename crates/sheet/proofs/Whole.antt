-- The whole sheet from its pieces: where the places, the tables, or head and arms are refused, so is the sheet, and else it is accepted,
-- and the lent tables hold its names.
use Prim.Native.Nat.{ℕ, ◌*◌}
use native.Mathlib.Omega.{arith}
use mathlib.Core.Path.{◌≡◌, refl, sym, ap, subst, ◌∙◌}
use mathlib.Core.Bool.{true}
use mathlib.Core.List.{List, map}
use lib.ListN.{take, length-take}
use Rattle.words.specs.Words.{words}
use Rattle.words.specs.Fnv.{use_id}
use Rattle.expr.proofs.Inverse.{never}
use Rattle.clauses.specs.Tree.{Clause, Arm}
use Rattle.tables.specs.Answer.{names_in}
use Rattle.tables.specs.Row.{Row}
use Rattle.sheet.specs.Trailer.{places_of}
use Rattle.sheet.specs.Statement.{Statement}
use Rattle.sheet.specs.Read.{Sheet, accepted, refused, then', read_names, read_clauses, locate, read_sections, read_sheet}
use Rattle.sheet.specs.Answer.{with_value, opened_as, Tabled, Names, judged, rows_of, tables_of}
use Rattle.sheet.specs.declared.trailer.Places.{Places}
use Rattle.sheet.proofs.Placing.{places-of}
use Rattle.sheet.proofs.Accepted.{names-hold, accepted-words}

-- ---- the places

pub places-refused : (s : List ℕ) {c : ℕ} → refused c ≡ locate s → refused c ≡ opened_as s
unfolding read_sheet
places-refused s e = rw (← e)

-- ---- the tables

-- the pieces of the definition
abbrev names_of : List ℕ → Places → Sheet (List (List ℕ))
names_of s p = read_names p.names (take (p.rows * 4) s)

abbrev pub clauses_of : List ℕ → Places → Sheet (List Clause × List Arm)
clauses_of s p = read_clauses (words s) p

abbrev statement_of : Places → List (List ℕ) → List Row → List Clause × List Arm → Statement
statement_of p ns rs x = record { names = ns; bindings = rs; head = x.0; arms = x.1; start = p.start; stop = p.end }

-- what the two tables hold where they are right
record TablesRead (s : List ℕ) (p : Places) : Type 0 where
  names : List (List ℕ)
  rows : List Row
  named : names_of s p ≡ accepted names
  rowed : rows_of s p ≡ accepted rows

module _ (s : List ℕ) (p : Places) where
  tables-read : judged (tables_of s p) ≡ accepted tt → TablesRead s p
  tables-read e = go _ refl _ refl e
    where
      go : (x : Sheet (List (List ℕ))) → names_of s p ≡ x → (y : Sheet (List Row)) → rows_of s p ≡ y → judged (then' x (λ ns. y)) ≡ accepted tt → TablesRead s p
      go (accepted ns) f (accepted rs) g e = record { names = ns; rows = rs; named = f; rowed = g }
      go (accepted ns) f (refused c) g e = never (cc)
      go (refused c) f y g e = never (cc)

  tables-stop : (k : List (List ℕ) → List Row → Sheet Statement) (x : Sheet (List (List ℕ))) (y : Sheet (List Row)) {c : ℕ} → refused c ≡ judged (then' x (λ ns. y)) → refused c ≡ with_value (places_of (words s)) (then' x (λ ns. then' y (λ rs. k ns rs)))
  tables-stop k (accepted ns) (accepted rs) e = never (cc)
  tables-stop k (accepted ns) (refused d) e = cc
  tables-stop k (refused d) y e = cc

  clauses-stop : (k : List Clause × List Arm → Statement) (x : Sheet (List Clause × List Arm)) {c : ℕ} → refused c ≡ judged x → refused c ≡ with_value (places_of (words s)) (then' x (λ h. accepted (k h)))
  clauses-stop k (accepted h) e = never (cc)
  clauses-stop k (refused d) e = cc

  clauses-done : (k : List Clause × List Arm → Statement) (x : Sheet (List Clause × List Arm)) → accepted tt ≡ judged x → accepted (places_of (words s)) ≡ with_value (places_of (words s)) (then' x (λ h. accepted (k h)))
  clauses-done k (accepted h) e = refl
  clauses-done k (refused d) e = never (cc)

  module _ (placed : locate s ≡ accepted p) where
    at_places : read_sheet s ≡ read_sections s (words s) p
    unfolding read_sheet
    at_places = rw placed

    pub tables-refused : {c : ℕ} → refused c ≡ judged (tables_of s p) → refused c ≡ opened_as s
    unfolding read_sections
    tables-refused g = rw at_places (tables-stop (λ ns rs. then' (read_clauses (words s) p) (λ x. accepted (statement_of p ns rs x))) (names_of s p) (rows_of s p) g)

    module _ (t : accepted tt ≡ judged (tables_of s p)) where
      tables : TablesRead s p
      tables = tables-read (sym t)

      sections-read : read_sheet s ≡ then' (clauses_of s p) (λ x. accepted (statement_of p tables.names tables.rows x))
      unfolding read_sections
      sections-read = at_places ∙ rw (tables.named, tables.rowed)

      pub clauses-refused : {c : ℕ} → refused c ≡ judged (clauses_of s p) → refused c ≡ opened_as s
      clauses-refused g = rw sections-read (clauses-stop (statement_of p tables.names tables.rows) (clauses_of s p) g)

      pub whole-accepted : accepted tt ≡ judged (clauses_of s p) → accepted p ≡ opened_as s
      whole-accepted g = rw sections-read (ap (λ (q : Places). accepted q) (places-of s p placed) ∙ clauses-done (statement_of p tables.names tables.rows) (clauses_of s p) g)

-- ---- the lent tables

-- a sheet that is refused says nothing of them
pub no_names : (s tab ids : List ℕ) {c : ℕ} → refused c ≡ opened_as s → Names (read_sheet s) s tab ids
no_names s tab ids {c} e = none (read_sheet s) e
  where
    none : (x : Sheet Statement) → refused c ≡ with_value (places_of (words s)) x → Names x s tab ids
    none (accepted st) f = never (cc)
    none (refused d) f = tt

-- the names of their section are the statement's
pub names-kept : (s tab ids : List ℕ) (p : Places) → locate s ≡ accepted p → Tabled p.names (take (p.rows * 4) s) tab ids true → (x : Sheet Statement) → read_sheet s ≡ x → Names x s tab ids
names-kept s tab ids p placed t (accepted st) e =
    let q = places_of (words s) in
    let part = take (q.rows * 4) s in
    let u = subst (λ (o : Places). Tabled o.names (take (o.rows * 4) s) tab ids true) (places-of s p placed) t in
    let here = ((names-hold q.names part).held (names_in part q.names tab) u.same).0 in
    let there = (accepted-words s st e).2.names_read in
    let same : names_in part q.names tab ≡ st.names = cc in
    record { places = same; uses = u.uses refl ∙ ap (map use_id) same; many = omega (arith, u.many refl, length-take (q.rows * 4) s) }
names-kept s tab ids p placed t (refused c) e = tt
