-- What an accepted sheet holds: its tables are read to their end, the words of its head and arms are those of the statement's clauses
-- and arms, and these are well-formed; and every test is passed.
use Prim.Native.Nat.{ℕ, ◌*◌, ◌≤◌}
use native.Mathlib.Omega.{arith}
use mathlib.Core.Path.{◌≡◌, refl, ◌∙◌}
use mathlib.Core.Bool.{Bool, true, false}
use mathlib.Core.List.{List, [], ◌∷◌, map, flat_map, append-nil}
use lib.ListN.{length, take}
use Rattle.words.specs.Words.{words}
use Rattle.words.proofs.Words.{length-words}
use Rattle.heads.specs.Got.{Got, ok, no, many}
use Rattle.heads.specs.Answer.{is_in}
use Rattle.expr.proofs.Inverse.{never}
use Rattle.clauses.specs.Tree.{Clause, Arm}
use Rattle.clauses.specs.Read.{read_clause, read_arm}
use Rattle.clauses.specs.Write.{write_clause, write_arm}
use Rattle.clauses.specs.Well.{Each, WellClause, WellArm}
use Rattle.clauses.proofs.WrittenClause.{many-gives, clause-gives, arm-gives}
use Rattle.tables.specs.Distinct.{name_in, distinct}
use Rattle.tables.specs.Name.{read_name}
use Rattle.tables.specs.Row.{Row, row_id, read_row}
use Rattle.sheet.specs.Trailer.{sized, trailer_at, in_place, places_of, section}
use Rattle.sheet.specs.Statement.{Statement}
use Rattle.sheet.specs.Read.{Sheet, accepted, refused, then', unless, entire, used_up, read_names, read_rows, read_clauses, locate, read_sections, read_sheet}
use Rattle.sheet.specs.declared.trailer.Places.{Places}
use Rattle.sheet.proofs.Placing.{Sized, size_of, Falling, is-falling}

-- What holds of what is accepted: the inverse of `then'`, of a test and of a section that is used up.
pub record Holds {A : Type 0} (x : Sheet A) (Q : A → Type 0) : Type 0 where
  pub held : (a : A) → x ≡ accepted a → Q a

holds : {A : Type 0} {Q : A → Type 0} {a : A} → Q a → Holds (accepted a) Q
holds {Q} {a} q = record { held = λ b e. (let x : a ≡ b = cc in rw x at q) }

not-held : {A : Type 0} {Q : A → Type 0} {c : ℕ} → Holds (refused c) Q
not-held = record { held = λ b e. never (cc) }

next : {A B : Type 0} {x : Sheet A} {k : A → Sheet B} {Q : A → Type 0} {R : B → Type 0} → Holds x Q → ((a : A) → Q a → Holds (k a) R) → Holds (then' x k) R
next {A} {B} {x} {k} {Q} {R} h f = go x h.held
  where
    go : (x : Sheet A) → ((a : A) → x ≡ accepted a → Q a) → Holds (then' x k) R
    go (accepted a) h = f a (h a refl)
    go (refused c) h = not-held

tested : {A : Type 0} {x : Sheet A} {Q : A → Type 0} (c : ℕ) (b : Bool) → (b ≡ true → Holds x Q) → Holds (unless c b x) Q
tested c true h = h refl
tested c false h = not-held

used-up : {A : Type 0} (g : Got A) → Holds (used_up g) (λ a. g ≡ ok a [])
used-up (ok a []) = holds refl
used-up (ok a (w ∷ ws)) = not-held
used-up (no c) = not-held

read_whole : {A : Type 0} (c : ℕ) (g : Got A) → Holds (entire c g) (λ a. g ≡ ok a [])
read_whole c (ok a []) = holds refl
read_whole c (ok a (w ∷ ws)) = not-held
read_whole c (no d) = not-held

-- the names and the bindings are what their sections give, and none stands twice
pub record TwoTables (s ws : List ℕ) (p : Places) (names : List (List ℕ)) (rows : List Row) : Type 0 where
  pub names_read : many read_name p.names (take (p.rows * 4) s) ≡ ok names []
  pub rows_read : many (read_row p.names) p.bindings (section ws p.rows p.head) ≡ ok rows []
  pub apart : distinct name_in names ≡ true
  pub once : distinct is_in (map row_id rows) ≡ true

pub names-hold : (n : ℕ) (s : List ℕ) → Holds (read_names n s) (λ ns. (many read_name n s ≡ ok ns []) × (distinct name_in ns ≡ true))
unfolding read_names
names-hold n s = next (read_whole 3 (many read_name n s)) (λ ns h. tested 3 (distinct name_in ns) (λ one. holds (h, one)))

pub rows-hold : (names n : ℕ) (ws : List ℕ) → Holds (read_rows names n ws) (λ rs. (many (read_row names) n ws ≡ ok rs []) × (distinct is_in (map row_id rs) ≡ true))
unfolding read_rows
rows-hold names n ws = next (read_whole 4 (many (read_row names) n ws)) (λ rs h. tested 4 (distinct is_in (map row_id rs)) (λ one. holds (h, one)))

-- the head's clauses and the arms are what their sections give, their words stand there, and they are well-formed
pub record Sections (ws : List ℕ) (p : Places) (head : List Clause) (arms : List Arm) : Type 0 where
  pub head_read : many (read_clause p.names) p.clauses (section ws p.head p.tail) ≡ ok head []
  pub arms_read : many (read_arm p.names) p.arms (section ws p.tail p.trailer) ≡ ok arms []
  pub head_words : section ws p.head p.tail ≡ flat_map write_clause head
  pub arm_words : section ws p.tail p.trailer ≡ flat_map write_arm arms
  pub head_well : Each (WellClause p.names) head
  pub arms_well : Each (WellArm p.names) arms
  pub clauses : length head ≡ p.clauses
  pub armed : length arms ≡ p.arms

clauses-hold : (ws : List ℕ) (p : Places) → Holds (read_clauses ws p) (λ x. Sections ws p x.0 x.1)
unfolding read_clauses
clauses-hold ws p =
    let before = section ws p.head p.tail in
    let after = section ws p.tail p.trailer in
    next (used-up (many (read_clause p.names) p.clauses before))
    (λ head h. next (used-up (many (read_arm p.names) p.arms after))
    (λ arms g.
    let x = (many-gives write_clause (WellClause p.names) (clause-gives p.names) p.clauses before).given head [] h in
    let y = (many-gives write_arm (WellArm p.names) (arm-gives p.names) p.arms after).given arms [] g in
    holds (record { head_read = h; arms_read = g; head_words = x.0 ∙ append-nil _; arm_words = y.0 ∙ append-nil _; head_well = x.1; arms_well = y.1; clauses = x.2; armed = y.2 })))

-- the span is the trailer's
pub record Framed (p : Places) (st : Statement) : Type 0 where
  pub start : st.start ≡ p.start
  pub stop : st.stop ≡ p.end

sections-hold : (s ws : List ℕ) (p : Places) → Holds (read_sections s ws p) (λ st. Sections ws p st.head st.arms × TwoTables s ws p st.names st.bindings × Framed p st)
unfolding read_sections
sections-hold s ws p =
    next (names-hold p.names (take (p.rows * 4) s))
    (λ names n. next (rows-hold p.names p.bindings (section ws p.rows p.head))
    (λ rs r. next (clauses-hold ws p)
    (λ x h. holds (h, record { names_read = n.0; rows_read = r.0; apart = n.1; once = r.1 }, record { start = refl; stop = refl }))))

-- causes 1 and 2 are not given
abbrev Placed : List ℕ → Type 0
Placed s = Sized s × Falling (words s) (trailer_at (words s))

place-holds : (s : List ℕ) → Holds (locate s) (λ p. Placed s × (p ≡ places_of (words s)))
unfolding locate
place-holds s = tested 1 (sized s) (λ h. tested 2 (in_place (words s)) (λ g. holds ((size_of s h, is-falling (words s) g), refl)))

-- what is known of a sheet s that holds the statement st
abbrev pub Accepted : List ℕ → Statement → Type 0
Accepted s st =
    (10 ≤ length (words s))
    × Sections (words s) (places_of (words s)) st.head st.arms
    × TwoTables s (words s) (places_of (words s)) st.names st.bindings
    × Framed (places_of (words s)) st
    × Placed s

sheet-holds : (s : List ℕ) → Holds (read_sheet s) (Accepted s)
unfolding read_sheet
sheet-holds s =
    next (place-holds s)
    (λ p h. record { held = λ st e. (let x = rw h.1 at ((sections-hold s (words s) p).held st e) in (omega (arith, length-words s, h.0.0), x.0, x.1, x.2, h.0)) })

pub accepted-words : (s : List ℕ) (st : Statement) → read_sheet s ≡ accepted st → Accepted s st
accepted-words s = (sheet-holds s).held
