-- A whole sheet whose names and rows are accepted: reading and both walks in one is reading the statement, and then the two walks over it
-- (`apart-statement`; by what comes out, `when-accepted` and `when-refused`). `world_same` is for a World that is known pointwise.
use Prim.Native.Nat.{ℕ, ◌*◌}
use mathlib.Core.Path.{◌≡◌, refl, ap, sym, ◌∙◌}
use mathlib.Core.Bool.{Bool}
use mathlib.Core.List.{List, [], ◌∷◌, reverse, reverse_aux, reverse-reverse}
use lib.ListN.{take}
use Rattle.words.specs.Words.{words}
use Rattle.expr.proofs.Inverse.{never}
use Rattle.clauses.specs.Tree.{Clause, Arm}
use Rattle.tables.specs.Row.{Row}
use Rattle.sheet.specs.Trailer.{section}
use Rattle.sheet.specs.Statement.{Statement}
use Rattle.sheet.specs.Olds.{old_exists}
use Rattle.sheet.specs.Read.{Sheet, accepted, refused, then', read_names, read_rows, read_clauses, locate, read_sections, read_sheet}
use Rattle.sheet.specs.declared.trailer.Places.{Places}
use Rattle.semantics.specs.Log.{Finding}
use Rattle.semantics.specs.World.{World, bytes_of, world_of}
use Rattle.semantics.specs.Resolve.{State, start, run}
use Rattle.semantics.specs.Kinds.{kinds}
use Rattle.fused.specs.Fused.{Both, told}
use Rattle.fused.specs.Sheet.{sheet_go}
use Rattle.fused.proofs.ApartSheet.{leaves, apart-sheet}

-- two Worlds that say the same of every name and variable
pub world_same : (w v : World) → ((x : ℕ) → w.id x ≡ v.id x) → ((x : ℕ) → w.is_star x ≡ v.is_star x) → ((x : ℕ) → w.is_id x ≡ v.is_id x) → ((x : ℕ) → w.hushed x ≡ v.hushed x) → ((x : ℕ) → w.row x ≡ v.row x) → ((x : ℕ) → w.named x ≡ v.named x) → w.warns ≡ v.warns → w ≡ v
world_same w v ids stars is_ids hushed rows named warns = λ i. record { id = λ x. ids x i; is_star = λ x. stars x i; is_id = λ x. is_ids x i; hushed = λ x. hushed x i; row = λ x. rows x i; named = λ x. named x i; warns = warns i }

-- the statement of a sheet, by its parts; the World is known before head and arms are read
abbrev pub stated : List (List ℕ) → List Row → Places → List Clause × List Arm → Statement
stated ns rs p x = record { names = ns; bindings = rs; head = x.0; arms = x.1; start = p.start; stop = p.end }

abbrev pub world_by : Bool → List (List ℕ) → List Row → World
world_by warns ns rs = world_of warns (record { names = ns; bindings = rs; head = []; arms = []; start = 0; stop = 0 })

world-by : (warns : Bool) (ns : List (List ℕ)) (rs : List Row) (p : Places) (x : List Clause × List Arm) → world_of warns (stated ns rs p x) ≡ world_by warns ns rs
unfolding world_of bytes_of
world-by warns ns rs p x = refl

told_back : (fs k : List Finding) → told fs k ≡ reverse_aux fs k
unfolding told
told_back [] k = refl
told_back (f ∷ fs) k = told_back fs (f ∷ k)

-- the names and the rows of a sheet are accepted
pub record HasTables (s : List ℕ) (p : Places) (ns : List (List ℕ)) (rs : List Row) : Type 0 where
  pub places : locate s ≡ accepted p
  pub names : read_names p.names (take (p.rows * 4) s) ≡ accepted ns
  pub rows : read_rows p.names p.bindings (section (words s) p.rows p.head) ≡ accepted rs

-- what the two walks say of a statement, and where they stand after it; and how many expressions 25 it has
abbrev pub said_of : Bool → Statement → State × (List Finding × ℕ)
said_of warns st = (run warns st, (kinds (world_of warns st) st.head, old_exists st))

abbrev pub said_by : Both → State × (List Finding × ℕ)
said_by u = (u.names, (reverse u.kinds, u.olds))

module _ {s : List ℕ} {p : Places} {ns : List (List ℕ)} {rs : List Row} (h : HasTables s p ns rs) where
  sheet-read : read_sheet s ≡ then' (read_clauses (words s) p) (λ x. accepted (stated ns rs p x))
  unfolding read_sheet read_sections
  sheet-read = rw (h.places, h.names, h.rows)

  -- the World that was known before is the statement's
  pub world-read : (warns : Bool) {st : Statement} → read_sheet s ≡ accepted st → world_of warns st ≡ world_by warns ns rs
  world-read warns {st} e = go (read_clauses (words s) p) (sym sheet-read ∙ e)
    where
      go : (g : Sheet (List Clause × List Arm)) → then' g (λ x. accepted (stated ns rs p x)) ≡ accepted st → world_of warns st ≡ world_by warns ns rs
      go (accepted x) q = let y : st ≡ stated ns rs p x = cc in ap (world_of warns) y ∙ world-by warns ns rs p x
      go (refused c) q = never cc

  said_same : (warns : Bool) (x : List Clause × List Arm) → said_of warns (stated ns rs p x) ≡ said_by (leaves (world_by warns ns rs) p x)
  unfolding run start world_of bytes_of old_exists
  said_same warns x = λ i. (run warns (stated ns rs p x), (sym (ap reverse (told_back (kinds (world_by warns ns rs) x.0) []) ∙ reverse-reverse (kinds (world_by warns ns rs) x.0)) i, old_exists (stated ns rs p x)))

  said-known : (warns : Bool) → then' (read_sheet s) (λ st. accepted (said_of warns st)) ≡ then' (sheet_go (world_by warns ns rs) p (words s)) (λ u. accepted (said_by u))
  said-known warns = rw (sheet-read, apart-sheet (world_by warns ns rs) p (words s)) (go (read_clauses (words s) p))
    where
      go : (g : Sheet (List Clause × List Arm)) → then' (then' g (λ x. accepted (stated ns rs p x))) (λ st. accepted (said_of warns st)) ≡ then' (then' g (λ x. accepted (leaves (world_by warns ns rs) p x))) (λ u. accepted (said_by u))
      go (accepted x) = ap accepted (said_same warns x)
      go (refused c) = refl

  -- The sheet read and then walked, and the sheet read and walked in one: the same cause, or the same said.
  pub apart-statement : (warns : Bool) (w : World) → w ≡ world_by warns ns rs → then' (read_sheet s) (λ st. accepted (said_of warns st)) ≡ then' (sheet_go w p (words s)) (λ u. accepted (said_by u))
  apart-statement warns w e = said-known warns ∙ ap (λ (v : World). then' (sheet_go v p (words s)) (λ u. accepted (said_by u))) (sym e)

-- a sheet holds a statement, of which this is said
pub record Says (warns : Bool) (s : List ℕ) (u : Both) : Type 0 where
  pub statement : Statement
  pub read : read_sheet s ≡ accepted statement
  pub names : run warns statement ≡ u.names
  pub found : kinds (world_of warns statement) statement.head ≡ reverse u.kinds
  pub olds : old_exists statement ≡ u.olds

-- The same, by what comes out.
module _ {s : List ℕ} {p : Places} {ns : List (List ℕ)} {rs : List Row} (h : HasTables s p ns rs) (warns : Bool) (w : World) (e : w ≡ world_by warns ns rs) where
  pub when-accepted : {u : Both} → sheet_go w p (words s) ≡ accepted u → Says warns s u
  when-accepted {u} q = go (read_sheet s) refl (apart-statement h warns w e ∙ ap (λ (g : Sheet Both). then' g (λ x. accepted (said_by x))) q)
    where
      go : (a : Sheet Statement) → read_sheet s ≡ a → then' a (λ st. accepted (said_of warns st)) ≡ accepted (said_by u) → Says warns s u
      go (accepted st) is same = let y : said_of warns st ≡ said_by u = cc in record { statement = st; read = is; names = λ i. (y i).0; found = λ i. (y i).1.0; olds = λ i. (y i).1.1 }
      go (refused c) is same = never cc

  pub when-refused : {c : ℕ} → sheet_go w p (words s) ≡ refused c → read_sheet s ≡ refused c
  when-refused {c} q = go (read_sheet s) (apart-statement h warns w e ∙ ap (λ (g : Sheet Both). then' g (λ x. accepted (said_by x))) q)
    where
      go : (a : Sheet Statement) → then' a (λ st. accepted (said_of warns st)) ≡ refused c → a ≡ refused c
      go (accepted st) same = never cc
      go (refused d) same = cc
