-- The kinds walk's findings are pushes that there are: a row is within the tables, a type is one of ten, a setting that wants a list is one
-- of four, and an element is a node or a relationship.
use Rattle.std.specs.Prelude.{Option, None, Some}
use Prim.Native.Nat.{ℕ, zero, suc, ◌+◌, ◌-◌, ◌≤◌}
use native.Mathlib.Omega.{arith}
use mathlib.Core.Path.{◌≡◌, refl}
use mathlib.Core.Bool.{Bool, true, false, cond, ◌&&◌}
use mathlib.Core.List.{List, [], ◌∷◌}
use lib.Dec.{eqb, leb}
use lib.ListN.{length, get_or}
use borrow.Author.Tests.{eqb-true, eqb-false, leb-true}
use Rattle.heads.specs.declared.Form.{Form}
use Rattle.heads.specs.declared.Form.TheVariants.{Leaf, Var, Unresolved, Prop, Two, Slice, Many, BinOp, UnaryOp, Case, IsNull, PatternPredicate, ListComprehension, PatternComprehension, ListPredicate, MapProjection}
use Rattle.expr.specs.Tree.{Expr, var, unresolved, node, predicate, comprehension, Exprs, done, more, mark, Steps, end, part, elem}
use Rattle.expr.specs.Well.{WellE, Wells, WellS, WellPattern}
use Rattle.clauses.specs.Tree.{Clause, opening, reading, with', return, unwind, call, exprs, keys_of}
use Rattle.clauses.specs.Tree as clause
use Rattle.clauses.specs.Read.{max_depth}
use Rattle.clauses.specs.Well.{Each, WellMany, WellClause}
use Rattle.tables.specs.Row.{Row, row}
use Rattle.sheet.specs.Statement.{Statement}
use Rattle.sheet.specs.Write.{WellRow, WellStatement}
use Rattle.semantics.specs.Log.{Finding, finding}
use Rattle.semantics.specs.World.{World, world_of}
use Rattle.semantics.specs.Kinds.{Setting, general, arithmetic, property, boolean, listed, passes, is_arithmetic, leaf_types, Pair, both, plain, type_of, settings, at_type, at_row, misplaced, row_for, kinds_e, kinds_es, kinds_s, kinds_c, kinds}
use Rattle.told.specs.Pushed as pushed
use Rattle.told.specs.Pushed.{IsType, Pushed}
use Rattle.told.proofs.Trees.{kind_of, reading-well, done-well, row-well, keys-well}
use Rattle.told.proofs.Rows.{All, nil, cons, join, both_true, RowIn, row_in}

-- Types are at most Path's.
leaf_type : (ts : List ℕ) → All (λ t. t ≤ 10) ts → (k : ℕ) → get_or ts k 0 ≤ 10
leaf_type [] h k = omega arith
leaf_type (t ∷ ts) (cons p h) zero = p
leaf_type (t ∷ ts) (cons p h) (suc k) = leaf_type ts h k

many-type : (b : Bool) → cond b 6 0 ≤ 10
many-type true = omega arith
many-type false = omega arith

type-in : (f : Form) → type_of f ≤ 10
unfolding type_of
type-in (Leaf k) = leaf_type leaf_types (cons (omega arith) (cons (omega arith) (cons (omega arith) (cons (omega arith) (cons (omega arith) (cons (omega arith) nil)))))) k
type-in (Var v) = omega arith
type-in (Unresolved x) = omega arith
type-in (Prop x) = omega arith
type-in (Two k) = omega arith
type-in (Slice b) = omega arith
type-in (Many k n) = many-type (eqb k 13)
type-in (BinOp o) = omega arith
type-in (UnaryOp o) = omega arith
type-in (Case b n) = omega arith
type-in IsNull = omega arith
type-in PatternPredicate = omega arith
type-in (ListComprehension g) = omega arith
type-in (PatternComprehension a b g) = omega arith
type-in (ListPredicate g) = omega arith
type-in (MapProjection n) = omega arith

module _ (names : List (List ℕ)) where
  abbrev Gives : List Finding → Type 0
  Gives = All (Pushed names)

  -- a setting that wants a list is pushed with any type
  abbrev Known : Setting → Type 0
  Known general = Unit {0}
  Known arithmetic = Unit {0}
  Known property = Unit {0}
  Known boolean = Unit {0}
  Known (listed c o) = (t : ℕ) → IsType t → Pushed names (finding c 0 0 None o t)

  abbrev Both : Pair → Type 0
  Both (both c d) = Known c × Known d

  known-if : (b : Bool) (c d : Setting) → Known c → Known d → Known (cond b c d)
  known-if true c d p q = p
  known-if false c d p q = q

  passes-known : (c : Setting) → Known (passes c)
  unfolding passes
  passes-known general = tt
  passes-known arithmetic = tt
  passes-known property = tt
  passes-known boolean = tt
  passes-known (listed c o) = tt

  indexed : (o : ℕ) → 1 ≤ o → o ≤ 3 → Known (listed 5010 o)
  indexed o h g t i = pushed.listed h g i

  settings-known : (id : ℕ → Bool) (f : Form) (c : Setting) → Both (settings id f c)
  unfolding settings
  settings-known id (Leaf k) c = (tt, tt)
  settings-known id (Var v) c = (tt, tt)
  settings-known id (Unresolved x) c = (tt, tt)
  settings-known id (Prop x) c = (known-if (id x) general property tt tt, tt)
  settings-known id (Two k) c = (known-if (eqb k 10) (listed 5010 1) general (indexed 1 (omega arith) (omega arith)) tt, tt)
  settings-known id (Slice b) c = (indexed 2 (omega arith) (omega arith), tt)
  settings-known id (Many k n) c = (tt, tt)
  settings-known id (BinOp o) c = let h = known-if (is_arithmetic o) arithmetic general tt tt in (h, h)
  settings-known id (UnaryOp o) c = (passes-known c, tt)
  settings-known id (Case b n) c = (tt, tt)
  settings-known id IsNull c = (tt, tt)
  settings-known id PatternPredicate c = (tt, tt)
  settings-known id (ListComprehension g) c = (indexed 3 (omega arith) (omega arith), tt)
  settings-known id (PatternComprehension a b g) c = (tt, tt)
  settings-known id (ListPredicate g) c = (λ t i. pushed.iterable i, tt)
  settings-known id (MapProjection n) c = (tt, tt)

  -- a finding that comes where a test holds, or where it fails
  gives-if : {f : Finding} (b : Bool) → (b ≡ true → Pushed names f) → Gives (cond b (f ∷ []) [])
  gives-if true p = cons (p refl) nil
  gives-if false p = nil

  gives-unless : {f : Finding} (b : Bool) → (b ≡ false → Pushed names f) → Gives (cond b [] (f ∷ []))
  gives-unless true p = nil
  gives-unless false p = cons (p refl) nil

  gives-type : (c : Setting) (t : ℕ) → Known c → t ≤ 10 → Gives (at_type c t)
  unfolding at_type
  gives-type general t h g = nil
  gives-type arithmetic t h g = nil
  gives-type property t h g = nil
  gives-type boolean t h g =
      gives-if (leb 2 t && leb t 4) (λ e. let p = both_true (leb 2 t) (leb t 4) e in pushed.predicate (leb-true 2 t p.0) (leb-true t 4 p.1))
  gives-type (listed c o) t h g = gives-unless (eqb t 0) (λ e. h t (omega (arith, eqb-false t 0 e), g))

  gives_row : (c : Setting) (r : Option Row) → Known c → RowIn (length names) r → Gives (at_row c r)
  unfolding at_row
  gives_row c None h g = nil
  gives_row general (Some (row i x k a b)) h g = nil
  gives_row arithmetic (Some (row i x k a b)) h g = gives-unless (eqb k 4) (λ e. pushed.arithmetic g.0 g.1 (omega (arith, eqb-false k 4 e)))
  gives_row property (Some (row i x k a b)) h g = gives-if (eqb k 3) (λ e. rw (eqb-true k 3 e) (pushed.property g.0))
  gives_row boolean (Some (row i x k a b)) h g = nil
  gives_row (listed d o) (Some (row i x k a b)) h g = gives-unless (eqb k 4) (λ e. h (k + 7) (omega arith, omega (arith, eqb-false k 4 e)))

  gives-path : (r : Option Row) → RowIn (length names) r → Gives (misplaced 1 3 0 0 r)
  unfolding misplaced
  gives-path None g = nil
  gives-path (Some (row i x k c d)) g = gives-unless (eqb k 3) (λ e. pushed.path g.0 (g.1, g.2, eqb-false k 3 e))

  gives-elem : (want a b : ℕ) (r : Option Row) → 1 ≤ want → want ≤ 2 → RowIn (length names) r → Gives (misplaced (suc want) want a b r)
  unfolding misplaced
  gives-elem want a b None h i g = nil
  gives-elem want a b (Some (row j x k c d)) h i g = gives-unless (eqb k want) (λ e. pushed.element g.0 h i (g.1, g.2, eqb-false k want e))

module _ (warns : Bool) (st : Statement) (rows : Each (WellRow (length st.names)) st.bindings) where
  abbrev w : World
  w = world_of warns st

  abbrev size : ℕ
  size = length st.names

  row-for : (p : Option ℕ) → RowIn size (row_for w p)
  unfolding row_for world_of
  row-for (Some v) = row_in size v st.bindings rows
  row-for None = tt

  mutual
    unfolding kinds_e WellE world_of

    gives-E : (t : Expr) (room : ℕ) (c : Setting) → WellE size t room → Known st.names c → Gives st.names (kinds_e w t c)
    gives-E (var v) room c h g = gives_row st.names c (w.row v) g (row_in size v st.bindings rows)
    gives-E (unresolved x) room c h g = nil
    gives-E (node f es) room c h g =
        join (gives-type st.names c (type_of f) g (type-in f)) (gives-Es es 0 (room - 1) (settings w.is_id f c) h.5 (settings-known st.names w.is_id f c))
    gives-E (predicate s) room c h g = join (gives-type st.names c 7 g (omega arith)) (gives-S s (room - 1) h.2)
    gives-E (comprehension a b s es) room c h g = join (gives-S s (room - 1) h.3) (gives-Es es 0 (room - 1) plain h.6 (tt, tt))

    gives-Es : (t : Exprs) (kind room : ℕ) (p : Pair) → Wells size kind t room → Both st.names p → Gives st.names (kinds_es w t p)
    gives-Es done kind room p h g = nil
    gives-Es (more e es) kind room (both c d) h g = join (gives-E e room c h.0 g.0) (gives-Es es kind room (both d d) h.1 (g.1, g.1))
    gives-Es (mark m es) kind room p h g = gives-Es es kind room p h.2 g

    gives-S : (t : Steps) (room : ℕ) → WellS size t room → Gives st.names (kinds_s w t)
    gives-S end room h = nil
    gives-S (part p s) room h = join (gives-path st.names (row_for w p) (row-for p)) (gives-S s room h.2)
    gives-S (elem k a b v es s) room h =
        join (gives-elem st.names k a b (row_for w v) h.0.0 h.0.1 (row-for v)) (join (gives-Es es 0 room plain h.5 (tt, tt)) (gives-S s room h.6))

  gives-C : (t : Clause) → WellClause size t → Gives st.names (kinds_c w t)
  unfolding kinds_c WellClause WellMany WellPattern
  gives-C (opening o a b s) h = gives-S s max_depth h.2.1
  gives-C (reading r a b es) h = gives-Es es (kind_of r) max_depth plain (reading-well size r es h.1) (tt, tt)
  gives-C (with' a b ps f ks) h =
      join (gives-Es (exprs ps f) 0 max_depth plain (row-well size ps f h.1.1 h.4) (tt, tt)) (gives-Es (keys_of ks) 0 max_depth plain (keys-well size ks h.5) (tt, tt))
  gives-C (return a b ps ks) h =
      join (gives-Es (exprs ps done) 0 max_depth plain (row-well size ps done h.1.1 (done-well size)) (tt, tt)) (gives-Es (keys_of ks) 0 max_depth plain (keys-well size ks h.2) (tt, tt))
  gives-C (unwind a b v e) h = gives-E e max_depth general h.2 tt
  gives-C (call a b es ys) h = gives-Es es 0 max_depth plain (reading-well size clause.delete es h.1) (tt, tt)

  gives-Cs : (ts : List Clause) → Each (WellClause size) ts → Gives st.names (kinds w ts)
  unfolding kinds Each
  gives-Cs [] h = nil
  gives-Cs (t ∷ ts) h = join (gives-C t h.0) (gives-Cs ts h.1)

pub kinded : (warns : Bool) (st : Statement) → WellStatement st → All (Pushed st.names) (kinds (world_of warns st) st.head)
kinded warns st h = gives-Cs warns st h.bindings st.head h.head
