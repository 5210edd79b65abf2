-- The kinds walk gives no E1001 (`kinds-no-1001`): its codes are 2007, 2008 and 2011, and by the settings 5010 and 5011.
use Rattle.std.specs.Prelude.{Option, None, Some}
use Prim.Native.Nat.{ℕ, suc}
use mathlib.Core.Path.{◌≡◌, refl}
use mathlib.Core.Bool.{Bool, true, false, cond, ◌&&◌}
use mathlib.Core.List.{List, [], ◌∷◌, ◌++◌, flat_map}
use lib.Dec.{eqb, leb}
use Rattle.heads.specs.declared.Form.{Form}
use Rattle.heads.specs.declared.Form.TheVariants.{Leaf, Var, Unresolved, Prop, Two, Slice, Many, BinOp, UnaryOp, Case, IsNull, PatternPredicate, ListComprehension, PatternComprehension, ListPredicate, MapProjection}
use Rattle.expr.specs.Tree.{Expr, var, unresolved, node, predicate, comprehension, Exprs, done, more, mark, Steps, end, part, elem}
use Rattle.clauses.specs.Tree.{Clause, opening, reading, with', return, unwind, call, exprs, keys_of}
use Rattle.tables.specs.Row.{value_kind, path_kind, Row, row}
use Rattle.semantics.specs.Log.{e5010, e1001, Finding}
use Rattle.semantics.specs.World.{World}
use Rattle.semantics.specs.Kinds.{pattern_type, string_type, int_type, no_type, Setting, general, arithmetic, property, boolean, listed, passes, is_arithmetic, Pair, both, plain, type_of, settings, at_type, at_row, misplaced, row_for, kinds_e, kinds_es, kinds_s, kinds_c, kinds}
use Rattle.theorems.specs.Uses.{coded, with_code}
use Rattle.theorems.proofs.Views.{pick-append}

abbrev No : List Finding → Type 0
No l = with_code e1001 l ≡ []

abbrev Other : Setting → Type 0
Other general = Unit {0}
Other arithmetic = Unit {0}
Other property = Unit {0}
Other boolean = Unit {0}
Other (listed c o) = eqb e1001 c ≡ false

abbrev Others : Pair → Type 0
Others (both c d) = Other c × Other d

no-cond : (b : Bool) (l m : List Finding) → No l → No m → No (cond b l m)
no-cond true l m p q = p
no-cond false l m p q = q

other-cond : (b : Bool) (c d : Setting) → Other c → Other d → Other (cond b c d)
other-cond true c d p q = p
other-cond false c d p q = q

no-append : (l m : List Finding) → No l → No m → No (l ++ m)
unfolding with_code
no-append l m p q = rw (pick-append (coded e1001) l m, p, q) refl

passes-other : (c : Setting) → Other (passes c)
unfolding passes
passes-other general = tt
passes-other arithmetic = tt
passes-other property = tt
passes-other boolean = tt
passes-other (listed c o) = tt

settings-other : (id : ℕ → Bool) (f : Form) (c : Setting) → Others (settings id f c)
unfolding settings
settings-other id (Leaf k) c = (tt, tt)
settings-other id (Var v) c = (tt, tt)
settings-other id (Unresolved x) c = (tt, tt)
settings-other id (Prop x) c = (other-cond (id x) general property tt tt, tt)
settings-other id (Two k) c = (other-cond (eqb k 10) (listed e5010 1) general refl tt, tt)
settings-other id (Slice b) c = (refl, tt)
settings-other id (Many k n) c = (tt, tt)
settings-other id (BinOp o) c = let h = other-cond (is_arithmetic o) arithmetic general tt tt in (h, h)
settings-other id (UnaryOp o) c = (passes-other c, tt)
settings-other id (Case b n) c = (tt, tt)
settings-other id IsNull c = (tt, tt)
settings-other id PatternPredicate c = (tt, tt)
settings-other id (ListComprehension g) c = (refl, tt)
settings-other id (PatternComprehension a b g) c = (tt, tt)
settings-other id (ListPredicate g) c = (refl, tt)
settings-other id (MapProjection n) c = (tt, tt)

no-type : (c : Setting) (t : ℕ) → Other c → No (at_type c t)
unfolding at_type with_code coded flat_map
no-type general t h = refl
no-type arithmetic t h = refl
no-type property t h = refl
no-type boolean t h = no-cond (leb int_type t && leb t string_type) _ _ refl refl
no-type (listed c o) t h = no-cond (eqb t no_type) _ _ refl (rw h refl)

no_row : (c : Setting) (r : Option Row) → Other c → No (at_row c r)
unfolding at_row with_code coded flat_map
no_row c None h = refl
no_row general (Some (row i x k a b)) h = refl
no_row arithmetic (Some (row i x k a b)) h = no-cond (eqb k value_kind) _ _ refl refl
no_row property (Some (row i x k a b)) h = no-cond (eqb k path_kind) _ _ refl refl
no_row boolean (Some (row i x k a b)) h = refl
no_row (listed d o) (Some (row i x k a b)) h = no-cond (eqb k value_kind) _ _ refl (rw h refl)

no-misplaced : (one want a b : ℕ) (r : Option Row) → No (misplaced one want a b r)
unfolding misplaced with_code coded flat_map
no-misplaced one want a b None = refl
no-misplaced one want a b (Some (row i x k c d)) = no-cond (eqb k want) _ _ refl refl

no_none : No []
unfolding with_code flat_map
no_none = refl

module _ (w : World) where
  mutual
    unfolding kinds_e

    no-E : (t : Expr) (c : Setting) → Other c → No (kinds_e w t c)
    no-E (var v) c h = no_row c (w.row v) h
    no-E (unresolved x) c h = no_none
    no-E (node f es) c h = no-append (at_type c (type_of f)) _ (no-type c (type_of f) h) (no-Es es (settings w.is_id f c) (settings-other w.is_id f c))
    no-E (predicate s) c h = no-append (at_type c pattern_type) (kinds_s w s) (no-type c pattern_type h) (no-S s)
    no-E (comprehension a b s es) c h = no-append (kinds_s w s) (kinds_es w es plain) (no-S s) (no-Es es plain (tt, tt))

    no-Es : (t : Exprs) (p : Pair) → Others p → No (kinds_es w t p)
    no-Es done p h = no_none
    no-Es (more e es) (both c d) h = no-append (kinds_e w e c) (kinds_es w es (both d d)) (no-E e c h.0) (no-Es es (both d d) (h.1, h.1))
    no-Es (mark m es) p h = no-Es es p h

    no-S : (t : Steps) → No (kinds_s w t)
    no-S end = no_none
    no-S (part p s) = no-append (misplaced 1 path_kind 0 0 (row_for w p)) (kinds_s w s) (no-misplaced 1 path_kind 0 0 (row_for w p)) (no-S s)
    no-S (elem k a b v es s) =
        no-append (misplaced (suc k) k a b (row_for w v)) _ (no-misplaced (suc k) k a b (row_for w v))
        (no-append (kinds_es w es plain) (kinds_s w s) (no-Es es plain (tt, tt)) (no-S s))

  no-C : (t : Clause) → No (kinds_c w t)
  unfolding kinds_c
  no-C (opening o a b s) = no-S s
  no-C (reading r a b es) = no-Es es plain (tt, tt)
  no-C (with' a b ps f ks) = no-append (kinds_es w (exprs ps f) plain) _ (no-Es (exprs ps f) plain (tt, tt)) (no-Es (keys_of ks) plain (tt, tt))
  no-C (return a b ps ks) = no-append (kinds_es w (exprs ps done) plain) _ (no-Es (exprs ps done) plain (tt, tt)) (no-Es (keys_of ks) plain (tt, tt))
  no-C (unwind a b v e) = no-E e general tt
  no-C (call a b es ys) = no-Es es plain (tt, tt)

  pub kinds-no-1001 : (ts : List Clause) → with_code e1001 (kinds w ts) ≡ []
  unfolding kinds
  kinds-no-1001 [] = no_none
  kinds-no-1001 (t ∷ ts) = no-append (kinds_c w t) (kinds w ts) (no-C t) (kinds-no-1001 ts)
