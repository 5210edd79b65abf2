-- The kinds walk of a part without its spans finds the same, but for spans (`Bare`): `bare_e`, `bare_es`, `bare_s` of trees, `bare-kinds` of clauses.
use Rattle.std.specs.Prelude.{Option, None, Some}
use Prim.Native.Nat.{ℕ, suc}
use mathlib.Core.Path.{◌≡◌, refl, ◌∙◌, ap₂}
use mathlib.Core.Bool.{Bool, true, false, cond, ◌&&◌}
use mathlib.Core.List.{List, [], ◌∷◌, ◌++◌, map, map-append}
use lib.Dec.{eqb, leb}
use Rattle.scope.specs.Graph.{Name}
use Rattle.expr.specs.Tree.{Expr, var, unresolved, node, predicate, comprehension, Exprs, done, more, mark, Steps, end, part, elem}
use Rattle.clauses.specs.Tree.{Clause, opening, reading, with', return, unwind, call, exprs, keys_of}
use Rattle.tables.specs.Row.{value_kind, path_kind, Row, row}
use Rattle.expr.specs.Erase.{erase_e, erases, erase_s}
use Rattle.clauses.specs.Erase.{erase_c}
use Rattle.semantics.specs.Log.{Finding, finding}
use Rattle.semantics.specs.World.{World}
use Rattle.semantics.specs.Kinds.{string_type, int_type, no_type, Setting, general, arithmetic, property, boolean, listed, Pair, both, type_of, settings, at_type, at_row, misplaced, row_for, kinds_e, kinds_es, kinds_s, kinds_c, kinds}
use Rattle.theorems.specs.Compare.{blank_finding}
use Rattle.theorems.proofs.Moved.{exprs-erase, keys-erase}

-- l without spans is k.
pub record Bare (l k : List Finding) : Type 0 where
  pub same : map blank_finding l ≡ k

bare-nil : Bare [] []
bare-nil = record { same = refl }

bare-one : {c a b : ℕ} {x : Option Name} {o t : ℕ} → Bare (finding c a b x o t ∷ []) (finding c 0 0 x o t ∷ [])
bare-one = record { same = unfold blank_finding in refl }

bare-join : {a a' b b' : List Finding} → Bare a a' → Bare b b' → Bare (a ++ b) (a' ++ b')
bare-join {a} {a'} {b} p q = record { same = map-append blank_finding a b ∙ ap₂ ◌++◌ p.same q.same }

bare-cond : (c : Bool) {a a' b b' : List Finding} → Bare a a' → Bare b b' → Bare (cond c a b) (cond c a' b')
bare-cond true p q = p
bare-cond false p q = q

bare-type : (c : Setting) (t : ℕ) → Bare (at_type c t) (at_type c t)
unfolding at_type
bare-type general t = bare-nil
bare-type arithmetic t = bare-nil
bare-type property t = bare-nil
bare-type boolean t = bare-cond (leb int_type t && leb t string_type) bare-one bare-nil
bare-type (listed c o) t = bare-cond (eqb t no_type) bare-nil bare-one

bare-row : (c : Setting) (r : Option Row) → Bare (at_row c r) (at_row c r)
unfolding at_row
bare-row c None = bare-nil
bare-row general (Some (row i x k a b)) = bare-nil
bare-row arithmetic (Some (row i x k a b)) = bare-cond (eqb k value_kind) bare-nil bare-one
bare-row property (Some (row i x k a b)) = bare-cond (eqb k path_kind) bare-one bare-nil
bare-row boolean (Some (row i x k a b)) = bare-nil
bare-row (listed d o) (Some (row i x k a b)) = bare-cond (eqb k value_kind) bare-nil bare-one

bare-misplaced : (one want a b : ℕ) (r : Option Row) → Bare (misplaced one want a b r) (misplaced one want 0 0 r)
unfolding misplaced
bare-misplaced one want a b None = bare-nil
bare-misplaced one want a b (Some (row i x k c d)) = bare-cond (eqb k want) bare-nil bare-one

module _ (w : World) where
  mutual
    unfolding kinds_e erase_e

    pub bare_e : (t : Expr) (c : Setting) → Bare (kinds_e w t c) (kinds_e w (erase_e t) c)
    bare_e (var v) c = bare-row c (w.row v)
    bare_e (unresolved x) c = bare-nil
    bare_e (node f es) c = bare-join (bare-type c (type_of f)) (bare_es es (settings w.is_id f c))
    bare_e (predicate s) c = bare-join (bare-type c 7) (bare_s s)
    bare_e (comprehension a b s es) c = bare-join (bare_s s) (bare_es es (both general general))

    pub bare_es : (t : Exprs) (p : Pair) → Bare (kinds_es w t p) (kinds_es w (erases t) p)
    bare_es done p = bare-nil
    bare_es (more e es) (both c d) = bare-join (bare_e e c) (bare_es es (both d d))
    bare_es (mark m es) p = bare_es es p

    pub bare_s : (t : Steps) → Bare (kinds_s w t) (kinds_s w (erase_s t))
    bare_s end = bare-nil
    bare_s (part p s) = bare-join (bare-misplaced 1 path_kind 0 0 (row_for w p)) (bare_s s)
    bare_s (elem k a b v es s) = bare-join (bare-misplaced (suc k) k a b (row_for w v)) (bare-join (bare_es es (both general general)) (bare_s s))

  bare_c : (t : Clause) → Bare (kinds_c w t) (kinds_c w (erase_c t))
  unfolding kinds_c erase_c erases
  bare_c (opening o a b s) = bare_s s
  bare_c (reading r a b es) = bare_es es (both general general)
  bare_c (with' a b ps f ks) = rw (← exprs-erase ps f, keys-erase ks) (bare-join (bare_es (exprs ps f) (both general general)) (bare_es (keys_of ks) (both general general)))
  bare_c (return a b ps ks) = rw (← exprs-erase ps done, keys-erase ks) (bare-join (bare_es (exprs ps done) (both general general)) (bare_es (keys_of ks) (both general general)))
  bare_c (unwind a b v e) = bare_e e general
  bare_c (call a b es ys) = bare_es es (both general general)

  pub bare-kinds : (ts : List Clause) → Bare (kinds w ts) (kinds w (map erase_c ts))
  unfolding kinds
  bare-kinds [] = bare-nil
  bare-kinds (t ∷ ts) = bare-join (bare_c t) (bare-kinds ts)
