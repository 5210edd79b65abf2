-- In a walk over accepted words room doesn't matter: a row that is accepted whole, and the one row of its plain head's parts and the others,
-- read with as much room, have the same trees (`flat_ok`). For in the row the parts have a level less, and what less room reads more room
-- reads the same (`deep-ok`); and a row is read in two with its trees put together (`times-add`, `times-split`).
use Prim.Native.Nat.{ℕ, zero, suc, ◌+◌}
use native.Mathlib.Omega.{arith}
use mathlib.Core.Path.{◌≡◌, refl, ap, sym, ◌∙◌}
use mathlib.Core.Bool.{true}
use mathlib.Core.List.{List}
use Rattle.heads.specs.Got.{Got, ok, no, bind, is_ok}
use Rattle.heads.specs.Form.{read_form}
use Rattle.heads.specs.declared.Form.{Form}
use Rattle.heads.proofs.Shapes.{bind-each, bind-bind}
use Rattle.expr.specs.Tree.{Expr, Exprs, done, more, mark, end, tree}
use Rattle.expr.specs.Read.{Reader, RestE, no_more, times, read_expr}
use Rattle.expr.proofs.Inverse.{never}
use Rattle.expr.proofs.Accepted.{ok-inverse, ok-left, room-left}
use Rattle.flat.specs.Plain.{Simple}
use Rattle.flat.proofs.Deeper.{Deep, same, deep, deep-row, deep-expr}
use Rattle.flat.proofs.Flat.{times-add, plain-expr}

-- expressions, one row after another
unfoldable pub join_e : Exprs → Exprs → Exprs
join_e done b = b
join_e (more e es) b = more e (join_e es b)
join_e (mark m es) b = mark m (join_e es b)

-- n expressions and the rest: the reader of the row and then of the rest, whose trees are put together
module _ (P : Reader) (K : RestE) where
  last : (e : Expr) (es : Exprs) (g : Got Exprs) → bind (bind g (λ ms r. ok (join_e es ms) r)) (λ xs r. ok (more e xs) r) ≡ bind g (λ ms r. ok (join_e (more e es) ms) r)
  unfolding join_e
  last e es (ok ms r) = refl
  last e es (no c) = refl

  split : (e : Expr) (g : Got Exprs) → bind (bind g (λ es r. bind (K r) (λ ms r2. ok (join_e es ms) r2))) (λ xs r. ok (more e xs) r) ≡ bind (bind g (λ es r. ok (more e es) r)) (λ es r. bind (K r) (λ ms r2. ok (join_e es ms) r2))
  split e (ok es r) = last e es (K r)
  split e (no c) = refl

  times-split : (n : ℕ) (ws : List ℕ) → times n P K ws ≡ bind (times n P no_more ws) (λ es r. bind (K r) (λ ms r2. ok (join_e es ms) r2))
  unfolding times join_e
  times-split zero ws = none (K ws)
    where
      none : (g : Got Exprs) → g ≡ bind g (λ ms r2. ok ms r2)
      none (ok a r) = refl
      none (no c) = refl
  times-split (suc n) ws =
      bind-each (P ws) _ _ (λ e r. ap (λ (g : Got Exprs). bind g (λ xs r2. ok (more e xs) r2)) (times-split n r) ∙ split e (times n P no_more r))
      ∙ sym (bind-bind (P ws) _ _)

-- what is read with less room is read the same with more
deep-ok : {A : Type 0} {g h : Got A} {a : A} {r : List ℕ} → Deep g h → h ≡ ok a r → g ≡ ok a r
deep-ok same e = e
deep-ok deep e = never (cc)

-- a row that is accepted whole: the tree of its head, and what the one row of the head's parts and the others gives
pub record Flattened (whole rest : Got Exprs) (f : Form) : Type 0 where
  pub kids : Exprs
  pub others : Exprs
  pub left : List ℕ
  pub whole_is : whole ≡ ok (more (tree f end kids) others) left
  pub rest-is : rest ≡ ok (join_e kids others) left

flat-end : {whole rest : Got Exprs} (f : Form) (es : Exprs) (g : Got Exprs) → whole ≡ bind g (λ os l. ok (more (tree f end es) os) l) → rest ≡ bind g (λ os l. ok (join_e es os) l) → is_ok whole ≡ true → Flattened whole rest f
flat-end f es (ok os l) x y o = record { kids = es; others = os; left = l; whole_is = x; rest-is = y }
flat-end f es (no c) x y o = let z = rw x at o in never (cc)

module _ (names k : ℕ) (ws : List ℕ) (f : Form) (r : List ℕ) (s : Simple f k) (e : read_form names ws ≡ ok f r) where
  -- where the parts are read, so is the rest of the row
  module _ (d m : ℕ) (es : Exprs) (t : List ℕ) (a : times k (read_expr names d) no_more r ≡ ok es t) where
    whole-after : times (suc m) (read_expr names (suc d)) no_more ws ≡ bind (times m (read_expr names (suc d)) no_more t) (λ os l. ok (more (tree f end es) os) l)
    unfolding times
    whole-after = rw (plain-expr names k ws f r s e d, a)

    rest-after : times (k + m) (read_expr names (suc d)) no_more r ≡ bind (times m (read_expr names (suc d)) no_more t) (λ os l. ok (join_e es os) l)
    rest-after =
        times-add (read_expr names (suc d)) m k r
        ∙ times-split (read_expr names (suc d)) (times m (read_expr names (suc d)) no_more) k r
        ∙ rw (deep-ok (deep-row k (deep-expr names d) r) a)

  pub flat_ok : (room m : ℕ) → is_ok (times (suc m) (read_expr names room) no_more ws) ≡ true → Flattened (times (suc m) (read_expr names room) no_more ws) (times (k + m) (read_expr names room) no_more r) f
  unfolding times
  flat_ok zero m o = absurd (omega (arith, room-left names zero ws (ok-left (read_expr names zero ws) _ o)))
  flat_ok (suc d) m o =
      let first : is_ok (bind (times k (read_expr names d) no_more r) (λ es l. ok (tree f end es) l)) ≡ true = sym (ap is_ok (plain-expr names k ws f r s e d)) ∙ ok-left (read_expr names (suc d) ws) _ o in
      let a = ok-inverse (times k (read_expr names d) no_more r) (ok-left (times k (read_expr names d) no_more r) _ first) in
      flat-end f a.0 (times m (read_expr names (suc d)) no_more a.1.0) (whole-after d m a.0 a.1.0 a.1.1) (rest-after d m a.0 a.1.0 a.1.1) o
