-- A plain head's parts and the rest of its row are one row. The parts have a level of room less than the row, so that the one row is read
-- as the other unless room runs out.
use Prim.Native.Nat.{ℕ, zero, suc, ◌+◌}
use native.Mathlib.Nat.{zero-add, suc-add}
use mathlib.Core.Bool.{false}
use mathlib.Core.Path.{◌≡◌, refl, ap, ◌∙◌}
use mathlib.Core.List.{List}
use Rattle.heads.specs.Got.{Got, ok, bind, next, bare}
use Rattle.heads.specs.Form.{read_form, kids_of, items_of, has_pattern}
use Rattle.heads.specs.declared.Form.{Form}
use Rattle.heads.proofs.Shapes.{bare-map, bind-each}
use Rattle.expr.specs.Tree.{Exprs, more, end, tree}
use Rattle.expr.specs.Read.{Reader, no_more, times, marks, maybe_pattern, after_form, read_expr}
use Rattle.expr.proofs.Rows.{times_more, times-rest}
use Rattle.flat.specs.Plain.{Parts, Simple}
use Rattle.flat.proofs.Deeper.{Deep, deep-bare, deep-next, deep-row, deep-expr}

-- no pattern, no items, and so many parts
abbrev Bare : Form → ℕ → Type 0
Bare f k = (has_pattern f ≡ false) × ((items_of f ≡ 0) × (kids_of f ≡ k))

parts-bare : {f : Form} {k : ℕ} → Parts f k → Bare f k
parts-bare Parts.leaf = (refl, (refl, refl))
parts-bare Parts.prop = (refl, (refl, refl))
parts-bare Parts.two = (refl, (refl, refl))
parts-bare Parts.many = (refl, (refl, refl))
parts-bare Parts.binary = (refl, (refl, refl))
parts-bare Parts.unary = (refl, (refl, refl))
parts-bare Parts.is-null = (refl, (refl, refl))
parts-bare Parts.list-comprehension = (refl, (refl, refl))
parts-bare Parts.list-predicate = (refl, (refl, refl))

simple-bare : {f : Form} {k : ℕ} → Simple f k → Bare f k
simple-bare Simple.variable = (refl, (refl, refl))
simple-bare Simple.name = (refl, (refl, refl))
simple-bare (Simple.parts p) = parts-bare p
simple-bare (Simple.other p i) = (p, (i, refl))

pub simple-pattern : {f : Form} {k : ℕ} → Simple f k → has_pattern f ≡ false
simple-pattern s = (simple-bare s).0

pub simple-items : {f : Form} {k : ℕ} → Simple f k → items_of f ≡ 0
simple-items s = (simple-bare s).1.0

pub simple-kids : {f : Form} {k : ℕ} → Simple f k → kids_of f ≡ k
simple-kids s = (simple-bare s).1.1

-- a row in two, the one after the other
module _ (P : Reader) (m : ℕ) where
  pub times-add : (k : ℕ) (ws : List ℕ) → times (k + m) P no_more ws ≡ times k P (times m P no_more) ws
  unfolding times
  times-add zero ws = rw zero-add
  times-add (suc k) ws =
      rw (suc-add k m)
      (bind-each (P ws) _ _ (λ e r. ap (λ (g : Got Exprs). bind g (λ es r2. ok (more e es) r2)) (times-add k r)))

  two-rows : (k : ℕ) (ws : List ℕ) → bare (times (k + m) P no_more ws) ≡ next (bare (times k P no_more ws)) (λ r. bare (times m P no_more r))
  two-rows k ws = ap bare (times-add k ws) ∙ times-rest P (times m P no_more) k ws

module _ (names k : ℕ) (ws : List ℕ) (f : Form) (r : List ℕ) (s : Simple f k) (e : read_form names ws ≡ ok f r) where
  pub plain-expr : (d : ℕ) → read_expr names (suc d) ws ≡ bind (times k (read_expr names d) no_more r) (λ es r2. ok (tree f end es) r2)
  unfolding read_expr after_form maybe_pattern marks
  plain-expr d = rw (e, simple-pattern s, simple-items s, simple-kids s)

  whole_row : (d m : ℕ) → bare (times (suc m) (read_expr names (suc d)) no_more ws) ≡ next (bare (times k (read_expr names d) no_more r)) (λ t. bare (times m (read_expr names (suc d)) no_more t))
  whole_row d m =
      times_more (read_expr names (suc d)) no_more m ws
      ∙ ap (λ (g : Got (Unit {0})). next g (λ t. bare (times m (read_expr names (suc d)) no_more t)))
      (ap bare (plain-expr d) ∙ bare-map (times k (read_expr names d) no_more r) (tree f end))

  pub flat-deep : (d m : ℕ) → Deep (bare (times (suc m) (read_expr names (suc d)) no_more ws)) (bare (times (k + m) (read_expr names d) no_more r))
  flat-deep d m =
      rw (whole_row d m, two-rows (read_expr names d) m k r)
      (deep-next (bare (times k (read_expr names d) no_more r)) (λ t. deep-bare (deep-row m (deep-expr names d) t)))

  pub flat-none : (d m : ℕ) → k ≡ 0 → bare (times (suc m) (read_expr names (suc d)) no_more ws) ≡ bare (times m (read_expr names (suc d)) no_more r)
  unfolding times
  flat-none d m z = whole_row d m ∙ rw z
