-- The operands of an expression that reads: a BinOp's two and a UnaryOp's one read where the word after the operator's number and each other's
-- end stand, and are the tree's; any other expression is an atom.
use Prim.Native.Nat.{ℕ, zero, suc, ◌+◌, ◌-◌, ◌<◌, ◌≤◌}
use native.Mathlib.Omega.{arith}
use mathlib.Core.Path.{◌≡◌, refl, sym, ap, ◌∙◌}
use mathlib.Core.Bool.{true}
use mathlib.Core.List.{List, [], ◌++◌}
use lib.ListN.{length, get_or, drop, length-append}
use lib.Seq.{get_or-drop}
use Rattle.heads.specs.Got.{Got, ok, no, is_ok, bind, word_in, any_word}
use Rattle.heads.specs.Form.{form_words, read_form, rest_of, shape_of, limit_of, form_one}
use Rattle.heads.specs.declared.Form.{Form}
use Rattle.heads.specs.declared.Form.TheVariants.{Leaf, Var, Unresolved, Prop, Two as Form-Two, Slice, Many, BinOp, UnaryOp, Case, IsNull, PatternPredicate, ListComprehension, PatternComprehension, ListPredicate, MapProjection}
use Rattle.expr.specs.Tree.{Expr, var, unresolved, node, predicate, comprehension, Exprs, done, more, tree}
use Rattle.expr.specs.Read.{Reader, read_expr, after_form, maybe_pattern, times, marks}
use Rattle.expr.specs.Write.{write_e}
use Rattle.expr.specs.Well.{WellE}
use Rattle.expr.proofs.Accepted.{ok-left, ok-inverse, word-there, room-left, expr-is}
use Rattle.expr.proofs.Written.{written}
use Rattle.condition.specs.Cond.{atom, unary, binary}
use Rattle.condition_text.specs.Tree.{cond_e}

-- a head of a code after which one word stands
module _ (ws : List ℕ) (at names : ℕ) (f : Form) (r : List ℕ) (e : read_form names (drop at ws) ≡ ok f r) where
  coded : (at < length ws) × (rest_of names (get_or ws at 0) (drop (at + 1) ws) ≡ ok f r)
  unfolding read_form
  coded =
      let o : is_ok (read_form names (drop at ws)) ≡ true = ap is_ok e in
      let t = word-there 0 4294967296 ws at (ok-left (any_word (drop at ws)) _ o) in
      (t.0, rw t.1 at e)

  one-sees : shape_of (get_or ws at 0) ≡ 2 → (f ≡ form_one (get_or ws at 0) (get_or ws (at + 1) 0)) × ((r ≡ drop (at + 2) ws) × (at + 2 ≤ length ws))
  unfolding rest_of
  one-sees s =
      let c = get_or ws at 0 in
      let q : bind (word_in 0 (limit_of names c) (drop (at + 1) ws)) (λ a r2. ok (form_one c a) r2) ≡ ok f r = rw s at coded.1 in
      let t = word-there 0 (limit_of names c) ws (at + 1) (ok-left (word_in 0 (limit_of names c) (drop (at + 1) ws)) _ (ap is_ok q)) in
      let z : at + 1 + 1 ≡ at + 2 = omega arith in
      let y : ok (form_one c (get_or ws (at + 1) 0)) (drop (at + 2) ws) ≡ ok f r = rw (t.1, z) at q in
      let x : f ≡ form_one c (get_or ws (at + 1) 0) = cc in
      let w : r ≡ drop (at + 2) ws = cc in
      (x, (w, omega (arith, t.0)))

  binary-head : get_or ws at 0 ≡ 15 → (f ≡ BinOp (get_or ws (at + 1) 0)) × ((r ≡ drop (at + 2) ws) × (at + 2 ≤ length ws))
  unfolding shape_of form_one
  binary-head c = let n = one-sees (rw c) in (rw c at n.0, n.1)

  unary-head : get_or ws at 0 ≡ 16 → (f ≡ UnaryOp (get_or ws (at + 1) 0)) × ((r ≡ drop (at + 2) ws) × (at + 2 ≤ length ws))
  unfolding shape_of form_one
  unary-head c = let n = one-sees (rw c) in (rw c at n.0, n.1)

no_ok : {A X : Type 0} {c : ℕ} {a : A} {r : List ℕ} → no c ≡ ok a r → X
no_ok e = let z : ◌≡◌ {A = ℕ} 0 1 = cc in absurd (omega arith)

-- two operands, and one
pub record Two (P : Reader) (o : ℕ) (r : List ℕ) (e : Expr) (rest : List ℕ) : Type 0 where
  pub left : Expr
  pub right : Expr
  pub mid : List ℕ
  pub is : e ≡ node (BinOp o) (more left (more right done))
  pub first : P r ≡ ok left mid
  pub second : P mid ≡ ok right rest

two : (P : Reader) (o : ℕ) (r : List ℕ) (e : Expr) (rest : List ℕ) → after_form P (BinOp o) r ≡ ok e rest → Two P o r e rest
unfolding after_form maybe_pattern times marks tree
two P o r e rest h = go (P r) refl h
  where
    after : (l : Expr) (mid : List ℕ) → P r ≡ ok l mid → (y : Got Expr) → P mid ≡ y → bind (bind (bind y (λ x r2. ok (more x done) r2)) (λ es r2. ok (more l es) r2)) (λ es r3. ok (node (BinOp o) es) r3) ≡ ok e rest → Two P o r e rest
    after l mid p (ok x q) y h =
        let z : node (BinOp o) (more l (more x done)) ≡ e = cc in
        let w : q ≡ rest = cc in
        record { left = l; right = x; mid = mid; is = sym z; first = p; second = rw w at y }
    after l mid p (no c) y h = no_ok h

    go : (x : Got Expr) → P r ≡ x → bind (bind x (λ l mid. bind (bind (P mid) (λ x r2. ok (more x done) r2)) (λ es r2. ok (more l es) r2))) (λ es r3. ok (node (BinOp o) es) r3) ≡ ok e rest → Two P o r e rest
    go (ok l mid) p h = after l mid p (P mid) refl h
    go (no c) p h = no_ok h

pub record One (P : Reader) (o : ℕ) (r : List ℕ) (e : Expr) (rest : List ℕ) : Type 0 where
  pub operand : Expr
  pub is : e ≡ node (UnaryOp o) (more operand done)
  pub first : P r ≡ ok operand rest

one : (P : Reader) (o : ℕ) (r : List ℕ) (e : Expr) (rest : List ℕ) → after_form P (UnaryOp o) r ≡ ok e rest → One P o r e rest
unfolding after_form maybe_pattern times marks tree
one P o r e rest h = go (P r) refl h
  where
    go : (x : Got Expr) → P r ≡ x → bind (bind x (λ l mid. ok (more l done) mid)) (λ es r3. ok (node (UnaryOp o) es) r3) ≡ ok e rest → One P o r e rest
    go (ok l mid) p h =
        let z : node (UnaryOp o) (more l done) ≡ e = cc in
        let w : mid ≡ rest = cc in
        record { operand = l; is = sym z; first = rw w at p }
    go (no c) p h = no_ok h

-- an operator's words: its own two, and its operands'
two-long : (o : ℕ) (l r : Expr) → length (write_e (node (BinOp o) (more l (more r done)))) ≡ 2 + (length (write_e l) + length (write_e r))
unfolding write_e form_words
two-long o l r = omega (arith, length-append (write_e l) (write_e r ++ []), length-append (write_e r) [])

one-long : (o : ℕ) (x : Expr) → length (write_e (node (UnaryOp o) (more x done))) ≡ 2 + length (write_e x)
unfolding write_e form_words
one-long o x = omega (arith, length-append (write_e x) [])

-- an operator where its code stands
pub record BinaryAt (names room : ℕ) (ws : List ℕ) (at : ℕ) (e : Expr) (rest : List ℕ) : Type 0 where
  pub left : Expr
  pub right : Expr
  pub mid : List ℕ
  pub first : read_expr names (room - 1) (drop (at + 2) ws) ≡ ok left mid
  pub second : read_expr names (room - 1) mid ≡ ok right rest
  pub known : get_or ws (at + 1) 0 < 20
  pub is : cond_e e at ≡ binary (get_or ws (at + 1) 0) (cond_e left (at + 2)) (cond_e right (at + 2 + length (write_e left)))
  pub long : length (write_e e) ≡ 2 + (length (write_e left) + length (write_e right))
  pub inside : at + 2 ≤ length ws
  pub deep : 0 < room

pub record UnaryAt (names room : ℕ) (ws : List ℕ) (at : ℕ) (e : Expr) (rest : List ℕ) : Type 0 where
  pub operand : Expr
  pub first : read_expr names (room - 1) (drop (at + 2) ws) ≡ ok operand rest
  pub known : get_or ws (at + 1) 0 < 2
  pub is : cond_e e at ≡ unary (get_or ws (at + 1) 0) (cond_e operand (at + 2))
  pub long : length (write_e e) ≡ 2 + length (write_e operand)
  pub inside : at + 2 ≤ length ws
  pub deep : 0 < room

-- any other expression is an atom: its first word is not an operator's
other : (f : Form) (es : Exprs) (at : ℕ) (ws rest : List ℕ) → ws ≡ write_e (node f es) ++ rest → (get_or ws 0 0 ≡ 15 → ⊥) → (get_or ws 0 0 ≡ 16 → ⊥) → cond_e (node f es) at ≡ atom at
unfolding cond_e write_e form_words
other (Leaf k) es at ws rest w a b = refl
other (Var v) es at ws rest w a b = refl
other (Unresolved x) es at ws rest w a b = refl
other (Prop x) es at ws rest w a b = refl
other (Form-Two k) es at ws rest w a b = refl
other (Slice x) es at ws rest w a b = refl
other (Many k n) es at ws rest w a b = refl
other (BinOp o) es at ws rest w a b = absurd (a (rw w))
other (UnaryOp o) es at ws rest w a b = absurd (b (rw w))
other (Case x n) es at ws rest w a b = refl
other IsNull es at ws rest w a b = refl
other PatternPredicate es at ws rest w a b = refl
other (ListComprehension g) es at ws rest w a b = refl
other (PatternComprehension x y g) es at ws rest w a b = refl
other (ListPredicate g) es at ws rest w a b = refl
other (MapProjection n) es at ws rest w a b = refl

atom-is : (e : Expr) (at : ℕ) (ws rest : List ℕ) → ws ≡ write_e e ++ rest → (get_or ws 0 0 ≡ 15 → ⊥) → (get_or ws 0 0 ≡ 16 → ⊥) → cond_e e at ≡ atom at
unfolding cond_e
atom-is (var v) at ws rest w a b = refl
atom-is (unresolved x) at ws rest w a b = refl
atom-is (node f es) at ws rest w a b = other f es at ws rest w a b
atom-is (predicate s) at ws rest w a b = refl
atom-is (comprehension x y s es) at ws rest w a b = refl

module _ (names room : ℕ) (ws : List ℕ) (at : ℕ) (e : Expr) (rest : List ℕ) (h : read_expr names room (drop at ws) ≡ ok e rest) where
  some-room : 0 < room
  some-room = room-left names room (drop at ws) (ap is_ok h)

  head_ok : (f : Form) × ((r : List ℕ) × (read_form names (drop at ws) ≡ ok f r))
  unfolding read_expr
  head_ok = ok-inverse (read_form names (drop at ws)) (go room some-room (ap is_ok h))
    where
      go : (d : ℕ) → 0 < d → is_ok (read_expr names d (drop at ws)) ≡ true → is_ok (read_form names (drop at ws)) ≡ true
      go zero z o = absurd (omega arith)
      go (suc d) z o = ok-left (read_form names (drop at ws)) _ o

  pub binary-at : get_or ws at 0 ≡ 15 → BinaryAt names room ws at e rest
  unfolding cond_e WellE
  binary-at c =
      let k = head_ok in
      let b = binary-head ws at names k.0 k.1.0 k.1.1 c in
      let o = get_or ws (at + 1) 0 in
      let f : read_form names (drop at ws) ≡ ok (BinOp o) (drop (at + 2) ws) = rw (b.0, b.1.0) at k.1.1 in
      let x = two (read_expr names (room - 1)) o (drop (at + 2) ws) e rest (sym (expr-is names room (drop at ws) (BinOp o) (drop (at + 2) ws) some-room f) ∙ h) in
      let w = written names room (drop at ws) e rest h in
      let v : WellE names (node (BinOp o) (more x.left (more x.right done))) room = rw x.is at w.1 in
      record { left = x.left; right = x.right; mid = x.mid; first = x.first; second = x.second; known = v.1; is = ap (λ (z : Expr). cond_e z at) x.is; long = ap (λ (z : Expr). length (write_e z)) x.is ∙ two-long o x.left x.right; inside = b.1.1; deep = some-room }

  pub unary-at : get_or ws at 0 ≡ 16 → UnaryAt names room ws at e rest
  unfolding cond_e WellE
  unary-at c =
      let k = head_ok in
      let b = unary-head ws at names k.0 k.1.0 k.1.1 c in
      let o = get_or ws (at + 1) 0 in
      let f : read_form names (drop at ws) ≡ ok (UnaryOp o) (drop (at + 2) ws) = rw (b.0, b.1.0) at k.1.1 in
      let x = one (read_expr names (room - 1)) o (drop (at + 2) ws) e rest (sym (expr-is names room (drop at ws) (UnaryOp o) (drop (at + 2) ws) some-room f) ∙ h) in
      let w = written names room (drop at ws) e rest h in
      let v : WellE names (node (UnaryOp o) (more x.operand done)) room = rw x.is at w.1 in
      record { operand = x.operand; first = x.first; known = v.1; is = ap (λ (z : Expr). cond_e z at) x.is; long = ap (λ (z : Expr). length (write_e z)) x.is ∙ one-long o x.operand; inside = b.1.1; deep = some-room }

  pub atom-at : (get_or ws at 0 ≡ 15 → ⊥) → (get_or ws at 0 ≡ 16 → ⊥) → cond_e e at ≡ atom at
  atom-at a b =
      let g : get_or (drop at ws) 0 0 ≡ get_or ws at 0 = get_or-drop at ws 0 0 ∙ (let z : at + 0 ≡ at = omega arith in rw z) in
      atom-is e at (drop at ws) rest (written names room (drop at ws) e rest h).0 (λ q. a (sym g ∙ q)) (λ q. b (sym g ∙ q))
