-- The rows of an expression and a pattern: expressions, marks with their expressions, elements, parts.
use Rattle.std.proofs.Common.{drop, arith}
use Rattle.heads.specs.Answer.{Ans}
use Rattle.heads.proofs.Rows.{Rows, rows-rest}
use Rattle.heads.proofs.Shapes.{Rest, bare-bind, bare-head, bare-row, bare-map}
use Prim.Native.Nat.{ℕ, suc}
use mathlib.Core.Path.{◌≡◌, refl, ◌∙◌}
use mathlib.Core.List.{List}
use Rattle.heads.specs.Got.{Got, ok, no, bind, next, bare, word_in}
use Rattle.heads.specs.declared.Form.{Form}
use Rattle.heads.specs.Form.{read_form, kids_of, items_of, has_pattern}
use Rattle.heads.proofs.Reading.{onward, none, past, beyond, ended}
use Rattle.heads.specs.Head.{read_part, mark_low, mark_high, mark_kids}
use Rattle.expr.specs.Tree.{more, mark, elem, part, tree}
use Rattle.expr.specs.Read.{Reader, RestE, RestS, no_more, no_steps, times, marks, elem_one, elems, part_one, parts, maybe_pattern, after_form, read_expr}

-- expressions
module _ (P : Reader) where
  pub times_more : (K : RestE) (n : ℕ) (ws : List ℕ) → bare (times (suc n) P K ws) ≡ next (bare (P ws)) (λ r. bare (times n P K r))
  unfolding times
  times_more K n ws = bare-bind (P ws) _ _ (λ e r. bare-map (times n P K r) (λ es. more e es))

  pub times-end : (K : RestE) (ws : List ℕ) → bare (times 0 P K ws) ≡ bare (K ws)
  unfolding times
  times-end K ws = refl

  abbrev pub kid_rows : Rows
  kid_rows = record { all = λ n r. bare (times n P no_more r); one = λ r. bare (P r); more = times_more no_more; end = times-end no_more }

  pub times-rest : (K : RestE) (n : ℕ) (ws : List ℕ) → bare (times n P K ws) ≡ next (bare (times n P no_more ws)) (λ r. bare (K r))
  times-rest K = rows-rest kid_rows (λ n r. bare (times n P K r)) (λ r. bare (K r)) (times_more K) (times-end K)

-- expressions and what follows them are two readings
module _ {ws : List ℕ} {at : ℕ} (n : ℕ) (P : Reader) (K : RestE) where
  pub kids_then : {p : ℕ} {h : Got (Unit {0})} {e : ℕ} → Ans ws at (bare (times n P no_more (drop at ws))) (ok tt (drop p ws)) p → Ans ws p (bare (K (drop p ws))) h e → Ans ws at (bare (times n P K (drop at ws))) h e
  kids_then a b = record { same = rw (times-rest P K n (drop at ws), a.same, b.same); from = omega arith; within = b.within }

  pub kids_none : {p c : ℕ} → Ans ws at (bare (times n P no_more (drop at ws))) (no c) p → Ans ws at (bare (times n P K (drop at ws))) (no c) p
  kids_none a = record { same = rw (times-rest P K n (drop at ws), a.same); from = a.from; within = a.within }

-- marks of a kind, each with its expressions
abbrev pub mark_one : ℕ → Reader → Rest
mark_one kind P ws = bind (word_in (mark_low kind) (mark_high kind) ws) (λ w r. bare (times (mark_kids kind w) P no_more r))

pub marks-more : (kind : ℕ) (P : Reader) (n : ℕ) (ws : List ℕ) → bare (marks kind (suc n) P ws) ≡ next (mark_one kind P ws) (λ r. bare (marks kind n P r))
unfolding marks
marks-more kind P n ws =
    bare-row (word_in (mark_low kind) (mark_high kind) ws) _ _ _
    (λ w r. bare-map (times (mark_kids kind w) P (marks kind n P) r) (λ es. mark w es) ∙ times-rest P (marks kind n P) (mark_kids kind w) r)

pub marks-end : (kind : ℕ) (P : Reader) (ws : List ℕ) → bare (marks kind 0 P ws) ≡ ok tt ws
unfolding marks
marks-end kind P ws = refl

abbrev pub mark_rows : ℕ → Reader → Rows
mark_rows kind P = record { all = λ n r. bare (marks kind n P r); one = mark_one kind P; more = marks-more kind P; end = marks-end kind P }

-- a mark, and the expressions that follow it
module _ {ws : List ℕ} {at : ℕ} (kind : ℕ) (P : Reader) where
  pub mark_none : {p c : ℕ} → Ans ws at (word_in (mark_low kind) (mark_high kind) (drop at ws)) (no c) p → Ans ws at (mark_one kind P (drop at ws)) (no c) p
  mark_none a = none (λ w r. bare (times (mark_kids kind w) P no_more r)) a

  pub mark_then : {p w : ℕ} {h : Got (Unit {0})} {e : ℕ} → Ans ws at (word_in (mark_low kind) (mark_high kind) (drop at ws)) (ok w (drop p ws)) p → Ans ws p (bare (times (mark_kids kind w) P no_more (drop p ws))) h e → Ans ws at (mark_one kind P (drop at ws)) h e
  mark_then a b = onward (λ w r. bare (times (mark_kids kind w) P no_more r)) a b

-- elements
module _ (P : Reader) where
  pub elems-more : (K : RestS) (n : ℕ) (ws : List ℕ) → bare (elems (suc n) P K ws) ≡ next (bare (elem_one P ws)) (λ r. bare (elems n P K r))
  unfolding elems
  elems-more K n ws =
      bare-bind (elem_one P ws) _ _ (λ x r. bare-map (elems n P K r) (λ s. elem x.0.kind x.0.start x.0.end x.0.variable x.1 s))

  pub elems-end : (K : RestS) (ws : List ℕ) → bare (elems 0 P K ws) ≡ bare (K ws)
  unfolding elems
  elems-end K ws = refl

  abbrev pub elem_rows : Rows
  elem_rows = record { all = λ n r. bare (elems n P no_steps r); one = λ r. bare (elem_one P r); more = elems-more no_steps; end = elems-end no_steps }

  pub elems-rest : (K : RestS) (n : ℕ) (ws : List ℕ) → bare (elems n P K ws) ≡ next (bare (elems n P no_steps ws)) (λ r. bare (K r))
  elems-rest K = rows-rest elem_rows (λ n r. bare (elems n P K r)) (λ r. bare (K r)) (elems-more K) (elems-end K)

  -- parts
  part-one : (ws : List ℕ) → bare (part_one P ws) ≡ bind (read_part ws) (λ h r. bare (elems h.count P no_steps r))
  unfolding part_one
  part-one ws = bare-head (read_part ws) _ _ (λ h r. refl)

  pub parts_more : (n : ℕ) (ws : List ℕ) → bare (parts (suc n) P ws) ≡ next (bare (part_one P ws)) (λ r. bare (parts n P r))
  unfolding parts
  parts_more n ws =
      rw part-one
      (bare-row (read_part ws) _ _ _
      (λ h r. bare-map (elems h.count P (parts n P) r) (λ s. part h.path s) ∙ elems-rest (parts n P) h.count r))

  pub parts-end : (ws : List ℕ) → bare (parts 0 P ws) ≡ ok tt ws
  unfolding parts
  parts-end ws = refl

  abbrev pub part_rows : Rows
  part_rows = record { all = λ n r. bare (parts n P r); one = λ r. bare (part_one P r); more = parts_more; end = parts-end }

-- an expression: its head, the pattern if there is one, its own list and the items
module _ {ws : List ℕ} {at p q : ℕ} {f : Form} (names room d : ℕ) (l : room ≡ suc d) (one : Ans ws at (read_form names (drop at ws)) (ok f (drop p ws)) p) (two : Ans ws p (bare (maybe_pattern (has_pattern f) (read_expr names d) (drop p ws))) (ok tt (drop q ws)) q) where
  more_of : {h : Got (Unit {0})} {e : ℕ} → Ans ws q (bare (times (kids_of f) (read_expr names d) (marks 0 (items_of f) (read_expr names d)) (drop q ws))) h e → Ans ws at (bare (read_expr names room (drop at ws))) h e
  unfolding read_expr after_form
  more_of a =
      rw l
      (past (λ f r. after_form (read_expr names d) f r) one
      (beyond (maybe_pattern (has_pattern f) (read_expr names d) (drop p ws)) (λ s r. bind (times (kids_of f) (read_expr names d) (marks 0 (items_of f) (read_expr names d)) r) (λ es t. ok (tree f s es) t)) two
      (λ s. ended (times (kids_of f) (read_expr names d) (marks 0 (items_of f) (read_expr names d)) (drop q ws)) (λ es t. ok (tree f s es) t) (λ x r. refl) a)))

  pub kids_refused : {t c : ℕ} → Ans ws q (bare (times (kids_of f) (read_expr names d) no_more (drop q ws))) (no c) t → Ans ws at (bare (read_expr names room (drop at ws))) (no c) t
  kids_refused a = more_of (kids_none _ _ _ a)

  pub items_read : {t : ℕ} {h : Got (Unit {0})} {e : ℕ} → Ans ws q (bare (times (kids_of f) (read_expr names d) no_more (drop q ws))) (ok tt (drop t ws)) t → Ans ws t (bare (marks 0 (items_of f) (read_expr names d) (drop t ws))) h e → Ans ws at (bare (read_expr names room (drop at ws))) h e
  items_read a b = more_of (kids_then _ _ _ a b)
