-- What each walk reads first and what is left then (`..-begins`), and what is left after what it does itself (`elem-bound`, `part-bound`,
-- `head-done`).
use Rattle.std.specs.Prelude.{Some}
use Prim.Native.Nat.{ℕ, suc, ◌-◌, ◌<◌}
use native.Mathlib.Omega.{arith}
use mathlib.Core.Path.{◌≡◌, refl, ap}
use lib.ListN.{drop}
use Rattle.heads.specs.Got.{ok, any_word, word_in}
use Rattle.heads.specs.Answer.{Ans}
use Rattle.heads.specs.Form.{read_form, kids_of, items_of}
use Rattle.heads.specs.Head.{read_part, read_elem, mark_low, mark_high, mark_kids}
use Rattle.heads.specs.declared.Form.{Form}
use Rattle.heads.specs.declared.Part.{Part}
use Rattle.heads.specs.declared.Elem.{Elem}
use Rattle.heads.proofs.Chain.{step, last}
use Rattle.semantics.specs.Kinds.{Setting, plain, settings}
use Rattle.fused.specs.Fused.{Mode, elem_go, elem_step, part_go, pattern_go, mark_go, rest_go, expr_go, head_of, tail_of}
use Rattle.steps.specs.Memory.{words_in, names_in, world_at}
use Rattle.steps.specs.Hold.{Ready, Steps, cost_of, path_step}
use Rattle.steps.specs.declared.Walk.{Walk}
use Rattle.steps.specs.declared.context.Context.{Context}
use Rattle.walk.specs.Goes.{path_cost, expr_at, row_at, rest_at, inner_at, mark_at, marks_at, elem_at, elems_at, part_at, parts_at, pattern_at}
use Rattle.walk.proofs.Paid.{form-paid, part-paid, elem-paid}
use Rattle.walk.proofs.Stage.{Stage, placed, start, read, did}

module _ {c : Context} {w : Walk} (room : ℕ) (mode : Mode) (r : Ready 0 c w) where
  -- an element, then what it binds, then its property
  pub elem-begins : Stage (Some room) 0 c w (elem_at c room mode) 0 w (λ id u v. step read_elem λ h. last (row_at c room mode h.property plain id (elem_step (world_at c id) mode h v)))
  unfolding elem_go
  elem-begins = start _ r (λ id s t. refl)

  module _ {h : Elem} {p : ℕ} (a : Ans (words_in c) w.at (read_elem (drop w.at (words_in c))) (ok h (drop p (words_in c))) p) where
    pub elem-read : Stage (Some room) 0 c w (elem_at c room mode) 3 (placed w p) (λ id u v. last (row_at c room mode h.property plain id (elem_step (world_at c id) mode h v)))
    elem-read = read elem-begins 3 a (omega (arith, (elem-paid _ _ _ h a).0))

    pub elem-bound : {w' : Walk} → Steps 3 c (placed w p) w' (λ id. elem_step (world_at c id) mode h) → Stage (Some room) 0 c w (elem_at c room mode) 0 w' (λ id u v. last (row_at c room mode h.property plain id v))
    elem-bound x = did _ 0 (omega arith) (omega arith) (omega arith) elem-read x

  -- a part, then its path, then its elements
  pub part-begins : Stage (Some room) 0 c w (part_at c room mode) 0 w (λ id u v. step read_part λ h. last (elems_at c room mode h.count id (path_step (world_at c id) mode h.path v)))
  unfolding part_go
  part-begins = start _ r (λ id s t. refl)

  module _ {h : Part} {p : ℕ} (a : Ans (words_in c) w.at (read_part (drop w.at (words_in c))) (ok h (drop p (words_in c))) p) where
    pub part-read : Stage (Some room) 0 c w (part_at c room mode) (path_cost h.path) (placed w p) (λ id u v. last (elems_at c room mode h.count id (path_step (world_at c id) mode h.path v)))
    part-read = read part-begins (path_cost h.path) a (omega (arith, (part-paid _ _ _ h a).0))

    pub part-bound : {w' : Walk} → Steps (path_cost h.path) c (placed w p) w' (λ id. path_step (world_at c id) mode h.path) → Stage (Some room) 0 c w (part_at c room mode) 0 w' (λ id u v. last (elems_at c room mode h.count id v))
    part-bound x = did _ 0 (omega arith) (omega arith) (omega arith) part-read x

  -- how many parts, then those
  pub pattern-begins : Stage (Some room) 0 c w (pattern_at c room mode) 0 w (λ id u v. step any_word λ n. last (parts_at c room mode n id v))
  unfolding pattern_go
  pattern-begins = start _ r (λ id s t. refl)

  -- a mark's word, then its expressions
  pub mark-begins : (kind : ℕ) {lo hi : ℕ} → lo ≡ mark_low kind → hi ≡ mark_high kind → Stage (Some room) 0 c w (mark_at c room mode kind) 0 w (λ id u v. step (word_in lo hi) λ k. last (row_at c room mode (mark_kids kind k) plain id v))
  unfolding mark_go
  mark-begins kind p q = start _ r (λ id s t. rw (p, q))

  module _ (f : Form) (set : Setting) where
    -- a head's pattern, then its expressions, then its items
    pub rest-begins : Stage (Some room) 0 c w (rest_at c room mode f set) 0 w (λ id u v. step (inner_at c room mode f id v) λ x. step (row_at c room mode (kids_of f) (settings (world_at c id).is_id f set) id x) λ y. last (marks_at c room mode 0 (items_of f) id y))
    unfolding rest_go
    rest-begins = start _ r (λ id s t. refl)

  module _ (set : Setting) (some : 0 < room) where
    -- a head, then what it does, then what follows it, then what it does after that
    pub expr-begins : Stage (Some room) 0 c w (expr_at c room mode set) 0 w (λ id u v. step (read_form (names_in c)) λ f. step (rest_at c (room - 1) mode f set id (head_of (world_at c id) mode f set v)) λ x. last (ok (tail_of mode f u x)))
    unfolding expr_go
    expr-begins =
        let e : room ≡ suc (room - 1) = omega arith in
        start {G = expr_at c room mode set} _ r (λ id s t. ap (λ (d : ℕ). expr_go (world_at c id) (names_in c) d mode set s t) e)

    module _ {f : Form} {p : ℕ} (a : Ans (words_in c) w.at (read_form (names_in c) (drop w.at (words_in c))) (ok f (drop p (words_in c))) p) where
      pub head-read : Stage (Some room) 0 c w (expr_at c room mode set) (cost_of f) (placed w p) (λ id u v. step (rest_at c (room - 1) mode f set id (head_of (world_at c id) mode f set v)) λ x. last (ok (tail_of mode f u x)))
      head-read = read expr-begins (cost_of f) a (omega (arith, (form-paid _ _ _ _ f a).0))

      pub head-done : {w' : Walk} → Steps (cost_of f) c (placed w p) w' (λ id. head_of (world_at c id) mode f set) → Stage (Some room) 0 c w (expr_at c room mode set) 0 w' (λ id u v. step (rest_at c (room - 1) mode f set id v) λ x. last (ok (tail_of mode f u x)))
      head-done x = did _ 0 (omega arith) (omega arith) (omega arith) head-read x
