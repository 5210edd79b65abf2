-- An operator's text from its pieces and its operands' texts, and an atom's.
use Prim.Native.Nat.{ℕ, suc, ◌+◌, ◌-◌, ◌<◌, ◌≤◌}
use native.Mathlib.Omega.{arith}
use mathlib.Core.Path.{◌≡◌, refl, sym, ap, ◌∙◌}
use mathlib.Core.Bool.{Bool, true, false}
use mathlib.Core.Logic.{⊎_elim}
use mathlib.Core.List.{List, [], ◌∷◌, ◌++◌, append_assoc, append-nil}
use lib.Dec.{leb, ltb}
use lib.ListN.{length, get_or, drop, length-append, length-drop}
use borrow.Author.Tests.{leb-true}
use Rattle.std.proofs.lemmas.Bool.{cases_lt}
use Rattle.std.proofs.lemmas.List.{get_or_past}
use Rattle.words.proofs.Digits.{length-decimal, width-le}
use Rattle.heads.specs.Got.{Got, ok, no, bare}
use Rattle.expr.specs.Tree.{Expr}
use Rattle.expr.specs.Read.{read_expr}
use Rattle.expr.specs.Write.{write_e}
use Rattle.expr.proofs.Accepted.{ok-inverse}
use Rattle.expr.proofs.Written.{written}
use Rattle.expr.proofs.Least.{a_word}
use Rattle.condition.specs.Cond.{Cond, unary, binary, binary_level, unary_level, left_level, binary_signs, binary_sign, unary_signs, unary_sign, atom_text}
use Rattle.condition.specs.Printed.{wrap, printed}
use Rattle.condition.proofs.Tables.{all-below}
use Rattle.condition_text.specs.Tree.{cond_e, printed_at}
use Rattle.condition_text.specs.Skip.{Skips}
use Rattle.condition_text.specs.Write.{maybe, Wrote, Ready, Put}
use Rattle.condition_text.proofs.OperandsAt.{BinaryAt, UnaryAt, binary-at, unary-at, atom-at}
use Rattle.condition_text.proofs.Stages.{Stage, begin, piece, put}

-- how long pieces are
pub bracket-short : (b : Bool) (x : ℕ) → length (maybe b (x ∷ [])) ≤ 1
bracket-short true x = omega arith
bracket-short false x = omega arith

-- a sign has at most so many bytes where each of the table has; past the table it has none
short : (signs : List (List ℕ)) (most : ℕ) → ((o : ℕ) → o < length signs → leb (length (get_or signs o [])) most ≡ true) → (o : ℕ) → length (get_or signs o []) ≤ most
short signs most h o =
    ⊎_elim (λ l. leb-true (length (get_or signs o [])) most (h o l)) (λ l. rw (get_or_past signs o [] l) (omega arith)) (cases_lt o (length signs))

pub binary-short : (o : ℕ) → length (binary_sign o) ≤ 13
binary-short = short binary_signs 13 (all-below 20 (λ k. leb (length (binary_sign k)) 13) refl)

pub unary-short : (o : ℕ) → length (unary_sign o) ≤ 4
unary-short = short unary_signs 4 (all-below 2 (λ k. leb (length (unary_sign k)) 4) refl)

pub atom-short : (at : ℕ) → at ≤ 2048 → length (atom_text at) ≤ 15
atom-short at h = omega (arith, length-decimal at, width-le at (omega arith))

-- brackets around
wrapped : (b : Bool) (x : List ℕ) → maybe b (40 ∷ []) ++ (x ++ maybe b (41 ∷ [])) ≡ wrap b x
wrapped true x = refl
wrapped false x = append-nil x

binary-text : (m o : ℕ) (l r : Cond) → let b = ltb (binary_level o) m in (((([] ++ maybe b (40 ∷ [])) ++ printed (left_level o) l) ++ binary_sign o) ++ printed (suc (binary_level o)) r) ++ maybe b (41 ∷ []) ≡ printed m (binary o l r)
unfolding printed
binary-text m o l r = sym (sym (wrapped (ltb (binary_level o) m) (printed (left_level o) l ++ (binary_sign o ++ printed (suc (binary_level o)) r))) ∙ simp append_assoc)

unary-text : (m o : ℕ) (x : Cond) → let b = ltb (unary_level o) m in ((([] ++ maybe b (40 ∷ [])) ++ unary_sign o) ++ printed (unary_level o) x) ++ maybe b (41 ∷ []) ≡ printed m (unary o x)
unfolding printed
unary-text m o x = sym (sym (wrapped (ltb (unary_level o) m) (unary_sign o ++ printed (unary_level o) x)) ∙ simp append_assoc)

-- the words of an expression that is read
abbrev pub length_of : Got Expr → ℕ
length_of (ok e r) = length (write_e e)
length_of (no c) = 0

-- an accepted expression at the word `at`, to be printed in a place of level m from byte k on
pub record Task : Type 0 where
  pub ws : List ℕ
  pub names : ℕ
  pub room : ℕ
  pub at : ℕ
  pub m : ℕ
  pub k : ℕ
  pub old : List ℕ
  pub ready : Ready (read_expr names room (drop at ws)) ws at k (length old)

abbrev pub task : (ws : List ℕ) (names room at m k : ℕ) (old : List ℕ) → Ready (read_expr names room (drop at ws)) ws at k (length old) → Task
task ws names room at m k old h = record { ws = ws; names = names; room = room; at = at; m = m; k = k; old = old; ready = h }

rest-is : {g : Got Expr} {e : Expr} {r q : List ℕ} → g ≡ ok e r → bare g ≡ ok tt q → r ≡ q
rest-is p q = let z = rw p at q in cc

module _ (e : Task) where
  -- what is read at a word with this room for levels
  abbrev pub reads : ℕ → ℕ → Got Expr
  reads room at = read_expr e.names room (drop at e.ws)

  abbrev tree : Expr
  tree = (ok-inverse (reads e.room e.at) e.ready.fine).0

  abbrev left_over_lem : List ℕ
  left_over_lem = (ok-inverse (reads e.room e.at) e.ready.fine).1.0

  reads_so : reads e.room e.at ≡ ok tree left_over_lem
  reads_so = (ok-inverse (reads e.room e.at) e.ready.fine).1.1

  spelt : drop e.at e.ws ≡ write_e tree ++ left_over_lem
  spelt = (written e.names e.room (drop e.at e.ws) tree left_over_lem reads_so).0

  abbrev code : ℕ
  code = get_or e.ws e.at 0

  abbrev number : ℕ
  number = get_or e.ws (e.at + 1) 0

  -- the text so far, up to a word and a byte, with bytes to spare
  abbrev pub Sofar : List ℕ → ℕ → ℕ → List ℕ → ℕ → Type 0
  Sofar t p spare new j = Stage e.ws e.at e.k e.old t p spare new j

  -- the expression at a word was put
  abbrev pub Puts-at : ℕ → ℕ → ℕ → ℕ → List ℕ → List ℕ → ℕ → ℕ → Type 0
  Puts-at m room at k old new next end = Put (reads room at) write_e (printed_at m at) e.ws at k old new next end

  -- two operands
  module _ (c : code ≡ 15) where
    pub operator : BinaryAt e.names e.room e.ws e.at tree left_over_lem
    operator = binary-at e.names e.room e.ws e.at tree left_over_lem reads_so c

    pub binary-begun : Sofar [] (e.at + 2) 15 e.old e.k
    binary-begun = begin (e.at + 2) 15 e.ready (omega arith) operator.inside (omega arith)

    pub left-shorter : length_of (reads (e.room - 1) (e.at + 2)) < length_of (reads e.room e.at)
    left-shorter = rw (operator.first, reads_so) (omega (arith, operator.long))

    -- the left operand was put
    module _ (l : ℕ) {a le ln : ℕ} {mid new : List ℕ} (p : Puts-at l (e.room - 1) (e.at + 2) a mid new ln le) where
      pub second : reads (e.room - 1) ln ≡ ok operator.right left_over_lem
      second = rw (p.is operator.left operator.mid operator.first).0 at operator.second

      pub right-shorter : length_of (reads (e.room - 1) ln) < length_of (reads e.room e.at)
      right-shorter = rw (second, reads_so) (omega (arith, operator.long))

      -- and the right one, and the closing bracket
      pub binary-put : {o level r b re rn end : ℕ} {mid' new' last : List ℕ} → o ≡ number → level ≡ binary_level o → l ≡ left_level o → r ≡ level + 1 → Puts-at r (e.room - 1) ln b mid' new' rn re → Sofar ((((([] ++ maybe (ltb level e.m) (40 ∷ [])) ++ printed_at l (e.at + 2) operator.left) ++ binary_sign o) ++ printed_at r ln operator.right) ++ maybe (ltb level e.m) (41 ∷ [])) rn 0 last end → Puts-at e.m e.room e.at e.k e.old last rn end
      binary-put {o} {level} {r} eo el ll er q s =
          let n = (p.is operator.left operator.mid operator.first).1.0 in
          let v : level ≡ binary_level number = el ∙ ap binary_level eo in
          let u : l ≡ left_level number = ll ∙ ap left_level eo in
          let z : r ≡ suc (binary_level number) = omega (arith, er, v) in
          let y : cond_e tree e.at ≡ binary number (cond_e operator.left (e.at + 2)) (cond_e operator.right ln) = rw n operator.is in
          let t = binary-text e.m number (cond_e operator.left (e.at + 2)) (cond_e operator.right ln) in
          put (rw (u, z, v, eo) at s) tree reads_so (q.is operator.right left_over_lem second).0 spelt e.ready.inside (t ∙ ap (printed e.m) (sym y))

  -- one operand
  module _ (c : code ≡ 16) where
    pub prefix : UnaryAt e.names e.room e.ws e.at tree left_over_lem
    prefix = unary-at e.names e.room e.ws e.at tree left_over_lem reads_so c

    pub unary-begun : Sofar [] (e.at + 2) 15 e.old e.k
    unary-begun = begin (e.at + 2) 15 e.ready (omega arith) prefix.inside (omega arith)

    pub operand-shorter : length_of (reads (e.room - 1) (e.at + 2)) < length_of (reads e.room e.at)
    operand-shorter = rw (prefix.first, reads_so) (omega (arith, prefix.long))

    pub unary-put : {o level b xe xn end : ℕ} {mid new last : List ℕ} → o ≡ number → level ≡ unary_level o → Puts-at level (e.room - 1) (e.at + 2) b mid new xn xe → Sofar (((([] ++ maybe (ltb level e.m) (40 ∷ [])) ++ unary_sign o) ++ printed_at level (e.at + 2) prefix.operand) ++ maybe (ltb level e.m) (41 ∷ [])) xn 0 last end → Puts-at e.m e.room e.at e.k e.old last xn end
    unary-put {o} {level} eo el q s =
        let v : level ≡ unary_level number = el ∙ ap unary_level eo in
        let t = unary-text e.m number (cond_e prefix.operand (e.at + 2)) in
        put (rw (v, eo) at s) tree reads_so (q.is prefix.operand left_over_lem prefix.first).0 spelt e.ready.inside (t ∙ ap (printed e.m) (sym prefix.is))

  -- no operand
  pub atom-fits : e.k + length (atom_text e.at) ≤ length e.old
  atom-fits = omega (arith, a_word tree, ap length spelt, length-append (write_e tree) left_over_lem, length-drop e.at e.ws, e.ready.room, e.ready.inside, e.ready.few, atom-short e.at (omega (arith, e.ready.inside, e.ready.few)))

  pub atom-put : {next end : ℕ} {new : List ℕ} → (code ≡ 15 → ⊥) → (code ≡ 16 → ⊥) → Skips e.ws e.names e.room e.at next → Wrote (atom_text e.at) e.k e.old new end → Puts-at e.m e.room e.at e.k e.old new next end
  unfolding printed
  atom-put {next} a b s w =
      let d : left_over_lem ≡ drop next e.ws = rest-is reads_so s.ends in
      let n : e.at < next = omega (arith, a_word tree, ap length d, length-drop next e.ws, ap length spelt, length-append (write_e tree) left_over_lem, length-drop e.at e.ws, e.ready.inside, s.within) in
      put (piece (begin next 15 e.ready s.from s.within (omega arith)) 15 0 w (atom-short e.at (omega (arith, e.ready.inside, e.ready.few))) (omega arith)) tree reads_so d spelt e.ready.inside (sym (ap (printed e.m) (atom-at e.names e.room e.ws e.at tree left_over_lem reads_so a b)))
