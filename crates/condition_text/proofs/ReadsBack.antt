-- Every condition of a sheet is a tree that a text can have: its text reads, as that tree and no other.
use Prim.Native.Nat.{ℕ, zero, suc, ◌+◌, ◌-◌, ◌<◌, ◌≤◌}
use native.Mathlib.Omega.{arith}
use native.Mathlib.Decide.{ℕ_discrete}
use mathlib.Core.Path.{◌≡◌, refl, sym, ap, ◌∙◌}
use mathlib.Core.List.{List, ◌++◌}
use lib.ListN.{length, get_or, drop, length-append, length-drop}
use lib.Seq.{drop_at, drop-drop}
use Rattle.heads.specs.Got.{ok, is_ok}
use Rattle.expr.specs.Tree.{Expr}
use Rattle.expr.specs.Read.{read_expr}
use Rattle.expr.specs.Write.{write_e}
use Rattle.expr.proofs.Accepted.{room-left}
use Rattle.expr.proofs.Written.{written}
use Rattle.expr.proofs.Least.{a_word}
use Rattle.condition.specs.Cond.{Cond, atom, unary, binary, Well}
use Rattle.condition.specs.Printed.{printed}
use Rattle.condition.specs.Written.{Reads}
use Rattle.condition.proofs.Reading.{reads-back}
use Rattle.condition_text.specs.Tree.{cond_e}
use Rattle.condition_text.proofs.OperandsAt.{binary-at, unary-at, atom-at}

-- what is left after some words
rest-is : (ws : List ℕ) (at : ℕ) (u r : List ℕ) → drop at ws ≡ u ++ r → r ≡ drop (at + length u) ws
rest-is ws at u r e = sym (drop_at u r (length u) refl) ∙ (ap (drop (length u)) (sym e) ∙ drop-drop (length u) at ws)

module _ (names : ℕ) (ws : List ℕ) (few : length ws ≤ 2048) where
  inside : (room at : ℕ) (e : Expr) (rest : List ℕ) → read_expr names room (drop at ws) ≡ ok e rest → at < length ws
  inside room at e rest h = omega (arith, a_word e, ap length (written names room (drop at ws) e rest h).0, length-append (write_e e) rest, length-drop at ws)

  well-binary : {o : ℕ} {l r c : Cond} → c ≡ binary o l r → o < 20 → Well l → Well r → Well c
  unfolding Well
  well-binary e h a b = rw e (h, (a, b))

  well-unary : {o : ℕ} {x c : Cond} → c ≡ unary o x → o < 2 → Well x → Well c
  unfolding Well
  well-unary e h a = rw e (h, a)

  well-atom : {n : ℕ} {c : Cond} → c ≡ atom n → n < 2048 → Well c
  unfolding Well
  well-atom e h = rw e h

  pub well : (room at : ℕ) (e : Expr) (rest : List ℕ) → read_expr names room (drop at ws) ≡ ok e rest → Well (cond_e e at)
  well zero at e rest h = absurd (omega (arith, room-left names zero (drop at ws) (ap is_ok h)))
  well (suc room) at e rest h = by (ℕ_discrete (get_or ws at 0) 15) (ℕ_discrete (get_or ws at 0) 16) (well room)
    where
      deep : suc room - 1 ≡ room
      deep = omega arith

      by : Dec (get_or ws at 0 ≡ 15) → Dec (get_or ws at 0 ≡ 16) → ((at : ℕ) (e : Expr) (rest : List ℕ) → read_expr names room (drop at ws) ≡ ok e rest → Well (cond_e e at)) → Well (cond_e e at)
      by (yes a) b next =
          let x = binary-at names (suc room) ws at e rest h a in
          let first : read_expr names room (drop (at + 2) ws) ≡ ok x.left x.mid = rw deep at x.first in
          let mid : x.mid ≡ drop (at + 2 + length (write_e x.left)) ws = rest-is ws (at + 2) (write_e x.left) x.mid (written names room (drop (at + 2) ws) x.left x.mid first).0 in
          let second : read_expr names room (drop (at + 2 + length (write_e x.left)) ws) ≡ ok x.right rest = rw (deep, mid) at x.second in
          well-binary x.is x.known (next (at + 2) x.left x.mid first) (next (at + 2 + length (write_e x.left)) x.right rest second)
      by (no a) (yes b) next =
          let x = unary-at names (suc room) ws at e rest h b in
          well-unary x.is x.known (next (at + 2) x.operand rest (rw deep at x.first))
      by (no a) (no b) next = well-atom (atom-at names (suc room) ws at e rest h a b) (omega (arith, inside (suc room) at e rest h))

-- the text of a condition of a sheet reads as its tree, and as no other
pub printed-reads : (names : ℕ) (ws : List ℕ) → length ws ≤ 2048 → (room at : ℕ) (e : Expr) (rest : List ℕ) → read_expr names room (drop at ws) ≡ ok e rest → Reads (printed 0 (cond_e e at)) (cond_e e at)
printed-reads names ws few room at e rest h = reads-back (cond_e e at) (well names ws few room at e rest h)
