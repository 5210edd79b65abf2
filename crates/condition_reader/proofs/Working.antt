-- What the machine does, an entry and an operator at a time.
use Prim.Native.Nat.{ℕ, suc, ◌+◌, ◌*◌, ◌-◌, ◌<◌, ◌≤◌}
use native.Mathlib.Omega.{arith}
use native.Mathlib.Numerals.{add-one}
use mathlib.Core.Path.{◌≡◌, sym, ap, ◌∙◌}
use mathlib.Core.List.{List, ◌∷◌}
use denote.Ref.{MutBor}
use lib.ListN.{length, get_or, drop, set, length-set}
use borrow.Author.Tests.{lt-ltb, le-ltb}
use Rattle.condition.specs.Cond.{binary_level}
use Rattle.condition.specs.Tokens.{bin}
use Rattle.condition.specs.Machine.{Work, work, unwind, rank_of}
use Rattle.condition_reader.specs.Fill.{stack_of, work_of, HasRoom, Lent, Written, Unwound, Turned}
use Rattle.condition_reader.specs.declared.machine.Machine.{Machine}
use Rattle.condition_reader.proofs.Stacked.{stack-two, stack_push, drop-two, drop-below}

-- the list that was lent, after two stores
lent : {old new : Machine} (i a b : ℕ) → new.list.ghost_name ≡ old.list.ghost_name → new.list.now ≡ set (set old.list.now i a) (i + 1) b → Lent old new
lent i a b n e = record { name = n; size = rw e (simp length-set) }

pub written : {kind operand : ℕ} {old new : Machine} → HasRoom 1 old → new.list.ghost_name ≡ old.list.ghost_name → new.list.now ≡ set (set old.list.now (old.first - 2) kind) (old.first - 2 + 1) operand → new.waiting ≡ old.waiting → new.first ≡ old.first - 2 → new.depth ≡ old.depth → Written kind operand old new
written {kind} {operand} {old} h n e s w d =
    let l = old.list.now in
    let i = old.first - 2 in
    let back : i + 2 ≡ old.first = omega arith in
    let g : old.first ≤ length l = old.within in
    record {
      same = rw (e, s, w, stack-two old.waiting l i kind operand (omega arith), drop-two l i kind operand (omega arith), back);
      waiting = s;
      first = omega arith;
      depth = d;
      lent = lent i kind operand n e;
    }

pub record Unwinding (limit : ℕ) (old new : Machine) : Type 0 where
  pub same : unwind limit (stack_of old.waiting old.list.now) (drop old.first old.list.now) ≡ unwind limit (stack_of new.waiting new.list.now) (drop new.first new.list.now)
  pub room : new.first + old.waiting * 2 ≡ old.first + new.waiting * 2
  pub less : new.waiting ≤ old.waiting
  pub depth : new.depth ≡ old.depth
  pub lent : Lent old new

-- the top of the stack goes
pops : (limit s k : ℕ) (l : List ℕ) (out : List ℕ) → s ≡ suc k → limit < get_or l (k * 2) 0 → unwind limit (stack_of s l) out ≡ unwind limit (stack_of k l) (15 ∷ (get_or l (k * 2 + 1) 0 ∷ out))
unfolding unwind stack_of
pops limit s k l out e h = rw (e, lt-ltb limit (get_or l (k * 2) 0) h)

stays : (limit s k : ℕ) (l : List ℕ) (out : List ℕ) → s ≡ suc k → get_or l (k * 2) 0 ≤ limit → unwind limit (stack_of s l) out ≡ work (stack_of s l) out
unfolding unwind stack_of
stays limit s k l out e h = rw (e, le-ltb limit (get_or l (k * 2) 0) h)

module _ {limit : ℕ} {old m : Machine} (i : Unwinding limit old m) where
  pub turns : {mid new : Machine} → 0 < m.waiting → limit < get_or m.list.now (m.waiting * 2 - 2) 0 → mid.list ≡ m.list → mid.waiting ≡ m.waiting - 1 → mid.first ≡ m.first → mid.depth ≡ m.depth → Written 15 (get_or m.list.now (m.waiting * 2 - 1) 0) mid new → Unwinding limit old new
  turns {mid} {new} h g l s f d w =
      let l' = i.lent in
      let w' = w.lent in
      let a : m.waiting * 2 - 2 ≡ (m.waiting - 1) * 2 = omega arith in
      let b : m.waiting * 2 - 1 ≡ (m.waiting - 1) * 2 + 1 = omega arith in
      let x = pops limit m.waiting (m.waiting - 1) m.list.now (drop m.first m.list.now) (omega arith) (rw a at g) in
      let y = w.same in
      record {
        same = i.same ∙ (x ∙ rw (← b) (ap (λ (v : Work). unwind limit v.stack v.out) (sym (rw (l, s, f) at y))));
        room = omega (arith, i.room, w.first, w.waiting);
        less = omega (arith, i.less, w.waiting);
        depth = w.depth ∙ (d ∙ i.depth);
        lent = record { name = w'.name ∙ (ap (λ (v : MutBor (List ℕ)). v.ghost_name) l ∙ l'.name); size = w'.size ∙ (ap (λ (v : MutBor (List ℕ)). length v.now) l ∙ l'.size) };
      }

  pub stops : 0 < m.waiting → get_or m.list.now (m.waiting * 2 - 2) 0 ≤ limit → Unwound limit old m
  stops h g =
      let a : m.waiting * 2 - 2 ≡ (m.waiting - 1) * 2 = omega arith in
      record { same = i.same ∙ stays limit m.waiting (m.waiting - 1) m.list.now (drop m.first m.list.now) (omega arith) (rw a at g); room = i.room; less = i.less; depth = i.depth; lent = i.lent }

  pub ends : m.waiting ≡ 0 → Unwound limit old m
  unfolding unwind stack_of
  ends e = record { same = i.same ∙ rw e; room = i.room; less = i.less; depth = i.depth; lent = i.lent }

-- a binary operator
pub joined : {old mid new : Machine} (rank : ℕ) {operator : ℕ} → HasRoom 1 old → rank ≡ rank_of old.depth (binary_level operator) → Unwound rank old mid → new.list.ghost_name ≡ mid.list.ghost_name → new.list.now ≡ set (set mid.list.now (mid.waiting * 2) rank) (mid.waiting * 2 + 1) operator → new.waiting ≡ mid.waiting + 1 → new.first ≡ mid.first → new.depth ≡ mid.depth → Turned (bin operator) old new
joined {old} {mid} {new} rank {operator} h k u n e s f d =
    let l = u.lent in
    let m = lent {old = mid} {new = new} (mid.waiting * 2) rank operator n e in
    let a : mid.waiting * 2 + 2 ≤ mid.first = omega (arith, u.room, u.less) in
    let b : mid.first ≤ length mid.list.now = mid.within in
    let g : unwind (rank_of old.depth (binary_level operator)) (stack_of old.waiting old.list.now) (drop old.first old.list.now) ≡ work_of mid = rw k at u.same in
    record {
      same = rw (g, ← k, e, s, f, add-one mid.waiting, stack_push mid.waiting mid.list.now rank operator (omega arith), drop-below mid.list.now mid.first (mid.waiting * 2) rank operator a);
      room = omega (arith, u.room);
      depth = d ∙ u.depth;
      lent = record { name = m.name ∙ l.name; size = m.size ∙ l.size };
    }
