-- A row that is read flat: its loop's invariant, and the laws of its turns.
use Rattle.std.specs.Prelude.{Result, Ok, Err, Some}
use Rattle.std.specs.Result.{IsErr, IsErrAnd}
use Rattle.refusal.specs.Number.{number_of}
use Rattle.refusal.specs.declared.Refusal.{Refusal}
use Rattle.refusal.specs.declared.Refusal.TheVariants.{Depth}
use Rattle.refusal.proofs.Numbers.{same_cause}
use Prim.Native.Nat.{ℕ, suc, ◌+◌, ◌-◌, ◌<◌, ◌≤◌}
use native.Mathlib.Omega.{arith}
use mathlib.Core.Path.{◌≡◌, refl, ap}
use mathlib.Core.List.{List}
use lib.ListN.{length, drop}
use Rattle.heads.specs.Got.{Got, ok, no, bare}
use Rattle.heads.specs.Form.{read_form, kids_of}
use Rattle.heads.specs.Answer.{Ans, read_got, read_end, Reads}
use Rattle.heads.specs.declared.Form.{Form}
use Rattle.heads.specs.declared.Form.TheVariants.{Leaf, Var, Unresolved, Prop, Two, Slice, Many, BinOp, UnaryOp, Case, IsNull, PatternPredicate, ListComprehension, PatternComprehension, ListPredicate, MapProjection}
use Rattle.heads.proofs.Rows.{Row, row_begun, row_next, row_stop, row_done}
use Rattle.expr.specs.Read.{no_more, times, read_expr}
use Rattle.expr.specs.Well.{WellForm}
use Rattle.expr.proofs.Rows.{kid_rows}
use Rattle.expr.proofs.Heads.{form-gives}
use Rattle.expr.proofs.Inverse.{never}
use Rattle.flat.specs.Plain.{Simple, PlainAt}
use Rattle.flat.specs.Skim.{Skims}
use Rattle.flat.proofs.Deeper.{Deep, same, deep}
use Rattle.flat.proofs.Flat.{simple-kids, flat-deep, flat-none}

-- h tells g, unless it says that room ran out
pub record Under (g h : Got (Unit {0})) : Type 0 where
  pub tells : (h ≡ no 6 → ⊥) → g ≡ h

under-deep : {g h l : Got (Unit {0})} → Under g h → Deep h l → Under g l
under-deep u same = u
under-deep u deep = record { tells = λ x. absurd (x refl) }

under_same : {g h l : Got (Unit {0})} → Under g h → h ≡ l → Under g l
under_same u e = rw e at u

-- a head that reads has few parts
kids-few : (names : ℕ) (f : Form) → WellForm names f → kids_of f < 8589934600
kids-few names (Leaf k) h = omega arith
kids-few names (Var v) h = omega arith
kids-few names (Unresolved x) h = omega arith
kids-few names (Prop x) h = omega arith
kids-few names (Two k) h = omega arith
kids-few names (Slice b) h = omega arith
kids-few names (Many k n) h = omega arith
kids-few names (BinOp o) h = omega arith
kids-few names (UnaryOp o) h = omega arith
kids-few names (Case b n) h = omega arith
kids-few names IsNull h = omega arith
kids-few names PatternPredicate h = omega arith
kids-few names (ListComprehension g) h = omega arith
kids-few names (PatternComprehension a b g) h = omega arith
kids-few names (ListPredicate g) h = omega arith
kids-few names (MapProjection n) h = omega arith

simple-few : {f : Form} {k : ℕ} (names : ℕ) → Simple f k → WellForm names f → k < 8589934600
simple-few {f} names s h = rw (simple-kids s) at (kids-few names f h)

-- where a plain head is found at p: it ends later, and it has few parts
pub record Found (ws : List ℕ) (names p q k : ℕ) : Type 0 where
  pub head : Form
  pub simple : Simple head k
  pub reads : read_form names (drop p ws) ≡ ok head (drop q ws)
  pub longer : p < q
  pub within : q ≤ length ws
  pub few : k < 8589934600

pub found : {ws : List ℕ} {names p q k : ℕ} → PlainAt ws names p (Ok (Some (q, k))) → Found ws names p q k
found {ws} {names} {p} {q} {k} y =
    record {
      head = y.0;
      simple = y.1.0;
      reads = y.1.1.0;
      longer = y.1.1.1.longer;
      within = y.1.1.1.within;
      few = simple-few names y.1.0 ((form-gives names (drop p ws)).given y.0 (drop q ws) y.1.1.0).1;
    }

-- an expression whose head is none, and the row of a plain head
module _ (names : ℕ) where
  no-head : {d n : ℕ} (c : ℕ) (r : List ℕ) → d ≡ suc c → read_form names r ≡ no n → read_expr names d r ≡ no n
  unfolding read_expr
  no-head c r z e = rw (z, e)

  module _ {ws : List ℕ} {p q k : ℕ} (f : Found ws names p q k) {left d rest : ℕ} (l c : ℕ) (x : left ≡ suc l) (y : d ≡ suc c) where
    plain-parts : rest ≡ k + l → Deep (bare (times left (read_expr names d) no_more (drop p ws))) (bare (times rest (read_expr names c) no_more (drop q ws)))
    plain-parts z = rw (x, y, z) (flat-deep names k (drop p ws) f.head (drop q ws) f.simple f.reads c l)

    plain-none : k ≡ 0 → rest ≡ l → bare (times left (read_expr names d) no_more (drop p ws)) ≡ bare (times rest (read_expr names d) no_more (drop q ws))
    plain-none z t = rw (x, y, t) (flat-none names k (drop p ws) f.head (drop q ws) f.simple f.reads c l z)

-- the loop's invariant: of the n from at on, those before p are read, and left are left, with room d
pub record Skimmed (names : ℕ) (ws : List ℕ) (at room n p left d : ℕ) : Type 0 where
  pub same : Under (bare (times n (read_expr names room) no_more (drop at ws))) (bare (times left (read_expr names d) no_more (drop p ws)))
  pub from : at ≤ p
  pub within : p ≤ length ws

pub skim-begin : (names : ℕ) (ws : List ℕ) (at room n : ℕ) → at ≤ length ws → Skimmed names ws at room n at n room
skim-begin names ws at room n h = record { same = record { tells = λ x. refl }; from = omega arith; within = h }

module _ {names : ℕ} {ws : List ℕ} {at room n p left d : ℕ} (l : Skimmed names ws at room n p left d) where
  -- what the rest of the row gives
  skim-ends : (r : Result ℕ Refusal) → Ans ws p (bare (times left (read_expr names d) no_more (drop p ws))) (read_got ws r) (read_end ws r) → Skims ws at (times n (read_expr names room) no_more) r
  skim-ends r y = record { same = (under_same l.same y.same).tells; from = omega arith; within = y.within }

  row : Row (kid_rows (read_expr names d)) ws p left 0 p
  row = row_begun _ _ _ _ l.within

  pub skim-done : left ≤ 0 → Skims ws at (times n (read_expr names room) no_more) (Ok p)
  skim-done h = skim-ends (Ok p) (row_done row h)

  module _ (h : 0 < left) where
    pub skim-next : {q : ℕ} → Ans ws p (bare (read_expr names d (drop p ws))) (ok tt (drop q ws)) q → Skimmed names ws at room n q (left - 1) d
    skim-next x =
        let y = row_next row h x in
        record { same = under_same l.same y.same; from = omega arith; within = y.within }

    pub skim-stop : {q : ℕ} (e : Refusal) (r : Result ℕ Refusal) → Ans ws p (bare (read_expr names d (drop p ws))) (no (number_of e)) q → IsErr r × IsErrAnd r (λ y. y ≡ e) → Skims ws at (times n (read_expr names room) no_more) r
    skim-stop e r x f = skim-ends r (row_stop row e r h x f)

    module _ (i : 0 < d) where
      pub skim-no : (e : Refusal) (r : Result ℕ Refusal) → PlainAt ws names p (Err e) → IsErr r × IsErrAnd r (λ y. y ≡ e) → Skims ws at (times n (read_expr names room) no_more) r
      skim-no e r x f =
          skim-stop {q = p} e r (record { same = ap bare (no-head names (d - 1) (drop p ws) (omega arith) x); from = omega arith; within = omega arith }) f

      module _ {q k : ℕ} (f : Found ws names p q k) where
        pub skim-parts : Skimmed names ws at room n q (left - 1 + k) (d - 1)
        skim-parts = record { same = under-deep l.same (plain-parts names f (left - 1) (d - 1) (omega arith) (omega arith) (omega arith)); from = omega arith; within = f.within }

        pub skim-none : k ≤ 0 → Skimmed names ws at room n q (left - 1 + k) d
        skim-none z = record { same = under_same l.same (plain-none names f (left - 1) (d - 1) (omega arith) (omega arith) (omega arith) (omega arith)); from = omega arith; within = f.within }

-- an answer that is not Depth is the definition's
pub told : {A : Type 0} {ws : List ℕ} {at : ℕ} {f : List ℕ → Got A} (r : Result ℕ Refusal) → Skims ws at f r → (r ≡ Err Depth → ⊥) → Reads ws at f r
told (Ok p) x h = record { same = x.same (λ y. never (cc)); from = x.from; within = x.within }
told (Err e) x h =
    record { same = x.same (λ y. h (ap (λ (z : Refusal). Err z) (same_cause e Depth cc))); from = x.from; within = x.within }
