-- Laws of a row as the code tells it: its name is small (`name_small`, `names_small`, `places_small`); whether a name that was sought is visible (`unseen`,
-- `once-seen`) and is not `*` (`spared`), and E2008 by it is the definition's (`misplaced-as`).
use Rattle.std.specs.Prelude.{Option, None, Some, is_some}
use Rattle.std.specs.Option.{option_eq, MatchOption}
use borrow.Author.Tests.{eqb-true, eqb-false}
use Rattle.steps.specs.Memory.{is_the, names_in}
use Prim.Native.Nat.{ℕ, ◌<◌, ◌≤◌}
use native.Mathlib.Omega.{arith}
use mathlib.Core.Path.{◌≡◌, refl, sym}
use mathlib.Core.Bool.{Bool, true, false, cond, not}
use mathlib.Core.List.{List, [], ◌∷◌}
use lib.Dec.{eqb}
use Rattle.tables.specs.Row.{Row, row}
use Rattle.semantics.specs.Log.{Finding, finding}
use Rattle.semantics.specs.Resolve.{Hit, hit}
use Rattle.semantics.specs.Kinds.{misplaced}
use Rattle.fused.specs.Fused.{told, when}
use Rattle.visible.specs.Visible.{answer, is_of}
use Rattle.visible.specs.declared.Newest.{Newest}
use Rattle.rows.specs.Rows.{shown}
use Rattle.rowless.specs.Rowless.{places}
use Rattle.scope.specs.Graph.{indexed}
use Rattle.steps.specs.Hold.{Fine, Fits, Ready, InRange, ShownTo, name_in, kind_in, misplaced_in}
use Rattle.steps.specs.declared.Walk.{Walk}
use Rattle.steps.specs.declared.context.Context.{Context}

-- whether a name is visible
pub unseen : (o : Option Hit) (p : ℕ) {r : Option Newest} → r ≡ answer o p → is_some r ≡ false → o ≡ None
unseen None p q e = refl
unseen (Some (hit v u)) p q e = let z : true ≡ false = rw q at e in cc

pub once-seen : (o : Option Hit) (p : ℕ) {r : Option Newest} → r ≡ answer o p → is_some r ≡ true → o ≡ None → ⊥
once-seen None p q e n = let z : false ≡ true = rw q at e in absurd (cc)
once-seen (Some (hit v u)) p q e n = absurd (cc)

-- whether a name that is visible is of that scope
pub found-of : (o : Option Hit) (p c : ℕ) {r : Bool} (P : Newest → Type 0) → ((n : Newest) → P n → r ≡ eqb n.scope c) → MatchOption (answer o p) (r ≡ false) P → r ≡ is_of c (answer o p)
found-of None p c P f h = h
found-of (Some (hit v u)) p c P f h = f _ h

-- the test against the name `*`
pub spared : (x : ℕ) (o : Option ℕ) {t : Bool} → t ≡ not (option_eq eqb o (Some x)) → is_the x o ≡ not t
spared x None q = rw q
spared x (Some y) q = rw q (go (eqb x y) (eqb y x) refl refl)
  where
    go : (a b : Bool) → eqb x y ≡ a → eqb y x ≡ b → a ≡ not (not b)
    go true true p q = refl
    go false false p q = refl
    go true false p q = absurd (eqb-false y x q (sym (eqb-true x y p)))
    go false true p q = absurd (eqb-false x y p (sym (eqb-true y x q)))

pub name_small : {j : ℕ} {c : Context} {w : Walk} {o : Option Row} {r : Option (ℕ × ℕ)} → Ready j c w → ShownTo (names_in c) o r → name_in r < 4294967295
name_small {c = c} {r = r} y q = go r q.range
  where
    go : (r : Option (ℕ × ℕ)) → InRange (names_in c) r → name_in r < 4294967295
    go (Some (x, k)) q = omega (arith, q.0, y.fit.stack, y.fit.listed, y.fit.within, y.fine.short)
    go None q = omega arith

-- names and places are few
pub names_small : {j : ℕ} {c : Context} {w : Walk} → Ready j c w → names_in c ≤ 2049
names_small r = omega (arith, r.fit.listed, r.fit.stack, r.fit.within, r.fine.short)

pub places_small : {e t u : ℕ} {c : Context} {w : Walk} → Fine c → Fits e t u c w → places w.rowless ≤ 4096
places_small h f = omega (arith, f.stack, f.rowless, f.within, h.short)

-- E2008
pub misplaced-as : (checks : Bool) (o : Option Row) (one want a b : ℕ) (ks : List Finding) →
    told (cond (misplaced_in checks want (shown o)) (finding 2008 a b (Some (indexed (name_in (shown o)))) one (kind_in (shown o)) ∷ []) []) ks ≡ when checks (told (misplaced one want a b o)) ks
unfolding told misplaced
misplaced-as true None one want a b ks = refl
misplaced-as false None one want a b ks = refl
misplaced-as true (Some (row i y l c d)) one want a b ks = go (eqb l want)
  where
    go : (t : Bool) → told (cond (not t) (finding 2008 a b (Some (indexed y)) one l ∷ []) []) ks ≡ told (cond t [] (finding 2008 a b (Some (indexed y)) one l ∷ [])) ks
    go true = refl
    go false = refl
misplaced-as false (Some (row i y l c d)) one want a b ks = refl
