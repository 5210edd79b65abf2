-- What waits in a queue after one of them was set.
use Prim.Native.Nat.{ℕ, ◌<◌}
use mathlib.Core.Bool.{Bool, true, false, cond}
use mathlib.Core.List.{List, []}
use mathlib.Core.Path.{◌≡◌, refl, sym}
use borrow.Author.Tests.{eqb-true, eqb-false}
use lib.Dec.{eqb}
use lib.ListN.{length, set}
use lib.Seq.{get_or-set_same, get_or-set_other}
use Rattle.dispatcher.specs.Dispatcher.{waiting}

pub set-one : (qs : List (List ℕ)) (p q : ℕ) (l : List ℕ) → p < length qs → waiting (set qs p l) q ≡ cond (eqb p q) l (waiting qs q)
set-one qs p q l h = by (eqb p q) refl
  where
    by : (b : Bool) → eqb p q ≡ b → waiting (set qs p l) q ≡ cond b l (waiting qs q)
    by true e = let z : p ≡ q = eqb-true p q e in rw (← z) (get_or-set_same qs p l [] h)
    by false e = get_or-set_other qs p q l [] (λ z. eqb-false p q e (sym z))
