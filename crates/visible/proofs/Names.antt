-- Laws of what the words say of a name: the scope of its newest entry alone where its own scope binds it (`newest-binds`; `descends-above`
-- where a scope is opened), what is looked up by what is told (`looked-up`), and words that hold nothing yet (`empty`).
use Rattle.std.specs.Prelude.{Option, None, Some}
use Prim.Native.Nat.{ℕ, ◌<◌, ◌≤◌}
use native.Mathlib.Omega.{arith}
use mathlib.Core.Path.{◌≡◌, refl, sym, ◌∙◌}
use mathlib.Core.Bool.{Bool, true, false, cond, ◌&&◌, ◌||◌, and-false}
use mathlib.Core.List.{List, [], ◌∷◌}
use lib.Dec.{eqb}
use lib.ListN.{length, get_or}
use borrow.Author.Tests.{ne_eqb, eqb-false}
use Rattle.scope.specs.Graph.{Name, same_name}
use Rattle.semantics.specs.Resolve.{Hit, hit, Seen, seen, lookup, binds}
use Rattle.visible.specs.Visible.{scope_of, answer, place, seens, Descends, is_of, Tabled}
use Rattle.visible.specs.declared.Newest.{Newest}

-- a list that descends from p descends from any higher c, as from a scope that is opened
pub descends-above : (c p : ℕ) (l : List Seen) → p ≤ c → Descends p l → Descends c l
unfolding Descends
descends-above c p [] h f = tt
descends-above c p (seen y u q ∷ l) h f = (omega arith, f.1)

-- where no scope is above p, none is a higher c
unbound : (c p : ℕ) (x : Name) (l : List Seen) → p < c → Descends p l → binds c x l ≡ false
unfolding Descends binds
unbound c p x [] h f = refl
unbound c p x (seen y u q ∷ l) h f = rw (ne_eqb q c (λ e. omega arith), and-false (same_name x y)) (unbound c q x l (omega arith) f.1)

pub newest-binds : (c : ℕ) (x : Name) (l : List Seen) → Descends c l → is_of c (answer (lookup x l) (scope_of x l)) ≡ binds c x l
unfolding Descends binds lookup scope_of
newest-binds c x [] f = refl
newest-binds c x (seen y (hit v o) p ∷ l) f = go (same_name x y) (eqb p c) refl (newest-binds c x l (descends-above c p l f.0 f.1))
  where
    go : (b d : Bool) → eqb p c ≡ d → is_of c (answer (lookup x l) (scope_of x l)) ≡ binds c x l →
        is_of c (answer (cond b (Some (hit v o)) (lookup x l)) (cond b p (scope_of x l))) ≡ b && d || binds c x l
    go true true e h = e
    go true false e h = e ∙ sym (unbound c p x l (omega (arith, f.0, eqb-false p c e)) f.1)
    go false true e h = h
    go false false e h = h

-- what is told of a name, as what is looked up
abbrev pub hit_of : Option Newest → Option Hit
hit_of None = None
hit_of (Some newest) = Some (hit newest.variable newest.via)

pub looked-up : (o : Option Hit) (p : ℕ) → hit_of (answer o p) ≡ o
looked-up None p = refl
looked-up (Some (hit v o)) p = refl

-- zeros for the names, and no entries
pub empty : (n : ℕ) (m : List ℕ) → n ≤ length m → ((x : ℕ) → x < n → get_or m x 0 ≡ 0) → Tabled n 0 m
unfolding place seens
empty n m h z = record { room = omega arith; heads = z; prevs = λ i l. absurd (omega arith); named = λ i l. absurd (omega arith) }

pub seens-none : (n : ℕ) (m : List ℕ) → seens n 0 m ≡ []
unfolding seens
seens-none n m = refl
