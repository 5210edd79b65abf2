-- A queue that waits is served before it has lain ahead for long (`serving`): an add leaves its oldest item and where the round begins
-- (`later`), and a take serves it, or another after which it lies less far ahead (`nearer`).
use Prim.Native.Nat.{ℕ, suc, ◌<◌}
use mathlib.Core.Bool.{Bool, true, false, cond}
use mathlib.Core.List.{List, [], ◌∷◌, ◌++◌}
use mathlib.Core.Logic.{⊎_elim}
use mathlib.Core.Path.{◌≡◌, refl, sym, ◌∙◌}
use native.Mathlib.Omega.{arith}
use borrow.Author.Tests.{eqb-true, eqb-false}
use lib.Dec.{eqb}
use lib.ListN.{length, set, get_or-eq_default}
use lib.Seq.{get_or-set_other}
use Rattle.std.specs.Prelude.{Option, Some}
use Rattle.std.proofs.lemmas.Bool.{cases_lt}
use Rattle.dispatcher.specs.Dispatcher.{State, state, waiting, add, begins, take}
use Rattle.dispatcher.specs.Turns.{Call, adds, takes, Event, log, came_out, takes_in}
use Rattle.dispatcher.proofs.Ahead.{ahead, there, closer}
use Rattle.dispatcher.proofs.Lists.{set-one}
use Rattle.dispatcher.proofs.Looking.{Found, begins-below, looks}
use Rattle.dispatcher.proofs.One.{Sound, with-one, adding, one-add, one-served}

nil≢cons : {x : ℕ} {xs : List ℕ} → [] ≡ x ∷ xs → ⊥
nil≢cons e = cc

least : (a b : ℕ) → (a < b → ⊥) → (a ≡ b → ⊥) → b < a
least a b g o = omega arith

-- an add leaves where the round begins, and the oldest item of a queue that waits
record Later (qs : List (List ℕ)) (last : Option ℕ) (q x : ℕ) (t : State) : Type 0 where
  pub after : List (List ℕ)
  pub rest : List ℕ
  pub same : t ≡ state after last
  pub waits : waiting after q ≡ x ∷ rest

later : (p y : ℕ) (qs : List (List ℕ)) (last : Option ℕ) (q x : ℕ) (xs : List ℕ) → Sound (state qs last) → waiting qs q ≡ x ∷ xs → Later qs last q x (add p y (state qs last)).1
later p y qs last q x xs h e =
    ⊎_elim
    (λ r. rw r.same (record { after = qs; rest = xs; same = refl; waits = e }))
    (λ r. rw r.same (by (eqb p q) refl (set-one qs p q (waiting qs p ++ (y ∷ [])) (omega (arith, r.below, h.size)))))
    (adding p y qs last)
  where
    by : (b : Bool) → eqb p q ≡ b → waiting (with-one p y qs last) q ≡ cond b (waiting qs p ++ (y ∷ [])) (waiting qs q) → Later qs last q x (state (with-one p y qs last) last)
    by true d f = record { after = with-one p y qs last; rest = xs ++ (y ∷ []); same = refl; waits = f ∙ rw (eqb-true p q d) (rw e refl) }
    by false d f = record { after = with-one p y qs last; rest = xs; same = refl; waits = f ∙ e }

-- a take serves the queue q, or another and q then lies less far ahead and waits as before
nearer : (qs : List (List ℕ)) (last : Option ℕ) (q x : ℕ) (xs : List ℕ) → q < 32 → waiting qs q ≡ x ∷ xs → (f : Found 32 0 (begins last) qs (take (state qs last))) → (f.p ≡ q → ⊥) → ahead q (Some f.p) < ahead q last
nearer qs last q x xs l e f n = closer (begins last) q f.i f.p (begins-below last) l f.this (below far other)
  where
    far : ahead q last < f.i → ⊥
    far k = nil≢cons (sym (rw (there q last l) at (f.passed (ahead q last) k)) ∙ e)

    other : ahead q last ≡ f.i → ⊥
    other k = n (f.this ∙ rw (← k) (there q last l))

    below : (ahead q last < f.i → ⊥) → (ahead q last ≡ f.i → ⊥) → f.i < ahead q last
    below g o = least (ahead q last) f.i g o

-- what comes out of the queue q begins with its oldest item
abbrev pub Comes : (q x : ℕ) → List Event → Type 0
Comes q x es = (more : List ℕ) × (came_out q es ≡ x ∷ more)

-- calls with more takes than q lies ahead serve it
abbrev pub Serving : List Call → Type 0
Serving cs = (qs : List (List ℕ)) (last : Option ℕ) (q x : ℕ) (xs : List ℕ) → Sound (state qs last) → q < 32 → waiting qs q ≡ x ∷ xs → ahead q last < takes_in cs → Comes q x (log cs (state qs last))

module _ (cs : List Call) (rec : Serving cs) (qs : List (List ℕ)) (last : Option ℕ) (q x : ℕ) (xs : List ℕ) (h : Sound (state qs last)) (l : q < 32) (e : waiting qs q ≡ x ∷ xs) where
  -- an add
  by-add : (p y : ℕ) → ahead q last < takes_in cs → Comes q x (log (adds p y ∷ cs) (state qs last))
  unfolding log came_out
  by-add p y n =
      let t = later p y qs last q x xs h e in
      let s : Sound (state t.after last) = rw t.same at (one-add p y qs last h).sound in
      rw t.same (rec t.after last q x t.rest s l t.waits n)

  -- a take that serves the queue p
  by-served : (f : Found 32 0 (begins last) qs (take (state qs last))) → ahead q last < suc (takes_in cs) → Comes q x (log (takes ∷ cs) (state qs last))
  unfolding log came_out
  by-served f n = rw f.same (by (eqb f.p q) refl)
    where
      after : State
      after = state (set qs f.p f.rest) (Some f.p)

      by : (b : Bool) → eqb f.p q ≡ b → (more : List ℕ) × (cond b (f.item ∷ []) [] ++ came_out q (log cs after) ≡ x ∷ more)
      by true d =
          let z : waiting qs q ≡ f.item ∷ f.rest = rw (eqb-true f.p q d) at f.waits in
          let y : f.item ≡ x = cc in
          (came_out q (log cs after), rw y refl)
      by false d =
          let g : f.p ≡ q → ⊥ = eqb-false f.p q d in
          let s = (one-served qs last h f.p f.item 0 f.rest (omega (arith, f.this)) f.waits).sound in
          let w : waiting (set qs f.p f.rest) q ≡ x ∷ xs = get_or-set_other qs f.p q f.rest [] (λ z. g (sym z)) ∙ e in
          rec (set qs f.p f.rest) (Some f.p) q x xs s l w (omega (arith, nearer qs last q x xs l e f g))

  by-take : ahead q last < suc (takes_in cs) → Comes q x (log (takes ∷ cs) (state qs last))
  unfolding take
  by-take n =
      ⊎_elim
      (λ f. by-served f n)
      (λ g. absurd (nil≢cons (sym (rw (there q last l) at (g.passed (ahead q last) (omega arith))) ∙ e)))
      (looks qs last 32 0 (begins last) (begins-below last))

pub serving : (cs : List Call) → Serving cs
unfolding takes_in
serving [] = λ qs last q x xs h l e n. absurd (omega arith)
serving (adds p y ∷ cs) = λ qs last q x xs h l e n. by-add cs (serving cs) qs last q x xs h l e p y n
serving (takes ∷ cs) = λ qs last q x xs h l e n. by-take cs (serving cs) qs last q x xs h l e n

-- a queue that waits is one of the 32
pub waits-below : (qs : List (List ℕ)) (q x : ℕ) (xs : List ℕ) → length qs ≡ 32 → waiting qs q ≡ x ∷ xs → q < 32
waits-below qs q x xs h e = ⊎_elim (λ l. l) (λ g. absurd (nil≢cons (sym (get_or-eq_default qs [] (omega arith)) ∙ e))) (cases_lt q 32)
