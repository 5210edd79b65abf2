-- A single call (`One`): the queues stay 32 and short, and of each queue what waited with what went in is what came out with what waits.
use Prim.Native.Nat.{ℕ, suc, ◌+◌, ◌≤◌, ◌<◌}
use mathlib.Core.Bool.{Bool, true, false, cond}
use mathlib.Core.List.{List, [], ◌∷◌, ◌++◌, append-nil}
use mathlib.Core.Logic.{◌⊎◌, inl, inr, ⊎_elim}
use mathlib.Core.Path.{◌≡◌, refl, ◌∙◌, ap}
use native.Mathlib.Omega.{arith}
use borrow.Author.Tests.{ltb-false, leb-false, eqb-true}
use lib.Dec.{eqb, ltb, leb}
use lib.ListN.{length, set, length-set, length-append}
use Rattle.std.specs.Prelude.{Option, Some, Err}
use Rattle.dispatcher.specs.declared.error.AddError.{AddError}
use Rattle.dispatcher.specs.declared.error.AddError.TheVariants.{NoQueue, Full}
use Rattle.dispatcher.specs.Dispatcher.{Added, done, taken_one, taken_none, State, state, waiting, add, begins, take}
use Rattle.dispatcher.specs.Turns.{Call, adds, takes, Event, added, taken, step, queues, in_of, out_of}
use Rattle.dispatcher.proofs.Lists.{set-one}
use Rattle.dispatcher.proofs.Looking.{begins-below, looks}

-- 32 queues of up to 16 items
pub record Sound (s : State) : Type 0 where
  pub size : length (queues s) ≡ 32
  pub short : (q : ℕ) → length (waiting (queues s) q) ≤ 16

-- a call in the state s answers e and leaves t
pub record One (s : State) (e : Event) (t : State) : Type 0 where
  pub sound : Sound t
  pub order : (q : ℕ) → waiting (queues s) q ++ in_of q e ≡ out_of q e ++ waiting (queues t) q

-- nothing goes in and nothing comes out
idle : (s : State) (e : Event) → Sound s → ((q : ℕ) → in_of q e ≡ []) → ((q : ℕ) → out_of q e ≡ []) → One s e s
idle s e h i o = record { sound = h; order = λ q. rw (i q, o q) (append-nil (waiting (queues s) q)) }

-- one queue is set to a short list
sound-set : (qs : List (List ℕ)) (last next : Option ℕ) (p : ℕ) (l : List ℕ) → Sound (state qs last) → p < 32 → length l ≤ 16 → Sound (state (set qs p l) next)
sound-set qs last next p l h m g = record {
  size = length-set qs p l ∙ h.size;
  short = λ q. rw (set-one qs p q l (omega (arith, h.size))) (by q (eqb p q));
}
  where
    by : (q : ℕ) (b : Bool) → length (cond b l (waiting qs q)) ≤ 16
    by q true = g
    by q false = h.short q

module _ (p x : ℕ) (qs : List (List ℕ)) (last : Option ℕ) where
  -- the queues with an item more
  abbrev pub with-one : List (List ℕ)
  with-one = set qs p (waiting qs p ++ (x ∷ []))

  pub record Refusal (r : Added × State) : Type 0 where
    pub cause : AddError
    pub same : r ≡ (Err cause, state qs last)

  pub record Put (r : Added × State) : Type 0 where
    pub below : p < 32
    pub room : length (waiting qs p) < 16
    pub same : r ≡ (done, state with-one last)

  -- an add is a refusal, or the item waits
  pub adding : Refusal (add p x (state qs last)) ⊎ Put (add p x (state qs last))
  unfolding add
  adding = by (ltb 31 p) refl (leb 16 (length (waiting qs p))) refl
    where
      by : (a : Bool) → ltb 31 p ≡ a → (b : Bool) → leb 16 (length (waiting qs p)) ≡ b → Refusal (add p x (state qs last)) ⊎ Put (add p x (state qs last))
      by true d b e = inl (record { cause = NoQueue; same = rw d refl })
      by false d true e = inl (record { cause = Full; same = rw (d, e) refl })
      by false d false e =
          let z = ltb-false 31 p d in
          inr (record { below = omega arith; room = leb-false 16 (length (waiting qs p)) e; same = rw (d, e) refl })

  module _ (h : Sound (state qs last)) where
    one-put : p < 32 → length (waiting qs p) < 16 → One (state qs last) (added p x done) (state with-one last)
    one-put l m = record {
      sound = sound-set qs last last p (waiting qs p ++ (x ∷ [])) h l (omega (arith, length-append (waiting qs p) (x ∷ [])));
      order = λ q. rw (set-one qs p q (waiting qs p ++ (x ∷ [])) (omega (arith, h.size))) (by q (eqb p q) refl);
    }
      where
        by : (q : ℕ) (b : Bool) → eqb p q ≡ b → waiting qs q ++ cond b (x ∷ []) [] ≡ cond b (waiting qs p ++ (x ∷ [])) (waiting qs q)
        by q true e = rw (eqb-true p q e) refl
        by q false e = append-nil (waiting qs q)

    pub one-add : One (state qs last) (step (adds p x) (state qs last)).0 (step (adds p x) (state qs last)).1
    one-add =
        ⊎_elim
        (λ r. rw r.same (idle (state qs last) (added p x (Err r.cause)) h (λ q. refl) (λ q. refl)))
        (λ r. rw r.same (one-put r.below r.room))
        adding

module _ (qs : List (List ℕ)) (last : Option ℕ) (h : Sound (state qs last)) where
  pub one-served : (p x k : ℕ) (rest : List ℕ) → p < 32 → waiting qs p ≡ x ∷ rest → One (state qs last) (taken (taken_one p x k)) (state (set qs p rest) (Some p))
  one-served p x k rest l e =
      let m : length (waiting qs p) ≡ suc (length rest) = ap length e in
      record {
        sound = sound-set qs last (Some p) p rest h l (omega (arith, h.short p));
        order = λ q. rw (set-one qs p q rest (omega (arith, h.size))) (by q (eqb p q) refl);
      }
    where
      by : (q : ℕ) (b : Bool) → eqb p q ≡ b → waiting qs q ++ [] ≡ cond b (x ∷ []) [] ++ cond b rest (waiting qs q)
      by q true d = append-nil (waiting qs q) ∙ rw (← eqb-true p q d) e
      by q false d = append-nil (waiting qs q)

  one-take : One (state qs last) (step takes (state qs last)).0 (step takes (state qs last)).1
  unfolding take
  one-take =
      ⊎_elim
      (λ f. rw f.same (one-served f.p f.item (suc (0 + f.i)) f.rest (omega (arith, f.this)) f.waits))
      (λ g. rw g.same (idle (state qs last) (taken (taken_none (0 + 32))) h (λ q. refl) (λ q. refl)))
      (looks qs last 32 0 (begins last) (begins-below last))

pub one : (c : Call) (s : State) → Sound s → One s (step c s).0 (step c s).1
one (adds p x) (state qs last) h = one-add p x qs last h
one takes (state qs last) h = one-take qs last h
