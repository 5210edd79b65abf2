-- The statements of `specs/Turns`: order and size by a single call (`One`), fairness by how far ahead a queue lies (`Serving`), the counter by
-- what a look finds (`looks`).
use Prim.Native.Nat.{ℕ, zero, suc, ◌+◌, ◌-◌}
use mathlib.Core.List.{List, [], ◌∷◌, ◌++◌, append_assoc, append-nil}
use mathlib.Core.Logic.{⊎_elim}
use mathlib.Core.Path.{◌≡◌, refl, sym, ◌∙◌, ap}
use native.Mathlib.Omega.{arith}
use lib.ListN.{replicate}
use Rattle.dispatcher.specs.Cases.{zeros}
use Rattle.dispatcher.specs.Dispatcher.{State, state, empty, waiting, begins, take}
use Rattle.dispatcher.specs.Turns.{Call, Event, step, log, run, queues, in_of, went_in, out_of, came_out, Counted, ServedWithin32, InOrder, UpTo16, StepsCounted, Made, none_made, add-made, take-made, OnWords}
use Rattle.dispatcher.specs.Words.{state_of}
use Rattle.dispatcher.proofs.Ahead.{ahead, there}
use Rattle.dispatcher.proofs.Looking.{begins-below, looks}
use Rattle.dispatcher.proofs.One.{Sound, one}
use Rattle.dispatcher.proofs.Serving.{Comes, serving, waits-below}

sounds : (cs : List Call) (s : State) → Sound s → Sound (run cs s)
unfolding run
sounds [] s h = h
sounds (c ∷ cs) s h = sounds cs (step c s).1 (one c s h).sound

none-waits : (n q : ℕ) → waiting (replicate n []) q ≡ []
none-waits zero q = refl
none-waits (suc n) zero = refl
none-waits (suc n) (suc q) = none-waits n q

begun : Sound empty
begun = record { size = refl; short = λ q. rw (none-waits 32 q) (omega arith) }

ordered : (cs : List Call) (s : State) (q : ℕ) → Sound s → waiting (queues s) q ++ went_in q (log cs s) ≡ came_out q (log cs s) ++ waiting (queues (run cs s)) q
unfolding log run went_in came_out
ordered [] s q h = append-nil (waiting (queues s) q)
ordered (c ∷ cs) s q h =
    let e = (step c s).0 in
    let t = (step c s).1 in
    let i = went_in q (log cs t) in
    let o = one c s h in
    sym (append_assoc (waiting (queues s) q) (in_of q e) i) ∙
    ap (λ (l : List ℕ). l ++ i) (o.order q) ∙
    append_assoc (out_of q e) (waiting (queues t) q) i ∙
    ap (λ (l : List ℕ). out_of q e ++ l) (ordered cs t q o.sound) ∙
    sym (append_assoc (out_of q e) (came_out q (log cs t)) (waiting (queues (run cs t)) q))

pub in_order : InOrder
in_order calls q = let e = ordered calls empty q begun in rw (none-waits 32 q) at e

pub up-to-16 : UpTo16
up-to-16 calls q = (sounds calls empty begun).short q

-- a take's steps, in any state
counted : (s : State) → Counted s (take s).0
unfolding take
counted (state qs last) =
    ⊎_elim
    (λ f. rw f.same
    (record {
      least = omega arith;
      most = omega (arith, f.within);
      this = let z : suc (0 + f.i) - 1 ≡ f.i = omega arith in rw z f.this;
      rest = f.rest;
      waits = f.waits;
      passed = λ j l. f.passed j (omega arith);
    }))
    (λ g. rw g.same
    (record {
      all = omega arith;
      passed = λ q l. rw (there q last l) at (g.passed (ahead q last) (omega arith));
    }))
    (looks qs last 32 0 (begins last) (begins-below last))

pub steps-counted : StepsCounted
steps-counted calls = counted (run calls empty)

pub served-within-32 : ServedWithin32
served-within-32 before after q item rest e n = from (run before empty) (sounds before empty begun) e
  where
    from : (s : State) → Sound s → waiting (queues s) q ≡ item ∷ rest → Comes q item (log after s)
    from (state qs last) h w =
        serving after qs last q item rest h (waits-below qs q item rest h.size w) w (omega arith)

-- a row of calls on words is the definition's, from the state that the words are
made : {cs : List Call} {words : List ℕ} {es : List Event} {after : List ℕ} → Made cs words es after → (es ≡ log cs (state_of words)) × (state_of after ≡ run cs (state_of words))
unfolding log run
made none_made = (refl, refl)
made (add-made a m) = let r = made m in rw (← a.same) (rw r.0 refl, r.1)
made (take-made t m) = let r = made m in rw (← t.same) (rw r.0 refl, r.1)

pub on-words : OnWords
on-words calls events after m = let r = made m in rw zeros at r
