-- Document 02's sentences on all rows of adds and takes from the empty state. `proofs/Turns` proves the statements at the end.
use Rattle.std.specs.Prelude.{ℕ, suc, ◌+◌, ◌-◌, ◌%◌, ◌≤◌, ◌<◌, cond, List, [], ◌∷◌, ◌++◌, ◌≡◌, eqb, length, replicate, Option, Some, None, Ok, Err, MatchOption}
use Rattle.dispatcher.specs.Dispatcher.{State, state, Added, empty, waiting, add, begins, take}
use Rattle.dispatcher.specs.declared.Served.{Served}
use Rattle.dispatcher.specs.declared.Taken.{Taken}
use Rattle.dispatcher.specs.Words.{state_of, Adds, Takes}

-- what is asked of a dispatcher
pub data Call : Type 0 where
  adds : (q item : ℕ) → Call
  takes : Call

-- what was asked and answered
pub data Event : Type 0 where
  added : (q item : ℕ) → Added → Event
  taken : Taken → Event

-- a call's answer, and the state after it
abbrev pub step : Call → State → Event × State
step (adds q item) s = let r = add q item s in (added q item r.0, r.1)
step takes s = let r = take s in (taken r.0, r.1)

-- what a row of calls answers, and the state after it
unfoldable pub log : List Call → State → List Event
log [] s = []
log (c ∷ cs) s = (step c s).0 ∷ log cs (step c s).1

unfoldable pub run : List Call → State → State
run [] s = s
run (c ∷ cs) s = run cs (step c s).1

abbrev pub queues : State → List (List ℕ)
queues (state qs last) = qs

-- the queue that a take looks at after i others
abbrev pub nth : State → ℕ → ℕ
nth (state qs last) i = (begins last + i) % 32

-- the items that went into the queue q, in order
abbrev pub in_of : ℕ → Event → List ℕ
in_of q (added p item (Ok done)) = cond (eqb p q) (item ∷ []) []
in_of q (added p item (Err cause)) = []
in_of q (taken answer) = []

unfoldable pub went_in : ℕ → List Event → List ℕ
went_in q [] = []
went_in q (e ∷ es) = in_of q e ++ went_in q es

-- the items that came out of it, in order
abbrev pub served_of : ℕ → Option Served → List ℕ
served_of q (Some one) = cond (eqb one.queue q) (one.item ∷ []) []
served_of q None = []

abbrev pub out_of : ℕ → Event → List ℕ
out_of q (added p item answer) = []
out_of q (taken answer) = served_of q answer.served

unfoldable pub came_out : ℕ → List Event → List ℕ
came_out q [] = []
came_out q (e ∷ es) = out_of q e ++ came_out q es

-- how many of the calls are takes
unfoldable pub takes_in : List Call → ℕ
takes_in [] = 0
takes_in (adds q item ∷ cs) = takes_in cs
takes_in (takes ∷ cs) = suc (takes_in cs)

-- "the step counter in the result never exceeds 32, being the theatres looked at up to the served one": before the queue q, whose oldest
-- item is served, steps - 1 others were looked at, and nothing waits in them
pub record ServedAfter (s : State) (q item steps : ℕ) : Type 0 where
  pub least : 1 ≤ steps
  pub most : steps ≤ 32
  pub this : q ≡ nth s (steps - 1)
  pub rest : List ℕ
  pub waits : waiting (queues s) q ≡ item ∷ rest
  pub passed : (i : ℕ) → i < steps - 1 → waiting (queues s) (nth s i) ≡ []

-- "or all 32 if none waits"
pub record NoneWaits (s : State) (steps : ℕ) : Type 0 where
  pub all : steps ≡ 32
  pub passed : (q : ℕ) → q < 32 → waiting (queues s) q ≡ []

-- what a take's answer says of the state that it was asked in
abbrev pub Counted : State → Taken → Type 0
Counted s answer = MatchOption answer.served (NoneWaits s answer.steps) (λ one. ServedAfter s one.queue one.item answer.steps)

-- "In every state that adds and takes make from the empty one, a theatre that waits is served within the next 32 takes, whatever others add
-- in between": the oldest item of the queue q comes out of it, and before any other, in calls of which 32 are takes
abbrev pub ServedWithin32 : Type 0
ServedWithin32 =
    (before after : List Call) (q item : ℕ) (rest : List ℕ) →
    waiting (queues (run before empty)) q ≡ item ∷ rest →
    takes_in after ≡ 32 →
    (more : List ℕ) × (came_out q (log after (run before empty)) ≡ item ∷ more)

-- "first in first out": what went into a queue is what came out of it and then what waits, in this order, nothing lost and nothing twice
abbrev pub InOrder : Type 0
InOrder =
    (calls : List Call) (q : ℕ) →
    went_in q (log calls empty) ≡ came_out q (log calls empty) ++ waiting (queues (run calls empty)) q

-- "up to 16 sheet numbers"
abbrev pub UpTo16 : Type 0
UpTo16 = (calls : List Call) (q : ℕ) → length (waiting (queues (run calls empty)) q) ≤ 16

-- the counter, in every state that adds and takes make from the empty one
abbrev pub StepsCounted : Type 0
StepsCounted = (calls : List Call) → Counted (run calls empty) (take (run calls empty)).0

-- a row of calls on words, one after the other: what they answer, and the words after them
pub data Made : List Call → List ℕ → List Event → List ℕ → Type 0 where
  none_made : {words : List ℕ} → Made [] words [] words
  add-made :
      {q item : ℕ} {answer : Added} {cs : List Call} {es : List Event} {words next after : List ℕ} →
      Adds q item words next answer → Made cs next es after → Made (adds q item ∷ cs) words (added q item answer ∷ es) after
  take-made :
      {answer : Taken} {cs : List Call} {es : List Event} {words next after : List ℕ} →
      Takes words next answer → Made cs next es after → Made (takes ∷ cs) words (taken answer ∷ es) after

-- calls on 577 zeros answer what the definition answers from the empty state, and leave the words of its state: so the sentences above are
-- of the code
abbrev pub OnWords : Type 0
OnWords =
    (calls : List Call) (events : List Event) (after : List ℕ) →
    Made calls (replicate 577 0) events after →
    (events ≡ log calls empty) × (state_of after ≡ run calls empty)
