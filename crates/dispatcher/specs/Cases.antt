-- Rows of calls from the empty state with what they answer, one table by one fact; and the words of the empty state.
use Rattle.std.specs.Prelude.{List, [], ◌∷◌, ◌++◌, map, ◌≡◌, refl, replicate, Err}
use Rattle.dispatcher.specs.Dispatcher.{done, taken_one, taken_none, empty, add, look, take}
use Rattle.dispatcher.specs.declared.error.AddError.TheVariants.{NoQueue, Full}
use Rattle.dispatcher.specs.Words.{items_from, queues_from, state_of}
use Rattle.dispatcher.specs.Turns.{Call, adds, takes, Event, added, taken, log}

pub data Case : Type 0 where
  case : (calls : List Call) (events : List Event) → Case

abbrev pub calls : Case → List Call
calls (case cs es) = cs

abbrev pub events : Case → List Event
events (case cs es) = es

abbrev pub cases : List Case
cases =
    -- none waits: all 32 are looked at
    case (takes ∷ []) (taken (taken_none 32) ∷ [])
    -- the round begins at 0, and goes on after the one served last, up to that one itself
    ∷ case
    (adds 3 70 ∷ adds 3 71 ∷ adds 0 72 ∷ takes ∷ takes ∷ takes ∷ takes ∷ [])
    (added 3 70 done ∷ added 3 71 done ∷ added 0 72 done ∷ taken (taken_one 0 72 1) ∷ taken (taken_one 3 70 3) ∷ taken (taken_one 3 71 32) ∷ taken (taken_none 32) ∷ [])
    -- past 31 it goes on at 0
    ∷ case
    (adds 31 70 ∷ takes ∷ adds 0 71 ∷ takes ∷ [])
    (added 31 70 done ∷ taken (taken_one 31 70 32) ∷ added 0 71 done ∷ taken (taken_one 0 71 1) ∷ [])
    -- 31 is the last number; 13 also where no queue has room
    ∷ case (adds 31 70 ∷ adds 32 71 ∷ []) (added 31 70 done ∷ added 32 71 (Err NoQueue) ∷ [])
    -- 16 wait and the next is refused; a freed place is used again
    ∷ case
    (replicate 16 (adds 5 70) ++ (adds 5 71 ∷ takes ∷ adds 5 72 ∷ adds 5 73 ∷ []))
    (replicate 16 (added 5 70 done) ++ (added 5 71 (Err Full) ∷ taken (taken_one 5 70 6) ∷ added 5 72 done ∷ added 5 73 (Err Full) ∷ []))
    -- neither a refusal nor a take where none waits alters where the round begins
    ∷ case
    (adds 7 70 ∷ takes ∷ adds 40 71 ∷ takes ∷ adds 7 72 ∷ adds 8 73 ∷ takes ∷ [])
    (added 7 70 done ∷ taken (taken_one 7 70 8) ∷ added 40 71 (Err NoQueue) ∷ taken (taken_none 32) ∷ added 7 72 done ∷ added 8 73 done ∷ taken (taken_one 8 73 1) ∷ [])
    ∷ []

pub hold : map (λ (c : Case). log (calls c) empty) cases ≡ map events cases
unfolding log add look take
hold = refl

-- 577 zeros are the empty state
pub zeros : state_of (replicate 577 0) ≡ empty
unfolding items_from queues_from
zeros = refl
