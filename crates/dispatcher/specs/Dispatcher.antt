-- The dispatcher of document 02 (CR 13): "32 theatres, numbers 0 to 31, each with a queue of up to 16 sheet numbers, first in first out".
-- A theatre is its queue here, and a sheet number an item.
use Rattle.std.specs.Prelude.{ℕ, zero, suc, ◌+◌, ◌%◌, cond, List, [], ◌∷◌, ◌++◌, ltb, leb, length, get_or, set, replicate, Option, Some, None, Result, Ok, Err}
use Rattle.dispatcher.specs.declared.error.AddError.{AddError}
use Rattle.dispatcher.specs.declared.error.AddError.TheVariants.{NoQueue, Full}
use Rattle.dispatcher.specs.declared.Taken.{Taken}

-- what waits in each queue, the oldest item first; and "the one served last", if any was
pub data State : Type 0 where
  state : (queues : List (List ℕ)) (last : Option ℕ) → State

-- what an add answers: the item waits, or why it doesn't
abbrev pub Added : Type 0
Added = Result (Unit {0}) AddError

abbrev pub done : Added
done = Ok tt

-- what a take answers: a queue and its item, or that none waits, each with the queues looked at
abbrev pub taken_one : (q item steps : ℕ) → Taken
taken_one q item steps = record { served = Some (record { queue = q; item = item }); steps = steps }

abbrev pub taken_none : (steps : ℕ) → Taken
taken_none steps = record { served = None; steps = steps }

-- "the empty one"
abbrev pub empty : State
empty = state (replicate 32 []) None

-- what waits in the queue q
abbrev pub waiting : List (List ℕ) → ℕ → List ℕ
waiting queues q = get_or queues q []

-- "Checks: 13 for a theatre number above 31, then 14 for a full queue, both without any change"; else the item waits behind the others
unfoldable pub add : (q item : ℕ) → State → Added × State
add q item (state queues last) =
    cond (ltb 31 q) (Err NoQueue, state queues last)
    (cond (leb 16 (length (waiting queues q))) (Err Full, state queues last)
    (done, state (set queues q (waiting queues q ++ (item ∷ []))) last))

-- "after the one served last, going round; before any is served the round begins at 0"
abbrev pub begins : Option ℕ → ℕ
begins None = 0
begins (Some q) = (q + 1) % 32

-- the queue q was looked at, as the k-th: where an item waits, the oldest is served, else it goes on
abbrev pub serve_or : List ℕ → (q k : ℕ) → List (List ℕ) → Taken × State → Taken × State
serve_or [] q k queues goes_on = goes_on
serve_or (item ∷ rest) q k queues goes_on = (taken_one q item k, state (set queues q rest) (Some q))

-- n more queues are looked at, from q on, after k others: "the theatres looked at up to the served one, or all 32 if none waits"
unfoldable pub look : (n k q : ℕ) → State → Taken × State
look zero k q s = (taken_none k, s)
look (suc n) k q (state queues last) =
    serve_or (waiting queues q) q (suc k) queues (look n (suc k) ((q + 1) % 32) (state queues last))

-- "A take serves the next waiting theatre after the one served last, going round; before any is served the round begins at 0. If none
-- waits it says so."
unfoldable pub take : State → Taken × State
take (state queues last) = look 32 0 (begins last) (state queues last)
