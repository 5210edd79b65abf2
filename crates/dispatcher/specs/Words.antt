-- A state as 577 words: 16 places for each queue's items, used in a ring; the place of each queue's oldest item; how many wait in each;
-- and the queue served last as its number + 1, or 0. Any words are some state: a place counts modulo 16, a queue has at most 16 items, the
-- one served last counts modulo 32.
use Rattle.std.specs.Prelude.{ℕ, zero, suc, ◌+◌, ◌*◌, ◌%◌, ◌<◌, min, List, [], ◌∷◌, ◌≡◌, get_or, Option, Some, None, OnErr, IfNone}
use Rattle.dispatcher.specs.Dispatcher.{State, state, Added, add, take}
use Rattle.dispatcher.specs.declared.Taken.{Taken}

-- n items of the queue q, from the place f on
unfoldable pub items_from : List ℕ → (q f n : ℕ) → List ℕ
items_from words q f zero = []
items_from words q f (suc n) = get_or words (q * 16 + f % 16) 0 ∷ items_from words q (suc f) n

-- how many wait in the queue q
abbrev pub count_of : List ℕ → ℕ → ℕ
count_of words q = min (get_or words (544 + q) 0) 16

-- what waits in the queue q
abbrev pub queue_of : List ℕ → ℕ → List ℕ
queue_of words q = items_from words q (get_or words (512 + q) 0) (count_of words q)

-- what waits in n queues, from q on
unfoldable pub queues_from : List ℕ → (q n : ℕ) → List (List ℕ)
queues_from words q zero = []
queues_from words q (suc n) = queue_of words q ∷ queues_from words (suc q) n

-- the queue served last, from its number + 1 or 0
abbrev pub last_of : ℕ → Option ℕ
last_of zero = None
last_of (suc q) = Some (q % 32)

abbrev pub state_of : List ℕ → State
state_of words = state (queues_from words 0 32) (last_of (get_or words 576 0))

-- a refusal alters no word
abbrev pub KeptBy : Added → List ℕ → List ℕ → Type 0
KeptBy answer before after = OnErr answer (after ≡ before)

-- where none waits no word is altered
abbrev pub KeptIn : Taken → List ℕ → List ℕ → Type 0
KeptIn answer before after = IfNone answer.served (after ≡ before)

-- an add on words is the definition's
pub record Adds (q item : ℕ) (before after : List ℕ) (answer : Added) : Type 0 where
  pub same : (answer, state_of after) ≡ add q item (state_of before)
  pub kept : KeptBy answer before after

-- a take on words is the definition's
pub record Takes (before after : List ℕ) (answer : Taken) : Type 0 where
  pub same : (answer, state_of after) ≡ take (state_of before)
  pub kept : KeptIn answer before after

-- the oldest item of the queue q has gone out, and q is the one served last
pub record Serves (q : ℕ) (before after : List ℕ) (item : ℕ) : Type 0 where
  pub front : queue_of before q ≡ item ∷ queue_of after q
  pub others : (i : ℕ) → i < 32 → (i ≡ q → ⊥) → queue_of after i ≡ queue_of before i
  pub last : last_of (get_or after 576 0) ≡ Some q
