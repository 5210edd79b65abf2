-- The answers as numbers, for C.
use Rattle.std.specs.Prelude.{ℕ, List, [], ◌∷◌, ◌≡◌, Option, Some, None, Ok, Err}
use Rattle.dispatcher.specs.Dispatcher.{Added, add, take}
use Rattle.dispatcher.specs.ErrorNumber.{number_of}
use Rattle.dispatcher.specs.declared.Served.{Served}
use Rattle.dispatcher.specs.declared.Taken.{Taken}
use Rattle.dispatcher.specs.Words.{state_of, KeptBy, KeptIn}

-- 0 where the item waits, else the refusal's number
abbrev pub added_number : Added → ℕ
added_number (Ok done) = 0
added_number (Err cause) = number_of cause

-- 1 where a queue was served, 0 where none waits
abbrev pub served_number : Option Served → ℕ
served_number (Some one) = 1
served_number None = 0

abbrev pub taken_number : Taken → ℕ
taken_number answer = served_number answer.served

-- the queue, its item and the steps; with zeros for the first two where none waits
abbrev pub served_words : Option Served → ℕ → List ℕ
served_words (Some one) steps = one.queue ∷ one.item ∷ steps ∷ []
served_words None steps = 0 ∷ 0 ∷ steps ∷ []

abbrev pub taken_words : Taken → List ℕ
taken_words answer = served_words answer.served answer.steps

-- an add on words is the definition's, by its number, and a refusal alters no word
pub record AddsAs (q item : ℕ) (before after : List ℕ) (number : ℕ) : Type 0 where
  pub answer : number ≡ added_number (add q item (state_of before)).0
  pub left : state_of after ≡ (add q item (state_of before)).1
  pub kept : KeptBy (add q item (state_of before)).0 before after

-- a take on words is the definition's, by its number and its words, and where none waits no word of the state is altered
pub record TakesAs (before after got : List ℕ) (number : ℕ) : Type 0 where
  pub answer : number ≡ taken_number (take (state_of before)).0
  pub words : got ≡ taken_words (take (state_of before)).0
  pub left : state_of after ≡ (take (state_of before)).1
  pub kept : KeptIn (take (state_of before)).0 before after
