-- What a line does and what is printed: `ok`, `refused N`, `served Q ITEM STEPS`, `none STEPS`, or `unread`.
use Rattle.std.specs.Prelude.{ℕ, List, [], ◌∷◌, ◌++◌, Option, Some, None, Ok, Err}
use Rattle.words.specs.Decimal.{decimal}
use Rattle.dispatcher.specs.Dispatcher.{Added, State}
use Rattle.dispatcher.specs.Dispatcher as dispatcher
use Rattle.dispatcher.specs.ErrorNumber.{number_of}
use Rattle.dispatcher.specs.declared.Served.{Served}
use Rattle.dispatcher.specs.declared.Taken.{Taken}
use Rattle.turns.specs.Command.{bytes}
use Rattle.turns.specs.declared.line.Command.{Command}
use Rattle.turns.specs.declared.line.Command.TheVariants.{Add, Take}

-- a number and the byte after it
abbrev pub field : ℕ → ℕ → List ℕ
field n after = decimal n ++ (after ∷ [])

abbrev pub added_text : Added → List ℕ
added_text (Ok done) = bytes "ok\n"
added_text (Err cause) = bytes "refused " ++ field (number_of cause) 10

-- what is said of the queue that was served, before the steps
abbrev pub served_text : Option Served → List ℕ
served_text (Some one) = bytes "served " ++ (field one.queue 32 ++ field one.item 32)
served_text None = bytes "none "

abbrev pub taken_text : Taken → List ℕ
taken_text answer = served_text answer.served ++ field answer.steps 10

-- the text, and the state after it
abbrev pub does : Option Command → State → List ℕ × State
does (Some (Add q item)) s = let r = dispatcher.add q item s in (added_text r.0, r.1)
does (Some Take) s = let r = dispatcher.take s in (taken_text r.0, r.1)
does None s = (bytes "unread\n", s)
