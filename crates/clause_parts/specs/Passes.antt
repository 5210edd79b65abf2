-- What a walk over parts of clauses asks and leaves. A WITH replaces what is visible, so nothing is said of what stays below.
use Rattle.std.specs.Prelude.{ℕ, ◌+◌, ◌*◌, ◌≤◌, ◌≡◌, true, false, List, length, get_or, drop, Option, Result, Ok, Err}
use Rattle.refusal.specs.Number.{number_of}
use Rattle.refusal.specs.declared.Refusal.{Refusal}
use Rattle.heads.specs.Got.{Got, ok, no, word_in}
use Rattle.heads.specs.Answer.{Ans}
use Rattle.clauses.specs.Write.{alias_word}
use Rattle.fused.specs.Fused.{Both, Mode}
use Rattle.fused.specs.Clauses.{counted_row}
use Rattle.steps.specs.Memory.{words_in, names_in, hushed_in, world_at}
use Rattle.steps.specs.Hold.{Fit, Holds, Still}
use Rattle.walk.specs.Goes.{Goer, rest_in, Comes, Refuses}
use Rattle.steps.specs.declared.Walk.{Walk}
use Rattle.steps.specs.declared.context.Context.{Context}

-- The walk went on, and the words that it read, with j before it, pay for what it said.
pub record Passed (j : ℕ) (c : Context) (w w' : Walk) (G : Goer) : Type 0 where
  pub from : w.at ≤ w'.at
  pub fit : (k : ℕ) → Fit (j + k) c w → Fit k c w'
  pub goes : (id : ℕ → ℕ) (s : Both) → Holds id c w s → Comes id c w' (G id s (rest_in c w))

-- it went on, or is refused
abbrev pub PassesAs : ℕ → Context → (w w' : Walk) → Goer → Result (Unit {0}) Refusal → Type 0
PassesAs j c w w' G (Ok u) = Passed j c w w' G
PassesAs j c w w' G (Err e) = Refuses c w G e

pub record Passes (j : ℕ) (c : Context) (w w' : Walk) (G : Goer) (r : Result (Unit {0}) Refusal) : Type 0 where
  pub still : Still w w'
  pub passes : PassesAs j c w w' G r

-- every name is a use
abbrev pub Unhushed : Context → Type 0
Unhushed c = (x : ℕ) → hushed_in c x ≡ false

-- what the clauses ask besides: room for the pairs of a WITH and the aliases of a RETURN, that names are resolved, and that each is a use
pub record Held (c : Context) (held : List ℕ) (mode : Mode) : Type 0 where
  pub room : 2 * length (words_in c) ≤ length held
  pub resolves : mode.resolves ≡ true
  pub unhushed : Unhushed c

-- a mark for each name, and none is set
pub record Clear (c : Context) (marks : List ℕ) : Type 0 where
  pub room : names_in c ≤ length marks
  pub clear : (x : ℕ) → get_or marks x 0 ≡ 0

-- a word that was read at `at`, or the refusal, and where it ends
abbrev pub word_got : List ℕ → ℕ → Result ℕ Refusal → Got ℕ
word_got ws at (Ok w) = ok w (drop (at + 1) ws)
word_got ws at (Err e) = no (number_of e)

abbrev pub word_end : List ℕ → ℕ → Result ℕ Refusal → ℕ
word_end ws at (Ok w) = at + 1
word_end ws at (Err e) = length ws

-- the walk stands behind a word that is in range
abbrev pub moved : Walk → Result ℕ Refusal → Walk
moved w (Ok x) = record w { at = w.at + 1 }
moved w (Err e) = w

pub record Next (c : Context) (lo hi : ℕ) (w w' : Walk) (r : Result ℕ Refusal) : Type 0 where
  pub got : Ans (words_in c) w.at (word_in lo hi (rest_in c w)) (word_got (words_in c) w.at r) (word_end (words_in c) w.at r)
  pub now : w' ≡ moved w r

-- the word of an alias that was read
abbrev pub alias_told : Result (Option ℕ) Refusal → Result ℕ Refusal
alias_told (Ok a) = Ok (alias_word a)
alias_told (Err e) = Err e

-- a count and as many expressions, in a mode
module _ (c : Context) (mode : Mode) where
  abbrev pub counted_at : Goer
  counted_at id = counted_row (world_at c id) (names_in c) mode
