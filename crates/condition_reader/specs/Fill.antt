-- The machine in a list: its stack at the front, two words an operator, and what it made from a word on.
use Rattle.std.specs.Prelude.{ℕ, zero, suc, ◌+◌, ◌*◌, ◌^◌, ◌<◌, ◌≤◌, ◌≡◌, List, ◌∷◌, length, reverse, get_or, drop}
use Rattle.condition.specs.Tokens.{Tok, lex}
use Rattle.condition.specs.Machine.{Stack, empty, waits, Work, work, unwind, turn, run, depth_at, weight, count_of}
use Rattle.condition.proofs.Reading.{Clean}
use Rattle.condition_reader.specs.declared.machine.Machine.{Machine}

-- the first k operators of a list, the last on top
unfoldable pub stack_of : ℕ → List ℕ → Stack
stack_of zero l = empty
stack_of (suc k) l = waits (get_or l (k * 2) 0) (get_or l (k * 2 + 1) 0) (stack_of k l)

abbrev pub work_of : Machine → Work
work_of m = work (stack_of m.waiting m.list.now) (drop m.first m.list.now)

-- room for n entries more, with those that wait
abbrev pub HasRoom : ℕ → Machine → Type 0
HasRoom n m = m.waiting * 2 + n * 2 ≤ m.first

-- a machine that has taken nothing, with room for n entries
pub record Starts (old : List ℕ) (n : ℕ) (m : Machine) : Type 0 where
  pub list : m.list.now ≡ old
  pub waiting : m.waiting ≡ 0
  pub first : m.first ≡ n * 2
  pub depth : m.depth ≡ 0

-- a list stays the one that was lent, and as long
pub record Lent (old new : Machine) : Type 0 where
  pub name : new.list.ghost_name ≡ old.list.ghost_name
  pub size : length new.list.now ≡ length old.list.now

pub record Written (kind operand : ℕ) (old new : Machine) : Type 0 where
  pub same : work_of new ≡ work (stack_of old.waiting old.list.now) (kind ∷ (operand ∷ drop old.first old.list.now))
  pub waiting : new.waiting ≡ old.waiting
  pub first : new.first + 2 ≡ old.first
  pub depth : new.depth ≡ old.depth
  pub lent : Lent old new

pub record Unwound (limit : ℕ) (old new : Machine) : Type 0 where
  pub same : unwind limit (stack_of old.waiting old.list.now) (drop old.first old.list.now) ≡ work_of new
  pub room : new.first + old.waiting * 2 ≡ old.first + new.waiting * 2
  pub less : new.waiting ≤ old.waiting
  pub depth : new.depth ≡ old.depth
  pub lent : Lent old new

pub record Turned (t : Tok) (old new : Machine) : Type 0 where
  pub same : turn t old.depth (work_of old) ≡ work_of new
  pub room : new.first + old.waiting * 2 + weight t * 2 ≡ old.first + new.waiting * 2
  pub depth : new.depth ≡ depth_at t old.depth
  pub lent : Lent old new

-- n entries of tokens that are none bad, room for them, and a text short enough for ranks
pub record Fillable (text : List ℕ) (n : ℕ) (list : List ℕ) : Type 0 where
  pub clean : Clean (lex (reverse text))
  pub count : n ≡ count_of (lex (reverse text))
  pub fits : n * 2 ≤ length list
  pub short : length text * 10 + 20 < 2 ^ 64

-- what the machine made stands at the end of the list, which is as long as it was
pub record Filled (text : List ℕ) (n : ℕ) (old new : List ℕ) : Type 0 where
  pub at : ℕ
  pub same : drop at new ≡ run (lex (reverse text)) 0 (work empty (drop (n * 2) old))
  pub size : length new ≡ length old
  pub within : at ≤ length new
