-- A text or a refusal, given to a page: the text at its front where it fits, and else 10; a refusal alters nothing.
use Rattle.std.specs.Prelude.{ℕ, ◌+◌, ◌^◌, ◌<◌, ◌≡◌, cond, List, leb, length, Result, Ok, Err}
use Rattle.words.specs.Front.{put_front}
use Rattle.refusal.specs.Number.{number_of}
use Rattle.refusal.specs.declared.Refusal.{Refusal}
use Rattle.sheet.specs.Read.{Sheet, accepted, refused}

-- an answer, its refusal by its number
abbrev pub answered : {A : Type 0} → Result A Refusal → Sheet A
answered (Ok a) = accepted a
answered (Err refusal) = refused (number_of refusal)

-- "message or listing longer than the lent bytes"
unfoldable pub written_as : Sheet (List ℕ) → ℕ → Sheet ℕ
written_as (accepted text) room = cond (leb (length text) room) (accepted (length text)) (refused 10)
written_as (refused c) room = refused c

unfoldable pub page_as : Sheet (List ℕ) → List ℕ → List ℕ
page_as (accepted text) page = put_front text page
page_as (refused c) page = page

-- what a call answers and what it leaves of the page
pub record Writes (x : Sheet (List ℕ)) (old new : List ℕ) (r : Result ℕ Refusal) : Type 0 where
  pub answer : answered r ≡ written_as x (length old)
  pub page : new ≡ page_as x old

-- "the refusal's number, or 256 plus the listing's length"
abbrev pub number : Sheet ℕ → ℕ
number (accepted n) = 256 + n
number (refused c) = c

-- a call that hosts make: that number is a word
abbrev pub WritesAsWord : Sheet (List ℕ) → (old new : List ℕ) → Result ℕ Refusal → Type 0
WritesAsWord x old new r = Writes x old new r × (number (answered r) < 2 ^ 32)
