-- Every finding of an accepted sheet has its message: `message` accepts it, and its line in the listing ends in that text.
use Rattle.std.specs.Prelude.{ℕ, ◌≡◌, Bool}
use mathlib.Core.List.{List, ◌++◌, Memᴰ}
use Rattle.sheet.specs.Statement.{Statement}
use Rattle.sheet.specs.Read.{Sheet, accepted, read_sheet}
use Rattle.semantics.specs.Log.{Finding, finding}
use Rattle.semantics.specs.Lists.{findings}
use Rattle.finding.specs.Flat.{name_word, mark_word, cited_by}
use Rattle.texts.specs.Bytes.{bytes}
use Rattle.message.specs.Message
use Rattle.lines.specs.Lines
use Rattle.lines.specs.Lines.{front}
use Rattle.told.specs.Pushed.{Pushed}

-- `message` of a finding's code, name, details and mark
unfoldable pub message_of : List ℕ → Finding → Sheet (List ℕ)
message_of s (finding code a b x one two) = Message.message s code (name_word x) one two (mark_word x)

-- what stands before the message in its line: code, start, end
unfoldable pub front_of : Finding → List ℕ
front_of (finding code a b x one two) = front code a b

-- a finding of the sheet s with these names has this text
pub record Told (s : List ℕ) (names : List (List ℕ)) (f : Finding) : Type 0 where
  pub text : List ℕ
  pub message : message_of s f ≡ accepted text
  pub line : Lines.line names f ≡ front_of f ++ (text ++ bytes "\n")

-- so has every finding of an accepted sheet, which is one of the pushes: `all_told` proves it
abbrev pub AllTold : Type 0
AllTold = (warns : Bool) (s : List ℕ) (st : Statement) → read_sheet s ≡ accepted st → (f : Finding) → Memᴰ f (findings warns st) → Pushed st.names f × Told s st.names f

-- and what `message` accepts for an accepted sheet is one of the pushes, with some span: `only-pushed` proves it
abbrev pub OnlyPushed : Type 0
OnlyPushed =
    (s : List ℕ) (st : Statement) → read_sheet s ≡ accepted st → (code word one two mark : ℕ) (text : List ℕ) → Message.message s code word one two mark ≡ accepted text
    → (start : ℕ) × (stop : ℕ) × Pushed st.names (finding code start stop (cited_by mark word) one two)
