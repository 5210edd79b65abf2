-- What was found in an accepted sheet whose answer fits, as its lines go by it: where its names stand, its findings in words, and how many
-- expressions 25 it has.
use Rattle.std.specs.Prelude.{ℕ, ◌+◌, ◌*◌, ◌/◌, ◌≤◌, ◌≡◌, Bool, true, List, length, take, get_or}
use Rattle.words.specs.Words.{words}
use Rattle.tables.specs.Answer.{names_in}
use Rattle.sheet.specs.Trailer.{places_of}
use Rattle.sheet.specs.Statement.{Statement}
use Rattle.sheet.specs.Olds.{old_exists}
use Rattle.sheet.specs.Read.{accepted, read_sheet}
use Rattle.semantics.specs.Lists.{findings}
use Rattle.lines.specs.Given.{findings_in}
use Rattle.listing.specs.Listing.{fits}
use Rattle.steps.specs.declared.Walk.{Walk}

pub record FoundIn (warns : Bool) (s places : List ℕ) (w : Walk) : Type 0 where
  pub statement : Statement
  pub read : read_sheet s ≡ accepted statement
  pub fitting : fits warns statement ≡ true
  pub names : names_in (take ((places_of (words s)).rows * 4) s) (places_of (words s)).names places ≡ statement.names
  pub lists : findings_in w.log.said (w.log.said + w.log.told) w.log.words.now ≡ findings warns statement
  pub olds : w.olds ≡ old_exists statement
  pub few : w.log.said + w.log.told ≤ length (words s)
  pub many : (places_of (words s)).names ≤ length places
  pub wide : (w.log.said + w.log.told) * 6 ≤ length w.log.words.now

-- the words that a run needs for a sheet of w words
abbrev pub scratch_for : ℕ → ℕ
scratch_for w = w * 16 + 8 + (w / 3 + 1) * 5

-- every number is 0
pub record AllZero (l : List ℕ) : Type 0 where
  pub at : (i : ℕ) → get_or l i 0 ≡ 0
