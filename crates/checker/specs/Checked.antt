-- What the check call answers and leaves, for any sheet, warning choice and lists (document 01, "What comes out"; causes 1 to 6 and 8).
use Rattle.refusal.specs.Number.{number_of}
use Rattle.refusal.specs.declared.Refusal.{Refusal}
use Rattle.std.specs.Prelude.{ℕ, ◌≡◌, Bool, cond, ◌&&◌, List, leb, length, Result, Ok, Err}
use Rattle.words.specs.Words.{words}
use Rattle.sheet.specs.Statement.{Statement}
use Rattle.sheet.specs.Read.{Sheet, accepted, refused, read_sheet}
use Rattle.semantics.specs.Lists.{scopes, bindings, carried_list, recorded, findings}
use Rattle.scope.specs.Flat.{scope_width, binding_width, carried_width}
use Rattle.finding.specs.Flat.{finding_width}
use Rattle.entries.specs.Filled.{recorded_width, with_scopes, with_bindings, with_carried, with_recorded, with_findings}
use Rattle.checker.specs.Room.{enough}
use Rattle.checker.specs.declared.Counts.{Counts}
use Rattle.checker.specs.declared.Lists.{Lists}

-- the five lent lists
pub record Lent (F : Type 0) : Type 0 where
  pub scopes : List ℕ
  pub bindings : List ℕ
  pub carried : List ℕ
  pub recorded : List ℕ
  pub findings : List F

abbrev pub lent : {F : Type 0} → Lists F → Lent F
lent l = record { scopes = l.scopes.now; bindings = l.bindings.now; carried = l.carried.now; recorded = l.recorded.now; findings = l.findings.now }

-- the same lent words
pub record IsStill {F : Type 0} (old new : Lists F) : Type 0 where
  pub scopes : new.scopes.ghost_name ≡ old.scopes.ghost_name
  pub bindings : new.bindings.ghost_name ≡ old.bindings.ghost_name
  pub carried : new.carried.ghost_name ≡ old.carried.ghost_name
  pub recorded : new.recorded.ghost_name ≡ old.recorded.ghost_name
  pub findings : new.findings.ghost_name ≡ old.findings.ghost_name

-- room in each list for so many entries
unfoldable pub roomy : Counts → Lent ℕ → Bool
roomy n l =
    enough n.scopes (length l.scopes) scope_width
    && (enough n.bindings (length l.bindings) binding_width
    && (enough n.carried (length l.carried) carried_width && (enough n.recorded (length l.recorded) recorded_width && enough n.findings (length l.findings) finding_width)))

-- an entry for each of n words
unfoldable pub each : ℕ → Counts
each n = record { scopes = n; bindings = n; carried = n; recorded = n; findings = n }

-- where 8 is not given: every list has as many entries as the sheet has words, and as many as the answer needs; and so has the list of `room`
-- entries into which the findings go on
unfoldable pub fits : ℕ → Counts → Lent ℕ → ℕ → Bool
fits n need l room = (roomy (each n) l && leb n room) && (roomy need l && leb need.findings room)

module _ (warns : Bool) where
  -- "Five lists with counts"
  unfoldable pub counts_of : Statement → Counts
  counts_of st =
      record {
        scopes = length (scopes warns st);
        bindings = length (bindings warns st);
        carried = length (carried_list warns st);
        recorded = length (recorded warns st);
        findings = length (findings warns st);
      }

  -- each list filled, "entries past a count are untouched"
  unfoldable pub filled_by : Statement → Lent ℕ → Lent ℕ
  filled_by st l =
      record {
        scopes = with_scopes l.scopes (scopes warns st);
        bindings = with_bindings l.bindings (bindings warns st);
        carried = with_carried l.carried (carried_list warns st);
        recorded = with_recorded l.recorded (recorded warns st);
        findings = with_findings l.findings (findings warns st);
      }

  -- the answer: the counts, or the first cause, 8 after the others
  unfoldable pub answer : Sheet Statement → (Counts → Bool) → Sheet Counts
  answer (refused c) fit = refused c
  answer (accepted st) fit = cond (fit (counts_of st)) (accepted (counts_of st)) (refused 8)

  -- the lists: filled, or "a refusal alters nothing"
  unfoldable pub left : Sheet Statement → (Counts → Bool) → Lent ℕ → Lent ℕ
  left (refused c) fit l = l
  left (accepted st) fit l = cond (fit (counts_of st)) (filled_by st l) l

-- the same for the bytes of a sheet, whose findings go on into a list of so many entries
unfoldable pub answer_in : Bool → List ℕ → Lent ℕ → ℕ → Sheet Counts
answer_in warns s l room = answer warns (read_sheet s) (λ need. fits (length (words s)) need l room)

unfoldable pub left_in : Bool → List ℕ → Lent ℕ → ℕ → Lent ℕ
left_in warns s l room = left warns (read_sheet s) (λ need. fits (length (words s)) need l room) l

-- how many findings an answer counts
abbrev pub findings_in : Sheet Counts → ℕ
findings_in (accepted c) = c.findings
findings_in (refused n) = 0

-- counts, or the refusal's number
abbrev pub answered : Result Counts Refusal → Sheet Counts
answered (Ok counts) = accepted counts
answered (Err e) = refused (number_of e)

-- a call answers so, and leaves the lists so
pub record Answers (warns : Bool) (s : List ℕ) (old : Lent ℕ) (room : ℕ) (r : Result Counts Refusal) (new : Lent ℕ) : Type 0 where
  pub counts : answered r ≡ answer_in warns s old room
  pub lists : new ≡ left_in warns s old room
