-- What the check call answers and leaves where the findings go into a list of records (document 01, "What comes out"; causes 1 to 6 and 8).
use Rattle.std.specs.Prelude.{ℕ, Bool, cond, ◌&&◌, List, leb, length}
use Rattle.words.specs.Words.{words}
use Rattle.sheet.specs.Statement.{Statement}
use Rattle.sheet.specs.Read.{Sheet, accepted, refused, read_sheet}
use Rattle.semantics.specs.Lists.{scopes, bindings, carried_list, recorded, findings}
use Rattle.finding.specs.declared.Finding.{Finding}
use Rattle.finding.specs.Records.{with_records}
use Rattle.scope.specs.Flat.{scope_width, binding_width, carried_width}
use Rattle.entries.specs.Filled.{recorded_width, with_scopes, with_bindings, with_carried, with_recorded}
use Rattle.checker.specs.Room.{enough}
use Rattle.checker.specs.Checked.{Lent, each, counts_of, answer}
use Rattle.checker.specs.declared.Counts.{Counts}

-- room in each list for so many entries
unfoldable pub roomy : Counts → Lent Finding → Bool
roomy n l =
    enough n.scopes (length l.scopes) scope_width
    && (enough n.bindings (length l.bindings) binding_width
    && (enough n.carried (length l.carried) carried_width && (enough n.recorded (length l.recorded) recorded_width && leb n.findings (length l.findings))))

-- where 8 is not given: every list has as many entries as the sheet has words, and as many as the answer needs
unfoldable pub fits : ℕ → Counts → Lent Finding → Bool
fits n need l = roomy (each n) l && roomy need l

-- each list filled, "entries past a count are untouched"
unfoldable pub filled_by : Bool → Statement → Lent Finding → Lent Finding
filled_by warns st l =
    record {
      scopes = with_scopes l.scopes (scopes warns st);
      bindings = with_bindings l.bindings (bindings warns st);
      carried = with_carried l.carried (carried_list warns st);
      recorded = with_recorded l.recorded (recorded warns st);
      findings = with_records l.findings (findings warns st);
    }

-- the lists: filled, or "a refusal alters nothing"
unfoldable pub left : Bool → Sheet Statement → (Counts → Bool) → Lent Finding → Lent Finding
left warns (refused c) fit l = l
left warns (accepted st) fit l = cond (fit (counts_of warns st)) (filled_by warns st l) l

-- the answer and the lists for the bytes of a sheet
unfoldable pub answer_for : Bool → List ℕ → Lent Finding → Sheet Counts
answer_for warns s l = answer warns (read_sheet s) (λ need. fits (length (words s)) need l)

unfoldable pub left_for : Bool → List ℕ → Lent Finding → Lent Finding
left_for warns s l = left warns (read_sheet s) (λ need. fits (length (words s)) need l) l
