-- What `check_words` answers and leaves with a flat list of 14,336 words is what `check` is to: no accepted sheet has more than 2,048 words,
-- so that the flat list always has room, and its first words are those of the findings.
use Rattle.refusal.specs.declared.Refusal.{Refusal}
use Prim.Native.Nat.{ℕ, ◌*◌, ◌≤◌, zero-le}
use native.Mathlib.Omega.{arith}
use mathlib.Core.Path.{◌≡◌, refl, ◌∙◌}
use mathlib.Core.Bool.{Bool, true, false, cond, ◌&&◌}
use mathlib.Core.List.{List, flat_map}
use borrow.Author.Tests.{leb-true, le-leb}
use lib.Dec.{leb}
use lib.ListN.{length, drop}
use Rattle.words.specs.Words.{words}
use Rattle.words.proofs.Words.{length-words}
use Rattle.semantics.specs.Lists.{findings}
use Rattle.theorems.proofs.Sizes as sizes
use Rattle.scope.specs.Flat.{scope_width, binding_width, carried_width}
use Rattle.finding.specs.Flat.{finding_width, finding_words}
use Rattle.sheet.specs.Statement.{Statement}
use Rattle.sheet.specs.Read.{Sheet, accepted, refused, read_sheet}
use Rattle.sheet.proofs.Placing.{both}
use Rattle.sheet.proofs.Accepted.{accepted-words}
use Rattle.finding.specs.declared.Finding.{Finding}
use Rattle.finding.specs.Records.{into}
use Rattle.finding.proofs.Storing.{into-records}
use Rattle.entries.specs.Filled.{recorded_width, filled, with_findings}
use Rattle.checker.specs.Room.{enough}
use Rattle.checker.specs.Checked as core
use Rattle.checker.specs.Checked.{Lent, each, answered, counts_of, answer, answer_in, left_in, findings_in}
use Rattle.checker.specs.declared.Counts.{Counts}
use Rattle.std.specs.Prelude.{Result}
use Rattle.records.specs.Checked.{roomy, fits, filled_by, left, answer_for, left_for}

module _ (warns : Bool) (s : List ℕ) (l : Lent Finding) (flat : List ℕ) (wide : length flat ≡ 14336) where
  abbrev n : ℕ
  n = length (words s)

  -- the lists as they are lent to `check_words`
  abbrev flatly : Lent ℕ
  flatly = record { scopes = l.scopes; bindings = l.bindings; carried = l.carried; recorded = l.recorded; findings = flat }

  -- the lists as they stand once k records are stored
  abbrev stored : Lent ℕ → ℕ → Lent Finding
  stored c k = record { scopes = c.scopes; bindings = c.bindings; carried = c.carried; recorded = c.recorded; findings = into l.findings c.findings k }

  -- the tests of cause 8 in `check_words` and in `check`, by what the answer needs
  abbrev tests : Counts → Bool
  tests need = core.fits n need flatly (length l.findings)

  abbrev wants : Counts → Bool
  wants need = fits n need l

  few_words : (st : Statement) → read_sheet s ≡ accepted st → n ≤ 2048
  few_words st e = omega (arith, (accepted-words s st e).4.0.most, length-words s)

  -- the flat list has room for 2,048 findings
  same-room : (c : Counts) → c.findings ≤ 2048 → (core.roomy c flatly && leb c.findings (length l.findings)) ≡ roomy c l
  unfolding core.roomy roomy enough
  same-room c few = last (enough c.scopes (length l.scopes) scope_width) (enough c.bindings (length l.bindings) binding_width) (enough c.carried (length l.carried) carried_width) (enough c.recorded (length l.recorded) recorded_width) (leb c.findings (length l.findings)) (rw wide (le-leb c.findings 2048 few))
    where
      last : (a b c d f : Bool) {e : Bool} → e ≡ true → ((a && (b && (c && (d && e)))) && f) ≡ (a && (b && (c && (d && f))))
      last true true true true f h = rw h
      last true true true false f h = refl
      last true true false d f h = refl
      last true false c d f h = refl
      last false b c d f h = refl

  few-findings : (st : Statement) → read_sheet s ≡ accepted st → (counts_of warns st).findings ≤ n
  unfolding counts_of
  few-findings st e = (sizes.fits warns s st e).findings

  same_tests : (st : Statement) → read_sheet s ≡ accepted st → tests (counts_of warns st) ≡ wants (counts_of warns st)
  unfolding core.fits fits each
  same_tests st e =
      let few = few_words st e in
      rw (same-room (each n) few, same-room (counts_of warns st) (omega (arith, few, few-findings st e)))

  -- what holds by whether the sheet is accepted and the two tests
  abbrev Ends : Sheet Statement → (Counts → Bool) → (Counts → Bool) → Type 0
  Ends x t u =
      (answer warns x t ≡ answer warns x u)
      × ((findings_in (answer warns x t) ≤ length l.findings) × (findings_in (answer warns x t) * finding_width ≤ 14336))
      × (stored (core.left warns x t flatly) (findings_in (answer warns x t)) ≡ left warns x u l)

  accepts : (st : Statement) → read_sheet s ≡ accepted st → (a b : Bool) → tests (counts_of warns st) ≡ a → a ≡ b →
      (cond a (accepted (counts_of warns st)) (refused 8) ≡ cond b (accepted (counts_of warns st)) (refused 8))
      × ((findings_in (cond a (accepted (counts_of warns st)) (refused 8)) ≤ length l.findings) × (findings_in (cond a (accepted (counts_of warns st)) (refused 8)) * finding_width ≤ 14336))
      × (stored (cond a (core.filled_by warns st flatly) flatly) (findings_in (cond a (accepted (counts_of warns st)) (refused 8))) ≡ cond b (filled_by warns st l) l)
  unfolding counts_of core.fits core.filled_by with_findings filled filled_by into
  accepts st e false b h q = rw (← q) (refl, (zero-le, zero-le), refl)
  accepts st e true b h q =
      let few = few-findings st e in
      let most = few_words st e in
      let m = (counts_of warns st).findings in
      let both_ways = both (core.roomy (each n) flatly && leb n (length l.findings)) (core.roomy (counts_of warns st) flatly && leb m (length l.findings)) h in
      let room = leb-true m (length l.findings) (both (core.roomy (counts_of warns st) flatly) (leb m (length l.findings)) both_ways.1).1 in
      rw (← q) (refl, (room, omega (arith, few, most)), rw (into-records l.findings (findings warns st) (drop (length (flat_map finding_words (findings warns st))) flat) refl room))

  ends : (x : Sheet Statement) → read_sheet s ≡ x → Ends x tests wants
  unfolding answer core.left left into
  ends (accepted st) e = accepts st e (tests (counts_of warns st)) (wants (counts_of warns st)) refl (same_tests st e)
  ends (refused c) e = (refl, (zero-le, zero-le), refl)

  module _ (r : Result Counts Refusal) (k : ℕ) (e : answered r ≡ answer_in warns s flatly (length l.findings)) (f : k ≡ findings_in (answered r)) where
    pub within : (k ≤ length l.findings) × (k * finding_width ≤ 14336)
    unfolding answer_in
    within = rw (f, e) (ends (read_sheet s) refl).1

    -- the lists that `check_words` left, with the records stored, and the answer
    pub same-answer : answered r ≡ answer_for warns s l
    unfolding answer_in answer_for
    same-answer = e ∙ (ends (read_sheet s) refl).0

    pub same_lists : {c : Lent ℕ} → c ≡ left_in warns s flatly (length l.findings) → stored c k ≡ left_for warns s l
    unfolding answer_in left_in left_for
    same_lists g = rw (f, e, g) (ends (read_sheet s) refl).2
