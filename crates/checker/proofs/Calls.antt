-- Demand 3 on what two check calls leave: entries read back, so each call's lists are the definition's, of which `apart-sheets` compares the
-- parts; and the part's findings stand in the list where `in-lists` says, after those of the sort keys.
use Prim.Native.Nat.{ℕ, ◌-◌}
use native.Mathlib.Omega.{arith}
use mathlib.Core.Path.{◌≡◌, refl, ◌∙◌, ap, ap₂}
use mathlib.Core.Bool.{Bool, true, false, cond}
use mathlib.Core.List.{List, ◌++◌, append_assoc}
use lib.ListN.{length, take, drop, length-append}
use lib.Seq.{take_at, drop_at}
use Rattle.words.specs.Words.{words}
use Rattle.expr.proofs.Inverse.{never}
use Rattle.sheet.specs.Statement.{Statement}
use Rattle.sheet.specs.Read.{accepted, refused, read_sheet}
use Rattle.semantics.specs.Log.{Finding, finds_in, find_of}
use Rattle.semantics.specs.Resolve.{log}
use Rattle.semantics.specs.Lists
use Rattle.theorems.specs.Site.{Site, Stands, new_root, keys_log, part_log}
use Rattle.theorems.specs.With.{part_findings}
use Rattle.theorems.specs.InLists.{kinds_before, kinds_after}
use Rattle.theorems.specs.Sheets.{AgreeSheets}
use Rattle.theorems.proofs.Views.{pick-append}
use Rattle.theorems.proofs.InLists.{in-lists}
use Rattle.theorems.proofs.ApartSheets.{apart-sheets}
use Rattle.entries.specs.Filled.{with_scopes, with_bindings, with_carried, with_recorded, with_findings}
use Rattle.checker.specs.Checked.{Lent, fits, counts_of, filled_by, answer, left, answer_in, left_in}
use Rattle.checker.specs.Calls.{Call, entries_in, lists_of, pieces, part_in, SameLists}
use Rattle.checker.specs.declared.Counts.{Counts}
use Rattle.checker.proofs.Reading.{scopes-back, bindings-back, carrieds-back, recordeds-back, findings-back}

module _ (warns : Bool) (s : Statement) where
  filled-entries : (old : Lent ℕ) → entries_in (counts_of warns s) (filled_by warns s old) ≡ lists_of warns s
  unfolding entries_in counts_of filled_by lists_of with_scopes with_bindings with_carried with_recorded with_findings
  filled-entries old =
      rw (
        scopes-back (Lists.scopes warns s) old.scopes,
        bindings-back (Lists.bindings warns s) old.bindings,
        carrieds-back (Lists.carried_list warns s) old.carried,
        recordeds-back (Lists.recorded warns s) old.recorded,
        findings-back (Lists.findings warns s) old.findings,
      )
      refl

  -- A call that answers with counts has filled the lists.
  counted : (room : Bool) (old : Lent ℕ) {new : Lent ℕ} {n : Counts} → accepted n ≡ cond room (accepted (counts_of warns s)) (refused 8) → new ≡ cond room (filled_by warns s old) old → entries_in n new ≡ lists_of warns s
  counted true old {new} {n} a b =
      let e : n ≡ counts_of warns s = cc in
      rw (e, b) (filled-entries old)
  counted false old a b = never (cc)

  pub call-lists : {bytes : List ℕ} {room : ℕ} {old new : Lent ℕ} {n : Counts} → read_sheet bytes ≡ accepted s → Call warns bytes old room n new → entries_in n new ≡ lists_of warns s
  unfolding answer_in left_in answer left
  call-lists {bytes} {room} {old} e c = counted (fits (length (words bytes)) (counts_of warns s) old room) old (rw e at c.answers) (rw e at c.leaves)

-- Four pieces of a list, of which the second and the last are taken.
pieces-taken : (a b c d : List Finding) → pieces (length a) (length b) (length d) (a ++ (b ++ (c ++ d))) ≡ b ++ d
unfolding pieces
pieces-taken a b c d =
    let fs = a ++ (b ++ (c ++ d)) in
    let regroup : fs ≡ ((a ++ b) ++ c) ++ d = simp append_assoc in
    let last : drop (length fs - length d) fs ≡ d
    = ap (drop (length fs - length d)) regroup ∙ drop_at ((a ++ b) ++ c) d (length fs - length d) (simp length-append (omega arith)) in
    ap₂ ◌++◌ (ap (take (length b)) (drop_at a (b ++ (c ++ d)) (length a) refl) ∙ take_at b (c ++ d) (length b) refl) last

part-found : (warns : Bool) (s : Statement) (p : Site) → Stands s p → part_in warns s p (Lists.findings warns s) ≡ part_findings warns s p
unfolding part_in finds_in part_log
part-found warns s p q =
    let h = in-lists warns s p q in
    let a = finds_in h.before ++ finds_in (keys_log warns s p) in
    let n : length (finds_in (log warns s)) - length (finds_in (part_log warns s p)) ≡ length a = rw h.log (simp (pick-append find_of, length-append) (omega arith)) in
    rw (n, h.findings, h.found, ← append_assoc (finds_in h.before) (finds_in (keys_log warns s p))) (pieces-taken a (finds_in (part_log warns s p)) (kinds_before warns s p) (kinds_after warns s p))

module _ {warns : Bool} {s₁ s₂ : List ℕ} {st₁ st₂ : Statement} {p₁ p₂ : Site} (h : AgreeSheets warns s₁ s₂ st₁ st₂ p₁ p₂) where
  same_lists : SameLists warns st₁ st₂ p₁ p₂ (new_root warns st₁ p₁) (new_root warns st₂ p₂) (lists_of warns st₁) (lists_of warns st₂)
  unfolding lists_of
  same_lists =
      let e = apart-sheets h in
      record {
        same_findings = rw (part-found warns st₁ p₁ h.stands₁, part-found warns st₂ p₂ h.stands₂) e.same_findings;
        same_visits = e.same_visits;
        same_answers = e.same_answers;
        same_scopes = e.same_scopes;
        same_key_scopes = e.same_key_scopes;
        same_bindings = e.same_bindings;
      }

  -- Before and after a WITH, of what two check calls leave.
  pub apart-calls : {lent₁ left₁ lent₂ left₂ : Lent ℕ} {room₁ room₂ : ℕ} {n₁ n₂ : Counts} → Call warns s₁ lent₁ room₁ n₁ left₁ → Call warns s₂ lent₂ room₂ n₂ left₂
      → SameLists warns st₁ st₂ p₁ p₂ (new_root warns st₁ p₁) (new_root warns st₂ p₂) (entries_in n₁ left₁) (entries_in n₂ left₂)
  apart-calls a b = rw (call-lists warns st₁ h.reads₁ a, call-lists warns st₂ h.reads₂ b) same_lists
