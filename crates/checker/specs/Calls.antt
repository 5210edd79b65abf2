-- "Before and after a WITH" (document 01, with sort keys as document 02, CR 1 has it) on what two check calls leave: the flat words of the lent lists, read as entries. For two sheets
-- that agree `apart-calls` says that call 1 leaves these lists, call 2 those, and the parts that are compared are the same.
use Rattle.std.specs.Prelude.{ℕ, ◌-◌, ◌≡◌, Bool, cond, eqb, length, get_or, take, drop}
use mathlib.Core.List.{List, ◌++◌, map, Memᴰ}
use Rattle.scope.specs.Graph.{Scope, Entry, Carried}
use Rattle.scope.specs.Flat.{entries_of, scopes_of, bindings_of, carrieds_of}
use Rattle.sheet.specs.Statement.{Statement}
use Rattle.sheet.specs.Read.{accepted}
use Rattle.semantics.specs.Log.{Finding, Answer, found, missing, Write, write, answers_in, finds_in}
use Rattle.semantics.specs.Resolve.{log}
use Rattle.semantics.specs.Lists
use Rattle.semantics.specs.Lists.{answer_for}
use Rattle.theorems.specs.Compare.{blank_scope, blank_finding, number_scope, number_entry, from, besides, moved}
use Rattle.theorems.specs.Site.{Site, part_log, key_scopes}
use Rattle.theorems.specs.InLists.{kinds_after}
use Rattle.finding.specs.Flat.{findings_of}
use Rattle.entries.specs.Filled.{recorded_width}
use Rattle.checker.specs.Checked.{Lent, answer_in, left_in}
use Rattle.checker.specs.declared.Counts.{Counts}

-- A check call that answers with counts, and the lists that it is lent and leaves: the contract of `check_words`.
pub record Call (warns : Bool) (s : List ℕ) (lent : Lent ℕ) (room : ℕ) (n : Counts) (left : Lent ℕ) : Type 0 where
  pub answers : accepted n ≡ answer_in warns s lent room
  pub leaves : left ≡ left_in warns s lent room

-- the five lists as entries
pub record Entries : Type 0 where
  pub scopes : List Scope
  pub bindings : List Entry
  pub carried : List Carried
  pub recorded : List Write
  pub findings : List Finding

-- five words as a recorded use: "1 found or 0 unresolved, variable, kind, via_projection"
abbrev pub write_of : List ℕ → Write
write_of ws = write (get_or ws 0 0) (cond (eqb (get_or ws 1 0) 0) missing (found (get_or ws 2 0) (get_or ws 3 0) (get_or ws 4 0)))

-- so many entries of each list, as are counted
unfoldable pub entries_in : Counts → Lent ℕ → Entries
entries_in n l =
    record {
      scopes = scopes_of n.scopes l.scopes;
      bindings = bindings_of n.bindings l.bindings;
      carried = carrieds_of n.carried l.carried;
      recorded = entries_of recorded_width write_of n.recorded l.recorded;
      findings = findings_of n.findings l.findings;
    }

-- the definition's lists
unfoldable pub lists_of : Bool → Statement → Entries
lists_of warns s =
    record {
      scopes = Lists.scopes warns s;
      bindings = Lists.bindings warns s;
      carried = Lists.carried_list warns s;
      recorded = Lists.recorded warns s;
      findings = Lists.findings warns s;
    }

-- Of a findings list those that the part gives: so many after the resolve ones before them, and so many at the end.
unfoldable pub pieces : (before own last : ℕ) → List Finding → List Finding
pieces before own last fs = take own (drop before fs) ++ drop (length fs - last) fs

-- the same for a statement's WITH, by how many findings its part gives
unfoldable pub part_in : Bool → Statement → Site → List Finding → List Finding
part_in warns s p =
    let own = length (finds_in (part_log warns s p)) in
    pieces (length (finds_in (log warns s)) - own) own (length (kinds_after warns s p))

-- What is compared of the entries that the first call leaves and of those that the second does: as in `Same`, d being r₂ - r₁.
pub record SameLists (warns : Bool) (s₁ s₂ : Statement) (p₁ p₂ : Site) (r₁ r₂ : ℕ) (first second : Entries) : Type 0 where
  pub same_findings : map blank_finding (part_in warns s₁ p₁ first.findings) ≡ map blank_finding (part_in warns s₂ p₂ second.findings)
  pub same_visits : answers_in (part_log warns s₁ p₁) ≡ answers_in (part_log warns s₂ p₂)
  pub same_answers : (i : ℕ) (a : Answer) → Memᴰ (write i a) (answers_in (part_log warns s₁ p₁)) → answer_for i first.recorded ≡ answer_for i second.recorded
  pub same_scopes : map (number_scope (moved r₁ r₂)) (map blank_scope (drop r₁ first.scopes)) ≡ map blank_scope (drop r₂ second.scopes)
  pub same_key_scopes : key_scopes warns s₁ p₁ ≡ key_scopes warns s₂ p₂
  pub same_bindings : map (number_entry (moved r₁ r₂)) (besides r₁ (key_scopes warns s₁ p₁) (from r₁ first.bindings)) ≡ besides r₂ (key_scopes warns s₂ p₂) (from r₂ second.bindings)
