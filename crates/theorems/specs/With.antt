-- "Before and after a WITH" (document 01, with sort keys as document 02, CR 1 has it): what is equal, and what is compared.
use Rattle.std.specs.Prelude.{ℕ, ◌≡◌, Bool, drop}
use mathlib.Core.List.{List, ◌++◌, map, Memᴰ}
use Rattle.expr.specs.Erase.{erases}
use Rattle.clauses.specs.Tree.{keys_of}
use Rattle.clauses.specs.Erase.{erase_c, erase_a}
use Rattle.sheet.specs.Statement.{Statement}
use Rattle.semantics.specs.Log.{Finding, Answer, write, answers_in, finds_in}
use Rattle.semantics.specs.World.{world_of}
use Rattle.semantics.specs.Kinds.{kinds}
use Rattle.semantics.specs.Lists
use Rattle.semantics.specs.Lists.{answer_for, pairs_at, scopes, bindings, recorded}
use Rattle.theorems.specs.Compare.{blank_scope, blank_finding, number_scope, number_entry, from, besides, moved}
use Rattle.theorems.specs.Site.{Site, in_head, in_arm, is_head, cut_of, Stands, later_arms, barrier_of, key_scopes, part_log}

-- "Findings that the part gives, `resolve` ones first"; arms get no kind check
unfoldable pub part_findings : Bool → Statement → Site → List Finding
part_findings warns s (in_head c) = finds_in (part_log warns s (in_head c)) ++ kinds (world_of warns s) c.after
part_findings warns s (in_arm e a b c l) = finds_in (part_log warns s (in_arm e a b c l))

-- "Demand 3 takes one WITH, whichever, in each of two accepted sheets, both in the head or both in arms. Equal are: both tables ..; the
-- pairs of name and variable the two barriers carry, in order; the part after the WITH, word for word but for spans". CR 1: it "holds where
-- both WITHs have the same keys, spans apart"; a WITH without keys and one with a count of 0 have the same. For sheets see Sheets.
pub record Agree (warns : Bool) (s₁ s₂ : Statement) (p₁ p₂ : Site) : Type 0 where
  pub stands₁ : Stands s₁ p₁
  pub stands₂ : Stands s₂ p₂
  pub sort : is_head p₁ ≡ is_head p₂
  pub names : s₁.names ≡ s₂.names
  pub table : s₁.bindings ≡ s₂.bindings
  pub carried : pairs_at (barrier_of warns s₁ p₁) (Lists.carried_list warns s₁) ≡ pairs_at (barrier_of warns s₂ p₂) (Lists.carried_list warns s₂)
  pub keys : erases (keys_of (cut_of p₁).keys) ≡ erases (keys_of (cut_of p₂).keys)
  pub clauses : map erase_c (cut_of p₁).after ≡ map erase_c (cut_of p₂).after
  pub arms : map erase_a (later_arms s₁ p₁) ≡ map erase_a (later_arms s₂ p₂)

-- What is compared, with r₁ and r₂ the new Roots' numbers. `same_visits`: what the visits in the part record, in order, so that the use ids
-- that the one part records are those that the other does. CR 1 leaves out what the sort keys say, and the bindings of the scopes that they
-- open; these scopes themselves are as many, of the same kinds, with parents so moved.
pub record Same (warns : Bool) (s₁ s₂ : Statement) (p₁ p₂ : Site) (r₁ r₂ : ℕ) : Type 0 where
  pub same_findings : map blank_finding (part_findings warns s₁ p₁) ≡ map blank_finding (part_findings warns s₂ p₂)
  pub same_visits : answers_in (part_log warns s₁ p₁) ≡ answers_in (part_log warns s₂ p₂)
  pub same_answers : (i : ℕ) (a : Answer) → Memᴰ (write i a) (answers_in (part_log warns s₁ p₁)) → answer_for i (recorded warns s₁) ≡ answer_for i (recorded warns s₂)
  pub same_scopes : map (number_scope (moved r₁ r₂)) (map blank_scope (drop r₁ (scopes warns s₁))) ≡ map blank_scope (drop r₂ (scopes warns s₂))
  pub same_key_scopes : key_scopes warns s₁ p₁ ≡ key_scopes warns s₂ p₂
  pub same_bindings : map (number_entry (moved r₁ r₂)) (besides r₁ (key_scopes warns s₁ p₁) (from r₁ (bindings warns s₁))) ≡ besides r₂ (key_scopes warns s₂ p₂) (from r₂ (bindings warns s₂))
