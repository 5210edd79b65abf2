-- Where a WITH, its sort keys and the part after it stand in the five lists: the numbers, pairs and pieces that With compares are the
-- lists' own.
use Rattle.std.specs.Prelude.{ℕ, ◌≡◌, Bool, length, Some}
use mathlib.Core.List.{List, [], ◌∷◌, ◌++◌, Memᴰ}
use Rattle.scope.specs.Graph.{root_scope, with_barrier, Scope, scope}
use Rattle.clauses.specs.Tree.{with'}
use Rattle.sheet.specs.Statement.{Statement}
use Rattle.semantics.specs.Log.{Finding, Answer, write, Event, scopes_in, binds_in, answers_in, finds_in}
use Rattle.semantics.specs.Resolve
use Rattle.semantics.specs.World.{world_of}
use Rattle.semantics.specs.Kinds.{kinds}
use Rattle.semantics.specs.Lists
use Rattle.semantics.specs.Lists.{puts, notes, answer_for, pairs_at}
use Rattle.theorems.specs.Compare.{from, besides}
use Rattle.theorems.specs.Site.{Site, in_head, in_arm, cut_of, barrier_of, new_root, pairs, root_log, keys_log, rest_log, part_log, key_scopes}
use Rattle.theorems.specs.With.{part_findings}

-- The kinds findings up to the part's: of the head up to the WITH and with it, its sort keys too, or of the whole head for a WITH in an arm.
unfoldable pub kinds_before : Bool → Statement → Site → List Finding
kinds_before warns s (in_head c) = kinds (world_of warns s) (c.before ++ with' c.start c.stop c.projections c.filter c.keys ∷ [])
kinds_before warns s (in_arm e a b c l) = kinds (world_of warns s) s.head

-- The part's kinds findings: "arms get no kind check".
unfoldable pub kinds_after : Bool → Statement → Site → List Finding
kinds_after warns s (in_head c) = kinds (world_of warns s) c.after
kinds_after warns s (in_arm e a b c l) = []

-- For one WITH of a statement, at the site p; `in-lists` gives it for every one.
pub record InLists (warns : Bool) (s : Statement) (p : Site) : Type 0 where
  -- what is said up to the barrier and with it: the log is that, and then what the new Root, the sort keys and the rest say
  pub before : List Event
  pub log : Resolve.log warns s ≡ before ++ (root_log warns s p ++ (keys_log warns s p ++ rest_log warns s p))
  -- Scopes: those before, the last of them the WithBarrier, then the new Root, its child, those of the sort keys, and the rest; barrier and
  -- new Root stand at their numbers, each after as many others
  pub scopes : Lists.scopes warns s ≡ scopes_in before ++ (scopes_in (root_log warns s p) ++ (scopes_in (keys_log warns s p) ++ scopes_in (rest_log warns s p)))
  pub earlier : List Scope
  pub parent : ℕ
  pub barrier : scopes_in before ≡ earlier ++ scope with_barrier (Some parent) (cut_of p).start (cut_of p).stop ∷ []
  pub barrier_at : length earlier ≡ barrier_of warns s p
  pub root : scopes_in (root_log warns s p) ≡ scope root_scope (Some (barrier_of warns s p)) (cut_of p).stop (cut_of p).stop ∷ []
  pub root_at : length (scopes_in before) ≡ new_root warns s p
  pub keys_at : length (scopes_in (keys_log warns s p)) ≡ key_scopes warns s p
  -- Bindings: those of scopes before the new Root, its own, those of the sort keys' scopes, and the rest's; from its number on, besides the
  -- sort keys', those that the part makes
  pub bindings : Lists.bindings warns s
      ≡ puts (binds_in before) [] ++ (puts (binds_in (root_log warns s p)) [] ++ (puts (binds_in (keys_log warns s p)) [] ++ puts (binds_in (rest_log warns s p)) []))
  pub bound : besides (new_root warns s p) (key_scopes warns s p) (from (new_root warns s p) (Lists.bindings warns s)) ≡ puts (binds_in (part_log warns s p)) []
  -- Carried: at the barrier's number, the WITH's pairs
  pub carried : pairs_at (barrier_of warns s p) (Lists.carried_list warns s) ≡ pairs warns s p
  -- Recorded: the part's records are noted after those before and those of the sort keys; for a use id that the part records, the answer is
  -- the part's
  pub recorded : Lists.recorded warns s ≡ notes (answers_in (part_log warns s p)) (notes (answers_in (keys_log warns s p)) (notes (answers_in before) []))
  pub answers : (i : ℕ) (a : Answer) → Memᴰ (write i a) (answers_in (part_log warns s p))
      → answer_for i (Lists.recorded warns s) ≡ answer_for i (notes (answers_in (part_log warns s p)) [])
  -- Findings: the resolve walk's, those before, the sort keys' and the part's; and then the kinds walk's, those before and the part's
  pub findings : Lists.findings warns s
      ≡ finds_in before ++ (finds_in (keys_log warns s p) ++ (finds_in (part_log warns s p) ++ (kinds_before warns s p ++ kinds_after warns s p)))
  pub found : part_findings warns s p ≡ finds_in (part_log warns s p) ++ kinds_after warns s p
