-- Where a WITH and its part stand in the lists: each list is a view of the log, which is what is said before the new Root, by it, by the
-- sort keys and by the rest (`split`), and a view of pieces is that of each after the other. `in-lists` says it of every WITH.
use Rattle.std.specs.Prelude.{Some}
use Prim.Native.Nat.{ℕ}
use native.Mathlib.Omega.{arith}
use mathlib.Core.Path.{◌≡◌, refl, sym, ◌∙◌, ap}
use mathlib.Core.Bool.{Bool}
use mathlib.Core.List.{List, [], ◌∷◌, ◌++◌, map, reverse, reverse_aux-eq, append_assoc, append-nil}
use lib.ListN.{length, length-append}
use Rattle.scope.specs.Graph.{with_barrier, scope}
use Rattle.clauses.specs.Tree.{Clause, with'}
use Rattle.sheet.specs.Statement.{Statement}
use Rattle.semantics.specs.Log.{open', finds_in, find_of, scopes_in, answers_in, opened, logs}
use Rattle.semantics.specs.World.{World, world_of}
use Rattle.semantics.specs.Resolve.{Pair, pair, State, enter, barrier, log}
use Rattle.semantics.specs.Kinds.{kinds, kinds_c}
use Rattle.semantics.specs.Lists
use Rattle.semantics.specs.Lists.{notes}
use Rattle.theorems.specs.Site.{Cut, whole, Site, in_head, in_arm, cut_of, Stands, pairs, resolved, at_barrier, barrier_of, new_root, root_log, keys_log, rest_log, part_log, key_scopes}
use Rattle.theorems.specs.With.{part_findings}
use Rattle.theorems.specs.InLists.{kinds_before, kinds_after, InLists}
use Rattle.theorems.proofs.Views.{pick-append, scopes-append, answers-append}
use Rattle.theorems.proofs.Entries.{notes-append, answer-only}
use Rattle.theorems.proofs.Placed.{carry_at, carry-log, pre_log, tail_log, pre-opened, split, root-quiet, part-answers, pairs-listed, bindings-pieces, bindings-from, answer-from}

kinds-append : (w : World) (xs ys : List Clause) → kinds w (xs ++ ys) ≡ kinds w xs ++ kinds w ys
unfolding kinds
kinds-append w [] ys = refl
kinds-append w (x ∷ xs) ys = rw (kinds-append w xs ys) (sym (append_assoc (kinds_c w x) (kinds w xs) (kinds w ys)))

head-kinds : (w : World) (head : List Clause) (c : Cut) → head ≡ whole c
    → kinds w head ≡ kinds w (c.before ++ with' c.start c.stop c.projections c.filter c.keys ∷ []) ++ kinds w c.after
unfolding whole kinds
head-kinds w head c q = rw (q, kinds-append w c.before, kinds-append w c.before) (simp (append_assoc, append-nil))

-- A barrier opens one scope, the last before the part.
carries-scopes : (b : ℕ) (cs : List Pair) → scopes_in (map (carry_at b) cs) ≡ []
unfolding logs
carries-scopes b [] = refl
carries-scopes b (pair x v ∷ cs) = carries-scopes b cs

barrier-scope : (w : World) (a b : ℕ) (cs : List Pair) (s : State)
    → scopes_in (reverse (barrier w a b cs s).log) ≡ scopes_in (reverse s.log) ++ scope with_barrier (Some s.cur) a b ∷ []
unfolding barrier
barrier-scope w a b cs s =
    let t = enter with_barrier a b s in
    ap scopes_in (carry-log w cs t) ∙ scopes-append (reverse t.log) (map (carry_at t.cur) cs)
    ∙ ap (λ l. scopes_in (reverse t.log) ++ l) (carries-scopes t.cur cs)
    ∙ append-nil _ ∙ ap scopes_in (reverse_aux-eq s.log (open' (scope with_barrier (Some s.cur) a b) ∷ []))
    ∙ scopes-append (reverse s.log) (open' (scope with_barrier (Some s.cur) a b) ∷ []) ∙ unfold logs in refl

module _ (warns : Bool) (s : Statement) where
  -- the new Root finds nothing
  finds-pieces : (p : Site) → Stands s p → finds_in (log warns s) ≡ finds_in (pre_log warns s p) ++ (finds_in (keys_log warns s p) ++ finds_in (part_log warns s p))
  unfolding finds_in tail_log part_log
  finds-pieces p q = rw (split warns s p q) (simp (pick-append find_of, (root-quiet warns s p).1))

  findings-pieces : (p : Site) → Stands s p
      → Lists.findings warns s ≡ finds_in (pre_log warns s p) ++ (finds_in (keys_log warns s p) ++ (finds_in (part_log warns s p) ++ (kinds_before warns s p ++ kinds_after warns s p)))
  unfolding Lists.findings kinds_before kinds_after
  findings-pieces (in_head c) q = rw (finds-pieces (in_head c) q, head-kinds (world_of warns s) s.head c q) (simp append_assoc)
  findings-pieces (in_arm e a b c l) q = rw (finds-pieces (in_arm e a b c l) q) (simp (append_assoc, append-nil))

  part-found : (p : Site) → part_findings warns s p ≡ finds_in (part_log warns s p) ++ kinds_after warns s p
  unfolding part_findings kinds_after
  part-found (in_head c) = refl
  part-found (in_arm e a b c l) = sym (append-nil _)

  -- the barrier is the last scope before the new Root
  barrier-last : (p : Site) → scopes_in (pre_log warns s p)
      ≡ scopes_in (reverse (resolved warns s p).log) ++ scope with_barrier (Some (resolved warns s p).cur) (cut_of p).start (cut_of p).stop ∷ []
  unfolding pre_log at_barrier
  barrier-last p = barrier-scope (world_of warns s) _ _ (pairs warns s p) (resolved warns s p)

  barrier-at : (p : Site) → length (scopes_in (reverse (resolved warns s p).log)) ≡ barrier_of warns s p
  unfolding new_root opened
  barrier-at p = omega (arith, pre-opened warns s p, simp length-append at (ap length (barrier-last p)))

  scopes-pieces : (p : Site) → Stands s p
      → Lists.scopes warns s ≡ scopes_in (pre_log warns s p) ++ (scopes_in (root_log warns s p) ++ (scopes_in (keys_log warns s p) ++ scopes_in (rest_log warns s p)))
  unfolding Lists.scopes tail_log
  scopes-pieces p q = rw (split warns s p q) (simp scopes-append)

  records-noted : (p : Site) → Stands s p
      → Lists.recorded warns s ≡ notes (answers_in (part_log warns s p)) (notes (answers_in (keys_log warns s p)) (notes (answers_in (pre_log warns s p)) []))
  unfolding Lists.recorded tail_log
  records-noted p q = rw (split warns s p q, part-answers warns s p q) (simp (answers-append, notes-append, (root-quiet warns s p).0) (unfold notes in refl))

  pub in-lists : (p : Site) → Stands s p → InLists warns s p
  unfolding opened key_scopes tail_log
  in-lists p q = record {
    before = pre_log warns s p;
    log = split warns s p q;
    scopes = scopes-pieces p q;
    earlier = scopes_in (reverse (resolved warns s p).log);
    parent = (resolved warns s p).cur;
    barrier = barrier-last p;
    barrier_at = barrier-at p;
    root = (root-quiet warns s p).2;
    root_at = pre-opened warns s p;
    keys_at = refl;
    bindings = bindings-pieces warns s p q;
    bound = bindings-from warns s p q;
    carried = pairs-listed warns s p q;
    recorded = records-noted p q;
    answers = λ i a m. answer-from warns s p q i a m ∙ sym (answer-only i (answers_in (part_log warns s p)));
    findings = findings-pieces p q;
    found = part-found p;
  }
