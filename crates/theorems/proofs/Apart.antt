-- "Before and after a WITH" (`apart`): both statements are compared with one canonical run, the part without spans after a barrier that is
-- scope 1, so no number is ever moved down. Moved gives the run, Placed its place in the lists. The sort keys see another list in each
-- statement: of them the canonical run has the scopes alone, which Scopes gives.
use Rattle.std.specs.Prelude.{None, Some}
use Prim.Native.Nat.{ℕ, zero, suc}
use native.Mathlib.Omega.{arith}
use mathlib.Core.Path.{◌≡◌, refl, sym, ◌∙◌, ap, ap₂, subst}
use mathlib.Core.Bool.{Bool, false, true≢false, false≢true}
use mathlib.Core.List.{List, [], ◌∷◌, ◌++◌, map, map-append, reverse, Memᴰ}
use lib.ListN.{length, length-map, drop, get_or}
use Rattle.words.specs.Fnv.{use_id}
use Rattle.scope.specs.Graph.{Scope, scope, Entry, entry}
use Rattle.expr.specs.Erase.{erases}
use Rattle.clauses.specs.Tree.{keys_of}
use Rattle.tables.specs.Index.{index_of}
use Rattle.tables.specs.VarName.{var_name}
use Rattle.sheet.specs.Statement.{Statement}
use Rattle.clauses.specs.Erase.{erase_c, erase_a}
use Rattle.semantics.specs.Log.{Answer, Bound, Write, write, Event, open', bind, carry, answer, find, scope_of, bind_of, answer_of, find_of, scopes_in, binds_in, answers_in, finds_in, opened, logs}
use Rattle.semantics.specs.World.{world_of, bytes_of, star_name, id_name, row_of}
use Rattle.semantics.specs.Resolve.{State, standing, leave, resolves, fresh, sort_by}
use Rattle.semantics.specs.Kinds.{kinds}
use Rattle.semantics.specs.Lists.{puts, answer_for, scopes, bindings, recorded}
use Rattle.theorems.proofs.Views.{pick-map, pick_same, map-reverse, scopes-append}
use Rattle.theorems.proofs.Moved.{blank, number, number_bound, up, R, fresh-R, clauses-R, arms-R}
use Rattle.theorems.proofs.Scopes.{Opens, opens-log, resolves-Opens}
use Rattle.theorems.specs.Compare.{blank_scope, blank_finding, number_scope, from, besides, number_entry, moved}
use Rattle.theorems.proofs.Bare.{bare-kinds}
use Rattle.theorems.specs.Site.{Site, in_head, in_arm, cut_of, Stands, later_arms, part, silent, before, resolved, at_barrier, barrier_of, new_root, pairs, rooted, ordered, root_log, keys_log, rest_log, part_log, key_scopes}
use Rattle.theorems.proofs.Placed.{tail_log, root-after, keys-after, scopes-from, bindings-from, answer-from, pairs-listed, root-at}
use Rattle.theorems.proofs.Entries.{last_write, puts-up}
use Rattle.theorems.specs.With.{part_findings, Agree, Same}

-- Moving from one place to the other by way of barrier 1.
moved_up : (j k s : ℕ) → moved (suc (suc j)) (suc (suc k)) (up j s) ≡ up k s
unfolding moved up
moved_up j k zero = refl
moved_up j k (suc s) = omega arith

-- l' is l but for spans, with the numbers moved up by m.
record Like (m : ℕ) (l' l : List Event) : Type 0 where
  pub same : map blank l' ≡ map (number (up m)) l

scopes-blank : (l : List Event) → scopes_in (map blank l) ≡ map blank_scope (scopes_in l)
unfolding scopes_in scope_of blank
scopes-blank l = pick-map scope_of blank blank_scope each l
  where
    each : (e : Event) → scope_of (blank e) ≡ map blank_scope (scope_of e)
    each (open' s) = refl
    each (bind o g b) = refl
    each (carry c) = refl
    each (answer a) = refl
    each (find f) = refl

scopes-number : (f : ℕ → ℕ) (l : List Event) → scopes_in (map (number f) l) ≡ map (number_scope f) (scopes_in l)
unfolding scopes_in scope_of number
scopes-number f l = pick-map scope_of (number f) (number_scope f) each l
  where
    each : (e : Event) → scope_of (number f e) ≡ map (number_scope f) (scope_of e)
    each (open' s) = refl
    each (bind o g b) = refl
    each (carry c) = refl
    each (answer a) = refl
    each (find f) = refl

-- What becomes of the entries of each sort.
binds-blank : (e : Event) → bind_of (blank e) ≡ bind_of e
unfolding bind_of blank
binds-blank (open' s) = refl
binds-blank (bind o g b) = refl
binds-blank (carry c) = refl
binds-blank (answer a) = refl
binds-blank (find x) = refl

answers-blank : (e : Event) → answer_of (blank e) ≡ answer_of e
unfolding answer_of blank
answers-blank (open' s) = refl
answers-blank (bind o g b) = refl
answers-blank (carry c) = refl
answers-blank (answer a) = refl
answers-blank (find x) = refl

finds-blank : (e : Event) → find_of (blank e) ≡ map blank_finding (find_of e)
unfolding find_of blank
finds-blank (open' s) = refl
finds-blank (bind o g b) = refl
finds-blank (carry c) = refl
finds-blank (answer a) = refl
finds-blank (find x) = refl

binds-number : (f : ℕ → ℕ) (e : Event) → bind_of (number f e) ≡ map (number_bound f) (bind_of e)
unfolding bind_of number
binds-number f (open' s) = refl
binds-number f (bind o g b) = refl
binds-number f (carry c) = refl
binds-number f (answer a) = refl
binds-number f (find x) = refl

answers_number : (f : ℕ → ℕ) (e : Event) → answer_of (number f e) ≡ answer_of e
unfolding answer_of number
answers_number f (open' s) = refl
answers_number f (bind o g b) = refl
answers_number f (carry c) = refl
answers_number f (answer a) = refl
answers_number f (find x) = refl

finds-number : (f : ℕ → ℕ) (e : Event) → find_of (number f e) ≡ find_of e
unfolding find_of number
finds-number f (open' s) = refl
finds-number f (bind o g b) = refl
finds-number f (carry c) = refl
finds-number f (answer a) = refl
finds-number f (find x) = refl

-- The views of alike logs.
module _ {j : ℕ} {l c : List Event} (h : Like j l c) where
  like-scopes : map blank_scope (scopes_in l) ≡ map (number_scope (up j)) (scopes_in c)
  like-scopes = sym (scopes-blank l) ∙ ap scopes_in h.same ∙ scopes-number (up j) c

  like-binds : binds_in l ≡ map (number_bound (up j)) (binds_in c)
  unfolding binds_in
  like-binds = sym (pick_same bind_of blank binds-blank l) ∙ ap binds_in h.same ∙ pick-map bind_of (number (up j)) (number_bound (up j)) (binds-number (up j)) c

  like-answers : answers_in l ≡ answers_in c
  unfolding answers_in
  like-answers = sym (pick_same answer_of blank answers-blank l) ∙ ap answers_in h.same ∙ pick_same answer_of (number (up j)) (answers_number (up j)) c

  like-finds : map blank_finding (finds_in l) ≡ finds_in c
  unfolding finds_in
  like-finds = sym (pick-map find_of blank blank_finding finds-blank l) ∙ ap finds_in h.same ∙ pick_same find_of (number (up j)) (finds-number (up j)) c

number-scope : (j k : ℕ) (s : Scope) → number_scope (moved (suc (suc j)) (suc (suc k))) (number_scope (up j) s) ≡ number_scope (up k) s
unfolding number_scope
number-scope j k (scope t None a b) = refl
number-scope j k (scope t (Some p) a b) = ap (λ (n : ℕ). scope t (Some n) a b) (moved_up j k p)

number-entry : (j k : ℕ) (e : Entry) → number_entry (moved (suc (suc j)) (suc (suc k))) (number_entry (up j) e) ≡ number_entry (up k) e
unfolding number_entry
number-entry j k (entry s x v t r) = ap (λ (n : ℕ). entry n x v t r) (moved_up j k s)

-- A map after a map, element by element.
maps : {A : Type 0} (f g h : A → A) → ((a : A) → f (g a) ≡ h a) → (l : List A) → map f (map g l) ≡ map h l
maps f g h e [] = refl
maps f g h e (x ∷ l) = ap₂ ◌∷◌ (e x) (maps f g h e l)

like-log : {m : ℕ} {s c : State} → R m s c → Like m (reverse s.log) (reverse c.log)
like-log {m} {s} {c} h = record { same = map-reverse blank s.log [] ∙ ap reverse h.log ∙ sym (map-reverse (number (up m)) c.log []) }

join : {m : ℕ} {a' a b' b : List Event} → Like m a' a → Like m b' b → Like m (a' ++ b') (a ++ b)
join {m} p q = record { same = rw (map-append blank, map-append (number (up m))) (ap₂ ◌++◌ p.same q.same) }

-- The state at a barrier that is scope 1.
abbrev first : State
first = record { visible = []; cur = 1; last = 1; log = [] }

-- The part of a statement's WITH.
module _ (warns : Bool) (s : Statement) (p : Site) (q : Stands s p) where
  -- After it the new Root, the sort keys, which see its names alone, and the part, all without spans.
  first-root : State
  first-root = fresh (world_of warns s) 0 (pairs warns s p) first

  first-keys : State
  first-keys = resolves (world_of warns s) (erases (keys_of (cut_of p).keys)) (silent first-root)

  first_rest : State
  first_rest = part (world_of warns s) (map erase_c (cut_of p).after) (map erase_a (later_arms s p)) (silent (leave first-root first-keys))

  plain : List Event
  plain = reverse first-root.log ++ reverse first_rest.log

  plain-scopes : List Scope
  plain-scopes = scopes_in (reverse first-root.log) ++ (scopes_in (reverse first-keys.log) ++ scopes_in (reverse first_rest.log))

  -- The number before the barrier's.
  highest : ℕ
  highest = (resolved warns s p).last

  root-R : R highest (fresh (world_of warns s) (cut_of p).stop (pairs warns s p) (silent (at_barrier warns s p))) first-root
  unfolding fresh first-root highest up barrier_of
  root-R =
      let t = at_barrier warns s p in
      let h : R highest (standing [] t.cur (silent t)) first = record { visible = refl; cur = omega (arith, (root-at warns s p).0); last = omega (arith, (root-at warns s p).1); log = refl } in
      fresh-R (world_of warns s) highest (cut_of p).stop (pairs warns s p) h

  rooted-R : R highest (silent (rooted warns s p)) (silent first-root)
  rooted-R = let g = root-R in rw (root-after warns s p) (record { visible = g.visible; cur = g.cur; last = g.last; log = refl })

  keys-Opens : let r = rooted warns s p in Opens highest (resolves (world_of warns s) (keys_of (cut_of p).keys) (standing (r.visible ++ (before warns s p).visible) r.cur (silent r))) first-keys
  unfolding first-keys logs
  keys-Opens = let g = rooted-R in resolves-Opens (world_of warns s) highest (keys_of (cut_of p).keys) (record { cur = g.cur; last = g.last; scopes = refl })

  keys-scopes : map blank_scope (scopes_in (keys_log warns s p)) ≡ map (number_scope (up highest)) (scopes_in (reverse first-keys.log))
  unfolding keys_log sort_by
  keys-scopes = opens-log keys-Opens

  keys-count : key_scopes warns s p ≡ opened (reverse first-keys.log)
  unfolding key_scopes opened
  keys-count = simp length-map at (ap length keys-scopes)

  ordered-R : R highest (silent (ordered warns s p)) (silent (leave first-root first-keys))
  unfolding sort_by
  ordered-R = let g = rooted-R in rw (keys-after warns s p) (record { visible = g.visible; cur = g.cur; last = keys-Opens.last; log = refl })

  like-root : Like highest (root_log warns s p) (reverse first-root.log)
  unfolding root_log
  like-root = like-log root-R

  like-rest : Like highest (rest_log warns s p) (reverse first_rest.log)
  unfolding rest_log first_rest part
  like-rest = like-log (arms-R (world_of warns s) highest (later_arms s p) (clauses-R (world_of warns s) highest (cut_of p).after ordered-R))

  like-plain : Like highest (part_log warns s p) plain
  unfolding part_log plain
  like-plain = join like-root like-rest

  scopes-plain : map blank_scope (drop (new_root warns s p) (scopes warns s)) ≡ map (number_scope (up highest)) plain-scopes
  unfolding tail_log plain-scopes
  scopes-plain =
      ap (map blank_scope) (scopes-from warns s p q ∙ scopes-append (root_log warns s p) (keys_log warns s p ++ rest_log warns s p) ∙ ap (λ l. scopes_in (root_log warns s p) ++ l) (scopes-append (keys_log warns s p) (rest_log warns s p)))
      ∙ rw (map-append, map-append, map-append, map-append) (ap₂ ◌++◌ (like-scopes like-root) (ap₂ ◌++◌ keys-scopes (like-scopes like-rest)))

  bindings-plain : besides (new_root warns s p) (key_scopes warns s p) (from (new_root warns s p) (bindings warns s)) ≡ map (number_entry (up highest)) (puts (binds_in plain) [])
  bindings-plain = bindings-from warns s p q ∙ ap (λ (x : List Bound). puts x []) (like-binds like-plain) ∙ puts-up _ (binds_in plain) []

world-eq : (warns : Bool) (s₁ s₂ : Statement) → s₁.names ≡ s₂.names → s₁.bindings ≡ s₂.bindings → world_of warns s₁ ≡ world_of warns s₂
unfolding world_of bytes_of
world-eq warns s₁ s₂ p q =
    λ i. record { id = λ x. use_id (get_or (p i) x []); is_star = λ x. star_name (get_or (p i) x []); is_id = λ x. id_name (get_or (p i) x []); hushed = λ x. false; row = λ v. row_of v (q i); named = λ v. index_of (var_name v) (p i); warns = warns }

module _ (warns : Bool) (s₁ s₂ : Statement) where
  module _ (p₁ p₂ : Site) (h : Agree warns s₁ s₂ p₁ p₂) where
    pairs-eq : pairs warns s₁ p₁ ≡ pairs warns s₂ p₂
    pairs-eq = sym (pairs-listed warns s₁ p₁ h.stands₁) ∙ h.carried ∙ pairs-listed warns s₂ p₂ h.stands₂

    plain-eq : plain warns s₁ p₁ h.stands₁ ≡ plain warns s₂ p₂ h.stands₂
    unfolding plain first-root first-keys first_rest
    plain-eq = rw (world-eq warns s₁ s₂ h.names h.table, pairs-eq, h.keys, h.clauses, h.arms) refl

    plain-scopes-eq : plain-scopes warns s₁ p₁ h.stands₁ ≡ plain-scopes warns s₂ p₂ h.stands₂
    unfolding plain-scopes first-root first-keys first_rest
    plain-scopes-eq = rw (world-eq warns s₁ s₂ h.names h.table, pairs-eq, h.keys, h.clauses, h.arms) refl

    keys-eq : key_scopes warns s₁ p₁ ≡ key_scopes warns s₂ p₂
    unfolding first-root first-keys
    keys-eq = keys-count warns s₁ p₁ h.stands₁ ∙ rw (world-eq warns s₁ s₂ h.names h.table, pairs-eq, h.keys) refl ∙ sym (keys-count warns s₂ p₂ h.stands₂)

    finds-eq : map blank_finding (finds_in (part_log warns s₁ p₁)) ≡ map blank_finding (finds_in (part_log warns s₂ p₂))
    finds-eq = like-finds (like-plain warns s₁ p₁ h.stands₁) ∙ ap finds_in plain-eq ∙ sym (like-finds (like-plain warns s₂ p₂ h.stands₂))

    kinds-eq : map blank_finding (kinds (world_of warns s₁) (cut_of p₁).after) ≡ map blank_finding (kinds (world_of warns s₂) (cut_of p₂).after)
    kinds-eq = (bare-kinds (world_of warns s₁) (cut_of p₁).after).same
        ∙ rw (world-eq warns s₁ s₂ h.names h.table, h.clauses) refl ∙ sym (bare-kinds (world_of warns s₂) (cut_of p₂).after).same

    answers-eq : answers_in (part_log warns s₁ p₁) ≡ answers_in (part_log warns s₂ p₂)
    answers-eq = like-answers (like-plain warns s₁ p₁ h.stands₁) ∙ ap answers_in plain-eq ∙ sym (like-answers (like-plain warns s₂ p₂ h.stands₂))

    scopes-eq : map (number_scope (moved (new_root warns s₁ p₁) (new_root warns s₂ p₂))) (map blank_scope (drop (new_root warns s₁ p₁) (scopes warns s₁))) ≡ map blank_scope (drop (new_root warns s₂ p₂) (scopes warns s₂))
    unfolding new_root barrier_of highest
    scopes-eq =
        let j = highest warns s₁ p₁ h.stands₁ in
        let k = highest warns s₂ p₂ h.stands₂ in
        let f = number_scope (moved (suc (suc j)) (suc (suc k))) in
        ap (map f) (scopes-plain warns s₁ p₁ h.stands₁)
        ∙ maps f (number_scope (up j)) (number_scope (up k)) (number-scope j k) (plain-scopes warns s₁ p₁ h.stands₁)
        ∙ ap (map (number_scope (up k))) plain-scopes-eq ∙ sym (scopes-plain warns s₂ p₂ h.stands₂)

    bindings-eq : map (number_entry (moved (new_root warns s₁ p₁) (new_root warns s₂ p₂))) (besides (new_root warns s₁ p₁) (key_scopes warns s₁ p₁) (from (new_root warns s₁ p₁) (bindings warns s₁)))
        ≡ besides (new_root warns s₂ p₂) (key_scopes warns s₂ p₂) (from (new_root warns s₂ p₂) (bindings warns s₂))
    unfolding new_root barrier_of highest
    bindings-eq =
        let j = highest warns s₁ p₁ h.stands₁ in
        let k = highest warns s₂ p₂ h.stands₂ in
        let f = number_entry (moved (suc (suc j)) (suc (suc k))) in
        ap (map f) (bindings-plain warns s₁ p₁ h.stands₁)
        ∙ maps f (number_entry (up j)) (number_entry (up k)) (number-entry j k) (puts (binds_in (plain warns s₁ p₁ h.stands₁)) [])
        ∙ ap (λ (x : List Event). map (number_entry (up k)) (puts (binds_in x) [])) plain-eq ∙ sym (bindings-plain warns s₂ p₂ h.stands₂)

    answer_eq : (i : ℕ) (a : Answer) → Memᴰ (write i a) (answers_in (part_log warns s₁ p₁)) → answer_for i (recorded warns s₁) ≡ answer_for i (recorded warns s₂)
    answer_eq i a m =
        answer-from warns s₁ p₁ h.stands₁ i a m ∙ ap (λ (x : List Write). last_write i x None) answers-eq
        ∙ sym (answer-from warns s₂ p₂ h.stands₂ i a (subst (λ (x : List Write). Memᴰ (write i a) x) answers-eq m))

  findings-eq : (p₁ p₂ : Site) → Agree warns s₁ s₂ p₁ p₂ → map blank_finding (part_findings warns s₁ p₁) ≡ map blank_finding (part_findings warns s₂ p₂)
  unfolding part_findings
  findings-eq (in_head c) (in_head d) h = simp (map-append blank_finding) (ap₂ ◌++◌ (finds-eq (in_head c) (in_head d) h) (kinds-eq (in_head c) (in_head d) h))
  findings-eq (in_head c) (in_arm e a b d l) h = absurd (true≢false h.sort)
  findings-eq (in_arm e a b c l) (in_head d) h = absurd (false≢true h.sort)
  findings-eq (in_arm e a b c l) (in_arm f i j d m) h = finds-eq (in_arm e a b c l) (in_arm f i j d m) h

  -- Before and after a WITH.
  pub apart : (p₁ p₂ : Site) → Agree warns s₁ s₂ p₁ p₂ → Same warns s₁ s₂ p₁ p₂ (new_root warns s₁ p₁) (new_root warns s₂ p₂)
  apart p₁ p₂ h = record { same_findings = findings-eq p₁ p₂ h; same_visits = answers-eq p₁ p₂ h; same_answers = answer_eq p₁ p₂ h; same_scopes = scopes-eq p₁ p₂ h; same_key_scopes = keys-eq p₁ p₂ h; same_bindings = bindings-eq p₁ p₂ h }
