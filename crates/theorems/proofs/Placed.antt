-- Where the WITH, its sort keys and its part stand in the five lists: the numbers and pairs that Apart names are the lists' own. `split`:
-- the log is what is said up to the barrier's names (`pre_log`), then what the new Root, the keys and the rest say. `root-at`: the barrier
-- has the next number and is current; `pre-opened`: the new Root's number is the count of scopes before; `root_said`: what the new Root
-- says, so that it answers nothing (`root-quiet`); `root-after`, `keys-after`: it and the keys from where nothing was said yet; `tail-in`:
-- from the new Root on all binds in scopes above the barrier. `scopes-from`, `bindings-pieces`, `bindings-from`, `answer-from`,
-- `pairs-listed`: the pieces in each list. `carry-log`: what a barrier says; `inside-carries`: a log carries at its own barriers
-- (`CarriedIn`); `clauses-append`, `arms-append`: a run in two pieces; `start-W`: where a statement begins; `silent-W`: where nothing was
-- said.
use Rattle.std.specs.Prelude.{None, Some}
use Prim.Native.Nat.{ℕ, suc, ◌+◌, ◌≤◌, ◌<◌}
use native.Mathlib.Nat.{le_refl}
use native.Mathlib.Omega.{arith}
use mathlib.Core.Path.{◌≡◌, refl, sym, ◌∙◌, ap, subst}
use mathlib.Core.Bool.{Bool, true, false, cond}
use mathlib.Core.List.{List, [], ◌∷◌, ◌++◌, map, reverse, reverse_aux, reverse_aux-eq, reverse_aux-reverse_aux-nil, reverse-append, append-nil, append_assoc, Memᴰ}
use lib.ListN.{drop}
use lib.Seq.{drop_at}
use lib.Dec.{eqb, eqb_refl}
use Rattle.scope.specs.Graph.{with_barrier, root_scope, Scope, scope, Carried, carried, Name}
use Rattle.clauses.specs.Tree.{Clause, with', Arm, arm, exprs, keys_of}
use Rattle.sheet.specs.Statement.{Statement}
use Rattle.semantics.specs.Log.{Answer, write, answers_in, finds_in, binds_in, bound, Event, open', bind, carry, answer, find, scopes_in, carries_in, carry_of, opened, logs}
use Rattle.semantics.specs.World.{World, kind_of, world_of}
use Rattle.semantics.specs.Resolve.{hit, Seen, seen, Pair, pair, State, binds, enter, standing, carry_all, bind_all, barrier, fresh, sort_by, clause, clauses, arms, start, run, log}
use Rattle.semantics.specs.Lists
use Rattle.semantics.specs.Lists.{puts, notes, answer_for, pairs_at, scopes, bindings, recorded}
use Rattle.theorems.proofs.Views.{pick-append, answers-append, opened-reverse}
use Rattle.theorems.proofs.Adds.{after, clauses-after, fresh-after, sort-after, arms-after}
use Rattle.theorems.proofs.Within.{Within, nil, cons, inside, within-join, within-reverse, Well, standing-W, resolves-W, barrier-W, fresh-W, sort-W, clauses-W, arms-W}
use Rattle.theorems.specs.Site.{whole, Site, in_head, in_arm, cut_of, Stands, later_arms, part, silent, entry, before, pairs, resolved, at_barrier, barrier_of, new_root, rooted, ordered, root_log, keys_log, rest_log, part_log, key_scopes}
use Rattle.theorems.proofs.Entries.{answer-pieces, last_write, inside-binds, puts-four, besides-four}
use Rattle.theorems.specs.Compare.{from, besides}
use Rattle.theorems.proofs.Tests.{bool-ext, ne→eqb}

pub data CarriedIn (lo hi : ℕ) : List Carried → Type 0 where
  none' : CarriedIn lo hi []
  more' : {b : ℕ} {x : Name} {v : ℕ} {l : List Carried} → lo < b → b ≤ hi → CarriedIn lo hi l → CarriedIn lo hi (carried b x v ∷ l)

pub inside-carries : {lo hi : ℕ} {l : List Event} → Within lo hi l → CarriedIn lo hi (carries_in l)
unfolding logs inside
inside-carries nil = none'
inside-carries (cons {e = open' s} h p) = inside-carries p
inside-carries (cons {e = bind o g (bound s x v k)} h p) = inside-carries p
inside-carries (cons {e = carry (carried b x v)} h p) = more' h.0 h.1 (inside-carries p)
inside-carries (cons {e = answer a} h p) = inside-carries p
inside-carries (cons {e = find f} h p) = inside-carries p

pairs-append : (b : ℕ) (l m : List Carried) → pairs_at b (l ++ m) ≡ pairs_at b l ++ pairs_at b m
unfolding pairs_at
pairs-append b [] m = refl
pairs-append b (carried c x v ∷ l) m = go (eqb b c) (pairs-append b l m)
  where
    go : (t : Bool) → pairs_at b (l ++ m) ≡ pairs_at b l ++ pairs_at b m
        → cond t (pair x v ∷ pairs_at b (l ++ m)) (pairs_at b (l ++ m)) ≡ cond t (pair x v ∷ pairs_at b l) (pairs_at b l) ++ pairs_at b m
    go true ih = ap (◌∷◌ (pair x v)) ih
    go false ih = ih

pairs_below : {lo hi : ℕ} (b : ℕ) {l : List Carried} → hi < b → CarriedIn lo hi l → pairs_at b l ≡ []
unfolding pairs_at
pairs_below b q none' = refl
pairs_below b q (more' {b = c} h i p) = rw (ne→eqb b c (λ e. omega arith)) (pairs_below b q p)

pairs-above : {lo hi : ℕ} (b : ℕ) {l : List Carried} → b ≤ lo → CarriedIn lo hi l → pairs_at b l ≡ []
unfolding pairs_at
pairs-above b q none' = refl
pairs-above b q (more' {b = c} h i p) = rw (ne→eqb b c (λ e. omega arith)) (pairs-above b q p)

abbrev pub carry_at : ℕ → Pair → Event
carry_at b (pair x v) = carry (carried b x v)

pairs-own : (b : ℕ) (cs : List Pair) → pairs_at b (carries_in (map (carry_at b) cs)) ≡ cs
unfolding pairs_at logs
pairs-own b [] = refl
pairs-own b (pair x v ∷ cs) = rw (bool-ext (eqb b b) true (λ t. tt) (λ t. eqb_refl b)) (ap (◌∷◌ (pair x v)) (pairs-own b cs))

-- Three pieces: before the carried names, those of the barrier b, after them.
pairs-pieces : (b : ℕ) {lo hi k : ℕ} {a z : List Event} (cs : List Pair) → k < b → Within lo k a → Within b hi z → pairs_at b (carries_in ((a ++ map (carry_at b) cs) ++ z)) ≡ cs
unfolding carries_in
pairs-pieces b {a = a} {z = z} cs h p q =
    rw (
      pick-append,
      pick-append carry_of a (map (carry_at b) cs),
      pairs-append,
      pairs-append b (carries_in a) (carries_in (map (carry_at b) cs)),
      pairs_below b h (inside-carries p),
      pairs-above b (omega arith) (inside-carries q),
    )
    (append-nil _ ∙ pairs-own b cs)

-- A run over two lists, one after the other.
pub clauses-append : (w : World) (xs ys : List Clause) (s : State) → clauses w (xs ++ ys) s ≡ clauses w ys (clauses w xs s)
unfolding clauses
clauses-append w [] ys s = refl
clauses-append w (x ∷ xs) ys s = clauses-append w xs ys _

pub arms-append : (w : World) (xs ys : List Arm) (s : State) → arms w (xs ++ ys) s ≡ arms w ys (arms w xs s)
unfolding arms
arms-append w [] ys s = refl
arms-append w (arm a b cs ∷ xs) ys s = arms-append w xs ys _

part-after : (w : World) (ts : List Clause) (later : List Arm) (l : List Event) (s : State) → part w ts later (after l s) ≡ after l (part w ts later s)
unfolding part
part-after w ts later l s = rw (clauses-after w l ts, arms-after w l later)

pub carry-is : (w : World) (cs : List Pair) (s : State) → ((carry_all w cs s).log ≡ reverse_aux (map (carry_at s.cur) cs) s.log) × ((carry_all w cs s).last ≡ s.last) × ((carry_all w cs s).cur ≡ s.cur)
unfolding carry_all
carry-is w [] s = (refl, refl, refl)
carry-is w (pair x v ∷ cs) s = carry-is w cs _

pub carry-log : (w : World) (cs : List Pair) (s : State) → reverse (carry_all w cs s).log ≡ reverse s.log ++ map (carry_at s.cur) cs
carry-log w cs s = ap reverse (carry-is w cs s).0 ∙ reverse_aux-reverse_aux-nil (map (carry_at s.cur) cs) s.log ∙ reverse_aux-eq s.log (map (carry_at s.cur) cs)

-- The new Root binds what the barrier carries; vis is visible there.
unfoldable pub bound_at : World → ℕ → List Pair → List Seen → List Event
bound_at w n [] vis = []
bound_at w n (pair x v ∷ cs) vis = bind true (binds n x vis) (bound n x v (kind_of w v)) ∷ bound_at w n cs (seen x (hit v 1) n ∷ vis)

bind_is : (w : World) (cs : List Pair) (s : State) → ((bind_all w cs s).log ≡ reverse_aux (bound_at w s.cur cs s.visible) s.log) × ((bind_all w cs s).last ≡ s.last)
unfolding bind_all bound_at
bind_is w [] s = (refl, refl)
bind_is w (pair x v ∷ cs) s = bind_is w cs _

binds-quiet : (w : World) (n : ℕ) (cs : List Pair) (vis : List Seen) → (answers_in (bound_at w n cs vis) ≡ []) × (finds_in (bound_at w n cs vis) ≡ []) × (scopes_in (bound_at w n cs vis) ≡ [])
unfolding logs bound_at
binds-quiet w n [] vis = (refl, refl, refl)
binds-quiet w n (pair x v ∷ cs) vis = binds-quiet w n cs _

-- The barrier is the next scope, and the current one.
pub root-at : (warns : Bool) (s : Statement) (p : Site) → ((at_barrier warns s p).cur ≡ barrier_of warns s p) × ((at_barrier warns s p).last ≡ barrier_of warns s p)
unfolding at_barrier barrier barrier_of
root-at warns s p = let e = carry-is (world_of warns s) (pairs warns s p) (enter with_barrier (cut_of p).start (cut_of p).stop (resolved warns s p)) in (e.2, e.1)

pub silent-W : (n : ℕ) (t : State) → t.last ≡ n → Well n (suc n) (silent t)
silent-W n t e = record { within = nil; count = unfold logs in omega arith; low = omega arith }

pub in-open : {lo hi : ℕ} {s : Scope} {l : List Event} → Within lo hi l → Within lo hi (open' s ∷ l)
unfolding inside
in-open h = cons tt h

module _ (warns : Bool) (s : Statement) where
  abbrev w : World
  w = world_of warns s

  -- What is said up to the barrier's names, then the part.
  unfoldable pub pre_log : Site → List Event
  pre_log p = reverse (at_barrier warns s p).log

  run-part : (p : Site) → Stands s p → run warns s ≡ part w (cut_of p).after (later_arms s p) (ordered warns s p)
  unfolding run part whole entry before pairs resolved at_barrier rooted ordered clauses clause arms
  run-part (in_head c) q =
      ap (λ h. arms w s.arms (clauses w h (start s))) q
      ∙ ap (arms w s.arms) (clauses-append w c.before (with' c.start c.stop c.projections c.filter c.keys ∷ c.after) (start s))
  run-part (in_arm e a b c l) q =
      ap (λ h. arms w h (clauses w s.head (start s))) q ∙ arms-append w e (arm a b (whole c) ∷ l) _
      ∙ ap (arms w l) (clauses-append w c.before (with' c.start c.stop c.projections c.filter c.keys ∷ c.after) _)

  -- What is said from the new Root on.
  unfoldable pub tail_log : Site → List Event
  tail_log p = root_log warns s p ++ (keys_log warns s p ++ rest_log warns s p)

  -- Each piece from where nothing was said yet.
  pub root-after : (p : Site) → rooted warns s p ≡ after (at_barrier warns s p).log (fresh w (cut_of p).stop (pairs warns s p) (silent (at_barrier warns s p)))
  unfolding rooted
  root-after p = fresh-after w (at_barrier warns s p).log (cut_of p).stop (pairs warns s p) (silent (at_barrier warns s p))

  pub keys-after : (p : Site) → ordered warns s p ≡ after (rooted warns s p).log (sort_by w (keys_of (cut_of p).keys) (before warns s p).visible (silent (rooted warns s p)))
  unfolding ordered
  keys-after p = sort-after w (rooted warns s p).log (keys_of (cut_of p).keys) (before warns s p).visible (silent (rooted warns s p))

  pub split : (p : Site) → Stands s p → log warns s ≡ pre_log p ++ tail_log p
  unfolding log pre_log tail_log root_log keys_log rest_log
  split p q =
      let o = ordered warns s p in
      let x = (fresh w (cut_of p).stop (pairs warns s p) (silent (at_barrier warns s p))).log in
      let y = (sort_by w (keys_of (cut_of p).keys) (before warns s p).visible (silent (rooted warns s p))).log in
      let z = (part w (cut_of p).after (later_arms s p) (silent o)).log in
      let e = ap (λ (t : State). y ++ t.log) (root-after p) in
      let f = ap (λ (t : State). z ++ t.log) (keys-after p) in
      let g = ap (λ (t : State). t.log) (run-part p q ∙ part-after w (cut_of p).after (later_arms s p) o.log (silent o)) in
      ap reverse (g ∙ f ∙ ap (λ l. z ++ l) e) ∙ simp (reverse-append, append_assoc)

  -- The numbers of both.
  pub start-W : Well 0 0 (start s)
  unfolding start inside logs
  start-W = record { within = cons tt nil; count = refl; low = omega arith }

  before-W : (p : Site) → Well 0 0 (before warns s p)
  unfolding before entry
  before-W (in_head c) = clauses-W w 0 0 c.before start-W
  before-W (in_arm e a b c l) = clauses-W w 0 0 c.before (standing-W w 0 0 [] 0 (arms-W w 0 0 e (clauses-W w 0 0 s.head start-W)))

  resolved-W : (p : Site) → Well 0 0 (resolved warns s p)
  unfolding resolved
  resolved-W p = (resolves-W w 0 0 (exprs (cut_of p).projections (cut_of p).filter) (before-W p)).fine

  barrier-fine : (p : Site) → Well 0 0 (at_barrier warns s p)
  unfolding at_barrier
  barrier-fine p = barrier-W w 0 0 _ _ (pairs warns s p) (resolved-W p)

  -- What the new Root says, and its number.
  pub root_said : (p : Site) → root_log warns s p ≡ open' (scope root_scope (Some (barrier_of warns s p)) (cut_of p).stop (cut_of p).stop) ∷ bound_at w (new_root warns s p) (pairs warns s p) []
  unfolding root_log fresh new_root
  root_said p =
      let b = at_barrier warns s p in
      let t = enter root_scope (cut_of p).stop (cut_of p).stop (standing [] b.cur (silent b)) in
      ap reverse (bind_is w (pairs warns s p) t).0 ∙ reverse_aux-reverse_aux-nil (bound_at w t.cur (pairs warns s p) []) t.log ∙ rw ((root-at warns s p).0, (root-at warns s p).1) refl

  pub root-quiet : (p : Site) → (answers_in (root_log warns s p) ≡ []) × (finds_in (root_log warns s p) ≡ [])
      × (scopes_in (root_log warns s p) ≡ scope root_scope (Some (barrier_of warns s p)) (cut_of p).stop (cut_of p).stop ∷ [])
  unfolding logs
  root-quiet p = let q = binds-quiet w (new_root warns s p) (pairs warns s p) [] in rw (root_said p, q.0, q.1, q.2) (refl, refl, refl)

  rooted-last : (p : Site) → (rooted warns s p).last ≡ new_root warns s p
  unfolding rooted fresh new_root
  rooted-last p = (bind_is w (pairs warns s p) _).1 ∙ ap suc (root-at warns s p).1

  root_in : (p : Site) → Within (barrier_of warns s p) (new_root warns s p) (root_log warns s p)
  unfolding root_log
  root_in p =
      let n = barrier_of warns s p in
      let h = fresh-W w n (suc n) (cut_of p).stop (pairs warns s p) (silent-W n (at_barrier warns s p) (root-at warns s p).1) in
      rw (sym (rooted-last p) ∙ ap (λ (t : State). t.last) (root-after p)) (within-reverse h.within nil)

  -- The sort keys stand in the scopes after it.
  keys-W : (p : Site) → Well (new_root warns s p) (suc (new_root warns s p)) (sort_by w (keys_of (cut_of p).keys) (before warns s p).visible (silent (rooted warns s p)))
  keys-W p = sort-W w _ _ (keys_of (cut_of p).keys) (before warns s p).visible (silent-W (new_root warns s p) (rooted warns s p) (rooted-last p))

  keys-last : (p : Site) → (sort_by w (keys_of (cut_of p).keys) (before warns s p).visible (silent (rooted warns s p))).last ≡ new_root warns s p + key_scopes warns s p
  unfolding key_scopes keys_log logs
  keys-last p = omega (arith, (keys-W p).count, opened-reverse (sort_by w (keys_of (cut_of p).keys) (before warns s p).visible (silent (rooted warns s p))).log [])

  keys_in : (p : Site) → Within (new_root warns s p) (new_root warns s p + key_scopes warns s p) (keys_log warns s p)
  unfolding keys_log
  keys_in p = rw (← keys-last p) (within-reverse (keys-W p).within nil)

  -- The rest stands above.
  rest_in : (p : Site) → (hi : ℕ) × (new_root warns s p + key_scopes warns s p ≤ hi) × Within (new_root warns s p + key_scopes warns s p) hi (rest_log warns s p)
  unfolding rest_log part
  rest_in p =
      let n = new_root warns s p + key_scopes warns s p in
      let e = ap (λ (t : State). t.last) (keys-after p) ∙ keys-last p in
      let g = arms-W w n (suc n) (later_arms s p) (clauses-W w n (suc n) (cut_of p).after (silent-W n (ordered warns s p) e)) in
      (_, g.low, within-reverse g.within nil)

  pub tail-in : (p : Site) → (hi : ℕ) × Within (barrier_of warns s p) hi (tail_log p)
  unfolding tail_log new_root
  tail-in p = let r = rest_in p in (_, within-join (omega arith) (omega (arith, r.1)) (root_in p) (within-join (omega arith) r.1 (keys_in p) r.2))

  pub pre-opened : (p : Site) → opened (pre_log p) ≡ new_root warns s p
  unfolding pre_log new_root logs
  pre-opened p = omega (arith, opened-reverse (at_barrier warns s p).log [], (barrier-fine p).count, (root-at warns s p).1)

  pre-within : (p : Site) → Within 0 (barrier_of warns s p) (pre_log p)
  unfolding pre_log
  pre-within p = rw (← (root-at warns s p).1) (within-reverse (barrier-fine p).within nil)

-- The lists of a statement at its WITH.
module _ (warns : Bool) (s : Statement) (p : Site) (q : Stands s p) where
  pub scopes-from : drop (new_root warns s p) (scopes warns s) ≡ scopes_in (tail_log warns s p)
  unfolding scopes scopes_in
  scopes-from = rw (split warns s p q, pick-append) (drop_at (scopes_in (pre_log warns s p)) (scopes_in (tail_log warns s p)) (new_root warns s p) (unfold opened in pre-opened warns s p))

  pub bindings-pieces : bindings warns s
      ≡ puts (binds_in (pre_log warns s p)) [] ++ (puts (binds_in (root_log warns s p)) [] ++ (puts (binds_in (keys_log warns s p)) [] ++ puts (binds_in (rest_log warns s p)) []))
  unfolding bindings binds_in tail_log new_root
  bindings-pieces =
      let r = rest_in warns s p in
      rw (split warns s p q, pick-append, pick-append, pick-append)
      (puts-four (barrier_of warns s p) (key_scopes warns s p) (inside-binds (pre-within warns s p)) (inside-binds (root_in warns s p)) (inside-binds (keys_in warns s p)) (inside-binds r.2) r.1)

  pub bindings-from : besides (new_root warns s p) (key_scopes warns s p) (from (new_root warns s p) (bindings warns s)) ≡ puts (binds_in (part_log warns s p)) []
  unfolding bindings binds_in tail_log part_log new_root
  bindings-from =
      let r = rest_in warns s p in
      rw (split warns s p q, pick-append, pick-append, pick-append, pick-append)
      (besides-four (barrier_of warns s p) (key_scopes warns s p) (inside-binds (pre-within warns s p)) (inside-binds (root_in warns s p)) (inside-binds (keys_in warns s p)) (inside-binds r.2) r.1)

  -- the new Root answers nothing, so the part's answers are the rest's
  pub part-answers : answers_in (part_log warns s p) ≡ answers_in (rest_log warns s p)
  unfolding part_log
  part-answers = answers-append (root_log warns s p) (rest_log warns s p) ∙ ap (λ l. l ++ answers_in (rest_log warns s p)) (root-quiet warns s p).0

  pub answer-from : (i : ℕ) (a : Answer) → Memᴰ (write i a) (answers_in (part_log warns s p)) → answer_for i (recorded warns s) ≡ last_write i (answers_in (part_log warns s p)) None
  unfolding recorded tail_log
  answer-from i a m =
      let o = pre_log warns s p ++ (root_log warns s p ++ keys_log warns s p) in
      let e : log warns s ≡ o ++ rest_log warns s p = split warns s p q ∙ simp append_assoc in
      rw part-answers (ap (λ l. answer_for i (notes l [])) (ap answers_in e ∙ answers-append o (rest_log warns s p)) ∙ answer-pieces i a (answers_in o) (answers_in (rest_log warns s p)) (subst (Memᴰ (write i a)) part-answers m))

  -- The pairs that the carried list has for the barrier.
  pub pairs-listed : pairs_at (barrier_of warns s p) (Lists.carried_list warns s) ≡ pairs warns s p
  unfolding Lists.carried_list barrier_of pre_log at_barrier barrier
  pairs-listed =
      let cs = pairs warns s p in
      let t = resolved warns s p in
      ap (λ l. pairs_at (suc t.last) (carries_in l)) (split warns s p q ∙ ap (λ l. l ++ tail_log warns s p) (carry-log (world_of warns s) cs (enter with_barrier _ _ t)))
      ∙ pairs-pieces (suc t.last) cs (le_refl _) (within-reverse (in-open (resolved-W warns s p).within) nil) (tail-in warns s p).1
