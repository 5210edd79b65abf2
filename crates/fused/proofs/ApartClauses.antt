-- Clauses and arms: reading and both walks in one is reading, and then the two walks (`apart-clause`, `apart-arm`, and for rows of them
-- `apart-clauses`, `apart-arms`). `projections-law` is for whatever is kept of projections (`taken-all`: what a WITH takes of them), `keys-law` for sort keys: a WITH's see what was
-- visible before it (`with-step`), a RETURN's are hushed (`return-step`), which says nothing of kinds (`kinds-hush`).
use Rattle.std.specs.Prelude.{Option}
use Prim.Native.Nat.{ℕ, zero, suc, ◌+◌, ◌-◌}
use native.Mathlib.Omega.{arith}
use mathlib.Core.Path.{◌≡◌, refl, ap, ap₂, sym, ◌∙◌}
use mathlib.Core.Bool.{Bool, true, false, cond, ◌||◌, or_assoc, or-false}
use mathlib.Core.List.{List, [], ◌∷◌, ◌++◌, flat_map, append_assoc, append-nil}
use lib.Dec.{eqb}
use Rattle.scope.specs.Graph.{unwind_scope, call_scope, return_scope, indexed}
use Rattle.heads.specs.Got.{Got, ok, no, bind, word_in, any_word, flag, many, counted}
use Rattle.heads.specs.Form.{read_form, kids_of, items_of, has_pattern}
use Rattle.heads.specs.declared.Form.{Form}
use Rattle.heads.specs.declared.Form.TheVariants.{Leaf, Var, Unresolved, Prop, Two, Slice, Many, BinOp, UnaryOp, Case, IsNull, PatternPredicate, ListComprehension, PatternComprehension, ListPredicate, MapProjection}
use Rattle.heads.proofs.Shapes.{bind-each, bind-bind}
use Rattle.expr.specs.Tree.{Expr, var, unresolved, node, predicate, comprehension, Exprs, done, more, mark, Steps, end, part, elem, tree}
use Rattle.expr.specs.Olds.{olds_e, olds, olds_s}
use Rattle.expr.specs.Read.{no_more, times, marks, pattern, maybe_pattern, after_form, read_expr}
use Rattle.clauses.specs.Tree.{Projection, projection, Yield, yield, Opening, match, create, merge, Reading, where', set, remove, delete, Keys, unsorted, sorted, Clause, opening, reading, with', return, unwind, call, Arm, arm, exprs, keys_of}
use Rattle.clauses.specs.Read.{max_depth, alias_of, clause_expr, read_projection, read_yield, counted_exprs, counted_marks, no_keys, some_keys, read_match, read_opening, read_where, read_with, read_return, read_unwind, read_marked, read_delete, read_call, read_body, read_clause, read_arm}
use Rattle.clauses.specs.Olds.{olds_c, olds_cs, olds_a, olds_as}
use Rattle.tables.specs.Row.{value_kind}
use Rattle.semantics.specs.World.{World, hush, opens, Direct, direct, yield_name, name_of}
use Rattle.semantics.specs.Resolve.{State, Seen, Pair, enter, leave, standing, bind_name, bind_anew, resolve, resolves, bind_pattern, carries, projected, is_all, any_star, starred, carried_by, barrier, fresh, yields, alias_in, aliases, sort_by, clause, clauses, arms}
use Rattle.semantics.specs.Kinds.{Setting, general, Pair as Settings, both, plain, settings, row_for, kinds_e, kinds_es, kinds_s, kinds_c, kinds}
use Rattle.theorems.proofs.Keeps.{keeps}
use Rattle.fused.specs.Fused.{Both, Mode, unresolving, Go, when, told, counting, step, rounds, row_go, left, mark_go}
use Rattle.fused.specs.Clauses.{direct_form, direct_of, returned, beside, aliased, Taken, nothing, takes, all_of, in_arms, within, projections_go, counted_row, yielded, yield_go, opening_go, rooted_by, sort_go, with_go, keys_go, return_go, unwind_go, call_go, marked_go, body_go, clause_go, arm_go}
use Rattle.fused.proofs.Apart.{told-append, when-two, step-two, step-none, olds_two, move, move-two, move-none, after, map-map, each, act, acts, lays, kids-law, marks-law, pattern-law, apart}

-- things in a row, each read and walked
module _ {A : Type 0} (one : List ℕ → Got A) (go : Go) (doing : A → Both → Both) (all : List A → Both → Both) (h : (s : Both) (r : List ℕ) → go s r ≡ after doing one s r)
    (nil : (s : Both) → all [] s ≡ s) (cons : (x : A) (xs : List A) (s : Both) → all (x ∷ xs) s ≡ all xs (doing x s)) where
  pub many-law : (n : ℕ) (s : Both) (r : List ℕ) → after all (many one n) s r ≡ rounds n go s r
  unfolding many rounds
  many-law zero s r = ap (λ (u : Both). ok u r) (nil s)
  many-law (suc n) s r = rw h (turn (many-law n) (one r))
    where
      turn : ((s : Both) (r : List ℕ) → after all (many one n) s r ≡ rounds n go s r) → (g : Got A) →
          bind (bind g (λ x r. bind (many one n r) (λ xs r2. ok (x ∷ xs) r2))) (λ xs r. ok (all xs s) r) ≡ bind (bind g (λ x r. ok (doing x s) r)) (λ u r2. rounds n go u r2)
      turn ih (ok x r2) = map-map (many one n r2) (λ xs. x ∷ xs) (λ xs. all xs s) ∙ each (many one n r2) (λ xs. all (x ∷ xs) s) (λ xs. all xs (doing x s)) (λ xs. cons x xs s) ∙ ih (doing x s) r2
      turn ih (no c) = refl

-- what a head says of its expression
direct-tree : (f : Form) (st : Steps) (es : Exprs) → direct (tree f st es) ≡ direct_form f
unfolding direct tree
direct-tree (Leaf k) st es = refl
direct-tree (Var v) st es = refl
direct-tree (Unresolved x) st es = refl
direct-tree (Prop x) st es = refl
direct-tree (Two k) st es = refl
direct-tree (Slice b) st es = refl
direct-tree (Many k n) st es = refl
direct-tree (BinOp o) st es = refl
direct-tree (UnaryOp o) st es = refl
direct-tree (Case b n) st es = refl
direct-tree IsNull st es = refl
direct-tree PatternPredicate st es = refl
direct-tree (ListComprehension g) st es = refl
direct-tree (PatternComprehension a b g) st es = refl
direct-tree (ListPredicate g) st es = refl
direct-tree (MapProjection n) st es = refl

-- so for what is read after it, whatever is done with the form
direct-read : {C : Type 0} (names d : ℕ) (r : List ℕ) (F : Expr → Direct → List ℕ → Got C)
    → bind (read_expr names (suc d) r) (λ e r2. F e (direct e) r2) ≡ bind (read_expr names (suc d) r) (λ e r2. F e (direct_of (read_form names r)) r2)
unfolding read_expr after_form
direct-read {C} names d r F = head (read_form names r)
  where
    row : (f : Form) (st : Steps) (g : Got Exprs) → bind (bind g (λ es r3. ok (tree f st es) r3)) (λ e r2. F e (direct e) r2) ≡ bind (bind g (λ es r3. ok (tree f st es) r3)) (λ e r2. F e (direct_form f) r2)
    row f st (ok es r3) = ap (λ (x : Direct). F (tree f st es) x r3) (direct-tree f st es)
    row f st (no c) = refl

    rest : (f : Form) (K : Steps → List ℕ → Got Exprs) (g : Got Steps) → bind (bind g (λ st r2. bind (K st r2) (λ es r3. ok (tree f st es) r3))) (λ e r2. F e (direct e) r2) ≡ bind (bind g (λ st r2. bind (K st r2) (λ es r3. ok (tree f st es) r3))) (λ e r2. F e (direct_form f) r2)
    rest f K (ok st r2) = row f st (K st r2)
    rest f K (no c) = refl

    head : (g : Got Form) → bind (bind g (λ f r1. after_form (read_expr names d) f r1)) (λ e r2. F e (direct e) r2) ≡ bind (bind g (λ f r1. after_form (read_expr names d) f r1)) (λ e r2. F e (direct_of g) r2)
    head (ok f r1) = rest f (λ st r2. times (kids_of f) (read_expr names d) (marks 0 (items_of f) (read_expr names d)) r2) (maybe_pattern (has_pattern f) (read_expr names d) r1)
    head (no c) = refl

-- names that are no use say nothing of kinds
module _ (xs : List ℕ) (w : World) where
  mutual
    unfolding kinds_e row_for

    kinds-hush_e : (e : Expr) (c : Setting) → kinds_e (hush xs w) e c ≡ kinds_e w e c
    kinds-hush_e (var v) c = refl
    kinds-hush_e (unresolved x) c = refl
    kinds-hush_e (node f es) c = rw (kinds-hush es (settings w.is_id f c))
    kinds-hush_e (predicate st) c = rw (kinds-hush_s st)
    kinds-hush_e (comprehension a b st es) c = rw (kinds-hush_s st, kinds-hush es plain)

    kinds-hush : (es : Exprs) (p : Settings) → kinds_es (hush xs w) es p ≡ kinds_es w es p
    kinds-hush done p = refl
    kinds-hush (more e es) (both c d) = rw (kinds-hush_e e c, kinds-hush es (both d d))
    kinds-hush (mark k es) p = kinds-hush es p

    kinds-hush_s : (st : Steps) → kinds_s (hush xs w) st ≡ kinds_s w st
    kinds-hush_s end = refl
    kinds-hush_s (part p st) = rw (kinds-hush_s st)
    kinds-hush_s (elem k a b v es st) = rw (kinds-hush es plain, kinds-hush_s st)

-- what is kept of projections, one after the other: what a WITH takes, the aliases of a RETURN
abbrev pub kept_by : {A : Type 0} → (Option ℕ → Direct → List Seen → A → A) → List Projection → List Seen → A → A
kept_by keep [] vis q = q
kept_by keep (projection a e ∷ ps) vis q = kept_by keep ps vis (keep a (direct e) vis q)

takes-kept : (w : World) (ps : List Projection) (vis : List Seen) (q : Taken) → kept_by (takes w) ps vis q ≡ record { star = q.star || any_star w ps; pairs = q.pairs ++ projected w ps vis }
unfolding any_star projected
takes-kept w [] vis q = λ i. record { star = sym (or-false q.star) i; pairs = sym (append-nil q.pairs) i }
takes-kept w (projection a e ∷ ps) vis q =
    takes-kept w ps vis (takes w a (direct e) vis q)
    ∙ (λ i. record { star = or_assoc q.star (is_all w a (direct e)) (any_star w ps) i; pairs = append_assoc q.pairs (carries w a (direct e) vis) (projected w ps vis) i })

-- from nothing: whether there is a star, and the pairs of the others; so all that the WITH carries
pub taken-all : (w : World) (ps : List Projection) (vis : List Seen) → kept_by (takes w) ps vis nothing ≡ record { star = any_star w ps; pairs = projected w ps vis }
taken-all w ps vis = takes-kept w ps vis nothing

carries_kept : (w : World) (ps : List Projection) (vis : List Seen) → carried_by w ps vis ≡ all_of (kept_by (takes w) ps vis nothing) vis
unfolding carried_by starred
carries_kept w ps vis = ap (λ (q : Taken). all_of q vis) (sym (taken-all w ps vis))

aliased-kept : (ps : List Projection) (vis : List Seen) (xs : List ℕ) → kept_by aliased ps vis xs ≡ xs ++ aliases ps
unfolding aliases
aliased-kept [] vis xs = sym (append-nil xs)
aliased-kept (projection a e ∷ ps) vis xs = aliased-kept ps vis (xs ++ alias_in a) ∙ append_assoc xs (alias_in a) (aliases ps)

aliases-kept : (ps : List Projection) (vis : List Seen) → aliases ps ≡ kept_by aliased ps vis []
aliases-kept ps vis = sym (aliased-kept ps vis [])

-- sort keys, if there are any: read, and read and walked in one
abbrev read_keys : ℕ → Bool → List ℕ → Got Keys
read_keys names false = no_keys names
read_keys names true = some_keys names

abbrev key_row : World → ℕ → Mode → Bool → Go
key_row w names m false s r = ok s r
key_row w names m true s r = counted_row w names m s r

-- expressions in a row, counted, and as sort keys
module _ (w : World) (names : ℕ) (m : Mode) where
  row-law : (n : ℕ) (s : Both) (r : List ℕ) → after (acts w m plain) (times n (clause_expr names) no_more) s r ≡ row_go (within w names m) n plain s r
  row-law n s r = kids-law w (within w names) (clause_expr names) (apart w names max_depth) m n plain s r

  pub counted-law : (s : Both) (r : List ℕ) → after (acts w m plain) (counted_exprs names) s r ≡ counted_row w names m s r
  unfolding counted_exprs
  counted-law s r = go (any_word r)
    where
      go : (g : Got ℕ) → bind (bind g (λ n r1. times n (clause_expr names) no_more r1)) (λ es r2. ok (acts w m plain es s) r2) ≡ bind g (λ n r1. row_go (within w names m) n plain s r1)
      go (ok n r1) = row-law n s r1
      go (no c) = refl

  -- what is made of the sort keys of a clause is made of what they leave
  keys-law : {C : Type 0} (sorts : Bool) (clause_of : Keys → C) (walk : C → Both) (f : Both → Both) (s : Both) → ((ks : Keys) → walk (clause_of ks) ≡ f (acts w m plain (keys_of ks) s)) → (r : List ℕ) →
      bind (bind (read_keys names sorts r) (λ ks r2. ok (clause_of ks) r2)) (λ c r2. ok (walk c) r2) ≡ bind (key_row w names m sorts s r) (λ u r2. ok (f u) r2)
  unfolding no_keys some_keys keys_of resolve kinds_e olds_e
  keys-law false clause_of walk f s h r = ap (λ (u : Both). ok u r) (h unsorted ∙ ap f (move-none m s))
  keys-law true clause_of walk f s h r = rw (← (counted-law s r)) (go (counted_exprs names r))
    where
      go : (g : Got Exprs) → bind (bind (bind g (λ es r2. ok (sorted es) r2)) (λ ks r2. ok (clause_of ks) r2)) (λ c r2. ok (walk c) r2) ≡ bind (bind g (λ es r2. ok (acts w m plain es s) r2)) (λ u r2. ok (f u) r2)
      go (ok es r2) = ap (λ (u : Both). ok u r2) (h (sorted es))
      go (no c) = refl

-- the expressions of projections and others after them, by both walks
module _ (w : World) where
  resolves-exprs : (ps : List Projection) (es : Exprs) (s : State) → resolves w (exprs ps es) s ≡ resolves w es (resolves w (exprs ps done) s)
  unfolding exprs resolve
  resolves-exprs [] es s = refl
  resolves-exprs (projection a e ∷ ps) es s = resolves-exprs ps es (resolve w e s)

  kinds-exprs : (ps : List Projection) (es : Exprs) → kinds_es w (exprs ps es) plain ≡ kinds_es w (exprs ps done) plain ++ kinds_es w es plain
  unfolding exprs kinds_e
  kinds-exprs [] es = refl
  kinds-exprs (projection a e ∷ ps) es = rw (kinds-exprs ps es) (sym (append_assoc (kinds_e w e general) (kinds_es w (exprs ps done) plain) (kinds_es w es plain)))

  olds-exprs : (ps : List Projection) (es : Exprs) → olds (exprs ps es) ≡ olds (exprs ps done) + olds es
  unfolding exprs olds_e
  olds-exprs [] es = omega arith
  olds-exprs (projection a e ∷ ps) es = omega (arith, olds-exprs ps es)

  -- an expression alters nothing that is visible
  kept : (m : Mode) (c : Setting) (e : Expr) (s : Both) → (act w m c e s).names.visible ≡ s.names.visible
  kept m c e s = go m.resolves
    where
      go : (b : Bool) → (when b (resolve w e) s.names).visible ≡ s.names.visible
      go true = (keeps w e s.names).visible
      go false = refl

  -- what both walks do with a clause, with clauses
  abbrev pub walks : Mode → Clause → Both → Both
  walks m c = move m (clause w c) (kinds_c w c) (olds_c c)

  abbrev pub walks_all : Mode → List Clause → Both → Both
  walks_all m cs = move m (clauses w cs) (kinds w cs) (olds_cs cs)

  -- and with arms, by the name walk alone
  abbrev pub walks_arm : Mode → Arm → Both → Both
  walks_arm m x = move (in_arms m) (arms w (x ∷ [])) [] (olds_a x)

  abbrev pub walks_arms : Mode → List Arm → Both → Both
  walks_arms m xs = move (in_arms m) (arms w xs) [] (olds_as xs)

  module _ (names : ℕ) where
    -- projections, and what is done with what they leave and what is kept of them
    module _ {A : Type 0} (keep : Option ℕ → Direct → List Seen → A → A) (m : Mode) where
      abbrev Projected : ℕ → Type 0
      Projected n =
          (q : A) (K : Both → A → List ℕ → Got Both) (s : Both) (r : List ℕ)
          → bind (many (read_projection names) n r) (λ ps r2. K (acts w m plain (exprs ps done) s) (kept_by keep ps s.names.visible q) r2) ≡ bind (projections_go w names keep m n q s r) (λ x r2. K x.0 x.1 r2)

      projections-law : (n : ℕ) → Projected n
      unfolding many projections_go exprs resolve kinds_e olds_e read_projection
      projections-law zero q K s r = ap (λ (x : Both). K x q r) (move-none m s)
      projections-law (suc n) q K s r = word (projections-law n) (word_in 0 (suc names) r)
        where
          -- what follows an alias and an expression
          M : ℕ → Expr → Direct → List ℕ → Got Both
          M a e d r2 = bind (projections_go w names keep m n (keep (alias_of a) d (act w m general e s).names.visible q) (act w m general e s) r2) (λ x r3. K x.0 x.1 r3)

          F : List Projection → List ℕ → Got Both
          F ps r2 = K (acts w m plain (exprs ps done) s) (kept_by keep ps s.names.visible q) r2

          later : (a : ℕ) (e : Expr) (ps : List Projection) → kept_by keep (projection (alias_of a) e ∷ ps) s.names.visible q ≡ kept_by keep ps (act w m general e s).names.visible (keep (alias_of a) (direct e) (act w m general e s).names.visible q)
          later a e ps = ap (λ (vis : List Seen). kept_by keep ps vis (keep (alias_of a) (direct e) vis q)) (sym (kept m general e s))

          one : Projected n → (a : ℕ) (g : Got Expr) → bind (bind (bind g (λ e r2. ok (projection (alias_of a) e) r2)) (λ x r2. bind (many (read_projection names) n r2) (λ xs r3. ok (x ∷ xs) r3))) F ≡ bind g (λ e r2. M a e (direct e) r2)
          one ih a (ok e r2) =
              bind-bind (many (read_projection names) n r2) (λ xs r3. ok (projection (alias_of a) e ∷ xs) r3) F
              ∙ bind-each (many (read_projection names) n r2) _ _ (λ ps r3. ap₂ (λ (x : Both) (y : A). K x y r3) (move-two m (resolve w e) (resolves w (exprs ps done)) (kinds_e w e general) (kinds_es w (exprs ps done) plain) (olds_e e) (olds (exprs ps done)) s) (later a e ps))
              ∙ ih (keep (alias_of a) (direct e) (act w m general e s).names.visible q) K (act w m general e s) r2
          one ih a (no c) = refl

          back : (a : ℕ) (d : Direct) (g : Got Expr) → bind g (λ e r2. M a e d r2) ≡ bind (bind (bind g (λ e r2. ok (act w m general e s) r2)) (λ u r2. projections_go w names keep m n (keep (alias_of a) d u.names.visible q) u r2)) (λ x r3. K x.0 x.1 r3)
          back a d (ok e r2) = refl
          back a d (no c) = refl

          word : Projected n → (g : Got ℕ) → bind (bind (bind g (λ a r1. bind (clause_expr names r1) (λ e r2. ok (projection (alias_of a) e) r2))) (λ x r2. bind (many (read_projection names) n r2) (λ xs r3. ok (x ∷ xs) r3))) F
              ≡ bind (bind g (λ a r1. bind (within w names m general s r1) (λ u r2. projections_go w names keep m n (keep (alias_of a) (direct_of (read_form names r1)) u.names.visible q) u r2))) (λ x r3. K x.0 x.1 r3)
          word ih (ok a r1) = rw (apart w names max_depth m general s r1) (one ih a (clause_expr names r1) ∙ direct-read names (max_depth - 1) r1 (M a) ∙ back a (direct_of (read_form names r1)) (clause_expr names r1))
          word ih (no c) = refl

    module _ (m : Mode) (a b : ℕ) where
      opening-law : (o : Opening) (s : Both) (r : List ℕ) → after (walks m) (read_opening names a b o) s r ≡ opening_go w names m a b o s r
      unfolding read_opening opening_go clause kinds_c olds_c
      opening-law o s r =
          map-map (pattern (clause_expr names) r) (λ st. opening o a b st) (λ c. walks m c s)
          ∙ each (pattern (clause_expr names) r) (λ st. walks m (opening o a b st) s) (λ st. lays w m st (step m (enter (opens o) a b) [] s)) (λ st. ap (λ (u : Both). counting (olds_s st) u) (step-two m (enter (opens o) a b) (bind_pattern w st) [] (kinds_s w st) s))
          ∙ pattern-law w (within w names) (clause_expr names) (apart w names max_depth) m (step m (enter (opens o) a b) [] s) r

      match-law : (s : Both) (r : List ℕ) → after (walks m) (read_match names a b) s r ≡ bind (flag r) (λ o r1. opening_go w names m a b (match o) s r1)
      unfolding read_match read_opening
      match-law s r = go (flag r)
        where
          go : (g : Got ℕ) → bind (bind g (λ o r1. read_opening names a b (match o) r1)) (λ c r2. ok (walks m c s) r2) ≡ bind g (λ o r1. opening_go w names m a b (match o) s r1)
          go (ok o r1) = opening-law (match o) s r1
          go (no c) = refl

      -- expressions read for a clause that resolves them all
      reads-law : (which : Reading) (g : Got Exprs) (s : Both) → bind (bind g (λ es r. ok (reading which a b es) r)) (λ c r. ok (walks m c s) r) ≡ bind g (λ es r. ok (acts w m plain es s) r)
      unfolding clause kinds_c olds_c
      reads-law which (ok es r) s = refl
      reads-law which (no c) s = refl

      where-law : (s : Both) (r : List ℕ) → after (walks m) (read_where names a b) s r ≡ row_go (within w names m) 1 plain s r
      unfolding read_where
      where-law s r = reads-law where' (times 1 (clause_expr names) no_more r) s ∙ row-law w names m 1 s r

      marked-law : (which : Reading) (kind : ℕ) (s : Both) (r : List ℕ) → after (walks m) (read_marked names a b which kind) s r ≡ marked_go w names m a b kind s r
      unfolding read_marked counted_marks marked_go
      marked-law which kind s r = reads-law which (bind (any_word r) (λ n r1. marks kind n (clause_expr names) r1)) s ∙ go (any_word r)
        where
          go : (g : Got ℕ) → bind (bind g (λ n r1. marks kind n (clause_expr names) r1)) (λ es r2. ok (acts w m plain es s) r2) ≡ bind g (λ n r1. rounds n (mark_go w (within w names) m kind) s r1)
          go (ok n r1) = marks-law w (within w names) (clause_expr names) (apart w names max_depth) m kind n s r1
          go (no c) = refl

      delete-law : (s : Both) (r : List ℕ) → after (walks m) (read_delete names a b) s r ≡ counted_row w names m s r
      unfolding read_delete
      delete-law s r = reads-law delete (counted_exprs names r) s ∙ counted-law w names m s r

      -- WITH: its projections and its filter, then its new Root, and its sort keys, which see what was visible before it too
      abbrev filtered : List Projection → Exprs → Both → Both
      filtered ps es s = acts w m plain es (acts w m plain (exprs ps done) s)

      abbrev rooted : List Projection → Exprs → Both → Both
      rooted ps es s = rooted_by w names m a b (carried_by w ps s.names.visible) (filtered ps es s)

      with-step : (ps : List Projection) (es : Exprs) (ks : Keys) (s : Both) → walks m (with' a b ps es ks) s ≡ left m (rooted ps es s) (acts w m plain (keys_of ks) (beside m s (rooted ps es s)))
      unfolding clause kinds_c olds_c
      with-step ps es ks s = λ i. record { names = named m.resolves i; kinds = found m.checks i; olds = summed i }
        where
          root : State → State
          root y = let qs = carried_by w ps s.names.visible in fresh w b qs (barrier w a b qs y)

          named : (q : Bool) → when q (clause w (with' a b ps es ks)) s.names ≡ (let u = when q (resolves w es) (when q (resolves w (exprs ps done)) s.names) in let v = when q root u in when q (leave v) (when q (resolves w (keys_of ks)) (when q (standing (v.visible ++ s.names.visible) v.cur) v)))
          named true = unfold sort_by in ap (λ (y : State). sort_by w (keys_of ks) s.names.visible (root y)) (resolves-exprs ps es s.names)
          named false = refl

          found : (q : Bool) → when q (told (kinds_es w (exprs ps es) plain ++ kinds_es w (keys_of ks) plain)) s.kinds ≡ when q (told (kinds_es w (keys_of ks) plain)) (when q (told []) (when q (told (kinds_es w es plain)) (when q (told (kinds_es w (exprs ps done) plain)) s.kinds)))
          found true =
              unfold told in rw (kinds-exprs ps es)
              (told-append (kinds_es w (exprs ps done) plain ++ kinds_es w es plain) (kinds_es w (keys_of ks) plain) s.kinds
              ∙ ap (told (kinds_es w (keys_of ks) plain)) (told-append (kinds_es w (exprs ps done) plain) (kinds_es w es plain) s.kinds))
          found false = refl

          summed : s.olds + (olds (exprs ps es) + olds (keys_of ks)) ≡ s.olds + olds (exprs ps done) + olds es + olds (keys_of ks)
          summed = omega (arith, olds-exprs ps es)

      -- without sort keys the new Root stays as it is
      beside-left : (u v : Both) → left m v (beside m u v) ≡ v
      beside-left u v = λ i. record { names = go m.resolves i; kinds = v.kinds; olds = v.olds }
        where
          go : (q : Bool) → when q (leave v.names) (when q (standing (v.names.visible ++ u.names.visible) v.names.cur) v.names) ≡ v.names
          go true = refl
          go false = refl

      sort-law : (sorts : Bool) (u v : Both) (r : List ℕ) → bind (key_row w names m sorts (beside m u v) r) (λ z r2. ok (left m v z) r2) ≡ sort_go w names m a b sorts u v r
      sort-law false u v r = ap (λ (x : Both). ok x r) (beside-left u v)
      sort-law true u v r = refl

      with-law : (sorts : Bool) (s : Both) (r : List ℕ) → after (walks m) (read_with names a b (read_keys names sorts)) s r ≡ with_go w names m a b sorts s r
      unfolding read_with counted with_go
      with-law sorts s r = go (any_word r)
        where
          -- the filter, the new Root, the sort keys
          L : Both → List Pair → List ℕ → Got Both
          L x qs r2 = bind (flag r2) (λ g r3. bind (row_go (within w names m) g plain x r3) (λ u r4. sort_go w names m a b sorts s (rooted_by w names m a b qs u) r4))

          K : Both → Taken → List ℕ → Got Both
          K x q = L x (all_of q s.names.visible)

          keys : (ps : List Projection) (es : Exprs) (r : List ℕ) → bind (bind (read_keys names sorts r) (λ ks r2. ok (with' a b ps es ks) r2)) (λ c r2. ok (walks m c s) r2) ≡ sort_go w names m a b sorts s (rooted ps es s) r
          keys ps es r =
              keys-law w names m sorts (λ ks. with' a b ps es ks) (λ c. walks m c s) (left m (rooted ps es s)) (beside m s (rooted ps es s)) (λ ks. with-step ps es ks s) r
              ∙ sort-law sorts s (rooted ps es s) r

          filter : (ps : List Projection) (g : Got ℕ) → bind (bind g (λ n r2. bind (times n (clause_expr names) no_more r2) (λ es r3. bind (read_keys names sorts r3) (λ ks r4. ok (with' a b ps es ks) r4)))) (λ c r3. ok (walks m c s) r3)
              ≡ bind g (λ n r3. bind (row_go (within w names m) n plain (acts w m plain (exprs ps done) s) r3) (λ u r4. sort_go w names m a b sorts s (rooted_by w names m a b (carried_by w ps s.names.visible) u) r4))
          filter ps (ok n r2) =
              rw (← (row-law w names m n (acts w m plain (exprs ps done) s) r2))
              (bind-bind (times n (clause_expr names) no_more r2) (λ es r3. bind (read_keys names sorts r3) (λ ks r4. ok (with' a b ps es ks) r4)) (λ c r3. ok (walks m c s) r3)
              ∙ bind-each (times n (clause_expr names) no_more r2) _ _ (keys ps)
              ∙ sym (bind-bind (times n (clause_expr names) no_more r2) (λ es r3. ok (filtered ps es s) r3) (λ u r4. sort_go w names m a b sorts s (rooted_by w names m a b (carried_by w ps s.names.visible) u) r4)))
          filter ps (no c) = refl

          go : (g : Got ℕ) → bind (bind (bind g (λ n r1. many (read_projection names) n r1)) (λ ps r2. bind (flag r2) (λ n r3. bind (times n (clause_expr names) no_more r3) (λ es r4. bind (read_keys names sorts r4) (λ ks r5. ok (with' a b ps es ks) r5))))) (λ c r2. ok (walks m c s) r2)
              ≡ bind g (λ n r1. bind (projections_go w names (takes w) m n nothing s r1) (λ x r2. K x.0 x.1 r2))
          go (ok n r1) =
              bind-bind (many (read_projection names) n r1) (λ ps r2. bind (flag r2) (λ n r3. bind (times n (clause_expr names) no_more r3) (λ es r4. bind (read_keys names sorts r4) (λ ks r5. ok (with' a b ps es ks) r5)))) (λ c r2. ok (walks m c s) r2)
              ∙ bind-each (many (read_projection names) n r1) _ _ (λ ps r2. filter ps (flag r2) ∙ ap (λ (qs : List Pair). L (acts w m plain (exprs ps done) s) qs r2) (carries_kept w ps s.names.visible))
              ∙ projections-law (takes w) m n nothing K s r1
          go (no c) = refl

      -- Return looks from outside its scope, and so do its sort keys
      abbrev outside : Both → Both
      outside = step m (λ y. leave y (enter return_scope a b y)) []

      return-step : (ps : List Projection) (ks : Keys) (s : Both) → walks m (return a b ps ks) s ≡ returned m s (acts (hush (aliases ps) w) m plain (keys_of ks) (acts w m plain (exprs ps done) (outside s)))
      unfolding clause kinds_c olds_c
      return-step ps ks s = λ i. record { names = named m.resolves i; kinds = found m.checks i; olds = olds_two s.olds (olds (exprs ps done)) (olds (keys_of ks)) i }
        where
          named : (q : Bool) → when q (clause w (return a b ps ks)) s.names ≡ when q (standing s.names.visible (suc s.names.last)) (when q (resolves (hush (aliases ps) w) (keys_of ks)) (when q (resolves w (exprs ps done)) (when q (λ y. leave y (enter return_scope a b y)) s.names)))
          named true = refl
          named false = refl

          found : (q : Bool) → when q (told (kinds_es w (exprs ps done) plain ++ kinds_es w (keys_of ks) plain)) s.kinds ≡ when q (told (kinds_es (hush (aliases ps) w) (keys_of ks) plain)) (when q (told (kinds_es w (exprs ps done) plain)) (when q (told []) s.kinds))
          found true = unfold told in rw (kinds-hush (aliases ps) w (keys_of ks) plain) (told-append (kinds_es w (exprs ps done) plain) (kinds_es w (keys_of ks) plain) s.kinds)
          found false = refl

      hushed-law : (sorts : Bool) (xs : List ℕ) (s : Both) (r : List ℕ) → key_row (hush xs w) names m sorts s r ≡ keys_go w names m a b sorts xs s r
      hushed-law false xs s r = refl
      hushed-law true xs s r = refl

      return-law : (sorts : Bool) (s : Both) (r : List ℕ) → after (walks m) (read_return names a b (read_keys names sorts)) s r ≡ return_go w names m a b sorts s r
      unfolding read_return counted return_go
      return-law sorts s r = go (any_word r)
        where
          K : Both → List ℕ → List ℕ → Got Both
          K x xs r2 = bind (keys_go w names m a b sorts xs x r2) (λ u r3. ok (returned m s u) r3)

          keys : (ps : List Projection) (r : List ℕ) → bind (bind (read_keys names sorts r) (λ ks r2. ok (return a b ps ks) r2)) (λ c r2. ok (walks m c s) r2) ≡ K (acts w m plain (exprs ps done) (outside s)) (aliases ps) r
          keys ps r =
              keys-law (hush (aliases ps) w) names m sorts (λ ks. return a b ps ks) (λ c. walks m c s) (returned m s) (acts w m plain (exprs ps done) (outside s)) (λ ks. return-step ps ks s) r
              ∙ ap (λ (g : Got Both). bind g (λ u r2. ok (returned m s u) r2)) (hushed-law sorts (aliases ps) (acts w m plain (exprs ps done) (outside s)) r)

          go : (g : Got ℕ) → bind (bind (bind g (λ n r1. many (read_projection names) n r1)) (λ ps r2. bind (read_keys names sorts r2) (λ ks r3. ok (return a b ps ks) r3))) (λ c r2. ok (walks m c s) r2) ≡ bind g (λ n r1. bind (projections_go w names aliased m n [] (outside s) r1) (λ x r2. K x.0 x.1 r2))
          go (ok n r1) =
              bind-bind (many (read_projection names) n r1) (λ ps r2. bind (read_keys names sorts r2) (λ ks r3. ok (return a b ps ks) r3)) (λ c r2. ok (walks m c s) r2)
              ∙ bind-each (many (read_projection names) n r1) _ _ (λ ps r2. keys ps r2 ∙ ap (λ (xs : List ℕ). K (acts w m plain (exprs ps done) (outside s)) xs r2) (aliases-kept ps (outside s).names.visible))
              ∙ projections-law aliased m n [] K (outside s) r1
          go (no c) = refl

      -- "Unwind's list, Call's arguments .. are not resolved"
      unwind-step : (v : ℕ) (e : Expr) (s : Both) → walks m (unwind a b v e) s ≡ act w (unresolving m) general e (step m (λ y. bind_name (name_of w v) v value_kind (enter unwind_scope a b y)) [] s)
      unfolding clause kinds_c olds_c
      unwind-step v e s = λ i. record { names = when m.resolves (λ y. bind_name (name_of w v) v value_kind (enter unwind_scope a b y)) s.names; kinds = found m.checks i; olds = s.olds + olds_e e }
        where
          found : (q : Bool) → when q (told (kinds_e w e general)) s.kinds ≡ when q (told (kinds_e w e general)) (when q (told []) s.kinds)
          found true = unfold told in refl
          found false = refl

      unwind-law : (s : Both) (r : List ℕ) → after (walks m) (read_unwind names a b) s r ≡ unwind_go w names m a b s r
      unfolding read_unwind unwind_go
      unwind-law s r = go (any_word r)
        where
          go : (g : Got ℕ) → bind (bind g (λ v r1. bind (clause_expr names r1) (λ e r2. ok (unwind a b v e) r2))) (λ c r2. ok (walks m c s) r2)
              ≡ bind g (λ v r1. within w names (unresolving m) general (step m (λ y. bind_name (name_of w v) v value_kind (enter unwind_scope a b y)) [] s) r1)
          go (ok v r1) =
              rw (apart w names max_depth (unresolving m) general (step m (λ y. bind_name (name_of w v) v value_kind (enter unwind_scope a b y)) [] s) r1)
              (map-map (clause_expr names r1) (λ e. unwind a b v e) (λ c. walks m c s) ∙ each (clause_expr names r1) _ _ (λ e. unwind-step v e s))
          go (no c) = refl

      -- yields, one after the other
      yield-law : (s : Both) (r : List ℕ) → yield_go w names m a b s r ≡ after (yielded w names m a b) (read_yield names) s r
      unfolding yield_go
      yield-law s r = refl

      yields-cons : (y : Yield) (ys : List Yield) (s : Both) → step m (yields w a b (y ∷ ys)) [] s ≡ step m (yields w a b ys) [] (yielded w names m a b y s)
      unfolding yields
      yields-cons (yield x alias v) ys s = step-two m (bind_anew w a b (indexed (yield_name x alias)) v value_kind) (yields w a b ys) [] [] s

      yields-nil : (s : Both) → step m (yields w a b []) [] s ≡ s
      unfolding yields
      yields-nil s = step-none m s

      call_step : (es : Exprs) (ys : List Yield) (s : Both) → walks m (call a b es ys) s ≡ step m (yields w a b ys) [] (acts w (unresolving m) plain es (step m (enter call_scope a b) [] s))
      unfolding clause kinds_c olds_c
      call_step es ys s = λ i. record { names = named m.resolves i; kinds = found m.checks i; olds = s.olds + olds es }
        where
          named : (q : Bool) → when q (clause w (call a b es ys)) s.names ≡ when q (yields w a b ys) (when q (enter call_scope a b) s.names)
          named true = refl
          named false = refl

          found : (q : Bool) → when q (told (kinds_es w es plain)) s.kinds ≡ when q (told []) (when q (told (kinds_es w es plain)) (when q (told []) s.kinds))
          found true = unfold told in refl
          found false = refl

      call-law : (s : Both) (r : List ℕ) → after (walks m) (read_call names a b) s r ≡ call_go w names m a b s r
      unfolding read_call counted call_go
      call-law s r = rw (← (counted-law w names (unresolving m) s1 r)) (go (counted_exprs names r))
        where
          s1 : Both
          s1 = step m (enter call_scope a b) [] s

          named : (es : Exprs) (g : Got ℕ) → bind (bind (bind g (λ n r2. many (read_yield names) n r2)) (λ ys r2. ok (call a b es ys) r2)) (λ c r2. ok (walks m c s) r2)
              ≡ bind g (λ n r2. rounds n (yield_go w names m a b) (acts w (unresolving m) plain es s1) r2)
          named es (ok n r2) =
              map-map (many (read_yield names) n r2) (λ ys. call a b es ys) (λ c. walks m c s)
              ∙ each (many (read_yield names) n r2) _ _ (λ ys. call_step es ys s)
              ∙ many-law (read_yield names) (yield_go w names m a b) (yielded w names m a b) (λ ys. step m (yields w a b ys) []) yield-law yields-nil yields-cons n (acts w (unresolving m) plain es s1) r2
          named es (no c) = refl

          go : (g : Got Exprs) → bind (bind g (λ es r1. bind (bind (any_word r1) (λ n r2. many (read_yield names) n r2)) (λ ys r2. ok (call a b es ys) r2))) (λ c r2. ok (walks m c s) r2)
              ≡ bind (bind g (λ es r1. ok (acts w (unresolving m) plain es s1) r1)) (λ u r1. bind (any_word r1) (λ n r2. rounds n (yield_go w names m a b) u r2))
          go (ok es r1) = named es (any_word r1)
          go (no c) = refl

      -- a row of a table of readings, and the rest of it
      entry : (q : Bool) (x y : Got Clause) (x' y' : Got Both) (s : Both) → bind x (λ c r. ok (walks m c s) r) ≡ x' → bind y (λ c r. ok (walks m c s) r) ≡ y' → bind (cond q x y) (λ c r. ok (walks m c s) r) ≡ cond q x' y'
      entry true x y x' y' s h k = h
      entry false x y x' y' s h k = k

      body-law : (kind : ℕ) (s : Both) (r : List ℕ) → after (walks m) (read_body names a b kind) s r ≡ body_go w names m a b kind s r
      unfolding read_body body_go
      body-law kind s r =
          entry (eqb kind 1) _ _ _ _ s (match-law s r)
          (entry (eqb kind 2) _ _ _ _ s (where-law s r)
          (entry (eqb kind 3) _ _ _ _ s (with-law false s r)
          (entry (eqb kind 4) _ _ _ _ s (return-law false s r)
          (entry (eqb kind 5) _ _ _ _ s (unwind-law s r)
          (entry (eqb kind 6) _ _ _ _ s (opening-law create s r)
          (entry (eqb kind 7) _ _ _ _ s (opening-law merge s r)
          (entry (eqb kind 8) _ _ _ _ s (marked-law set 1 s r)
          (entry (eqb kind 9) _ _ _ _ s (marked-law remove 2 s r)
          (entry (eqb kind 10) _ _ _ _ s (delete-law s r)
          (entry (eqb kind 11) _ _ _ _ s (call-law s r)
          (entry (eqb kind 12) _ _ _ _ s (with-law true s r) (entry (eqb kind 13) _ _ _ _ s (return-law true s r) refl))))))))))))

    -- A clause: read as the definition reads it, and then walked by both.
    pub apart-clause : (m : Mode) (s : Both) (r : List ℕ) → clause_go w names m s r ≡ after (walks m) (read_clause names) s r
    unfolding read_clause clause_go
    apart-clause m s r = kind (any_word r)
      where
        stop : (k a : ℕ) (g : Got ℕ) → bind g (λ b r3. body_go w names m a b k s r3) ≡ bind (bind g (λ b r3. read_body names a b k r3)) (λ c r2. ok (walks m c s) r2)
        stop k a (ok b r3) = sym (body-law m a b k s r3)
        stop k a (no c) = refl

        start : (k : ℕ) (g : Got ℕ) → bind g (λ a r2. bind (word_in a 4294967296 r2) (λ b r3. body_go w names m a b k s r3)) ≡ bind (bind g (λ a r2. bind (word_in a 4294967296 r2) (λ b r3. read_body names a b k r3))) (λ c r2. ok (walks m c s) r2)
        start k (ok a r2) = stop k a (word_in a 4294967296 r2)
        start k (no c) = refl

        kind : (g : Got ℕ) → bind g (λ k r1. bind (any_word r1) (λ a r2. bind (word_in a 4294967296 r2) (λ b r3. body_go w names m a b k s r3)))
            ≡ bind (bind g (λ k r1. bind (any_word r1) (λ a r2. bind (word_in a 4294967296 r2) (λ b r3. read_body names a b k r3)))) (λ c r2. ok (walks m c s) r2)
        kind (ok k r1) = start k (any_word r1)
        kind (no c) = refl

    clauses-nil : (m : Mode) (s : Both) → walks_all m [] s ≡ s
    unfolding clauses kinds flat_map olds_cs
    clauses-nil m s = move-none m s

    clauses-cons : (m : Mode) (c : Clause) (cs : List Clause) (s : Both) → walks_all m (c ∷ cs) s ≡ walks_all m cs (walks m c s)
    unfolding clauses kinds flat_map olds_cs
    clauses-cons m c cs s = move-two m (clause w c) (clauses w cs) (kinds_c w c) (kinds w cs) (olds_c c) (olds_cs cs) s

    pub apart-clauses : (m : Mode) (n : ℕ) (s : Both) (r : List ℕ) → rounds n (clause_go w names m) s r ≡ after (walks_all m) (many (read_clause names) n) s r
    apart-clauses m n s r = sym (many-law (read_clause names) (clause_go w names m) (walks m) (walks_all m) (apart-clause m) (clauses-nil m) (clauses-cons m) n s r)

    pub apart-arm : (m : Mode) (s : Both) (r : List ℕ) → arm_go w names m s r ≡ after (walks_arm m) (read_arm names) s r
    unfolding read_arm counted arm_go
    apart-arm m s r = begin' (any_word r)
      where
        s0 : Both
        s0 = step (in_arms m) (standing [] 0) [] s

        walked : (a b : ℕ) (cs : List Clause) → walks_arm m (arm a b cs) s ≡ walks_all (in_arms m) cs s0
        walked a b cs = unfold arms olds_a in λ i. record { names = when-two m.resolves (standing [] 0) (clauses w cs) s.names i; kinds = s.kinds; olds = s.olds + olds_cs cs }

        count : (a b : ℕ) (g : Got ℕ) → bind g (λ n r3. rounds n (clause_go w names (in_arms m)) s0 r3) ≡ bind (bind (bind g (λ n r3. many (read_clause names) n r3)) (λ cs r3. ok (arm a b cs) r3)) (λ x r2. ok (walks_arm m x s) r2)
        count a b (ok n r3) =
            apart-clauses (in_arms m) n s0 r3
            ∙ sym (each (many (read_clause names) n r3) _ _ (walked a b))
            ∙ sym (map-map (many (read_clause names) n r3) (λ cs. arm a b cs) (λ x. walks_arm m x s))
        count a b (no c) = refl

        stop : (a : ℕ) (g : Got ℕ) → bind g (λ b r2. bind (any_word r2) (λ n r3. rounds n (clause_go w names (in_arms m)) s0 r3)) ≡ bind (bind g (λ b r2. bind (bind (any_word r2) (λ n r3. many (read_clause names) n r3)) (λ cs r3. ok (arm a b cs) r3))) (λ x r2. ok (walks_arm m x s) r2)
        stop a (ok b r2) = count a b (any_word r2)
        stop a (no c) = refl

        begin' : (g : Got ℕ) → bind g (λ a r1. bind (word_in a 4294967296 r1) (λ b r2. bind (any_word r2) (λ n r3. rounds n (clause_go w names (in_arms m)) s0 r3)))
            ≡ bind (bind g (λ a r1. bind (word_in a 4294967296 r1) (λ b r2. bind (bind (any_word r2) (λ n r3. many (read_clause names) n r3)) (λ cs r3. ok (arm a b cs) r3)))) (λ x r2. ok (walks_arm m x s) r2)
        begin' (ok a r1) = stop a (word_in a 4294967296 r1)
        begin' (no c) = refl

    arms-nil : (m : Mode) (s : Both) → walks_arms m [] s ≡ s
    unfolding arms flat_map olds_as
    arms-nil m s = move-none (in_arms m) s

    arms-cons : (m : Mode) (x : Arm) (xs : List Arm) (s : Both) → walks_arms m (x ∷ xs) s ≡ walks_arms m xs (walks_arm m x s)
    unfolding arms flat_map olds_as
    arms-cons m (arm a b cs) xs s = move-two (in_arms m) (λ y. clauses w cs (standing [] 0 y)) (arms w xs) [] [] (olds_a (arm a b cs)) (olds_as xs) s

    pub apart-arms : (m : Mode) (n : ℕ) (s : Both) (r : List ℕ) → rounds n (arm_go w names m) s r ≡ after (walks_arms m) (many (read_arm names) n) s r
    apart-arms m n s r = sym (many-law (read_arm names) (arm_go w names m) (walks_arm m) (walks_arms m) (apart-arm m) (arms-nil m) (arms-cons m) n s r)
