-- Reading and both walks in one is reading, and then the two walks over the tree (`apart`): the only place where trees are met. `acts` and
-- its like are what both walks do with a row, an expression and a pattern; `step-two`, `move-two` and `move-on` are two steps as one.
use Prim.Native.Nat.{ℕ, zero, suc, ◌+◌}
use native.Mathlib.Omega.{arith}
use mathlib.Core.Path.{◌≡◌, refl, ap, sym, ◌∙◌}
use mathlib.Core.Bool.{Bool, true, false}
use mathlib.Core.List.{List, [], ◌∷◌, ◌++◌}
use Rattle.scope.specs.Graph.{comprehension_scope}
use Rattle.heads.specs.Got.{Got, ok, no, bind, word_in, any_word}
use Rattle.heads.specs.Form.{read_form, kids_of}
use Rattle.heads.specs.Head.{read_part, read_elem, mark_low, mark_high, mark_kids}
use Rattle.heads.specs.declared.Elem.{Elem}
use Rattle.heads.specs.declared.Part.{Part}
use Rattle.heads.specs.declared.Form.{Form}
use Rattle.heads.specs.declared.Form.TheVariants.{Leaf, Var, Unresolved, Prop, Two, Slice, Many, BinOp, UnaryOp, Case, IsNull, PatternPredicate, ListComprehension, PatternComprehension, ListPredicate, MapProjection}
use Rattle.heads.proofs.Shapes.{bind-each}
use Rattle.expr.specs.Tree.{Expr, node, predicate, comprehension, Exprs, more, mark, Steps, part, elem, tree}
use Rattle.expr.specs.Olds.{old_in, olds_e, olds, olds_s}
use Rattle.expr.specs.Read.{Reader, RestE, RestS, no_more, times, marks, elem_one, elems, parts, pattern, maybe_pattern, after_form, read_expr}
use Rattle.semantics.specs.Log.{Finding}
use Rattle.semantics.specs.World.{World, variable}
use Rattle.semantics.specs.Resolve.{State, enter, leave, bind_path, bind_elem, resolve, resolves, bind_pattern}
use Rattle.semantics.specs.Kinds.{Setting, Pair, both, plain, pattern_type, type_of, settings, at_type, misplaced, row_for, kinds_e, kinds_es, kinds_s}
use Rattle.fused.specs.Fused.{Both, Mode, unresolving, Go, when, told, counting, step, rounds, row_go, same, left, tail_of, head_of, elem_step, part_step, mark_go, elem_go, part_go, pattern_go, rest_go, expr_go}

pub told-append : (a b k : List Finding) → told (a ++ b) k ≡ told b (told a k)
unfolding told
told-append [] b k = refl
told-append (f ∷ a) b k = told-append a b (f ∷ k)

pub when-two : (b : Bool) (f g : State → State) (x : State) → when b (λ y. g (f y)) x ≡ when b g (when b f x)
when-two true f g x = refl
when-two false f g x = refl

pub when-told : (b : Bool) (fs gs k : List Finding) → when b (told (fs ++ gs)) k ≡ when b (told gs) (when b (told fs) k)
when-told true fs gs k = told-append fs gs k
when-told false fs gs k = refl

pub step-two : (m : Mode) (f g : State → State) (fs gs : List Finding) (s : Both) → step m (λ y. g (f y)) (fs ++ gs) s ≡ step m g gs (step m f fs s)
step-two m f g fs gs s = λ i. record { names = when-two m.resolves f g s.names i; kinds = when-told m.checks fs gs s.kinds i; olds = s.olds }

pub when-same : (b : Bool) (x : State) → when b same x ≡ x
when-same true x = refl
when-same false x = refl

pub when-none : (b : Bool) (k : List Finding) → when b (told []) k ≡ k
unfolding told
when-none true k = refl
when-none false k = refl

-- a step of nothing
pub step-none : (m : Mode) (s : Both) → step m same [] s ≡ s
step-none m s = λ i. record { names = when-same m.resolves s.names i; kinds = when-none m.checks s.kinds i; olds = s.olds }

pub olds_two : (n a b : ℕ) → n + (a + b) ≡ n + a + b
olds_two n a b = omega arith

olds-none : (n : ℕ) → n + 0 ≡ n
olds-none n = omega arith

-- a step, and the expressions 25 that are counted
abbrev pub move : Mode → (State → State) → List Finding → ℕ → Both → Both
move m f fs n s = counting n (step m f fs s)

pub move-two : (m : Mode) (f g : State → State) (fs gs : List Finding) (a b : ℕ) (s : Both)
    → move m (λ y. g (f y)) (fs ++ gs) (a + b) s ≡ move m g gs b (move m f fs a s)
move-two m f g fs gs a b s =
    λ i. record { names = when-two m.resolves f g s.names i; kinds = when-told m.checks fs gs s.kinds i; olds = olds_two s.olds a b i }

-- where the first counts none
pub move-on : (m : Mode) (f g : State → State) (fs gs : List Finding) (n : ℕ) (s : Both)
    → move m (λ y. g (f y)) (fs ++ gs) n s ≡ move m g gs n (step m f fs s)
move-on m f g fs gs n s =
    λ i. record { names = when-two m.resolves f g s.names i; kinds = when-told m.checks fs gs s.kinds i; olds = s.olds + n }

-- nothing is counted
counting-none : (s : Both) → counting 0 s ≡ s
counting-none s = λ i. record { names = s.names; kinds = s.kinds; olds = olds-none s.olds i }

pub move-none : (m : Mode) (s : Both) → move m same [] 0 s ≡ s
move-none m s = counting-none (step m same [] s) ∙ step-none m s

-- what is read is walked
abbrev pub after : {A : Type 0} → (A → Both → Both) → (List ℕ → Got A) → Go
after f R s r = bind (R r) (λ a r2. ok (f a s) r2)

pub bind_ok : (g : Got Both) → bind g (λ u r. ok u r) ≡ g
bind_ok (ok u r) = refl
bind_ok (no c) = refl

pub map-map : {A B C : Type 0} (g : Got A) (f : A → B) (h : B → C) → bind (bind g (λ a r. ok (f a) r)) (λ b r. ok (h b) r) ≡ bind g (λ a r. ok (h (f a)) r)
map-map (ok a r) f h = refl
map-map (no c) f h = refl

-- the same answer for each thing that was read
pub each : {A B : Type 0} (g : Got A) (f h : A → B) → ((a : A) → f a ≡ h a) → bind g (λ a r. ok (f a) r) ≡ bind g (λ a r. ok (h a) r)
each {B = B} (ok a r) f h q = ap (λ (x : B). ok x r) (q a)
each (no c) f h q = refl

-- the settings after n expressions of a row
abbrev pair_after : ℕ → Pair → Pair
pair_after zero p = p
pair_after (suc n) (both c d) = pair_after n (both d d)

plain-after : (n : ℕ) → pair_after n plain ≡ plain
plain-after zero = refl
plain-after (suc n) = plain-after n

module _ (w : World) where
  -- what both walks do with an expression in a setting, a row, a pattern
  abbrev pub act : Mode → Setting → Expr → Both → Both
  act m c e = move m (resolve w e) (kinds_e w e c) (olds_e e)

  abbrev pub acts : Mode → Pair → Exprs → Both → Both
  acts m p es = move m (resolves w es) (kinds_es w es p) (olds es)

  abbrev pub lays : Mode → Steps → Both → Both
  lays m st = move m (bind_pattern w st) (kinds_s w st) (olds_s st)

  module _ (E : Mode → Setting → Go) (P : Reader) (h_e : (m : Mode) (c : Setting) (s : Both) (r : List ℕ) → E m c s r ≡ after (act m c) P s r) where
    -- expressions, and what follows them
    kids-then : (m : Mode) (n : ℕ) (p : Pair) (K : RestE) (s : Both) (r : List ℕ) → after (acts m p) (times n P K) s r ≡ bind (row_go (E m) n p s r) (λ s2 r2. after (acts m (pair_after n p)) K s2 r2)
    unfolding times row_go resolve kinds_e olds_e
    kids-then m zero p K s r = refl
    kids-then m (suc n) (both c d) K s r = rw h_e (go (kids-then m n (both d d) K) (P r))
      where
        go : ((s : Both) (r : List ℕ) → after (acts m (both d d)) (times n P K) s r ≡ bind (row_go (E m) n (both d d) s r) (λ s2 r2. after (acts m (pair_after n (both d d))) K s2 r2)) → (g : Got Expr) →
            bind (bind g (λ e r. bind (times n P K r) (λ es r2. ok (more e es) r2))) (λ es r. ok (acts m (both c d) es s) r)
            ≡ bind (bind (bind g (λ e r. ok (act m c e s) r)) (λ u r2. row_go (E m) n (both d d) u r2)) (λ s2 r2. after (acts m (pair_after n (both d d))) K s2 r2)
        go ih (ok e r2) =
            map-map (times n P K r2) (λ es. more e es) (λ es. acts m (both c d) es s)
            ∙ each (times n P K r2) (λ es. acts m (both c d) (more e es) s) (λ es. acts m (both d d) es (act m c e s)) (λ es. move-two m (resolve w e) (resolves w es) (kinds_e w e c) (kinds_es w es (both d d)) (olds_e e) (olds es) s)
            ∙ ih (act m c e s) r2
        go ih (no k) = refl

    none-law : (m : Mode) (p : Pair) (s : Both) (r : List ℕ) → after (acts m p) no_more s r ≡ ok s r
    unfolding resolve kinds_e olds_e
    none-law m p s r = ap (λ (x : Both). ok x r) (move-none m s)

    pub kids-law : (m : Mode) (n : ℕ) (p : Pair) (s : Both) (r : List ℕ) → after (acts m p) (times n P no_more) s r ≡ row_go (E m) n p s r
    kids-law m n p s r = kids-then m n p no_more s r ∙ bind-each (row_go (E m) n p s r) _ _ (λ u r2. none-law m (pair_after n p) u r2) ∙ bind_ok (row_go (E m) n p s r)

    pub marks-law : (m : Mode) (kind n : ℕ) (s : Both) (r : List ℕ) → after (acts m plain) (marks kind n P) s r ≡ rounds n (mark_go w E m kind) s r
    unfolding marks rounds mark_go resolve kinds_e olds_e
    marks-law m kind zero s r = ap (λ (x : Both). ok x r) (move-none m s)
    marks-law m kind (suc n) s r = go (marks-law m kind n) (word_in (mark_low kind) (mark_high kind) r)
      where
        go : ((s : Both) (r : List ℕ) → after (acts m plain) (marks kind n P) s r ≡ rounds n (mark_go w E m kind) s r) → (g : Got ℕ) →
            bind (bind g (λ k r. bind (times (mark_kids kind k) P (marks kind n P) r) (λ es r2. ok (mark k es) r2))) (λ es r. ok (acts m plain es s) r)
            ≡ bind (bind g (λ k r2. row_go (E m) (mark_kids kind k) plain s r2)) (λ u r2. rounds n (mark_go w E m kind) u r2)
        go ih (ok k r2) =
            map-map (times (mark_kids kind k) P (marks kind n P) r2) (λ es. mark k es) (λ es. acts m plain es s)
            ∙ kids-then m (mark_kids kind k) plain (marks kind n P) s r2
            ∙ bind-each (row_go (E m) (mark_kids kind k) plain s r2) _ _ (λ u r3. rw (plain-after (mark_kids kind k)) (ih u r3))
        go ih (no c) = refl

    -- a pattern
    elems-then : (m : Mode) (n : ℕ) (K : RestS) (s : Both) (r : List ℕ) → after (lays m) (elems n P K) s r ≡ bind (rounds n (elem_go w E m) s r) (λ s2 r2. after (lays m) K s2 r2)
    unfolding elems elem_one rounds elem_go resolve kinds_e olds_e
    elems-then m zero K s r = refl
    elems-then m (suc n) K s r = go (elems-then m n K) (read_elem r)
      where
        laid : (h : Elem) (es : Exprs) (st : Steps) → lays m (elem h.kind h.start h.end h.variable es st) s ≡ lays m st (acts m plain es (elem_step w m h s))
        laid h es st =
            move-on m (bind_elem w h.kind (variable h.variable)) (λ y. bind_pattern w st (resolves w es y)) (misplaced (suc h.kind) h.kind h.start h.end (row_for w h.variable)) (kinds_es w es plain ++ kinds_s w st) (olds es + olds_s st) s
            ∙ move-two m (resolves w es) (bind_pattern w st) (kinds_es w es plain) (kinds_s w st) (olds es) (olds_s st) (elem_step w m h s)

        at : ((s : Both) (r : List ℕ) → after (lays m) (elems n P K) s r ≡ bind (rounds n (elem_go w E m) s r) (λ s2 r2. after (lays m) K s2 r2)) → (h : Elem) (g : Got Exprs) →
            bind (bind (bind {B = Elem × Exprs} g (λ es r2. ok (h, es) r2)) (λ x r. bind (elems n P K r) (λ st r2. ok (elem x.0.kind x.0.start x.0.end x.0.variable x.1 st) r2))) (λ st r. ok (lays m st s) r)
            ≡ bind (bind (bind g (λ es r2. ok (acts m plain es (elem_step w m h s)) r2)) (λ u r2. rounds n (elem_go w E m) u r2)) (λ s2 r2. after (lays m) K s2 r2)
        at ih h (ok es r2) =
            map-map (elems n P K r2) (λ st. elem h.kind h.start h.end h.variable es st) (λ st. lays m st s)
            ∙ each (elems n P K r2) (λ st. lays m (elem h.kind h.start h.end h.variable es st) s) (λ st. lays m st (acts m plain es (elem_step w m h s))) (laid h es)
            ∙ ih (acts m plain es (elem_step w m h s)) r2
        at ih h (no c) = refl

        go : ((s : Both) (r : List ℕ) → after (lays m) (elems n P K) s r ≡ bind (rounds n (elem_go w E m) s r) (λ s2 r2. after (lays m) K s2 r2)) → (g : Got Elem) →
            bind (bind (bind g (λ h r. bind {B = Elem × Exprs} (times h.property P no_more r) (λ es r2. ok (h, es) r2))) (λ x r. bind (elems n P K r) (λ st r2. ok (elem x.0.kind x.0.start x.0.end x.0.variable x.1 st) r2))) (λ st r. ok (lays m st s) r)
            ≡ bind (bind (bind g (λ h r2. row_go (E m) h.property plain (elem_step w m h s) r2)) (λ u r2. rounds n (elem_go w E m) u r2)) (λ s2 r2. after (lays m) K s2 r2)
        go ih (ok h r2) = rw (← (kids-law m h.property plain (elem_step w m h s) r2)) (at ih h (times h.property P no_more r2))
        go ih (no c) = refl

    parts-law : (m : Mode) (n : ℕ) (s : Both) (r : List ℕ) → after (lays m) (parts n P) s r ≡ rounds n (part_go w E m) s r
    unfolding parts rounds part_go resolve kinds_e olds_e
    parts-law m zero s r = ap (λ (x : Both). ok x r) (move-none m s)
    parts-law m (suc n) s r = go (parts-law m n) (read_part r)
      where
        go : ((s : Both) (r : List ℕ) → after (lays m) (parts n P) s r ≡ rounds n (part_go w E m) s r) → (g : Got Part) →
            bind (bind g (λ h r. bind (elems h.count P (parts n P) r) (λ st r2. ok (part h.path st) r2))) (λ st r. ok (lays m st s) r)
            ≡ bind (bind g (λ h r2. rounds h.count (elem_go w E m) (part_step w m h s) r2)) (λ u r2. rounds n (part_go w E m) u r2)
        go ih (ok h r2) =
            map-map (elems h.count P (parts n P) r2) (λ st. part h.path st) (λ st. lays m st s)
            ∙ each (elems h.count P (parts n P) r2) (λ st. lays m (part h.path st) s) (λ st. lays m st (part_step w m h s)) (λ st. move-on m (bind_path w (variable h.path)) (bind_pattern w st) (misplaced 1 3 0 0 (row_for w h.path)) (kinds_s w st) (olds_s st) s)
            ∙ elems-then m h.count (parts n P) (part_step w m h s) r2
            ∙ bind-each (rounds h.count (elem_go w E m) (part_step w m h s) r2) _ _ ih
        go ih (no c) = refl

    pub pattern-law : (m : Mode) (s : Both) (r : List ℕ) → after (lays m) (pattern P) s r ≡ pattern_go w E m s r
    unfolding pattern pattern_go
    pattern-law m s r = go (any_word r)
      where
        go : (g : Got ℕ) → bind (bind g (λ n r. parts n P r)) (λ st r. ok (lays m st s) r) ≡ bind g (λ n r2. rounds n (part_go w E m) s r2)
        go (ok n r2) = parts-law m n s r2
        go (no c) = refl

    -- what follows a head
    abbrev Follows : Form → Type 0
    Follows f = (m : Mode) (c : Setting) (s : Both) (r : List ℕ) → after (act m c) (after_form P f) s r ≡ bind (rest_go w E m f c (head_of w m f c s) r) (λ s2 r2. ok (tail_of m f s s2) r2)

    -- a head without a pattern: its own finding, and then its parts
    module _ (m : Mode) (c : Setting) (f : Form) (s : Both) (h : head_of w m f c s ≡ counting (old_in f) (step m same (at_type c (type_of f)) s)) where
      abbrev its : Pair
      its = settings w.is_id f c

      abbrev own : Both
      own = head_of w m f c s

      stepped : (es : Exprs) → act m c (node f es) s ≡ acts m its es own
      unfolding resolve kinds_e olds_e
      stepped es =
          (λ i. record { names = when-two m.resolves same (resolves w es) s.names i; kinds = when-told m.checks (at_type c (type_of f)) (kinds_es w es its) s.kinds i; olds = olds_two s.olds (old_in f) (olds es) i })
          ∙ ap (acts m its es) (sym h)

      noded : (R : RestE) (r : List ℕ) → bind (bind (R r) (λ es r3. ok (node f es) r3)) (λ e r2. ok (act m c e s) r2) ≡ after (acts m its) R own r
      noded R r = map-map (R r) (λ es. node f es) (λ e. act m c e s) ∙ each (R r) (λ es. act m c (node f es) s) (λ es. acts m its es own) stepped

      row-head : (n : ℕ) (r : List ℕ) → bind (bind (times n P (marks 0 0 P) r) (λ es r3. ok (node f es) r3)) (λ e r2. ok (act m c e s) r2)
          ≡ bind (bind (row_go (E m) n its own r) (λ s2 r2. rounds 0 (mark_go w E m 0) s2 r2)) (λ s2 r2. ok s2 r2)
      unfolding marks rounds resolve kinds_e olds_e
      row-head n r =
          noded (times n P (marks 0 0 P)) r
          ∙ kids-then m n its (marks 0 0 P) own r
          ∙ bind-each (row_go (E m) n its own r) _ _ (λ u r2. ap (λ (x : Both). ok x r2) (move-none m u))
          ∙ sym (bind_ok _)

      items-head : (n k : ℕ) (r : List ℕ) → pair_after n its ≡ plain → bind (bind (times n P (marks 0 k P) r) (λ es r3. ok (node f es) r3)) (λ e r2. ok (act m c e s) r2)
          ≡ bind (bind (row_go (E m) n its own r) (λ s2 r2. rounds k (mark_go w E m 0) s2 r2)) (λ s2 r2. ok s2 r2)
      items-head n k r q =
          noded (times n P (marks 0 k P)) r
          ∙ kids-then m n its (marks 0 k P) own r
          ∙ bind-each (row_go (E m) n its own r) _ _ (λ u r2. rw q (marks-law m 0 k u r2))
          ∙ sym (bind_ok _)

    -- a PatternPredicate: its own finding, then its pattern, of which the name walk sees nothing
    pred : (m : Mode) (c : Setting) (s : Both) (r : List ℕ) → bind (bind (pattern P r) (λ st r2. ok (predicate st) r2)) (λ e r2. ok (act m c e s) r2)
        ≡ bind (bind (pattern_go w E (unresolving m) (step m same (at_type c pattern_type) s) r) (λ s1 r1. ok s1 r1)) (λ s2 r2. ok s2 r2)
    unfolding resolve kinds_e olds_e
    pred m c s r =
        map-map (pattern P r) (λ st. predicate st) (λ e. act m c e s)
        ∙ each (pattern P r) (λ st. act m c (predicate st) s) (λ st. lays (unresolving m) st (step m same (at_type c pattern_type) s)) (λ st. λ i. record { names = when m.resolves same s.names; kinds = when-told m.checks (at_type c pattern_type) (kinds_s w st) s.kinds i; olds = s.olds + olds_s st })
        ∙ pattern-law (unresolving m) (step m same (at_type c pattern_type) s) r
        ∙ sym (bind_ok _) ∙ sym (bind_ok _)

    -- a PatternComprehension: its scope, its pattern, its row, and out again
    scoped : (m : Mode) (c : Setting) (a b : ℕ) (st : Steps) (es : Exprs) (s : Both) → act m c (comprehension a b st es) s ≡ left m s (acts m plain es (lays m st (step m (enter comprehension_scope a b) [] s)))
    unfolding resolve kinds_e olds_e
    scoped m c a b st es s = λ i. record { names = out m.resolves i; kinds = found m.checks i; olds = olds_two s.olds (olds_s st) (olds es) i }
      where
        out : (q : Bool) → when q (λ y. leave y (resolves w es (bind_pattern w st (enter comprehension_scope a b y)))) s.names ≡ when q (leave s.names) (when q (resolves w es) (when q (bind_pattern w st) (when q (enter comprehension_scope a b) s.names)))
        out true = refl
        out false = refl

        found : (q : Bool) → when q (told (kinds_s w st ++ kinds_es w es plain)) s.kinds ≡ when q (told (kinds_es w es plain)) (when q (told (kinds_s w st)) (when q (told []) s.kinds))
        found true = unfold told in told-append (kinds_s w st) (kinds_es w es plain) s.kinds
        found false = refl

    comp : (m : Mode) (c : Setting) (n a b : ℕ) (s : Both) (r : List ℕ) → bind (bind (pattern P r) (λ st r2. bind (times n P (marks 0 0 P) r2) (λ es r3. ok (comprehension a b st es) r3))) (λ e r2. ok (act m c e s) r2)
        ≡ bind (bind (pattern_go w E m (step m (enter comprehension_scope a b) [] s) r) (λ s1 r1. bind (row_go (E m) n plain s1 r1) (λ s2 r2. rounds 0 (mark_go w E m 0) s2 r2))) (λ s2 r2. ok (left m s s2) r2)
    unfolding marks rounds
    comp m c n a b s r = rw (← (pattern-law m (step m (enter comprehension_scope a b) [] s) r)) (go (pattern P r))
      where
        go : (g : Got Steps) → bind (bind g (λ st r2. bind (times n P (marks 0 0 P) r2) (λ es r3. ok (comprehension a b st es) r3))) (λ e r2. ok (act m c e s) r2)
            ≡ bind (bind (bind g (λ st r2. ok (lays m st (step m (enter comprehension_scope a b) [] s)) r2)) (λ s1 r1. bind (row_go (E m) n plain s1 r1) (λ s2 r2. rounds 0 (mark_go w E m 0) s2 r2))) (λ s2 r2. ok (left m s s2) r2)
        go (ok st r2) =
            let s1 = lays m st (step m (enter comprehension_scope a b) [] s) in
            map-map (times n P (marks 0 0 P) r2) (λ es. comprehension a b st es) (λ e. act m c e s)
            ∙ each (times n P (marks 0 0 P) r2) (λ es. act m c (comprehension a b st es) s) (λ es. left m s (acts m plain es s1)) (λ es. scoped m c a b st es s)
            ∙ sym (map-map (times n P (marks 0 0 P) r2) (λ es. acts m plain es s1) (λ s2. left m s s2))
            ∙ ap (λ (g : Got Both). bind g (λ s2 r. ok (left m s s2) r))
            (kids-then m n plain (marks 0 0 P) s1 r2 ∙ bind-each (row_go (E m) n plain s1 r2) _ _ (λ u r3. rw (plain-after n) (marks-law m 0 0 u r3)))
        go (no k) = refl

    follows : (f : Form) → Follows f
    unfolding after_form rest_go maybe_pattern times marks rounds row_go tree resolve kinds_e olds_e settings
    follows (Leaf k) m c s r = row-head m c (Leaf k) s refl 0 r
    follows (Var v) m c s r = ap (λ (x : Both). ok x r) (counting-none (head_of w m (Var v) c s))
    follows (Unresolved x) m c s r = ap (λ (x : Both). ok x r) (counting-none (head_of w m (Unresolved x) c s))
    follows (Prop x) m c s r = row-head m c (Prop x) s (sym (counting-none _)) 1 r
    follows (Two k) m c s r = row-head m c (Two k) s (sym (counting-none _)) 2 r
    follows (Slice b) m c s r = row-head m c (Slice b) s (sym (counting-none _)) (kids_of (Slice b)) r
    follows (Many k n) m c s r = row-head m c (Many k n) s (sym (counting-none _)) n r
    follows (BinOp o) m c s r = row-head m c (BinOp o) s (sym (counting-none _)) 2 r
    follows (UnaryOp o) m c s r = row-head m c (UnaryOp o) s (sym (counting-none _)) 1 r
    follows (Case b n) m c s r = row-head m c (Case b n) s (sym (counting-none _)) (kids_of (Case b n)) r
    follows IsNull m c s r = row-head m c IsNull s (sym (counting-none _)) 1 r
    follows PatternPredicate m c s r = pred m c s r
    follows (ListComprehension g) m c s r = row-head m c (ListComprehension g) s (sym (counting-none _)) (kids_of (ListComprehension g)) r
    follows (PatternComprehension a b g) m c s r = comp m c (kids_of (PatternComprehension a b g)) a b s r
    follows (ListPredicate g) m c s r = row-head m c (ListPredicate g) s (sym (counting-none _)) (kids_of (ListPredicate g)) r
    follows (MapProjection n) m c s r = items-head m c (MapProjection n) s (sym (counting-none _)) 1 n r refl

  -- An expression: read as the definition reads it, and then walked by both.
  pub apart : (names d : ℕ) (m : Mode) (c : Setting) (s : Both) (r : List ℕ) → expr_go w names d m c s r ≡ after (act m c) (read_expr names d) s r
  unfolding expr_go read_expr
  apart names zero m c s r = refl
  apart names (suc d) m c s r = go (follows (expr_go w names d) (read_expr names d) (apart names d)) (read_form names r)
    where
      go : ((f : Form) (m : Mode) (c : Setting) (s : Both) (r : List ℕ) → after (act m c) (after_form (read_expr names d) f) s r ≡ bind (rest_go w (expr_go w names d) m f c (head_of w m f c s) r) (λ s2 r2. ok (tail_of m f s s2) r2)) → (g : Got Form) →
          bind g (λ f r1. bind (rest_go w (expr_go w names d) m f c (head_of w m f c s) r1) (λ s2 r2. ok (tail_of m f s s2) r2)) ≡ bind (bind g (λ f r. after_form (read_expr names d) f r)) (λ e r2. ok (act m c e s) r2)
      go law (ok f r1) = sym (law f m c s r1)
      go law (no k) = refl
