-- From every comprehension's scope of the finished log (`inners`): the walk opens each as Inners has it (Walked); `Met` says so of all scopes in
-- a log.
use Rattle.std.specs.Prelude.{Some}
use Prim.Native.Nat.{ℕ, suc}
use native.Mathlib.Omega.{arith}
use mathlib.Core.Path.{◌≡◌, refl, sym, ◌∙◌, ap, subst}
use mathlib.Core.Bool.{Bool, true≢false}
use mathlib.Core.List.{List, [], ◌∷◌, ◌++◌, map, reverse, reverse_aux, reverse-cons, reverse-append, reverse-reverse, append_assoc}
use Rattle.std.proofs.lemmas.List.{append_cancel_left}
use Rattle.scope.specs.Graph.{comprehension_scope, scope, Name}
use Rattle.sheet.specs.Statement.{Statement}
use Rattle.semantics.specs.Log.{Finding, Write, Event, open', bind, carry, answer, find}
use Rattle.semantics.specs.World.{hush}
use Rattle.semantics.specs.Resolve.{State, bind_pattern, log}
use Rattle.semantics.specs.Lists.{scopes, bindings, carried_list}
use Rattle.theorems.specs.Uses.{Use, seen_as, e1001, record_of}
use Rattle.theorems.specs.Agree.{look, or_parent, opened_after, in_lists}
use Rattle.theorems.specs.Agree
use Rattle.theorems.proofs.Adds.{pattern-after}
use Rattle.theorems.proofs.Inners.{Inner}
use Rattle.theorems.proofs.Walked.{W, all, Aside, other_scope, inner_scope, binding, carrying, repeating, Walked, none', says, meets, walked}

module _ (warns : Bool) (st : Statement) where
  Here : Event → List Event → Type 0
  Here (open' s) l = Aside warns st (open' s) l
  Here (bind o g b) l = Unit {0}
  Here (carry c) l = Unit {0}
  Here (answer a) l = Unit {0}
  Here (find f) l = Unit {0}

  Met : List Event → Type 0
  Met [] = Unit {0}
  Met (e ∷ l) = Here e l × Met l

  met_at : (m : List Event) (e : Event) (l : List Event) → Met (m ++ e ∷ l) → Here e l
  unfolding Met
  met_at [] e l h = h.0
  met_at (x ∷ m) e l h = met_at m e l h.1

  aside-M : {e : Event} {l : List Event} → Aside warns st e l → Here e l
  unfolding Here
  aside-M (other_scope h) = other_scope h
  aside-M (inner_scope v s q i) = inner_scope v s q i
  aside-M binding = tt
  aside-M carrying = tt
  aside-M repeating = tt

  -- A use opens nothing.
  use-M : (ws : List Write) (fs : List Finding) (l : List Event) → Met l → Met (reverse_aux (map answer ws ++ map find fs) l)
  unfolding Met Here
  use-M [] [] l h = h
  use-M [] (f ∷ fs) l h = use-M [] fs (find f ∷ l) (tt, h)
  use-M (a ∷ ws) fs l h = use-M ws fs (answer a ∷ l) (tt, h)

  met : {l m : List Event} {us : List Use} → Walked warns st l us m → Met l → Met m
  unfolding Met
  met none' h = h
  met (says s k) h = met k (aside-M s, h)
  met (meets {u = u} {l = l} s k) h = met k (use-M (record_of (W warns st) (scopes warns st) u) (e1001 (W warns st) u) l h)

  in-log : (n : ℕ) (x : Name) → in_lists warns st n x ≡ look (reverse (all warns st)) n x
  in-log n x = unfold in_lists look scopes bindings carried_list log in refl

  turn : log warns st ≡ reverse (all warns st)
  unfolding log
  turn = refl

  told : {l : List Event} {p a b : ℕ} (m : List Event) → Aside warns st (open' (scope comprehension_scope (Some p) a b)) l
      → log warns st ≡ reverse l ++ open' (scope comprehension_scope (Some p) a b) ∷ m → Agree.Inner warns st (reverse l) m p
  unfolding opened_after
  told m (other_scope h) q = absurd (true≢false h)
  told m (inner_scope k t {a = a} {b = b} pattern i) q =
      let w = hush k.hushed (W warns st) in
      let j = subst (λ w. Inner (all warns st) w k.beyond t a b pattern) k.known i in
      let u : State = record { visible = t.visible; cur = suc t.last; last = suc t.last; log = [] } in
      let ev = open' (scope comprehension_scope (Some t.cur) a b) in
      let pat = pattern-after w (ev ∷ t.log) pattern u in
      let said = (bind_pattern w pattern u).log in
      let goes : log warns st ≡ reverse t.log ++ ev ∷ (reverse said ++ reverse j.rest)
      = turn ∙ ap reverse (j.goes ∙ ap (λ (x : State). j.rest ++ x.log) pat) ∙ reverse-append j.rest (said ++ ev ∷ t.log)
      ∙ ap (λ z. z ++ reverse j.rest) (reverse-append said (ev ∷ t.log) ∙ ap (λ z. z ++ reverse said) (reverse-cons ev t.log))
      ∙ append_assoc (reverse t.log ++ ev ∷ []) (reverse said) (reverse j.rest) ∙ append_assoc (reverse t.log) (ev ∷ []) (reverse said ++ reverse j.rest) in
      let rest = append_cancel_left (reverse t.log) (ev ∷ m) (ev ∷ (reverse said ++ reverse j.rest)) (sym q ∙ goes) in
      record {
        pattern = pattern;
        visible = t.visible;
        reach = j.reach;
        beyond = k.beyond;
        splits = j.splits;
        hidden = k.hidden;
        hushed = k.hushed;
        rest = reverse j.rest;
        says = rw j.counts (cc);
        lower = omega (arith, j.counts, j.low);
        around = j.around;
        own = j.own;
        adds = rw j.counts (ap (λ (x : State). x.visible) (sym pat) ∙ j.adds);
        inside = λ x. rw j.counts (in-log (suc t.last) x ∙ j.inside x ∙ ap (or_parent (seen_as x j.own)) (sym (in-log t.cur x)));
      }

  -- Every comprehension's scope of the finished log.
  pub inners : (l m : List Event) (p a b : ℕ) → log warns st ≡ l ++ open' (scope comprehension_scope (Some p) a b) ∷ m → Agree.Inner warns st l m p
  unfolding Met Here
  inners l m p a b q =
      let ev = open' (scope comprehension_scope (Some p) a b) in
      let turned : all warns st ≡ reverse m ++ ev ∷ reverse l
      = sym (reverse-reverse (all warns st)) ∙ ap reverse (sym turn ∙ q) ∙ reverse-append l (ev ∷ m) ∙ ap (λ z. z ++ reverse l) (reverse-cons ev m) ∙ append_assoc (reverse m) (ev ∷ []) (reverse l) in
      subst (λ k. Agree.Inner warns st k m p) (reverse-reverse l)
      (told m (met_at (reverse m) ev (reverse l) (subst Met turned (met (walked warns st) tt))) (q ∙ ap (λ z. z ++ ev ∷ m) (sym (reverse-reverse l))))
