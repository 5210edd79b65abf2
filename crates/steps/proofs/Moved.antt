-- Laws of what is opened, bound and left: a scope (`enters`), a name (`names`), a name that is not visible or is (`new-bound`, `new-idle`), out of a
-- scope (`left-still`, `left-fits`, `left-frame`, `left-holds`).
use Rattle.std.specs.Prelude.{Option, None, Some}
use Prim.Native.Nat.{ℕ, suc, ◌+◌, ◌<◌, ◌≤◌}
use native.Mathlib.Numerals.{add-one}
use native.Mathlib.Omega.{arith}
use mathlib.Core.Path.{◌≡◌, refl, ap, sym, subst, ◌∙◌}
use mathlib.Core.Bool.{Bool, true, false}
use mathlib.Core.List.{List, [], ◌∷◌}
use lib.ListN.{drop}
use Rattle.scope.specs.Answer as scopes
use Rattle.scope.specs.Graph.{scope, Name, indexed}
use Rattle.scope.specs.declared.Name.{Name as Name'}
use Rattle.semantics.specs.Log.{bound, Event, open', bind}
use Rattle.semantics.specs.World.{World}
use Rattle.semantics.specs.Resolve.{Hit, hit, State, Seen, seen, lookup, binds, say, enter, bind_name, bind_new, leave}
use Rattle.theorems.specs.Needs.{made, carried_in}
use Rattle.fused.specs.Fused.{Both}
use Rattle.visible.specs.Visible.{seens, Descends}
use Rattle.visible.specs.Stack.{entries, Bound, Cut}
use Rattle.visible.specs.declared.Visible.{Visible}
use Rattle.rowless.specs.Rowless.{named, places}
use Rattle.rowless.specs.declared.Rowless.{Rowless}
use Rattle.visible.proofs.Names.{descends-above}
use Rattle.steps.specs.Named.{as_named, Below}
use Rattle.steps.specs.Said as said
use Rattle.steps.specs.Said.{events_in, findings_in, kept}
use Rattle.steps.specs.Hold.{Fits, Holds, Frame, Still, Costs, Binds, Able, SaysIf, SaysBound, Left, on_names}
use Rattle.steps.specs.declared.Walk.{Walk}
use Rattle.steps.specs.declared.context.Context.{Context}
use Rattle.steps.specs.declared.log.Log.{Log}
use Rattle.steps.proofs.Named.{unmoved-idle, grows-idle, lookup-named, binds-named, below-more, named-grows}
use Rattle.steps.proofs.Held.{seen-idle, log-idle, framed-same, refit, idle-step, then-steps, more-costs, instead, no-count, recounted, wanted, unwanted, says_if}

-- a scope
abbrev opened : State → State
opened s = record { visible = s.visible; cur = suc s.last; last = suc s.last; log = s.log }

opens : {c : Context} {w : Walk} → Costs 0 1 0 c w (record w { cur = w.last + 1; last = w.last + 1 }) (λ id. on_names opened)
opens {c} {w} =
    let still : Still w (record w { cur = w.last + 1; last = w.last + 1 }) = record { visible = seen-idle; rowless = unmoved-idle; log = log-idle } in
    record {
      at = refl;
      still = still;
      fit = λ i k l f.
          refit f still refl f.below f.sound (descends-above (w.last + 1) w.cur (entries w.visible) (omega (arith, f.cur)) f.descends) (omega arith) (omega (arith, f.last)) (omega (arith, f.count)) (omega (arith, f.stack)) (omega (arith, f.rowless)) (omega (arith, f.olds)) (omega (arith, f.needs)) f.within;
      frame = record { top = omega arith; last = omega arith; below = refl; grows = grows-idle; levels = λ d h. refl };
      goes = λ id s h.
          record {
            visible = h.visible;
            cur = add-one w.last ∙ ap suc h.last;
            last = add-one w.last ∙ ap suc h.last;
            log = h.log;
            kinds = h.kinds;
            olds = h.olds;
            counts = recounted refl refl h.counts;
            uses = h.uses;
          };
    }

pub enters : {c : Context} {w w1 : Walk} {k a b : ℕ} → SaysIf c.wants (1 ∷ k ∷ (w.cur + 1) ∷ a ∷ b ∷ 0 ∷ []) w w1 →
    Costs 1 1 0 c w (record w1 { cur = w1.last + 1; last = w1.last + 1 }) (λ id. on_names (enter k a b))
enters {c} {w} {w1} {k} {a} {b} p =
    let x : Costs 1 0 0 c w w1 (λ id. on_names (λ s. say (open' (scope k (Some s.cur) a b)) s)) = instead _ (says_if p (λ id l. refl) (λ id l. refl) (λ id. no-count (λ n. refl) (λ n. refl))) (λ id s h. rw (add-one w.cur, h.cur)) in
    then-steps x opens

-- a name
abbrev pushed : Name → Hit → State → State
pushed x v s = record { visible = seen x v s.cur ∷ s.visible; cur = s.cur; last = s.last; log = s.log }

tail-same : (n n' t t' : ℕ) (m : List ℕ) (e : Seen) (l : List Seen) → n' ≡ n → t' ≡ suc t → seens n' t' m ≡ e ∷ l → seens n t m ≡ l
unfolding seens
tail-same n n' t t' m e l p q h =
    let z : seens n (suc t) m ≡ e ∷ l = rw (p, q) at h in
    ap (λ r. drop 1 r) z

pushes : {c : Context} {w : Walk} {vis : Visible} {x : ℕ} {v : Hit} → x < places w.rowless → Bound x v w.cur w.visible vis → Costs 0 2 0 c w (record w { visible = vis }) (λ id. on_names (pushed (named w.rowless x) v))
unfolding Descends as_named Below
pushes {c} {w} {vis} {x} {v} at p =
    let still : Still w (record w { visible = vis }) = record { visible = p.still; rowless = unmoved-idle; log = log-idle } in
    record {
      at = refl;
      still = still;
      fit = λ i k l f.
          refit f still refl (subst (λ l. Below (places w.rowless) l) (sym p.same) ((refl, at), f.below)) p.sound (subst (λ l. Descends w.cur l) (sym p.same) (omega arith, f.descends)) f.cur (omega (arith, f.last)) (omega (arith, f.count)) (omega (arith, f.stack, p.height)) (omega (arith, f.rowless)) (omega (arith, f.olds)) (omega (arith, f.needs)) f.within;
      frame =
          record {
            top = omega (arith, p.height);
            last = omega arith;
            below = tail-same w.visible.names vis.names w.visible.top vis.top vis.words.now (seen (indexed x) v w.cur) (entries w.visible) p.still.names p.height p.same;
            grows = grows-idle;
            levels = λ d h. refl;
          };
      goes = λ id s h.
          record {
            visible = ap (λ l. as_named w.rowless l) p.same ∙ ap (λ (n : ℕ). seen (named w.rowless x) v n ∷ as_named w.rowless (entries w.visible)) h.cur ∙ ap (λ l. seen (named w.rowless x) v s.names.cur ∷ l) h.visible;
            cur = h.cur;
            last = h.last;
            log = h.log;
            kinds = h.kinds;
            olds = h.olds;
            counts = recounted refl refl h.counts;
            uses = h.uses;
          };
    }

-- a binding is said, if it is wanted: a new one, which is counted
makes : (c : Context) (w : Walk) (l : Log) (x : Name) (v k : ℕ) → said.Still w.log l → l.said + l.told ≤ suc (w.log.said + w.log.told) →
    ((id : ℕ → ℕ) (r : List Event) → events_in id w.log ≡ kept c.wants r → events_in id l ≡ kept c.wants (bind false false (bound w.cur x v k) ∷ r)) → findings_in l ≡ findings_in w.log →
    Costs 1 1 0 c w (record w { log = l; made = suc w.made }) (λ id. on_names (say (bind false false (bound w.cur x v k))))
unfolding made carried_in
makes c w l x v k y few logs kinds =
    let still : Still w (record w { log = l; made = suc w.made }) = record { visible = seen-idle; rowless = unmoved-idle; log = y } in
    record {
      at = refl;
      still = still;
      fit = λ i k l f.
          refit f still refl f.below f.sound f.descends f.cur (omega (arith, f.last)) (omega (arith, f.count, few)) (omega (arith, f.stack)) (omega (arith, f.rowless)) (omega (arith, f.olds)) (omega (arith, f.needs)) f.within;
      frame = framed-same refl refl refl refl refl;
      goes = λ id s h.
          record {
            visible = h.visible;
            cur = h.cur;
            last = h.last;
            log = logs id s.names.log h.log;
            kinds = kinds ∙ h.kinds;
            olds = h.olds;
            counts = record { made = ap suc h.counts.made; taken = h.counts.taken };
            uses = h.uses;
          };
    }

counts-one : {c : Context} {w w1 : Walk} {n : Name'} {v k : ℕ} → SaysIf c.wants (2 ∷ w.cur ∷ n.word ∷ v ∷ k ∷ n.mark ∷ []) w w1 → Costs 1 1 0 c w (record w1 { made = suc w1.made }) (λ id. on_names (say (bind false false (bound w.cur (scopes.name_of n) v k))))
counts-one {c} {w} {w1} {n} {v} {k} p = go c.wants refl
  where
    go : (t : Bool) → c.wants ≡ t → Costs 1 1 0 c w (record w1 { made = suc w1.made }) (λ id. on_names (say (bind false false (bound w.cur (scopes.name_of n) v k))))
    go true q =
        let a = p.yes q in
        rw a.same
        (makes c w w1.log (scopes.name_of n) v k a.log.still (omega (arith, a.log.said, a.log.told))
        (λ id r h. a.log.events id ∙ ap (λ l. bind false false (bound w.cur (scopes.name_of n) v k) ∷ l) h ∙ sym (wanted (bind false false (bound w.cur (scopes.name_of n) v k)) q (λ l. refl) r))
        a.log.findings)
    go false q =
        rw (p.no q)
        (makes c w w.log (scopes.name_of n) v k log-idle (omega arith)
        (λ id r h. h ∙ sym (unwanted (bind false false (bound w.cur (scopes.name_of n) v k)) q (λ l. refl) r))
        refl)

-- one that replaces another, and either of them
bound-said : {c : Context} {w w1 : Walk} {n : Name'} {v k : ℕ} (again : Bool) → SaysBound c.wants again n v k w w1 → Costs 1 1 0 c w w1 (λ id. on_names (say (bind false again (bound w.cur (scopes.name_of n) v k))))
bound-said true p = more-costs (omega arith) (omega arith) (omega arith) (says_if (p.yes refl) (λ id l. refl) (λ id l. refl) (λ id. no-count (λ n. refl) (λ n. refl)))
bound-said false p = let y = p.no refl in rw y.counts (counts-one y.says)

-- what is said leaves the places
said-if-places : (t : Bool) {event : List ℕ} {w w1 : Walk} → SaysIf t event w w1 → w1.rowless ≡ w.rowless
said-if-places true p = ap (λ (w : Walk). w.rowless) (p.yes refl).same
said-if-places false p = ap (λ (w : Walk). w.rowless) (p.no refl)

said-places : (wants : Bool) {w w1 : Walk} {n : Name'} {v k : ℕ} (again : Bool) → SaysBound wants again n v k w w1 → w1.rowless ≡ w.rowless
said-places wants true p = said-if-places wants (p.yes refl)
said-places wants false p = let y = p.no refl in ap (λ (w : Walk). w.rowless) y.counts ∙ said-if-places wants y.says

-- whether the scope binds a name already, by its place
pub again-named : {c : Context} {w : Walk} {x j : ℕ} {again : Bool} → (x < places w.rowless) × Able j c w → again ≡ binds w.cur (indexed x) (entries w.visible) → (id : ℕ → ℕ) (s : Both) → Holds id c w s →
    again ≡ binds s.names.cur (named w.rowless x) s.names.visible
again-named {w = w} {x} (at, able) g id s h = g ∙ sym (binds-named able.fit.numbered w.cur x (entries w.visible) at able.fit.below) ∙ rw (h.visible, h.cur) refl

pub names : {c : Context} {w w1 : Walk} {vis : Visible} {n : Name'} {x v k : ℕ} {again : Bool} → (x < places w.rowless) × Able 3 c w → again ≡ binds w.cur (indexed x) (entries w.visible) →
    scopes.name_of n ≡ named w.rowless x → SaysBound c.wants again n v k w w1 → Bound x (hit v 0) w1.cur w1.visible vis → Binds c w (record w1 { visible = vis }) x v k again
names {c} {w} {w1} {vis} {n} {x} {v} {k} {again} (at, able) g e p q =
    let same : w1.rowless ≡ w.rowless = said-places c.wants again p in
    let y : Costs 1 1 0 c w w1 (λ id. on_names (λ s. say (bind false (binds s.cur (named w.rowless x) s.visible) (bound s.cur (named w.rowless x) v k)) s)) =
    instead _ (bound-said again p) (λ id s h. rw (e, ← (again-named (at, able) g id s h), h.cur)) in
    let z : Costs 0 2 0 c w1 (record w1 { visible = vis }) (λ id. on_names (pushed (named w.rowless x) (hit v 0))) =
    subst (λ (r : Rowless). Costs 0 2 0 c w1 (record w1 { visible = vis }) (λ id. on_names (pushed (named r x) (hit v 0)))) same (pushes (rw same at) q) in
    record { again = g; rowless = same; costs = then-steps y z }

-- a name that is not visible, and one that is
old-one : (u : World) (x : Name) (v k : ℕ) (o : Option Hit) (s : State) → (o ≡ None → ⊥) → bind_new u o x v k s ≡ s
unfolding bind_new
old-one u x v k None s z = absurd (z refl)
old-one u x v k (Some y) s z = refl

module _ {c : Context} {w : Walk} {e t u x : ℕ} (at : x < places w.rowless) (f : Fits e t u c w) (v k : ℕ) (W : (ℕ → ℕ) → World) where
  sought : (id : ℕ → ℕ) (s : Both) → Holds id c w s → lookup (named w.rowless x) s.names.visible ≡ lookup (indexed x) (entries w.visible)
  sought id s h = ap (λ l. lookup (named w.rowless x) l) (sym h.visible) ∙ lookup-named f.numbered x (entries w.visible) at f.below

  pub new-bound : {i j l : ℕ} {w1 : Walk} → lookup (indexed x) (entries w.visible) ≡ None → Costs i j l c w w1 (λ id. on_names (bind_name (named w.rowless x) v k)) →
      Costs i j l c w w1 (λ id. on_names (λ y. bind_new (W id) (lookup (named w.rowless x) y.visible) (named w.rowless x) v k y))
  unfolding bind_new
  new-bound z p = instead _ p (λ id s h. rw (sought id s h, z))

  pub new-idle : {i j l : ℕ} → (lookup (indexed x) (entries w.visible) ≡ None → ⊥) → Costs i j l c w w (λ id. on_names (λ y. bind_new (W id) (lookup (named w.rowless x) y.visible) (named w.rowless x) v k y))
  new-idle z =
      idle-step _ (λ id s h. rw (old-one (W id) (named w.rowless x) v k (lookup (named w.rowless x) s.names.visible) s.names (λ q. z (sym (sought id s h) ∙ q))) h)

-- Out of a scope that was entered at w: the walk n fits, frames and holds what it did, and the names that were visible at w.
same-names : (n n1 n2 t t1 : ℕ) (a b : List ℕ) (l : List Seen) → n1 ≡ n → n2 ≡ n1 → t1 ≡ t → seens n2 t1 b ≡ seens n1 t a → seens n t a ≡ l → (seens n2 t1 b ≡ l) × (seens n t b ≡ l)
same-names n n1 n2 t t1 a b l p q r h g =
    let x : seens n t b ≡ seens n t a = rw (q, p, r) at h in
    (rw (q, p, r) (x ∙ g), x ∙ g)

module _ {room e t u i k l : ℕ} {c : Context} {w n : Walk} {vis : Visible} (f : Fits e t u c w) (g : Fits i k l c n) (y : Still w n) (r : Frame room w n) (p : Cut w.visible.top n.visible vis) where
  cut-below : (entries vis ≡ entries w.visible) × (seens w.visible.names w.visible.top vis.words.now ≡ entries w.visible)
  cut-below = same-names w.visible.names n.visible.names vis.names w.visible.top vis.top n.visible.words.now vis.words.now (entries w.visible) y.visible.names p.still.names p.back p.same r.below

  cut-still : Still n (record n { visible = vis; cur = w.cur })
  cut-still = record { visible = p.still; rowless = unmoved-idle; log = log-idle }

  cut-fits : Fits i k l c (record n { visible = vis; cur = w.cur })
  cut-fits =
      refit g cut-still refl (subst (λ l. Below (places n.rowless) l) (sym cut-below.0) (below-more (entries w.visible) (omega (arith, r.grows.listed, r.grows.count)) f.below)) p.sound (subst (λ l. Descends w.cur l) (sym cut-below.0) f.descends) (omega (arith, f.cur, r.last)) g.last g.count (omega (arith, g.stack, r.top, p.back)) g.rowless g.olds g.needs g.within

  cut-frame : Frame room w (record n { visible = vis; cur = w.cur })
  cut-frame = record { top = omega (arith, p.back); last = r.last; below = cut-below.1; grows = r.grows; levels = r.levels }

  cut-holds : {id : ℕ → ℕ} {s u : Both} → Holds id c w s → Holds id c n u → Holds id c (record n { visible = vis; cur = w.cur }) (on_names (leave s.names) u)
  cut-holds h j =
      record {
        visible = ap (λ l. as_named n.rowless l) cut-below.0 ∙ named-grows (entries w.visible) r.grows f.below ∙ h.visible;
        cur = h.cur;
        last = j.last;
        log = j.log;
        kinds = j.kinds;
        olds = j.olds;
        counts = recounted refl refl j.counts;
        uses = j.uses;
      }

module _ {room e t u i k l : ℕ} {c : Context} {w n n' : Walk} (f : Fits e t u c w) (g : Fits i k l c n) (y : Still w n) (r : Frame room w n) (p : Left n n' w.visible.top w.cur) where
  pub left-still : Still n n'
  left-still = rw p.same (cut-still f g y r p.visible)

  pub left-fits : Fits i k l c n'
  left-fits = rw p.same (cut-fits f g y r p.visible)

  pub left-frame : Frame room w n'
  left-frame = rw p.same (cut-frame f g y r p.visible)

  pub left-holds : {id : ℕ → ℕ} {s u : Both} → Holds id c w s → Holds id c n u → Holds id c n' (on_names (leave s.names) u)
  left-holds h j = rw p.same (cut-holds f g y r p.visible h j)
