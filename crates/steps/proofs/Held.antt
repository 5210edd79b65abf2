-- Laws of steps. What was lent stays (`seen-idle`, `log-idle`, `still-idle`, `still-then`), what was visible stays below (`framed`,
-- `framed-same`, `framed-idle`, `frame-more`, `seens-lower`).
-- Room: `lower`, `ready-less`, `roomy`, `roomy-in`, and `refit` after a change. Steps: nothing done (`idle-step`), one after another
-- (`then-steps`), for more words (`more-costs`, `more-steps`), put another way (`as-steps`, `instead`). What is counted: `uncounted`,
-- `recounted`. What is said and told: `says-costs`, `says-step`, `says_if`, `unsaid-step`, `tells-costs`, `tells-step`, `tells-if`, with `wanted`,
-- `always` and `unwanted` for what is kept of a log.
use Prim.Native.Nat.{ℕ, zero, suc, ◌+◌, ◌-◌, ◌*◌, ◌≤◌}
use native.Mathlib.Nat.{suc-add, zero-add}
use native.Mathlib.Omega.{arith}
use mathlib.Core.Path.{◌≡◌, refl, ap, sym, subst, ◌∙◌}
use mathlib.Core.Bool.{Bool, true, false, cond}
use mathlib.Core.List.{List, [], ◌∷◌}
use lib.ListN.{length, drop}
use Rattle.semantics.specs.Log.{Finding, Event, find}
use Rattle.semantics.specs.Resolve.{say}
use Rattle.theorems.specs.Needs.{made_one, carried_one, made, carried_in}
use Rattle.theorems.specs.Woven.{written_one, written}
use Rattle.fused.specs.Fused.{Both, told}
use Rattle.visible.specs.Visible.{seens, Descends}
use Rattle.visible.specs.Stack.{entries, Sound}
use Rattle.visible.specs.Stack as stack
use Rattle.visible.specs.declared.Visible.{Visible}
use Rattle.rowless.specs.Rowless.{places, most, Sound as Numbered, Right, Grows}
use Rattle.rowless.specs.declared.Rowless.{Rowless}
use Rattle.steps.specs.Memory.{words_in, named_in}
use Rattle.steps.specs.Named.{Below}
use Rattle.steps.specs.Said as said
use Rattle.steps.specs.Said.{kept_one, kept, event_by, finding_by, Roomy, Says, Tells}
use Rattle.steps.specs.Hold.{Fine, Fits, Counted, Holds, Frame, Still, Costs, Steps, Ready, SaysIf, TellsIf, on_names, on_kinds, logged}
use Rattle.steps.specs.declared.Walk.{Walk}
use Rattle.steps.specs.declared.context.Context.{Context}
use Rattle.steps.specs.declared.log.Log.{Log}
use Rattle.steps.proofs.Named.{unmoved-idle, unmoved-then, grows-idle, grows-then}

-- ---- what stays
pub seen-idle : {v : Visible} → stack.Still v v
seen-idle = record { names = refl; lent = refl; size = refl }

pub log-idle : {l : Log} → said.Still l l
log-idle = record { lent = refl; size = refl }

pub still-idle : {w : Walk} → Still w w
still-idle = record { visible = seen-idle; rowless = unmoved-idle; log = log-idle }

pub still-then : {w w1 w2 : Walk} → Still w w1 → Still w1 w2 → Still w w2
still-then x y =
    record {
      visible = record { names = y.visible.names ∙ x.visible.names; lent = y.visible.lent ∙ x.visible.lent; size = y.visible.size ∙ x.visible.size };
      rowless = unmoved-then x.rowless y.rowless;
      log = record { lent = y.log.lent ∙ x.log.lent; size = y.log.size ∙ x.log.size };
    }

pub drop-seens : (n d k : ℕ) (m : List ℕ) → drop d (seens n (d + k) m) ≡ seens n k m
unfolding seens
drop-seens n zero k m = ap (λ (j : ℕ). seens n j m) (zero-add k)
drop-seens n (suc d) k m = ap (λ (j : ℕ). drop (suc d) (seens n j m)) (suc-add d k) ∙ drop-seens n d k m

-- what agrees up to a height agrees up to any lower one
pub seens-lower : (n k t : ℕ) (a b : List ℕ) → k ≤ t → seens n t a ≡ seens n t b → seens n k a ≡ seens n k b
seens-lower n k t a b h q =
    let z : t ≡ t - k + k = omega arith in
    sym (drop-seens n (t - k) k a) ∙ ap (λ l. drop (t - k) l) (rw z at q) ∙ drop-seens n (t - k) k b

below-lower : (n n1 k t : ℕ) (a b : List ℕ) → n1 ≡ n → k ≤ t → seens n1 t a ≡ seens n1 t b → seens n k a ≡ seens n k b
below-lower n n1 k t a b e h q = seens-lower n k t a b h (rw e at q)

pub framed : {room : ℕ} {w w1 w2 : Walk} → Still w w1 → Frame room w w1 → Frame room w1 w2 → Frame room w w2
framed {w = w} {w1} {w2} y f g =
    record {
      top = omega (arith, f.top, g.top);
      last = omega (arith, f.last, g.last);
      below = below-lower w.visible.names w1.visible.names w.visible.top w1.visible.top w2.visible.words.now w1.visible.words.now y.visible.names f.top g.below ∙ f.below;
      grows = grows-then f.grows g.grows;
      levels = λ d h. g.levels d h ∙ f.levels d h;
    }

-- a frame of a lower room is one of a higher
pub frame-more : {i j : ℕ} {w w1 : Walk} → i ≤ j → Frame i w w1 → Frame j w w1
frame-more h f = record { top = f.top; last = f.last; below = f.below; grows = f.grows; levels = λ d k. f.levels d (omega arith) }

-- a change that leaves the levels, what is visible and its places, and the last scope: `refl` five times
pub framed-same : {room : ℕ} {w w1 : Walk} → w1.visible ≡ w.visible → w1.rowless ≡ w.rowless → w1.last ≡ w.last → w1.left ≡ w.left → w1.later ≡ w.later → Frame room w w1
framed-same {w = w} {w1} p g q r l =
    record {
      top = omega (arith, ap (λ (v : Visible). v.top) p);
      last = omega (arith, q);
      below = ap (λ (v : Visible). seens w.visible.names w.visible.top v.words.now) p;
      grows = subst (λ (m : Rowless). Grows w.rowless m) (sym g) grows-idle;
      levels = λ d h. rw (r, l);
    }

pub framed-idle : {room : ℕ} {w : Walk} → Frame room w w
framed-idle = framed-same refl refl refl refl refl

-- ---- room
-- what fits after a change that leaves the places
pub refit : {e t u i k l : ℕ} {c : Context} {w w' : Walk} → Fits e t u c w → Still w w' → w'.rowless ≡ w.rowless → Below (places w.rowless) (entries w'.visible) → Sound w'.visible → Descends w'.cur (entries w'.visible) → w'.cur ≤ w'.last → w'.last + k ≤ w'.at →
    w'.log.said + w'.log.told + i ≤ w'.at + 1 → w'.rowless.listed + w'.visible.top + k ≤ w'.at + 1 → 3 * w'.rowless.count + l ≤ w'.at → w'.olds + i ≤ w'.at + 1 → w'.made + w'.taken + k * 16384 ≤ w'.at * 16384 → w'.at ≤ length (words_in c) → Fits i k l c w'
refit {c = c} {w} {w'} f y p q a b d l n s g o m z =
    let same : places w'.rowless ≡ places w.rowless = ap places p in
    record {
      listed = ap (λ (r : Rowless). r.listed) p ∙ f.listed;
      heads = y.visible.names ∙ f.heads ∙ sym (ap (λ (r : Rowless). r.listed + most r) p);
      numbered = subst Numbered (sym p) f.numbered;
      right = subst (Right (named_in c)) (sym p) f.right;
      below = subst (λ (n : ℕ). Below n (entries w'.visible)) (sym same) q;
      sound = a;
      descends = b;
      cur = d;
      last = l;
      count = n;
      stack = s;
      rowless = g;
      olds = o;
      needs = m;
      within = z;
      names = omega (arith, f.names, y.visible.size, ap most p);
      binders = omega (arith, f.binders, ap most p);
      room = omega (arith, f.room, y.log.size);
    }

-- fewer words that nothing was done for
pub lower : {e t u i k l : ℕ} {c : Context} {w : Walk} → i ≤ e → k ≤ t → l ≤ u → Fits e t u c w → Fits i k l c w
lower a b g f =
    refit f still-idle refl f.below f.sound f.descends f.cur (omega (arith, f.last)) (omega (arith, f.count)) (omega (arith, f.stack)) (omega (arith, f.rowless)) (omega (arith, f.olds)) (omega (arith, f.needs)) f.within

pub ready-less : {j k : ℕ} {c : Context} {w : Walk} → k ≤ j → Ready j c w → Ready k c w
ready-less h r = record { fine = r.fine; fit = lower h h h r.fit }

-- what was read and not paid for pays for one thing more
pub roomy-in : {e t u : ℕ} {c : Context} {w : Walk} → Fine c → Fits (suc e) t u c w → Roomy w.log
roomy-in h f =
    record {
      small = omega (arith, f.count, f.within, h.short);
      room = omega (arith, f.count, f.within, f.room);
    }

pub roomy : {j : ℕ} {c : Context} {w : Walk} → Ready (suc j) c w → Roomy w.log
roomy r = roomy-in r.fine r.fit

-- ---- steps
-- nothing is done, and for nothing
pub idle-step : {e t u : ℕ} {c : Context} {w : Walk} (F : (ℕ → ℕ) → Both → Both) → ((id : ℕ → ℕ) (s : Both) → Holds id c w s → Holds id c w (F id s)) → Costs e t u c w w F
idle-step F g =
    record {
      at = refl;
      still = still-idle;
      fit = λ i k l f. lower (omega arith) (omega arith) (omega arith) f;
      frame = framed-idle;
      goes = g;
    }

module _ {c : Context} {w w1 : Walk} {F : (ℕ → ℕ) → Both → Both} where
  pub then-steps : {e t u e' t' u' : ℕ} {w2 : Walk} {G : (ℕ → ℕ) → Both → Both} → Costs e t u c w w1 F → Costs e' t' u' c w1 w2 G → Costs (e + e') (t + t') (u + u') c w w2 (λ id s. G id (F id s))
  then-steps {e} {t} {u} {e'} {t'} {u'} x y =
      record {
        at = y.at ∙ x.at;
        still = still-then x.still y.still;
        fit = λ i k l f. y.fit i k l (x.fit (e' + i) (t' + k) (u' + l) (lower (omega arith) (omega arith) (omega arith) f));
        frame = framed x.still x.frame y.frame;
        goes = λ id s h. y.goes id (F id s) (x.goes id s h);
      }

  pub more-costs : {e t u e' t' u' : ℕ} → e ≤ e' → t ≤ t' → u ≤ u' → Costs e t u c w w1 F → Costs e' t' u' c w w1 F
  more-costs a b d x =
      record {
        at = x.at;
        still = x.still;
        fit = λ i k l f. x.fit i k l (lower (omega arith) (omega arith) (omega arith) f);
        frame = x.frame;
        goes = x.goes;
      }

  pub more-steps : {i j : ℕ} → i ≤ j → Steps i c w w1 F → Steps j c w w1 F
  more-steps h x = more-costs h h h x

  -- the same step put another way, where the walk holds the state, and everywhere
  pub instead : {e t u : ℕ} (G : (ℕ → ℕ) → Both → Both) → Costs e t u c w w1 F → ((id : ℕ → ℕ) (s : Both) → Holds id c w s → F id s ≡ G id s) → Costs e t u c w w1 G
  instead G x q =
      record {
        at = x.at;
        still = x.still;
        fit = x.fit;
        frame = x.frame;
        goes = λ id s h. rw (← (q id s h)) (x.goes id s h);
      }

  pub as-steps : {e t u : ℕ} (G : (ℕ → ℕ) → Both → Both) → Costs e t u c w w1 F → ((id : ℕ → ℕ) (s : Both) → F id s ≡ G id s) → Costs e t u c w w1 G
  as-steps G x q = instead G x (λ id s h. q id s)

-- ---- what is kept of a log
-- an event that no WITH carries or binds: `λ l. refl`
pub wanted : {b : Bool} (e : Event) → b ≡ true → ((l : List Event) → written_one e l ≡ e ∷ l) → (l : List Event) → kept b (e ∷ l) ≡ e ∷ kept b l
unfolding kept written
wanted e q z l = rw q (z (written l))

pub always : (b : Bool) (f : Finding) (l : List Event) → kept b (find f ∷ l) ≡ find f ∷ kept b l
unfolding kept written
always true f l = refl
always false f l = refl

-- an event that is no finding: `λ l. refl`
pub unwanted : {b : Bool} (e : Event) → b ≡ false → ((l : List Event) → kept_one e l ≡ l) → (l : List Event) → kept b (e ∷ l) ≡ kept b l
unfolding kept
unwanted e q z l = rw q (z (kept false l))

-- ---- what is counted
-- an event that neither binds nor carries
pub record Uncounted (e : Event) : Type 0 where
  pub made : (n : ℕ) → made_one e n ≡ n
  pub taken : (n : ℕ) → carried_one e n ≡ n

pub no-count : {e : Event} → ((n : ℕ) → made_one e n ≡ n) → ((n : ℕ) → carried_one e n ≡ n) → Uncounted e
no-count a b = record { made = a; taken = b }

pub find-uncounted : (f : Finding) → Uncounted (find f)
find-uncounted f = record { made = λ n. refl; taken = λ n. refl }

pub uncounted : {w : Walk} {e : Event} {l : List Event} → Uncounted e → Counted w l → Counted w (e ∷ l)
unfolding made carried_in
uncounted {l = l} u c = record { made = c.made ∙ sym (u.made (made l)); taken = c.taken ∙ sym (u.taken (carried_in l)) }

-- the counts go by two numbers of the walk
pub recounted : {w w' : Walk} {l : List Event} → w'.made ≡ w.made → w'.taken ≡ w.taken → Counted w l → Counted w' l
recounted p q c = record { made = p ∙ c.made; taken = q ∙ c.taken }

-- ---- what is said and told
-- a log that has the words of the other, and says or tells one thing more
logged-fits : {e t u i k l' : ℕ} {c : Context} {w : Walk} {l : Log} → Still w (logged w l) → l.said + l.told ≤ suc (w.log.said + w.log.told) → Fits (suc e) t u c w → i ≤ e → k ≤ t → l' ≤ u → Fits i k l' c (logged w l)
logged-fits y h f a b d =
    refit f y refl f.below f.sound f.descends f.cur (omega (arith, f.last)) (omega (arith, f.count)) (omega (arith, f.stack)) (omega (arith, f.rowless)) (omega (arith, f.olds)) (omega (arith, f.needs)) f.within

module _ {c : Context} {w : Walk} {l : Log} {event : List ℕ} (p : Says event w.log l) where
  pub says-costs : ((id : ℕ → ℕ) (r : List Event) → kept c.wants (event_by id event ∷ r) ≡ event_by id event ∷ kept c.wants r) → ((id : ℕ → ℕ) → Uncounted (event_by id event)) →
      Costs 1 0 0 c w (logged w l) (λ id. on_names (say (event_by id event)))
  says-costs z y =
      let still : Still w (logged w l) = record { visible = seen-idle; rowless = unmoved-idle; log = p.still } in
      record {
        at = refl;
        still = still;
        fit = λ i k n f. logged-fits {e = i} {t = k} {u = n} still (omega (arith, p.said, p.told)) (lower (omega arith) (omega arith) (omega arith) f) (omega arith) (omega arith) (omega arith);
        frame = framed-same refl refl refl refl refl;
        goes = λ id s h.
            record {
              visible = h.visible;
              cur = h.cur;
              last = h.last;
              log = p.events id ∙ ap (λ r. event_by id event ∷ r) h.log ∙ sym (z id s.names.log);
              kinds = p.findings ∙ h.kinds;
              olds = h.olds;
              counts = uncounted (y id) (recounted refl refl h.counts);
              uses = h.uses;
            };
      }

  pub says-step : ((id : ℕ → ℕ) (r : List Event) → kept c.wants (event_by id event ∷ r) ≡ event_by id event ∷ kept c.wants r) → ((id : ℕ → ℕ) → Uncounted (event_by id event)) →
      Steps 1 c w (logged w l) (λ id. on_names (say (event_by id event)))
  says-step z y = more-costs (omega arith) (omega arith) (omega arith) (says-costs z y)

-- what is not wanted is not said
pub unsaid-step : {j k l : ℕ} {c : Context} {w : Walk} (e : (ℕ → ℕ) → Event) → ((id : ℕ → ℕ) (l : List Event) → kept c.wants (e id ∷ l) ≡ kept c.wants l) → ((id : ℕ → ℕ) → Uncounted (e id)) → Costs j k l c w w (λ id. on_names (say (e id)))
unsaid-step e z y =
    idle-step _ (λ id s h. record { visible = h.visible; cur = h.cur; last = h.last; log = h.log ∙ sym (z id s.names.log); kinds = h.kinds; olds = h.olds; counts = uncounted (y id) h.counts; uses = h.uses })

module _ {c : Context} {w : Walk} {l : Log} {one : List ℕ} (p : Tells one w.log l) where
  pub tells-costs : Costs 1 0 0 c w (logged w l) (λ id. on_kinds (finding_by one ∷ []))
  unfolding told
  tells-costs =
      let still : Still w (logged w l) = record { visible = seen-idle; rowless = unmoved-idle; log = p.still } in
      record {
        at = refl;
        still = still;
        fit = λ i k n f. logged-fits {e = i} {t = k} {u = n} still (omega (arith, p.said, p.told)) (lower (omega arith) (omega arith) (omega arith) f) (omega arith) (omega arith) (omega arith);
        frame = framed-same refl refl refl refl refl;
        goes = λ id s h.
            record {
              visible = h.visible;
              cur = h.cur;
              last = h.last;
              log = p.events id ∙ h.log;
              kinds = p.findings ∙ ap (λ r. finding_by one ∷ r) h.kinds;
              olds = h.olds;
              counts = recounted refl refl h.counts;
              uses = h.uses;
            };
      }

  pub tells-step : Steps 1 c w (logged w l) (λ id. on_kinds (finding_by one ∷ []))
  tells-step = more-costs (omega arith) (omega arith) (omega arith) tells-costs

-- the same where a test holds: an event that is no finding, and that no WITH carries or binds, for which `λ id l. refl` says so twice
pub says_if : {c : Context} {w w' : Walk} {event : List ℕ} → SaysIf c.wants event w w' → ((id : ℕ → ℕ) (l : List Event) → kept_one (event_by id event) l ≡ l) →
    ((id : ℕ → ℕ) (l : List Event) → written_one (event_by id event) l ≡ event_by id event ∷ l) → ((id : ℕ → ℕ) → Uncounted (event_by id event)) →
    Costs 1 0 0 c w w' (λ id. on_names (say (event_by id event)))
says_if {c} {w} {w'} {event} p z o y = go c.wants refl
  where
    go : (t : Bool) → c.wants ≡ t → Costs 1 0 0 c w w' (λ id. on_names (say (event_by id event)))
    go true q = let s = p.yes q in rw s.same (says-costs s.log (λ id l. wanted (event_by id event) q (o id) l) y)
    go false q = rw (p.no q) (unsaid-step (λ id. event_by id event) (λ id l. unwanted (event_by id event) q (z id) l) y)

pub tells-if : {c : Context} {w w' : Walk} {t : Bool} {one : List ℕ} → TellsIf t one w w' → Costs 1 0 0 c w w' (λ id. on_kinds (cond t (finding_by one ∷ []) []))
unfolding told
tells-if {t = true} p = let s = p.yes refl in rw s.same (tells-costs s.log)
tells-if {t = false} p = rw (p.no refl) (idle-step _ (λ id s h. h))
