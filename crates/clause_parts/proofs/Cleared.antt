-- Of the visible names the first `top` stay (`cut_still`, `cut_fits`, `cut_holds`; they descend as all of them did: `below-descends`, and
-- their places are in use: `below-lower`), or none (`cleared-fits`, `cleared`: an arm, a WITH); what the walk holds where others are visible is
-- `standing-holds`; a step in a mode that resolves names is one of names alone (`names-step`).
use Rattle.std.specs.Prelude.{None}
use Prim.Native.Nat.{ℕ, zero, suc, ◌+◌, ◌-◌, ◌≤◌}
use native.Mathlib.Omega.{arith}
use mathlib.Core.Path.{◌≡◌, refl, ap, subst, sym}
use mathlib.Core.Bool.{Bool, true, false}
use mathlib.Core.List.{List, []}
use Rattle.semantics.specs.Resolve.{Seen, State, standing}
use Rattle.fused.specs.Fused.{Both, Mode, step, told}
use Rattle.visible.specs.Visible.{seens, Descends}
use Rattle.visible.specs.Stack.{entries, Cut}
use Rattle.visible.specs.declared.Visible.{Visible}
use Rattle.visible.proofs.Names.{descends-above}
use Rattle.rowless.specs.Rowless.{places}
use Rattle.steps.specs.Named.{as_named, Below}
use Rattle.steps.specs.Hold.{Fits, Holds, Still, Left, on_names}
use Rattle.steps.specs.declared.Walk.{Walk}
use Rattle.steps.specs.declared.context.Context.{Context}
use Rattle.steps.proofs.Named.{unmoved-idle, below-less}
use Rattle.steps.proofs.Held.{refit, recounted, log-idle, still-then}
use Rattle.walk.specs.Goes.{Goer}
use Rattle.walk.proofs.Stage.{Rest, Stage}

-- ---- the lower part of a list that descends
lower-descends : (n t d u c : ℕ) (m : List ℕ) → u ≡ d + t → Descends c (seens n u m) → Descends c (seens n t m)
unfolding seens Descends
lower-descends n t zero u c m e h =
    let z : u ≡ t = omega arith in
    rw z at h
lower-descends n t (suc d) zero c m e h = absurd (omega arith)
lower-descends n t (suc d) (suc u) c m e h = lower-descends n t d u c m (omega arith) (descends-above c _ (seens n u m) h.0 h.1)

pub below-descends : (n t u c : ℕ) (m : List ℕ) → t ≤ u → Descends c (seens n u m) → Descends c (seens n t m)
below-descends n t u c m h d = lower-descends n t (u - t) u c m (omega arith) d

-- and of one whose places are below n
pub below-lower : (n k t u : ℕ) (m : List ℕ) → t ≤ u → Below n (seens k u m) → Below n (seens k t m)
below-lower n k t u m h b =
    let z : u ≡ u - t + t = omega arith in
    below-less n k (u - t) t m (rw z at b)

-- ---- where other names are visible, in another scope
pub standing-holds : {id : ℕ → ℕ} {c : Context} {w : Walk} {v : Visible} {cur : ℕ} {l : List Seen} {s : Both} → as_named w.rowless (entries v) ≡ l → Holds id c w s → Holds id c (record w { visible = v; cur = cur }) (on_names (standing l cur) s)
standing-holds e h =
    record {
      visible = e;
      cur = refl;
      last = h.last;
      log = h.log;
      kinds = h.kinds;
      olds = h.olds;
      counts = recounted refl refl h.counts;
      uses = h.uses;
    }

-- ---- the first names stay visible
module _ {w : Walk} {v : Visible} {top cur : ℕ} (p : Cut top w.visible v) where
  kept_still : Still w (record w { visible = v; cur = cur })
  kept_still = record { visible = p.still; rowless = unmoved-idle; log = log-idle }

  kept_fits : {c : Context} {i k l : ℕ} → Fits i k l c w → top ≤ w.visible.top → Descends cur (seens w.visible.names top w.visible.words.now) → cur ≤ w.last → Fits i k l c (record w { visible = v; cur = cur })
  kept_fits f h d l =
      refit f kept_still refl (subst (λ s. Below (places w.rowless) s) (sym p.same) (below-lower (places w.rowless) w.visible.names top w.visible.top w.visible.words.now h f.below)) p.sound (subst (λ s. Descends cur s) (sym p.same) d) l f.last f.count (omega (arith, f.stack, p.back)) f.rowless f.olds f.needs f.within

  kept_holds : {id : ℕ → ℕ} {c : Context} {s : Both} → Holds id c w s → Holds id c (record w { visible = v; cur = cur }) (on_names (standing (as_named w.rowless (seens w.visible.names top w.visible.words.now)) cur) s)
  kept_holds h = standing-holds (ap (λ l. as_named w.rowless l) p.same) h

module _ {w w' : Walk} {top cur : ℕ} (p : Left w w' top cur) where
  pub cut_still : Still w w'
  cut_still = rw p.same (kept_still p.visible)

  -- any number of words may be left of the stack's room
  pub cut_fits : {c : Context} {i k l : ℕ} → Fits i k l c w → top ≤ w.visible.top → Descends cur (seens w.visible.names top w.visible.words.now) → cur ≤ w.last → Fits i k l c w'
  cut_fits f h d l = rw p.same (kept_fits p.visible f h d l)

  pub cut_holds : {id : ℕ → ℕ} {c : Context} {s : Both} → Holds id c w s → Holds id c w' (on_names (standing (as_named w.rowless (seens w.visible.names top w.visible.words.now)) cur) s)
  cut_holds h = rw p.same (kept_holds p.visible h)

  pub cut_at : w'.at ≡ w.at
  cut_at = ap (λ (x : Walk). x.at) p.same

-- ---- with nothing visible
pub cleared-fits : {c : Context} {w w' : Walk} {i k l cur : ℕ} → Fits i k l c w → Left w w' 0 cur → cur ≤ w.last → Fits i k l c w'
unfolding seens Descends
cleared-fits f p l = cut_fits p f (omega arith) tt l

pub cleared : {j : ℕ} {c : Context} {w₀ : Walk} {G : Goer} {free : ℕ} {w w' : Walk} (K : Rest) → Left w w' 0 0 → Stage None j c w₀ G free w (λ id s t. K id s (on_names (standing [] 0) t)) → Stage None j c w₀ G free w' K
unfolding seens as_named
cleared K p o =
    record {
      from = omega (arith, o.from, cut_at p);
      still = still-then o.still (cut_still p);
      fit = λ k f. cleared-fits (o.fit k f) p (omega arith);
      keeps = record { kept = tt };
      on = λ id s h. let n = o.on id s h in record { state = on_names (standing [] 0) n.state; holds = cut_holds p n.holds; same = rw (cut_at p) n.same };
    }

-- a step of names, where names are resolved
pub names-step : (m : Mode) (f : State → State) (s : Both) → m.resolves ≡ true → step m f [] s ≡ on_names f s
unfolding told
names-step m f s q = go m.resolves m.checks q
  where
    go : (b c : Bool) → b ≡ true → step (record { resolves = b; checks = c }) f [] s ≡ on_names f s
    go true true q = refl
    go true false q = refl
    go false c q = cc q
