-- Where the uses of names stand (`used`): the walk is cut at a use (`Reached`). There the log shows what is visible (Walked), and its records are
-- those of the earlier uses (Uses).
use Prim.Native.Nat.{ℕ}
use mathlib.Core.Path.{◌≡◌, refl, sym, ◌∙◌, ap, subst}
use mathlib.Core.Bool.{Bool}
use mathlib.Core.List.{List, [], ◌∷◌, ◌++◌, map, reverse, reverse_aux, reverse-cons, append-nil, append_assoc}
use native.Mathlib.Omega.{arith}
use Rattle.expr.proofs.Inverse.{never}
use Rattle.sheet.specs.Statement.{Statement}
use Rattle.semantics.specs.Log.{Event, find}
use Rattle.semantics.specs.World.{world_of}
use Rattle.semantics.specs.Resolve.{Seen, log}
use Rattle.theorems.specs.Uses.{Use, by_name, e1001, record_of, uses}
use Rattle.theorems.specs.Agree
use Rattle.theorems.proofs.Shows.{named, count}
use Rattle.theorems.proofs.Walked.{W, all, use_says, Stood, of_name, Walked, none', says, meets, walked}
use Rattle.theorems.proofs.Uses.{onto, answered}

module _ (warns : Bool) (st : Statement) where
  -- The log l goes on to m.
  record Goes (l m : List Event) : Type 0 where
    pub rest : List Event
    pub same : reverse m ≡ reverse l ++ rest

  goes : {l m : List Event} {us : List Use} → Walked warns st l us m → Goes l m
  goes none' = record { rest = []; same = sym (append-nil _) }
  goes (says {e = e} {l = l} h k) = let g = goes k in record { rest = e ∷ g.rest; same = g.same ∙ ap (λ z. z ++ g.rest) (reverse-cons e l) ∙ append_assoc (reverse l) (e ∷ []) g.rest }
  goes (meets {u = u} {l = l} h k) = let g = goes k in record { rest = use_says warns st u ++ g.rest; same = g.same ∙ ap (λ z. z ++ g.rest) (onto (use_says warns st u) l) ∙ append_assoc (reverse l) (use_says warns st u) g.rest }

  -- Between l and m the use u, after the uses us.
  record Reached (us : List Use) (u : Use) (l m : List Event) : Type 0 where
    pub place : List Event
    pub walk : Walked warns st l us place
    pub stood : Stood warns st u place
    pub goes_on : Goes (reverse_aux (use_says warns st u) place) m

  reached : (earlier later : List Use) (u : Use) {l m : List Event} {us : List Use} → Walked warns st l us m → us ≡ earlier ++ u ∷ later → Reached earlier u l m
  reached [] later u none' q = never cc
  reached (v ∷ earlier) later u none' q = never cc
  reached earlier later u (says h k) q = let t = reached earlier later u k q in record { place = t.place; walk = says h t.walk; stood = t.stood; goes_on = t.goes_on }
  reached [] later u {m = m} (meets {u = v} {l = l} h k) q =
      subst (λ z. Reached [] z l m) (cc) (record { place = l; walk = none'; stood = h; goes_on = goes k })
  reached (x ∷ earlier) later u {m = m} (meets {u = v} {l = l} h k) q =
      let t = reached earlier later u k cc in
      subst (λ z. Reached (z ∷ earlier) u l m) (cc) (record { place = t.place; walk = meets h t.walk; stood = t.stood; goes_on = t.goes_on })

  stands : {earlier : List Use} {x p : ℕ} {visible : List Seen} {l : List Event} → Stood warns st (by_name x p visible) l → Walked warns st [] earlier l
      → Goes (reverse_aux (use_says warns st (by_name x p visible)) l) (all warns st) → Agree.Used warns st earlier x p visible
  unfolding log record_of world_of
  stands (of_name {x = x} v s h) k g = record {
    l = reverse s.log;
    m = map find (e1001 (W warns st) (by_name x s.cur s.visible)) ++ g.rest;
    says = g.same ∙ ap (λ z. z ++ g.rest) (onto (use_says warns st (by_name x s.cur s.visible)) s.log) ∙ append_assoc (reverse s.log) _ g.rest;
    records = answered warns st k;
    reach = h.reach;
    beyond = v.beyond;
    splits = h.splits;
    hidden = v.hidden;
    lower = omega (arith, count h.fine, h.low);
    around = λ y. h.gives y (unfold named in refl);
  }

  -- Each use of a name.
  pub used : (earlier later : List Use) (x p : ℕ) (visible : List Seen) → uses warns st ≡ earlier ++ by_name x p visible ∷ later → Agree.Used warns st earlier x p visible
  used earlier later x p visible q = let t = reached earlier later (by_name x p visible) (walked warns st) q in stands t.stood t.walk t.goes_on
