-- How far a walk has come: from w₀, where G is to be walked, to w, and K is left, which goes by the state at w₀ and the state now. `free` words
-- were read that nothing was done for yet: j before w₀, and those since (`Stage`, begun by `start`). What is left may be put another way
-- (`recast`, `fewer`); what was read moves on (`read`, `jump`), a step of the state (`did`) and a walk within (`go`; `went` for one of any
-- kind) too, and a step or a walk may begin there (`ready`). What was refused is G's refusal (`stop`, `halt`), and what a `?` answers then is
-- refused (`unread`, `fell`; `refused` for any refusal, `stopped` without a `?`). At the end stands G's answer (`comes`, `done`, `tail`, `close`). A loop is a walk of
-- which the `rounds` that are left are to be walked (`begun`, `unrolled`, `turn`, `fall`, `ran`, `over`).
use Rattle.std.specs.Prelude.{Option, None, Some, Result, Ok, Err}
use Rattle.std.specs.Result.{IsErr, IsErrAnd}
use Prim.Native.Nat.{ℕ, suc, ◌+◌, ◌-◌, ◌<◌, ◌≤◌}
use native.Mathlib.Omega.{arith}
use mathlib.Core.Path.{◌≡◌, refl, ap, ◌∙◌}
use mathlib.Core.List.{List}
use lib.ListN.{length, drop}
use Rattle.refusal.specs.Number.{number_of}
use Rattle.refusal.specs.declared.Refusal.{Refusal}
use Rattle.refusal.proofs.Handed.{handed}
use Rattle.heads.specs.Got.{Got, ok, no, bind}
use Rattle.heads.specs.Answer.{Ans}
use Rattle.heads.proofs.Chain.{Chain, step, last, run}
use Rattle.heads.specs.declared.Form.{Form}
use Rattle.fused.specs.Fused.{Both, Mode, Go, tail_of, rounds}
use Rattle.steps.specs.Memory.{words_in}
use Rattle.steps.specs.Hold.{Fit, Holds, Frame, Still, Costs, Ready, Closed}
use Rattle.steps.specs.declared.Walk.{Walk}
use Rattle.steps.specs.declared.context.Context.{Context}
use Rattle.steps.proofs.Heads.{closed-fits, closed-frame, closed-stays, closed-holds}
use Rattle.steps.proofs.Named.{unmoved-idle, grows-idle}
use Rattle.steps.proofs.Held.{lower, refit, seen-idle, log-idle, framed, framed-idle, frame-more, still-idle, still-then}
use Rattle.walk.specs.Goes.{Goer, Comes, Refuses, Walked, rest_in}

-- ---- at another word
abbrev pub placed : Walk → ℕ → Walk
placed w p = record w { at = p }

module _ {w : Walk} {p : ℕ} where
  pub placed-still : Still w (placed w p)
  placed-still = record { visible = seen-idle; rowless = unmoved-idle; log = log-idle }

  pub placed-fit : {c : Context} {free i : ℕ} → w.at ≤ p → p ≤ length (words_in c) → i + w.at ≤ free + p → Fit free c w → Fit i c (placed w p)
  placed-fit l e h f =
      refit f placed-still refl f.below f.sound f.descends f.cur (omega (arith, f.last)) (omega (arith, f.count)) (omega (arith, f.stack)) (omega (arith, f.rowless)) (omega (arith, f.olds)) (omega (arith, f.needs)) e

  pub placed-holds : {id : ℕ → ℕ} {c : Context} {s : Both} → Holds id c w s → Holds id c (placed w p) s
  placed-holds h =
      record {
        visible = h.visible;
        cur = h.cur;
        last = h.last;
        log = h.log;
        kinds = h.kinds;
        olds = h.olds;
        counts = record { made = h.counts.made; taken = h.counts.taken };
        uses = h.uses;
      }

  pub placed-frame : {room : ℕ} → Frame room w (placed w p)
  placed-frame = record { top = omega arith; last = omega arith; below = refl; grows = grows-idle; levels = λ d h. refl }

-- ---- what is kept: with `some room` what was visible and the levels above the room; a WITH keeps nothing (`none`)
abbrev KeepsAs : Option ℕ → (w w' : Walk) → Type 0
KeepsAs None w w' = Unit {0}
KeepsAs (Some room) w w' = Frame room w w'

pub record Keeps (keep : Option ℕ) (w w' : Walk) : Type 0 where
  pub kept : KeepsAs keep w w'

-- a frame of this room keeps it
abbrev pub Under : ℕ → Option ℕ → Type 0
Under i None = Unit {0}
Under i (Some room) = i ≤ room

keeps-idle : (k : Option ℕ) {w : Walk} → Keeps k w w
keeps-idle None = record { kept = tt }
keeps-idle (Some room) = record { kept = framed-idle }

keeps-both : (k : Option ℕ) {w w1 w2 : Walk} → Still w w1 → Keeps k w w1 → Keeps k w1 w2 → Keeps k w w2
keeps-both None z x y = record { kept = tt }
keeps-both (Some room) z x y = record { kept = framed z x.kept y.kept }

keeps_then : (k : Option ℕ) {i : ℕ} {w w1 w2 : Walk} → Under i k → Still w w1 → Keeps k w w1 → Frame i w1 w2 → Keeps k w w2
keeps_then None u z x f = record { kept = tt }
keeps_then (Some room) u z x f = record { kept = framed z x.kept (frame-more u f) }

under_none : (k : Option ℕ) → Under 0 k
under_none None = tt
under_none (Some room) = omega arith

-- ---- how far
abbrev pub Rest : Type 1
Rest = (ℕ → ℕ) → Both → Both → Chain Both

pub record On (id : ℕ → ℕ) (c : Context) (w : Walk) (K : Both → Chain Both) (g : Got Both) : Type 0 where
  pub state : Both
  pub holds : Holds id c w state
  pub same : g ≡ run (K state) (rest_in c w)

pub record Stage (keep : Option ℕ) (j : ℕ) (c : Context) (w₀ : Walk) (G : Goer) (free : ℕ) (w : Walk) (K : Rest) : Type 0 where
  pub from : w₀.at ≤ w.at
  pub still : Still w₀ w
  pub fit : (k : ℕ) → Fit (j + k) c w₀ → Fit (free + k) c w
  pub keeps : Keeps keep w₀ w
  pub on : (id : ℕ → ℕ) (s : Both) → Holds id c w₀ s → On id c w (K id s) (G id s (rest_in c w₀))

pub start : {keep : Option ℕ} {j : ℕ} {c : Context} {w : Walk} {G : Goer} (K : Rest) → Ready j c w → ((id : ℕ → ℕ) (s : Both) (r : List ℕ) → G id s r ≡ run (K id s s) r) → Stage keep j c w G j w K
start {keep} K h q =
    record {
      from = omega arith;
      still = still-idle;
      fit = λ k f. f;
      keeps = keeps-idle keep;
      on = λ id s k. record { state = s; holds = k; same = q id s _ };
    }

module _ {keep : Option ℕ} {j : ℕ} {c : Context} {w₀ : Walk} {G : Goer} {free : ℕ} {w : Walk} where
  -- a step or a walk may begin where the last one came to
  pub ready : {K : Rest} {i : ℕ} → i ≤ free → Ready j c w₀ → Stage keep j c w₀ G free w K → Ready i c w
  ready l h o = record { fine = h.fine; fit = lower (omega arith) (omega arith) (omega arith) (o.fit 0 (lower (omega arith) (omega arith) (omega arith) h.fit)) }

  -- what is left, put another way
  pub recast : {K : Rest} (L : Rest) → Stage keep j c w₀ G free w K → ((id : ℕ → ℕ) (s t : Both) (r : List ℕ) → run (K id s t) r ≡ run (L id s t) r) → Stage keep j c w₀ G free w L
  recast L o q =
      record {
        from = o.from;
        still = o.still;
        fit = o.fit;
        keeps = o.keeps;
        on = λ id s h. let n = o.on id s h in record { state = n.state; holds = n.holds; same = n.same ∙ q id s n.state _ };
      }

  -- at another word, where what is left comes to the same
  pub jump : {K : Rest} (L : Rest) (i q : ℕ) → Stage keep j c w₀ G free w K → w.at ≤ q → q ≤ length (words_in c) → i + w.at ≤ free + q → ((id : ℕ → ℕ) (s t : Both) → run (K id s t) (rest_in c w) ≡ run (L id s t) (drop q (words_in c))) → Stage keep j c w₀ G i (placed w q) L
  jump L i q o l e h z =
      record {
        from = omega (arith, o.from);
        still = still-then o.still placed-still;
        fit = λ k f. placed-fit l e (omega arith) (o.fit k f);
        keeps = keeps_then keep (under_none keep) o.still o.keeps placed-frame;
        on = λ id s k. let n = o.on id s k in record { state = n.state; holds = placed-holds n.holds; same = n.same ∙ z id s n.state };
      }

  -- with fewer words that nothing was done for
  pub fewer : {K : Rest} (i : ℕ) → i ≤ free → Stage keep j c w₀ G free w K → Stage keep j c w₀ G i w K
  fewer i h o =
      record {
        from = o.from;
        still = o.still;
        fit = λ k f. lower (omega arith) (omega arith) (omega arith) (o.fit k f);
        keeps = o.keeps;
        on = o.on;
      }

  module _ {B : Type 0} {R : List ℕ → Got B} {K : (ℕ → ℕ) → B → Both → Both → Chain Both} (o : Stage keep j c w₀ G free w (λ id s t. step R (λ x. K id x s t))) where
    -- what was read, with i words that nothing was done for
    pub read : (i : ℕ) {x : B} {q : ℕ} → Ans (words_in c) w.at (R (rest_in c w)) (ok x (drop q (words_in c))) q → i + w.at ≤ free + q → Stage keep j c w₀ G i (placed w q) (λ id. K id x)
    read i {x} {q} a h = jump (λ id. K id x) i q o a.from a.within h (λ id s t. rw a.same)

    pub stop : {e : Refusal} {k : ℕ} → Ans (words_in c) w.at (R (rest_in c w)) (no (number_of e)) k → Refuses c w₀ G e
    stop a = record { same = λ id s h. rw ((o.on id s h).same, a.same) }

  -- a step for which e, t and u words pay, after which i are left
  pub did : {F : (ℕ → ℕ) → Both → Both} {e t u : ℕ} {w' : Walk} (K : Rest) (i : ℕ) → e + i ≤ free → t + i ≤ free → u + i ≤ free → Stage keep j c w₀ G free w (λ id s x. K id s (F id x)) → Costs e t u c w w' F → Stage keep j c w₀ G i w' K
  did {F} {e} {t} {u} K i a b d o x =
      let p = x.at in
      record {
        from = omega (arith, o.from, p);
        still = still-then o.still x.still;
        fit = λ k f. x.fit (i + k) (i + k) (i + k) (lower (omega arith) (omega arith) (omega arith) (o.fit k f));
        keeps = keeps_then keep (under_none keep) o.still o.keeps x.frame;
        on = λ id s h. let n = o.on id s h in record { state = F id n.state; holds = x.goes id n.state n.holds; same = rw p n.same };
      }

-- ---- walks within: one went on, paid for by j words before it and those that it read
pub record Went (keep : Option ℕ) (j : ℕ) (c : Context) (w w' : Walk) (H : Goer) : Type 0 where
  pub from : w.at ≤ w'.at
  pub still : Still w w'
  pub fit : (k : ℕ) → Fit (j + k) c w → Fit k c w'
  pub keeps : Keeps keep w w'
  pub goes : (id : ℕ → ℕ) (s : Both) → Holds id c w s → Comes id c w' (H id s (rest_in c w))

pub went : {keep : Option ℕ} {j : ℕ} {c : Context} {w₀ : Walk} {G : Goer} {free : ℕ} {w : Walk} {i : ℕ} {H : Goer} {w' : Walk} {K : Rest} (l : ℕ) → i + l ≤ free →
    Stage keep j c w₀ G free w (λ id s t. step (H id t) (K id s)) → Went keep i c w w' H → Stage keep j c w₀ G l w' K
went {keep} l b o x =
    record {
      from = omega (arith, o.from, x.from);
      still = still-then o.still x.still;
      fit = λ k f. x.fit (l + k) (lower (omega arith) (omega arith) (omega arith) (o.fit k f));
      keeps = keeps-both keep o.still o.keeps x.keeps;
      on = λ id s h. let n = o.on id s h in let y = x.goes id n.state n.holds in
          record { state = y.state; holds = y.holds; same = rw (n.same, y.same) };
    }

-- a walk of this crate went on, where it keeps as much
pub walked_on : {keep : Option ℕ} {c : Context} {w w' : Walk} {i : ℕ} {H : Goer} {u : Unit {0}} → Under i keep → Walked i c w w' H (Ok u) → Went keep 0 c w w' H
walked_on {keep} l x =
    let y = x.goes in
    record {
      from = y.from;
      still = x.still;
      fit = λ k f. y.fit k (lower (omega arith) (omega arith) (omega arith) f);
      keeps = keeps_then keep l still-idle (keeps-idle keep) y.frame;
      goes = y.goes;
    }

module _ {keep : Option ℕ} {j : ℕ} {c : Context} {w₀ : Walk} {G : Goer} {free : ℕ} {w : Walk} {i : ℕ} {H : Goer} {w' : Walk} {K : Rest} (o : Stage keep j c w₀ G free w (λ id s t. step (H id t) (K id s))) where
  pub go : {u : Unit {0}} → Walked i c w w' H (Ok u) → Under i keep → Stage keep j c w₀ G free w' K
  go x l = went free (omega arith) o (walked_on l x)

  pub halt : {e : Refusal} → Walked i c w w' H (Err e) → Refuses c w₀ G e
  halt x = record { same = λ id s h. let n = o.on id s h in rw (n.same, x.goes.same id n.state n.holds) }

-- ---- the end
pub comes : {keep : Option ℕ} {j : ℕ} {c : Context} {w₀ : Walk} {G : Goer} {free : ℕ} {w : Walk} → Stage keep j c w₀ G free w (λ id s t. last (ok t)) → (id : ℕ → ℕ) (s : Both) → Holds id c w₀ s → Comes id c w (G id s (rest_in c w₀))
comes o id s h = let n = o.on id s h in record { state = n.state; holds = n.holds; same = n.same }

-- of a walk that keeps what was visible
module _ {room : ℕ} {c : Context} {w₀ : Walk} {G : Goer} {free : ℕ} {w : Walk} where
  -- refused at w
  pub stopped : {K : Rest} {e : Refusal} → Stage (Some room) 0 c w₀ G free w K → Refuses c w₀ G e → Walked room c w₀ w G (Err e)
  stopped o g = record { still = o.still; goes = g }

  -- what a `?` at w answers
  pub refused : {K : Rest} {e : Refusal} (r : Result (Unit {0}) Refusal) → Stage (Some room) 0 c w₀ G free w K → Refuses c w₀ G e → IsErr r × IsErrAnd r (λ y. y ≡ e) → Walked room c w₀ w G r
  refused r o g q = rw (handed _ r q) (stopped o g)

  pub done : {u : Unit {0}} → Stage (Some room) 0 c w₀ G free w (λ id s t. last (ok t)) → Walked room c w₀ w G (Ok u)
  done o =
      record {
        still = o.still;
        goes = record {
          from = o.from;
          fit = λ k f. lower (omega arith) (omega arith) (omega arith) (o.fit k (lower (omega arith) (omega arith) (omega arith) f));
          frame = o.keeps.kept;
          goes = comes o;
        };
      }

  -- a reader's `?`
  pub unread : {B : Type 0} {R : List ℕ → Got B} {K : (ℕ → ℕ) → B → Both → Both → Chain Both} (e : Refusal) {k : ℕ} (r : Result (Unit {0}) Refusal) → Stage (Some room) 0 c w₀ G free w (λ id s t. step R (λ x. K id x s t)) → Ans (words_in c) w.at (R (rest_in c w)) (no (number_of e)) k → IsErr r × IsErrAnd r (λ y. y ≡ e) → Walked room c w₀ w G r
  unread e r o a q = refused r o (stop o a) q

bind_ok : (g : Got Both) → g ≡ bind g (λ u r. ok u r)
bind_ok (ok u r) = refl
bind_ok (no e) = refl

module _ {room : ℕ} {c : Context} {w₀ : Walk} {G : Goer} {free : ℕ} {w : Walk} {i : ℕ} {H : Goer} {w' : Walk} where
  -- a walk's `?`
  pub fell : {K : Rest} {e : Refusal} (r : Result (Unit {0}) Refusal) → Stage (Some room) 0 c w₀ G free w (λ id s t. step (H id t) (K id s)) → Walked i c w w' H (Err e) → IsErr r × IsErrAnd r (λ y. y ≡ e) → Walked room c w₀ w' G r
  fell r o x q = rw (handed _ r q) (record { still = still-then o.still x.still; goes = halt o x })

  -- the walk within is the last one
  pub tail : (r : Result (Unit {0}) Refusal) → i ≤ room → Stage (Some room) 0 c w₀ G free w (λ id s t. last (H id t)) → Walked i c w w' H r → Walked room c w₀ w' G r
  tail (Ok u) l o x = done (go (recast (λ id s t. step (H id t) (λ u. last (ok u))) o (λ id s t r. bind_ok (H id t r))) x l)
  tail (Err e) l o x = record { still = still-then o.still x.still; goes = halt (recast (λ id s t. step (H id t) (λ u. last (ok u))) o (λ id s t r. bind_ok (H id t r))) x }

-- ---- out of the scope that a head opened at w₀
pub close : {room : ℕ} {c : Context} {w₀ : Walk} {G : Goer} {free : ℕ} {w w' : Walk} {u : Unit {0}} (mode : Mode) (f : Form) → Ready 0 c w₀ → Stage (Some room) 0 c w₀ G free w (λ id s t. last (ok (tail_of mode f s t))) → Closed w w' w₀.visible.top w₀.cur mode f → Walked room c w₀ w' G (Ok u)
close mode f h o l =
    let r = o.keeps.kept in
    let g = (ready {i = 0} (omega arith) h o).fit in
    let z = closed-stays mode f h.fit g o.still r l in
    record {
      still = still-then o.still z.still;
      goes = record {
        from = omega (arith, o.from, z.at);
        fit = λ k y. closed-fits mode f y (lower (omega arith) (omega arith) (omega arith) (o.fit k (lower (omega arith) (omega arith) (omega arith) y))) o.still r l;
        frame = closed-frame mode f h.fit g o.still r l;
        goes = λ id s k. let n = o.on id s k in
            record { state = tail_of mode f s n.state; holds = closed-holds mode f h.fit g o.still r l k n.holds; same = rw z.at n.same };
      };
    }

-- ---- loops: of n rounds, k were walked
pub record Turning (keep : Option ℕ) (c : Context) (w₀ : Walk) (n : ℕ) (one : Goer) (w : Walk) (k : ℕ) : Type 0 where
  pub stage : Stage keep 0 c w₀ (λ id. rounds n (one id)) 0 w (λ id s t. last (rounds (n - k) (one id) t))

pub begun : {keep : Option ℕ} {c : Context} {w : Walk} (n : ℕ) (one : Goer) → Ready 0 c w → Turning keep c w n one w 0
begun n one h =
    let z : n ≡ n - 0 = omega arith in
    record { stage = start (λ id s t. last (rounds (n - 0) (one id) t)) h (λ id s r. ap (λ (k : ℕ). rounds k (one id) s r) z) }

ahead : (n k : ℕ) (one : Go) (t : Both) (r : List ℕ) → k < n → rounds (n - k) one t r ≡ run (step (one t) (λ u. last (rounds (n - (k + 1)) one u))) r
unfolding rounds
ahead n k one t r h =
    let l : n - k ≡ suc (n - (k + 1)) = omega arith in
    ap (λ (k : ℕ). rounds k one t r) l

module _ {keep : Option ℕ} {c : Context} {w₀ : Walk} {n : ℕ} {one : Goer} {w : Walk} {k : ℕ} (o : Turning keep c w₀ n one w k) where
  -- one more is to be walked
  pub unrolled : k < n → Stage keep 0 c w₀ (λ id. rounds n (one id)) 0 w (λ id s t. step (one id t) (λ u. last (rounds (n - (k + 1)) (one id) u)))
  unrolled h = recast _ o.stage (λ id s t r. ahead n k (one id) t r h)

  pub turn : {w' : Walk} {i : ℕ} {u : Unit {0}} → Under i keep → k < n → Walked i c w w' one (Ok u) → Turning keep c w₀ n one w' (k + 1)
  turn l h x = record { stage = go (unrolled h) x l }

  -- none is left
  pub ran : n ≤ k → Stage keep 0 c w₀ (λ id. rounds n (one id)) 0 w (λ id s t. last (ok t))
  unfolding rounds
  ran h =
      let z : n - k ≡ 0 = omega arith in
      recast (λ id s t. last (ok t)) o.stage (λ id s t r. ap (λ (k : ℕ). rounds k (one id) t r) z)

module _ {room : ℕ} {c : Context} {w₀ : Walk} {n : ℕ} {one : Goer} {w : Walk} {k : ℕ} (o : Turning (Some room) c w₀ n one w k) where
  pub fall : {w' : Walk} {i : ℕ} {e : Refusal} (r : Result (Unit {0}) Refusal) → k < n → Walked i c w w' one (Err e) → IsErr r × IsErrAnd r (λ y. y ≡ e) → Walked room c w₀ w' (λ id. rounds n (one id)) r
  fall r h x q = fell r (unrolled o h) x q

  pub over : {u : Unit {0}} → n ≤ k → Walked room c w₀ w (λ id. rounds n (one id)) (Ok u)
  over h = done (ran o h)
