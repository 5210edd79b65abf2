-- A row of expressions with what is left at each level: `climb` walks the k rows that wait above the level d. The loop of `walk_row` keeps
-- `Rowing`: begun (`row-begin`), ended (`row_done`), back to the row that waits (`row-pop`), an expression walked (`row_one`) or refused
-- (`row-fall`). A plain head is read (`Heading`), and does nothing (`head-calm`) or its act (`head-acted`; what it asks is `act-asks`); without
-- parts the row goes on (`row-leaf`), else it waits a level higher while the parts are walked (`row-down`).
-- The loop of `walk_many` keeps `Counting` (`count-begin`, `count-one`, `count-fall`, `count-done`).
use Rattle.std.specs.Prelude.{Some, Result, Ok, Err}
use Rattle.std.specs.Result.{IsErr, IsErrAnd}
use Prim.Native.Nat.{ℕ, zero, suc, ◌+◌, ◌-◌, ◌/◌, ◌%◌, ◌^◌, ◌<◌, ◌≤◌}
use native.Mathlib.Omega.{arith}
use native.Mathlib.Numerals.{add-one}
use mathlib.Core.Path.{◌≡◌, refl, ap, sym, ◌∙◌}
use mathlib.Core.Bool.{false}
use mathlib.Core.List.{List}
use lib.Dec.{eqb}
use lib.ListN.{length, get_or, set, drop}
use lib.Seq.{get_or-set_same, get_or-set_other}
use Rattle.refusal.specs.declared.Refusal.{Refusal}
use Rattle.heads.specs.Got.{Got, ok, no, bind}
use Rattle.heads.proofs.Chain.{Chain, step, last}
use Rattle.heads.proofs.Shapes.{bind-each, bind-bind}
use Rattle.clauses.specs.Read.{max_depth}
use Rattle.semantics.specs.Kinds.{both, settings}
use Rattle.semantics.specs.Kinds as kinds
use Rattle.fused.specs.Fused.{Both, Go, row_go, expr_go}
use Rattle.steps.specs.Modes.{mode_of, setting_of, pair_of}
use Rattle.steps.specs.Memory.{words_in, names_in, world_at}
use Rattle.steps.specs.Hold.{Still, Steps, Ready, Level, cost_of, level_of}
use Rattle.steps.specs.declared.Walk.{Walk}
use Rattle.steps.specs.declared.context.Context.{Context}
use Rattle.steps.specs.declared.mode.Mode.{Mode}
use Rattle.steps.specs.declared.mode.Setting.{Setting}
use Rattle.steps.specs.declared.mode.Setting.TheVariants.{General}
use Rattle.steps.specs.declared.mode.Settings.{Settings}
use Rattle.steps.proofs.Named.{unmoved-idle, grows-idle}
use Rattle.steps.proofs.Held.{refit, seen-idle, log-idle, still-then, framed}
use Rattle.walk.specs.Goes.{Goer, Walked, expr_at, row_at}
use Rattle.walk.specs.Plain.{shape, limit, headed, parts_of, number_of, Plain, Plainly}
use Rattle.walk.proofs.Acts.{Does}
use Rattle.walk.proofs.Plains.{law, plain-some, plain-expr, plain-calm}
use Rattle.walk.proofs.Stage.{Rest, Stage, placed, start, ready, recast, jump, fewer, did, go, fell, done}

-- ---- rows that wait
-- n in a later setting
abbrev pub later_row : (kinds.Setting → Go) → ℕ → Setting → Go
later_row E n later = row_go E n (both (setting_of later) (setting_of later))

unfoldable pub climb : (ℕ → kinds.Setting → Go) → (ℕ → Level) → ℕ → ℕ → Go
climb E level d zero s r = ok s r
climb E level d (suc k) s r = bind (later_row (E (suc d)) (level (suc d)).left (level (suc d)).later s r) (λ t r2. climb E level (suc d) k t r2)

-- what waits above d goes by the levels above d
climb-same : (E : ℕ → kinds.Setting → Go) (l m : ℕ → Level) (d k : ℕ) (s : Both) (r : List ℕ) → ((i : ℕ) → d < i → l i ≡ m i) → climb E l d k s r ≡ climb E m d k s r
unfolding climb
climb-same E l m d zero s r h = refl
climb-same E l m d (suc k) s r h =
    rw (h (suc d) (omega arith))
    (bind-each (later_row (E (suc d)) (m (suc d)).left (m (suc d)).later s r) _ _ (λ t r2. climb-same E l m (suc d) k t r2 (λ i j. h i (omega arith))))

-- one row more waits
climb-more : (E : ℕ → kinds.Setting → Go) (l m : ℕ → Level) (d k more : ℕ) (x : Level) (s : Both) (r : List ℕ) → more ≡ suc k → 0 < d → m d ≡ x → ((i : ℕ) → d < i → l i ≡ m i) →
    bind (later_row (E d) x.left x.later s r) (λ t r2. climb E l d k t r2) ≡ climb E m (d - 1) more s r
unfolding climb
climb-more E l m d k more x s r z g e h =
    let one : suc (d - 1) ≡ d = omega arith in
    rw (z, one, e) (bind-each (later_row (E d) x.left x.later s r) _ _ (λ t r2. climb-same E l m d k t r2 h))

bind_ok : (g : Got Both) → bind g (λ u r. ok u r) ≡ g
bind_ok (ok u r) = refl
bind_ok (no e) = refl

-- where some are left, the next one decides
ahead : (E : kinds.Setting → Go) (left : ℕ) (c e : kinds.Setting) (s : Both) (r : List ℕ) (F : Both → List ℕ → Got Both) → 0 < left → bind (row_go E left (both c e) s r) F ≡ bind (E c s r) (λ u r2. bind (row_go E (left - 1) (both e e) u r2) F)
unfolding row_go
ahead E left c e s r F h =
    let l : left ≡ suc (left - 1) = omega arith in
    ap (λ (k : ℕ). bind (row_go E k (both c e) s r) F) l ∙ bind-bind (E c s r) _ F

-- ---- where the loop stands: left expressions at the level d, and those that wait above it
abbrev pub within : Context → Mode → (ℕ → ℕ) → ℕ → kinds.Setting → Go
within c mode id d = expr_go (world_at c id) (names_in c) d (mode_of mode)

abbrev pub waits : Context → (room : ℕ) → Mode → (level : ℕ → Level) → (d : ℕ) → (ℕ → ℕ) → Both → Chain Both
waits c room mode level d id u = last (climb (within c mode id) level d (room - d) u)

-- what is left after a plain head with the shape t: its parts, the row, and what waits
abbrev pub after_head : Context → (room : ℕ) → Mode → (left : ℕ) → (now later : Setting) → (d t code a : ℕ) → (level : ℕ → Level) → Rest
after_head c room mode left now later d t code a level id s u =
    step (row_go (within c mode id (d - 1)) (parts_of t a) (settings (world_at c id).is_id (headed code a) (setting_of now)) u)
    (λ x. step (later_row (within c mode id d) (left - 1) later x) (waits c room mode level d id))

pub record Rowing (c : Context) (w₀ : Walk) (room : ℕ) (mode : Mode) (n : ℕ) (settings : Settings) (w : Walk) (left : ℕ) (now later : Setting) (d : ℕ) : Type 0 where
  pub le : d ≤ room
  pub low : room ≤ max_depth
  pub count : left < 4294967296
  pub stage : Stage (Some room) 0 c w₀ (row_at c room (mode_of mode) n (pair_of settings)) 0 w
      (λ id s t. step (row_go (within c mode id d) left (both (setting_of now) (setting_of later)) t) (waits c room mode (level_of w) d id))

-- a plain head was read, and did what it does
pub record Heading (c : Context) (w₀ : Walk) (room : ℕ) (mode : Mode) (n : ℕ) (settings : Settings) (w : Walk) (left : ℕ) (now later : Setting) (d t code a : ℕ) : Type 0 where
  pub le : d ≤ room
  pub low : room ≤ max_depth
  pub count : left < 4294967296
  pub more : 0 < left
  pub deep : 0 < d
  pub few : parts_of t a ≤ 524287
  pub stage : Stage (Some room) 0 c w₀ (row_at c room (mode_of mode) n (pair_of settings)) 0 w (after_head c room mode left now later d t code a (level_of w))

pub row-begin : {c : Context} {w : Walk} (room : ℕ) (mode : Mode) (n : ℕ) (settings : Settings) → room ≤ max_depth → n ≤ 524287 → Ready 0 c w → Rowing c w room mode n settings w n settings.first settings.later room
unfolding climb
row-begin {c} {w} room mode n settings b l h =
    let z : room - room ≡ 0 = omega arith in
    record {
      le = omega arith;
      low = b;
      count = omega arith;
      stage = start {G = row_at c room (mode_of mode) n (pair_of settings)} _ h (λ id s r. rw z (sym (bind_ok (row_at c room (mode_of mode) n (pair_of settings) id s r))));
    }

module _ {c : Context} {w₀ : Walk} {room : ℕ} {mode : Mode} {n : ℕ} {first : Settings} {w : Walk} {left : ℕ} {now later : Setting} {d : ℕ} (o : Rowing c w₀ room mode n first w left now later d) where
  -- an expression may be walked here
  pub row-ready : Ready 0 c w₀ → Ready 0 c w
  row-ready h = ready (omega arith) h o.stage

  pub row_done : {u : Unit {0}} → left ≡ 0 → d ≡ room → Walked room c w₀ w (row_at c room (mode_of mode) n (pair_of first)) (Ok u)
  unfolding climb row_go
  row_done l h =
      let z : room - d ≡ 0 = omega arith in
      done (recast (λ id s t. last (ok t)) o.stage (λ id s t r. rw (l, z)))

  pub row-pop : left ≡ 0 → d < room → (level_of w (d + 1)).left < 4294967296 → Rowing c w₀ room mode n first w (level_of w (d + 1)).left (level_of w (d + 1)).later (level_of w (d + 1)).later (d + 1)
  unfolding climb row_go
  row-pop l h b =
      let z : room - d ≡ suc (room - suc d) = omega arith in
      rw (add-one d) (record { le = omega arith; low = o.low; count = rw (add-one d) at b; stage = recast _ o.stage (λ id s t r. rw (l, z)) })

  next : 0 < left → Stage (Some room) 0 c w₀ (row_at c room (mode_of mode) n (pair_of first)) 0 w
      (λ id s t. step (within c mode id d (setting_of now) t) (λ x. step (later_row (within c mode id d) (left - 1) later x) (waits c room mode (level_of w) d id)))
  next h = recast _ o.stage (λ id s t r. ahead (within c mode id d) left (setting_of now) (setting_of later) t r _ h)

  pub row_one : {w' : Walk} {u : Unit {0}} → 0 < left → Walked d c w w' (expr_at c d (mode_of mode) (setting_of now)) (Ok u) → Rowing c w₀ room mode n first w' (left - 1) later later d
  row_one {w'} h x =
      let same : (i : ℕ) → d < i → level_of w' i ≡ level_of w i = x.goes.frame.levels in
      record {
        le = o.le;
        low = o.low;
        count = omega (arith, o.count);
        stage = recast _ (go (next h) x o.le)
            (λ id s t r. bind-each (later_row (within c mode id d) (left - 1) later t r) _ _ (λ u r2. climb-same (within c mode id) (level_of w) (level_of w') d (room - d) u r2 (λ i j. sym (same i j))));
      }

  pub row-fall : {w' : Walk} {e : Refusal} (r : Result (Unit {0}) Refusal) → 0 < left → Walked d c w w' (expr_at c d (mode_of mode) (setting_of now)) (Err e) → IsErr r × IsErrAnd r (λ y. y ≡ e) → Walked room c w₀ w' (row_at c room (mode_of mode) n (pair_of first)) r
  row-fall r h x q = fell r (next h) x q

  -- ---- a plain head is read
  module _ {t code word : ℕ} (i : code ≡ get_or (words_in c) w.at 0) (j : word ≡ get_or (words_in c) (w.at + 1) 0) (h : left ≡ 0 → ⊥) (g : t ≡ 0 → ⊥) (p : Plainly (words_in c) (names_in c) d w.at t) where
    some : 0 < left
    some = omega (arith, h)

    f : Plain (words_in c) (names_in c) d w.at t
    f = plain-some t g p

    abbrev end : ℕ
    end = w.at + (1 + t % 2)

    abbrev read : Walk
    read = placed w end

    as-shaped : t ≡ shape code
    as-shaped = rw (← i) at f.shaped

    shaped : 0 < shape code
    shaped = omega (arith, as-shaped, g)

    limited : word ≤ limit code
    limited = rw (← i, ← j) at f.limited

    named : shape code / 64 % 2 ≡ 1 → word < names_in c
    named q = let n = f.named (rw as-shaped q) in rw j n

    head : Stage (Some room) 0 c w₀ (row_at c room (mode_of mode) n (pair_of first)) (1 + t % 2) read
        (λ id s u. after_head c room mode left now later d t code word (level_of w) id s (Does c mode now code word id u))
    head =
        let one : d ≡ suc (d - 1) = omega (arith, f.level) in
        let e : w.at + 1 + t % 2 ≡ end = omega arith in
        let l = f.within in
        jump _ (1 + t % 2) end (next some) (omega arith) (omega arith) (omega arith)
        (λ id s u. ap (λ (g : Got Both). bind g (λ x r2. bind (later_row (within c mode id d) (left - 1) later x r2) (λ y r3. climb (within c mode id) (level_of w) d (room - d) y r3)))
        (ap (λ (k : ℕ). within c mode id k (setting_of now) u (drop w.at (words_in c))) one
        ∙ plain-expr (world_at c id) (names_in c) (d - 1) (mode_of mode) code word (setting_of now) u (drop w.at (words_in c)) (drop end (words_in c)) shaped limited (rw (← i, ← j, e) at f.same)
        ∙ ap (λ (k : ℕ). row_go (within c mode id (d - 1)) (parts_of k word) (settings (world_at c id).is_id (headed code word) (setting_of now)) (Does c mode now code word id u) (drop end (words_in c))) (sym as-shaped)))

    head-ready : Ready 0 c w₀ → Ready (cost_of (headed code word)) c read
    head-ready r = let l = (law code word shaped limited).cost in ready (omega (arith, l, as-shaped)) r head

    -- what `act` and `parts_of` ask
    pub act-asks : Ready 0 c w₀ → (0 < shape code) × ((word ≤ limit code) × ((shape code / 64 % 2 ≡ 1 → word < names_in c) × Ready (cost_of (headed code word)) c read))
    act-asks r = (shaped, (limited, (named, head-ready r)))

    pub parts-ask : (t < 16777216) × (t / 32 % 2 ≤ t / 16 % 2)
    parts-ask = let k = law code word shaped limited in rw as-shaped (k.small, k.halved)

    few : parts_of t word ≤ 524287
    few = rw as-shaped (law code word shaped limited).few

    -- where the head does nothing
    pub head-calm : eqb (t / 2 ^ (16 + number_of now) % 2) 1 ≡ false → Heading c w₀ room mode n first read left now later d t code word
    head-calm z =
        record {
          le = o.le;
          low = o.low;
          count = o.count;
          more = some;
          deep = f.level;
          few = few;
          stage = fewer 0 (omega arith) (recast _ head (λ id s u r. rw (plain-calm code word now shaped limited (rw as-shaped at z) (world_at c id) (mode_of mode) u)));
        }

    -- where it did what it does
    pub head-acted : {w' : Walk} → Steps (cost_of (headed code word)) c read w' (Does c mode now code word) → Heading c w₀ room mode n first w' left now later d t code word
    head-acted {w'} x =
        let l = (law code word shaped limited).cost in
        let same : (i : ℕ) → d < i → level_of w' i ≡ level_of w i = λ i j. x.frame.levels i (omega arith) in
        record {
          le = o.le;
          low = o.low;
          count = o.count;
          more = some;
          deep = f.level;
          few = few;
          stage = recast _ (did (after_head c room mode left now later d t code word (level_of w)) 0 (omega (arith, l, as-shaped)) (omega (arith, l, as-shaped)) (omega (arith, l, as-shaped)) head x)
              (λ id s u r. bind-each (row_go (within c mode id (d - 1)) (parts_of t word) (settings (world_at c id).is_id (headed code word) (setting_of now)) u r) _ _
              (λ v r1. bind-each (later_row (within c mode id d) (left - 1) later v r1) _ _
              (λ y r2. climb-same (within c mode id) (level_of w) (level_of w') d (room - d) y r2 (λ i j. sym (same i j)))));
        }

-- ---- a level is written
abbrev pub leveled : Walk → ℕ → Level → Walk
leveled w d x = record w { left = set w.left d x.left; later = set w.later d x.later }

level-here : (w : Walk) (d : ℕ) (x : Level) → d < length w.left → d < length w.later → level_of (leveled w d x) d ≡ x
level-here w d x l k = rw (get_or-set_same w.left d x.left 0 l, get_or-set_same w.later d x.later General k)

level-above : (w : Walk) (d : ℕ) (x : Level) (i : ℕ) → d < i → level_of (leveled w d x) i ≡ level_of w i
level-above w d x i h = rw (get_or-set_other w.left d i x.left 0 (λ q. omega arith), get_or-set_other w.later d i x.later General (λ q. omega arith))

leveled-still : {w : Walk} (d : ℕ) (x : Level) → Still w (leveled w d x)
leveled-still d x = record { visible = seen-idle; rowless = unmoved-idle; log = log-idle }

written : {room free : ℕ} {c : Context} {w₀ : Walk} {G : Goer} {w : Walk} {K : Rest} (d : ℕ) (x : Level) → d ≤ room → Stage (Some room) 0 c w₀ G free w K → Stage (Some room) 0 c w₀ G free (leveled w d x) K
written {w = w} d x b o =
    record {
      from = o.from;
      still = still-then o.still (leveled-still d x);
      fit = λ k y. let f = o.fit k y in refit f (leveled-still d x) refl f.below f.sound f.descends f.cur f.last f.count f.stack f.rowless f.olds f.needs f.within;
      keeps = record { kept = framed o.still o.keeps.kept (record { top = omega arith; last = omega arith; below = refl; grows = grows-idle; levels = λ i h. level-above w d x i (omega arith) }) };
      on = λ id s h. let n = o.on id s h in let k = n.holds in
          record {
            state = n.state;
            holds = record { visible = k.visible; cur = k.cur; last = k.last; log = k.log; kinds = k.kinds; olds = k.olds; counts = record { made = k.counts.made; taken = k.counts.taken }; uses = k.uses };
            same = n.same;
          };
    }

module _ {c : Context} {w₀ : Walk} {room : ℕ} {mode : Mode} {n : ℕ} {first : Settings} {w : Walk} {left : ℕ} {now later : Setting} {d t code a : ℕ} (o : Heading c w₀ room mode n first w left now later d t code a) where
  pub row-leaf : {k : ℕ} → k ≡ parts_of t a → k ≡ 0 → Rowing c w₀ room mode n first w (left - 1) later later d
  unfolding row_go
  row-leaf e z = record { le = o.le; low = o.low; count = omega (arith, o.count); stage = recast _ o.stage (λ id s t r. rw (← e, z)) }

  pub row-down : {k : ℕ} {p : Settings} → k ≡ parts_of t a → ((id : ℕ → ℕ) → pair_of p ≡ settings (world_at c id).is_id (headed code a) (setting_of now)) → d < length w.left → d < length w.later → Rowing c w₀ room mode n first (leveled w d (record { left = left - 1; later = later })) k p.first p.later (d - 1)
  row-down {k} {p} e q l y =
      let b = o.le in
      let g = o.deep in
      let x : Level = record { left = left - 1; later = later } in
      let z : room - (d - 1) ≡ suc (room - d) = omega arith in
      let mine : level_of (leveled w d x) d ≡ x = level-here w d x l y in
      record {
        le = omega arith;
        low = o.low;
        count = omega (arith, e, o.few);
        stage = recast _ (written d x b o.stage)
            (λ id s t r. rw (← e, ← (q id)) (bind-each (row_go (within c mode id (d - 1)) k (pair_of p) t r) _ _
            (λ u r2. climb-more (within c mode id) (level_of w) (level_of (leveled w d x)) d (room - d) (room - (d - 1)) x u r2 z g mine (λ j h. sym (level-above w d x j h)))));
      }

-- ---- any number of expressions, one after the other: k were walked
pub record Counting (c : Context) (w₀ : Walk) (room : ℕ) (mode : Mode) (n : ℕ) (settings : Settings) (w : Walk) (k : ℕ) (now : Setting) : Type 0 where
  pub stage : Stage (Some room) 0 c w₀ (row_at c room (mode_of mode) n (pair_of settings)) 0 w (λ id s t. last (row_go (within c mode id room) (n - k) (both (setting_of now) (setting_of settings.later)) t))

pub count-begin : {c : Context} {w : Walk} (room : ℕ) (mode : Mode) (n : ℕ) (settings : Settings) → Ready 0 c w → Counting c w room mode n settings w 0 settings.first
count-begin {c} room mode n settings h =
    let z : n ≡ n - 0 = omega arith in
    record { stage = start _ h (λ id s r. ap (λ (k : ℕ). row_go (within c mode id room) k (pair_of settings) s r) z) }

module _ {c : Context} {w₀ : Walk} {room : ℕ} {mode : Mode} {n : ℕ} {first : Settings} {w : Walk} {k : ℕ} {now : Setting} (o : Counting c w₀ room mode n first w k now) where
  count_next : k < n → Stage (Some room) 0 c w₀ (row_at c room (mode_of mode) n (pair_of first)) 0 w
      (λ id s t. step (within c mode id room (setting_of now) t) (λ x. last (later_row (within c mode id room) (n - (k + 1)) first.later x)))
  unfolding row_go
  count_next h =
      let l : n - k ≡ suc (n - (k + 1)) = omega arith in
      recast _ o.stage (λ id s t r. ap (λ (j : ℕ). row_go (within c mode id room) j (both (setting_of now) (setting_of first.later)) t r) l)

  pub count-one : {w' : Walk} {u : Unit {0}} → k < n → Walked room c w w' (expr_at c room (mode_of mode) (setting_of now)) (Ok u) → Counting c w₀ room mode n first w' (k + 1) first.later
  count-one h x = record { stage = go (count_next h) x (omega arith) }

  pub count-fall : {w' : Walk} {e : Refusal} (r : Result (Unit {0}) Refusal) → k < n → Walked room c w w' (expr_at c room (mode_of mode) (setting_of now)) (Err e) → IsErr r × IsErrAnd r (λ y. y ≡ e) → Walked room c w₀ w' (row_at c room (mode_of mode) n (pair_of first)) r
  count-fall r h x q = fell r (count_next h) x q

  pub count-done : {u : Unit {0}} → n ≤ k → Walked room c w₀ w (row_at c room (mode_of mode) n (pair_of first)) (Ok u)
  unfolding row_go
  count-done h =
      let z : n - k ≡ 0 = omega arith in
      done (recast (λ id s t. last (ok t)) o.stage (λ id s t r. rw z))
