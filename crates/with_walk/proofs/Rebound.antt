-- What a WITH binds. Nothing is written of what its barrier carries and its Root binds: the state that the walk holds after the two scopes are
-- opened and the pairs are seen is the definition's, but for counts (`rooted-quiet`). With a star the names before are seen once each, which is
-- what the star's pairs are when they are bound (`spread-seen`), and all of them are first (`spread-first`). The whole: `rebinds`; what each step
-- asks: `root-asks`, `leave-asks`, `spread-asks`, `pairs-ask`, `count-asks`.
use Rattle.std.specs.Prelude.{Some}
use Prim.Native.Nat.{ℕ, zero, suc, ◌+◌, ◌-◌, ◌*◌, ◌<◌, ◌≤◌}
use native.Mathlib.Omega.{arith}
use mathlib.Core.Path.{◌≡◌, refl, ap, sym, ◌∙◌}
use mathlib.Core.Bool.{Bool, true, false, cond, ◌&&◌}
use mathlib.Core.List.{List, [], ◌∷◌, ◌++◌, reverse, reverse_aux}
use lib.Dec.{eqb}
use lib.ListN.{length, length-append}
use Rattle.scope.specs.Graph.{root_scope, with_barrier, scope, Name, same_name, carried}
use Rattle.semantics.specs.Log.{Bound, bound, Event, open', bind, carry}
use Rattle.semantics.specs.World.{World, kind_of}
use Rattle.semantics.specs.Resolve.{hit, Seen, seen, binds, State, Pair, pair, without, once, say, enter, standing, bind_over, bind_all, carry_all, barrier}
use Rattle.theorems.specs.Needs.{made, carried_in}
use Rattle.theorems.specs.Woven.{written}
use Rattle.theorems.proofs.Alike.{none_first}
use Rattle.fused.specs.Fused.{Both}
use Rattle.fused.specs.Clauses.{all_of}
use Rattle.rowless.specs.Rowless.{places, Sound as Numbered}
use Rattle.rowless.specs.declared.Rowless.{Rowless}
use Rattle.visible.specs.Visible.{seens, Descends, seen_once}
use Rattle.visible.specs.Stack.{entries, Sound}
use Rattle.visible.specs.Stack as stack
use Rattle.steps.specs.Memory.{world_at}
use Rattle.steps.specs.Named.{as_named, Below}
use Rattle.steps.specs.Said.{kept}
use Rattle.steps.specs.Hold.{Binding, Fits, Fit, Holds, Still, Steps, Ready, Left, on_names}
use Rattle.steps.specs.declared.Walk.{Walk}
use Rattle.steps.specs.declared.context.Context.{Context}
use Rattle.steps.proofs.Named.{unmoved-idle, named-grows}
use Rattle.steps.proofs.Held.{seen-idle, log-idle, still-then, seens-lower, lower, refit, then-steps}
use Rattle.projection_walk.specs.Pairs.{pairs_in, pairs_of, InNames, kept_of}
use Rattle.projection_walk.specs.declared.pairs.Pairs.{Pairs}
use Rattle.with_walk.specs.Binds.{rooted_on, under_star, first_seen, firsts, seen_by, Sees, SeesAll, SeesIn, Spreads, Countable, BindsIn, Rebinds}
use Rattle.clause_parts.proofs.Cleared.{below-descends, below-lower, cut_still, cut_fits, cut_holds, cut_at}
use Rattle.with_walk.proofs.Named.{above, length-named, spread-named, spread-below, firsts-named}
use Rattle.with_walk.proofs.Seeing.{seen_as_lem, seen-still, seen-fits, seen-holds}
use Rattle.visible.proofs.Places.{length-seens}

-- ---- what is carried and bound is not written
-- t is s after pairs, of which c were carried and b are new bindings
record Beside (wants : Bool) (c b : ℕ) (vis : List Seen) (s t : State) : Type 0 where
  visible : t.visible ≡ vis
  cur : t.cur ≡ s.cur
  last : t.last ≡ s.last
  log : kept wants t.log ≡ kept wants s.log
  made : made t.log ≡ b + made s.log
  taken : carried_in t.log ≡ c + carried_in s.log

unkept : (wants : Bool) (e : Event) (l : List Event) → ((r : List Event) → written (e ∷ r) ≡ written r) → ((r : List Event) → kept false (e ∷ r) ≡ kept false r) → kept wants (e ∷ l) ≡ kept wants l
unfolding kept
unkept true e l p q = p l
unkept false e l p q = q l

carry-beside : (wants : Bool) (w : World) (ps : List Pair) (s : State) → Beside wants (length ps) 0 s.visible s (carry_all w ps s)
unfolding carry_all carried_in made written kept
carry-beside wants w [] s = record { visible = refl; cur = refl; last = refl; log = refl; made = omega arith; taken = omega arith }
carry-beside wants w (pair x v ∷ ps) s =
    let z = carry-beside wants w ps (say (carry (carried s.cur x v)) s) in
    record {
      visible = z.visible;
      cur = z.cur;
      last = z.last;
      log = z.log ∙ unkept wants (carry (carried s.cur x v)) s.log (λ r. refl) (λ r. refl);
      made = z.made;
      taken = omega (arith, z.taken);
    }

counted_if : (b : Bool) (x : Bound) (l : List Event) → made (bind true b x ∷ l) ≡ cond b 0 1 + made l
unfolding made
counted_if true x l = omega arith
counted_if false x l = omega arith

bind-beside : (wants : Bool) (w : World) (ps : List Pair) (s : State) → Beside wants 0 (firsts s.cur ps s.visible) (above s.cur ps s.visible) s (bind_all w ps s)
unfolding bind_all carried_in written kept firsts
bind-beside wants w [] s = record { visible = refl; cur = refl; last = refl; log = refl; made = omega arith; taken = omega arith }
bind-beside wants w (pair x v ∷ ps) s =
    let e = bind true (binds s.cur x s.visible) (bound s.cur x v (kind_of w v)) in
    let z = bind-beside wants w ps (bind_over true x v (kind_of w v) s) in
    record {
      visible = z.visible;
      cur = z.cur;
      last = z.last;
      log = z.log ∙ unkept wants e s.log (λ r. refl) (λ r. refl);
      made = omega (arith, z.made, one (binds s.cur x s.visible));
      taken = omega (arith, z.taken);
    }
  where
    one : (b : Bool) → made (bind true b (bound s.cur x v (kind_of w v)) ∷ s.log) ≡ cond b 0 1 + made s.log
    one b = counted_if b (bound s.cur x v (kind_of w v)) s.log

-- a scope that is opened is written of two states alike
open-alike : (wants : Bool) (a b c d : ℕ) (l r : List Event) → a ≡ b → kept wants l ≡ kept wants r → kept wants (open' (scope c (Some a) d d) ∷ l) ≡ kept wants (open' (scope c (Some b) d d) ∷ r)
unfolding kept written
open-alike true a b c d l r e q = rw (e, q)
open-alike false a b c d l r e q = q

-- where the walk stands after the barrier and the Root are opened, with these names seen in the Root
abbrev quiet : List Seen → ℕ → ℕ → State → State
quiet vis a b y = standing vis (suc (suc y.last)) (enter root_scope b b (enter with_barrier a b y))

rooted-quiet : (wants : Bool) (w : World) (a b : ℕ) (below : List Seen) (ps : List Pair) (y : State) → let r = suc (suc y.last) in
    Beside wants (length ps) (firsts r ps below) (above r ps below) (quiet (above r ps below) a b y) (rooted_on below w a b ps y)
unfolding barrier made carried_in
rooted-quiet wants w a b below ps y =
    let t = carry_all w ps (enter with_barrier a b y) in
    let c = carry-beside wants w ps (enter with_barrier a b y) in
    let z = bind-beside wants w ps (enter root_scope b b (standing below t.cur t)) in
    let e : suc t.last ≡ suc (suc y.last) = ap suc c.last in
    let f = ap (λ (r : ℕ). firsts r ps below) e in
    record {
      visible = z.visible ∙ ap (λ (n : ℕ). above n ps below) e;
      cur = z.cur ∙ e;
      last = z.last ∙ e;
      log = z.log ∙ open-alike wants t.cur (suc y.last) root_scope b t.log (enter with_barrier a b y).log c.cur c.log;
      made = omega (arith, z.made, c.made, f);
      taken = omega (arith, z.taken, c.taken);
    }

-- ---- a star's pairs, bound one after the other
above-append : (c : ℕ) (ps qs : List Pair) (l : List Seen) → above c (ps ++ qs) l ≡ above c qs (above c ps l)
above-append c [] qs l = refl
above-append c (pair x v ∷ ps) qs l = above-append c ps qs (seen x (hit v 1) c ∷ l)

firsts-append : (c : ℕ) (ps qs : List Pair) (l : List Seen) → firsts c (ps ++ qs) l ≡ firsts c ps l + firsts c qs (above c ps l)
unfolding firsts
firsts-append c [] qs l = omega arith
firsts-append c (pair x v ∷ ps) qs l = omega (arith, firsts-append c ps qs (seen x (hit v 1) c ∷ l))

above-reverse : (c : ℕ) (l acc : List Pair) → above c (reverse_aux l acc) [] ≡ above c acc (seen_once c l)
unfolding seen_once
above-reverse c [] acc = refl
above-reverse c (pair x u ∷ l) acc = above-reverse c l (pair x u ∷ acc)

spread-seen : (c : ℕ) (l ps : List Pair) → above c (reverse l ++ ps) [] ≡ above c ps (seen_once c l)
spread-seen c l ps = above-append c (reverse l) ps [] ∙ ap (λ (v : List Seen). above c ps v) (above-reverse c l [])

-- no name twice
unfoldable Distinct : List Pair → Type 0
Distinct [] = Unit {0}
Distinct (pair x v ∷ ps) = ((c : ℕ) → binds c x (seen_once c ps) ≡ false) × Distinct ps

gone : (c : ℕ) (x : Name) (ps : List Pair) → binds c x (seen_once c (without x ps)) ≡ false
unfolding without seen_once binds
gone c x [] = refl
gone c x (pair y v ∷ ps) = go (same_name x y) refl (gone c x ps)
  where
    go : (b : Bool) → same_name x y ≡ b → binds c x (seen_once c (without x ps)) ≡ false → binds c x (seen_once c (cond b (without x ps) (pair y v ∷ without x ps))) ≡ false
    go true q z = z
    go false q z = rw q z

still-gone : (c : ℕ) (x y : Name) (ps : List Pair) → binds c x (seen_once c ps) ≡ false → binds c x (seen_once c (without y ps)) ≡ false
unfolding without seen_once binds
still-gone c x y [] e = refl
still-gone c x y (pair z v ∷ ps) e = let q = none_first (same_name x z && eqb c c) (binds c x (seen_once c ps)) e in go (same_name y z) q.0 (still-gone c x y ps q.1)
  where
    go : (b : Bool) → (same_name x z && eqb c c) ≡ false → binds c x (seen_once c (without y ps)) ≡ false → binds c x (seen_once c (cond b (without y ps) (pair z v ∷ without y ps))) ≡ false
    go true q i = i
    go false q i = rw q i

distinct_without : (y : Name) (ps : List Pair) → Distinct ps → Distinct (without y ps)
unfolding Distinct without
distinct_without y [] d = tt
distinct_without y (pair x v ∷ ps) d = go (same_name y x) (distinct_without y ps d.1)
  where
    go : (b : Bool) → Distinct (without y ps) → Distinct (cond b (without y ps) (pair x v ∷ without y ps))
    go true z = z
    go false z = (λ c. still-gone c x y ps (d.0 c), z)

distinct-once : (l : List Seen) → Distinct (once l)
unfolding Distinct once
distinct-once [] = tt
distinct-once (seen x v p ∷ l) = (λ c. gone c x (once l), distinct_without x (once l) (distinct-once l))

firsts-reverse : (c : ℕ) (l acc : List Pair) → Distinct l → firsts c (reverse_aux l acc) [] ≡ length l + firsts c acc (seen_once c l)
unfolding seen_once Distinct firsts
firsts-reverse c [] acc d = omega arith
firsts-reverse c (pair x u ∷ l) acc d =
    let one : ◌≡◌ {A = ℕ} (cond (binds c x (seen_once c l)) 0 1) 1 = rw (d.0 c) in
    omega (arith, firsts-reverse c l (pair x u ∷ acc) d.1, one)

spread-first : (c : ℕ) (l ps : List Pair) → Distinct l → firsts c (reverse l ++ ps) [] ≡ length l + firsts c ps (seen_once c l)
unfolding firsts
spread-first c l ps d =
    let e = ap (λ (v : List Seen). firsts c ps v) (above-reverse c l []) in
    omega (arith, firsts-append c (reverse l) ps [], firsts-reverse c l [] d, e)

length-reverse : (l acc : List Pair) → length (reverse_aux l acc) ≡ length l + length acc
length-reverse [] acc = omega arith
length-reverse (p ∷ l) acc = omega (arith, length-reverse l (p ∷ acc))

-- what is seen of the names before, of which a star carries some
abbrev seen_under : Bool → ℕ → List Seen → List Seen
seen_under true c l = seen_once c (once l)
seen_under false c l = l

abbrev star_count : Bool → List Seen → ℕ
star_count true l = length (once l)
star_count false l = 0

-- by places as by names
module _ {r : Rowless} (s : Numbered r) where
  under-below : (star : Bool) (c : ℕ) (l : List Seen) → Below (places r) l → Below (places r) (seen_under star c l)
  under-below true c l b = spread-below s c l b
  under-below false c l b = b

  under-named : (star : Bool) (c : ℕ) (l : List Seen) → Below (places r) l → as_named r (seen_under star c l) ≡ seen_under star c (as_named r l)
  under-named true c l b = spread-named s c l b
  under-named false c l b = refl

  under-count : (star : Bool) (l : List Seen) → Below (places r) l → star_count star l ≡ star_count star (as_named r l)
  under-count true l b = sym (length-named s l b)
  under-count false l b = refl

-- all that a WITH has taken
all_quiet : (wants star : Bool) (w : World) (a b : ℕ) (below : List Seen) (ps : List Pair) (y : State) → let r = suc (suc y.last) in let l = seen_under star r below in
    Beside wants (star_count star below + length ps) (star_count star below + firsts r ps l) (above r ps l) (quiet (above r ps l) a b y) (rooted_on (under_star star below) w a b (all_of (record { star = star; pairs = ps }) below) y)
all_quiet wants true w a b below ps y =
    let r = suc (suc y.last) in
    let z = rooted-quiet wants w a b [] (reverse (once below) ++ ps) y in
    let n : length (reverse (once below) ++ ps) ≡ length (once below) + length ps = length-append (reverse (once below)) ps ∙ omega (arith, length-reverse (once below) []) in
    rw (← (spread-seen r (once below) ps), ← (spread-first r (once below) ps (distinct-once below)), ← n) z
all_quiet wants false w a b below ps y =
    let z = rooted-quiet wants w a b below ps y in
    record { visible = z.visible; cur = z.cur; last = z.last; log = z.log; made = omega (arith, z.made); taken = omega (arith, z.taken) }

beside-as : {wants : Bool} {c c' b b' : ℕ} {vis : List Seen} {s s' t : State} → c ≡ c' → b ≡ b' → s ≡ s' → Beside wants c b vis s t → Beside wants c' b' vis s' t
beside-as p q e z = rw (← p, ← q, ← e) z

-- ---- the counts
module _ {w : Walk} (b k : ℕ) where
  counts-still : Still w (record w { taken = w.taken + k; made = w.made + b })
  counts-still = record { visible = seen-idle; rowless = unmoved-idle; log = log-idle }

  -- words pay for them
  counts-fit : {c : Context} {i t l : ℕ} → w.made + b + (w.taken + k) + t * 16384 ≤ w.at * 16384 → Fits i t l c w → Fits i t l c (record w { taken = w.taken + k; made = w.made + b })
  counts-fit h f = refit f counts-still refl f.below f.sound f.descends f.cur f.last f.count f.stack f.rowless f.olds h f.within

  -- and the state that it counts is held
  counts-hold : {id : ℕ → ℕ} {c : Context} {s : Both} {t : State} {l : List Seen} → Beside c.wants k b l s.names t → l ≡ s.names.visible → Holds id c w s → Holds id c (record w { taken = w.taken + k; made = w.made + b }) (record { names = t; kinds = s.kinds; olds = s.olds })
  counts-hold z e h =
      record {
        visible = h.visible ∙ sym (z.visible ∙ e);
        cur = h.cur ∙ sym z.cur;
        last = h.last ∙ sym z.last;
        log = h.log ∙ sym z.log;
        kinds = h.kinds;
        olds = h.olds;
        counts = record { made = omega (arith, h.counts.made, z.made); taken = omega (arith, h.counts.taken, z.taken) };
        uses = h.uses;
      }

-- ---- names before, of which a star may carry some
length-once : (c : ℕ) (ps : List Pair) → length (seen_once c ps) ≡ length ps
unfolding seen_once
length-once c [] = refl
length-once c (pair x v ∷ ps) = ap suc (length-once c ps)

once-descends : (c : ℕ) (ps : List Pair) → Descends c (seen_once c ps)
unfolding seen_once Descends
once-descends c [] = tt
once-descends c (pair x v ∷ ps) = (omega arith, once-descends c ps)

record Settled (star : Bool) (w w' : Walk) (k : ℕ) : Type 0 where
  same : w' ≡ record w { visible = w'.visible }
  still : stack.Still w.visible w'.visible
  low : w'.visible.top ≤ w.visible.top
  sound : Sound w'.visible
  seen : entries w'.visible ≡ seen_under star w.cur (entries w.visible)
  descends : Descends w.cur (entries w'.visible)
  count : k ≡ star_count star (entries w.visible)
  few : k ≤ w.visible.top

settled : {star : Bool} {w w' : Walk} {k : ℕ} → Binding w → Spreads star w w' k → Settled star w w' k
settled {star = true} {w} {w'} {k} b z =
    let p = z.yes refl in
    let r = p.1 in
    let i = length-seens w'.visible.names w'.visible.top w'.visible.words.now in
    let j = ap length r.same in
    let l = length-once w.cur (once (entries w.visible)) in
    record {
      same = z.same;
      still = r.still;
      low = r.few;
      sound = r.sound;
      seen = r.same;
      descends = rw r.same (once-descends w.cur (once (entries w.visible)));
      count = omega (arith, p.0, i, j, l);
      few = omega (arith, p.0, r.few);
    }
settled {star = false} b z =
    let p = z.no refl in
    rw (p.0, p.1) (record { same = refl; still = seen-idle; low = omega arith; sound = b.sound; seen = refl; descends = b.descends; count = refl; few = omega arith })

module _ {star : Bool} {w w' : Walk} {k : ℕ} (z : Settled star w w' k) where
  settled-still : Still w w'
  settled-still = rw z.same (seen-still z.still)

  settled-fits : {c : Context} {e t u : ℕ} → Fits e t u c w → Fits e t u c w'
  settled-fits f = rw z.same (seen-fits z.still f (rw z.seen (under-below f.numbered star w.cur (entries w.visible) f.below)) z.sound z.descends (omega (arith, f.stack, z.low)))

  settled-holds : {id : ℕ → ℕ} {c : Context} {e t u : ℕ} {s : Both} → Fits e t u c w → Holds id c w s → Holds id c w' (on_names (standing (seen_under star w.cur (as_named w.rowless (entries w.visible))) w.cur) s)
  settled-holds f h = rw z.same (seen-holds (ap (λ (l : List Seen). as_named w.rowless l) z.seen ∙ under-named f.numbered star w.cur (entries w.visible) f.below) h)

-- ---- the barrier, the new Root, and what is bound in it
length_pairs : (n : ℕ) (held : List ℕ) → length (pairs_in n held) ≡ n
unfolding pairs_in
length_pairs zero held = refl
length_pairs (suc n) held = length-append (pairs_in n held) _ ∙ omega (arith, length_pairs n held)

module _ (p : Pairs) {c : Context} {w w1 : Walk} {a b : ℕ} (ready : Ready (2 + kept_of p) c w) (x : Steps 1 c w w1 (λ id. on_names (enter 7 a b))) where
  pub root-asks : Ready 1 c w1
  root-asks = record { fine = ready.fine; fit = x.fit 1 1 1 (lower (omega arith) (omega arith) (omega arith) ready.fit) }

  module _ {w2 : Walk} (y : Steps 1 c w1 w2 (λ id. on_names (enter 1 b b))) where
    opened : Steps 2 c w w2 (λ id s. on_names (enter 1 b b) (on_names (enter 7 a b) s))
    opened = then-steps x y

    rooted : (k : ℕ) → Fit (2 + k) c w → Fit k c w2
    rooted k f = opened.fit k k k f

    root-fit : Fit (kept_of p) c w2
    root-fit = rooted (kept_of p) ready.fit

    module _ {top : ℕ} (given : BindsIn top w p) where
      still-low : top ≤ w2.visible.top
      still-low = omega (arith, given.low, opened.frame.top)

      -- the first ones are those before, whose places are in use
      first-below : Below (places w.rowless) (seens w.visible.names top w.visible.words.now)
      first-below = below-lower (places w.rowless) w.visible.names top w.visible.top w.visible.words.now given.low ready.fit.below

      first-same : first_seen top w2 ≡ first_seen top w
      first-same =
          rw opened.still.visible.names (ap (λ (l : List Seen). as_named w2.rowless l) (seens-lower w.visible.names top w.visible.top w2.visible.words.now w.visible.words.now given.low opened.frame.below))
          ∙ named-grows (seens w.visible.names top w.visible.words.now) opened.frame.grows first-below

      pub leave-asks : (top ≤ w2.visible.top) × Sound w2.visible
      leave-asks = (still-low, root-fit.sound)

      module _ {w3 : Walk} (l : Left w2 w3 top w2.cur) where
        cut : {e t u : ℕ} → Fits e t u c w2 → Fits e t u c w3
        cut g = cut_fits l g still-low (below-descends w2.visible.names top w2.visible.top w2.cur w2.visible.words.now still-low g.descends) g.cur

        bound3 : Binding w3
        bound3 = let f = cut root-fit in record { sound = f.sound; descends = f.descends }

        short3 : w3.cur < 2147483648
        short3 = let f = cut root-fit in omega (arith, f.cur, f.last, f.within, ready.fine.short)

        pub spread-asks : (w3.cur < 2147483648) × Binding w3
        spread-asks = (short3, bound3)

        places3 : w3.rowless ≡ w2.rowless
        places3 = ap (λ (v : Walk). v.rowless) l.same

        seen3 : as_named w3.rowless (entries w3.visible) ≡ first_seen top w
        seen3 = ap (λ (r : Rowless). as_named r (entries w3.visible)) places3 ∙ ap (λ (s : List Seen). as_named w2.rowless s) l.visible.same ∙ first-same

        cur3 : w3.cur ≡ w2.cur
        cur3 = ap (λ (v : Walk). v.cur) l.same

        module _ {w4 : Walk} {k : ℕ} (z : Spreads p.star w3 w4 k) where
          s4 : Settled p.star w3 w4 k
          s4 = settled bound3 z

          fit4 : {e t u : ℕ} → Fits e t u c w2 → Fits e t u c w4
          fit4 g = settled-fits s4 (cut g)

          places4 : w4.rowless ≡ w3.rowless
          places4 = ap (λ (v : Walk). v.rowless) s4.same

          listed4 : w4.rowless.listed ≡ w.rowless.listed
          listed4 = ap (λ (r : Rowless). r.listed) (places4 ∙ places3) ∙ opened.frame.grows.listed

          named4 : InNames w4.rowless.listed (pairs_of p)
          named4 = rw listed4 given.named

          still4 : Still w w4
          still4 = still-then opened.still (still-then (cut_still l) (settled-still s4))

          at4 : w4.at ≡ w.at
          at4 = ap (λ (v : Walk). v.at) s4.same ∙ cut_at l ∙ opened.at

          cur4 : w4.cur ≡ w3.cur
          cur4 = ap (λ (v : Walk). v.cur) s4.same

          top4 : w4.visible.top ≤ top
          top4 = omega (arith, s4.low, l.visible.back)

          few4 : k ≤ top
          few4 = omega (arith, s4.few, l.visible.back)

          pub pairs-ask : SeesIn w4 p
          pairs-ask =
              let f = fit4 root-fit in
              let i = ready.fine.short in
              let t = top4 in
              let d = at4 in
              let n = f.heads in
              let e = listed4 in
              let r = given.room in
              let v = f.within in
              let o = f.names in
              record { short = omega (arith, short3, cur4); binding = record { sound = f.sound; descends = f.descends }; wide = given.wide; named = named4; few = omega arith; places = omega arith; room = omega arith }

          module _ {w5 : Walk} {r : ℕ} (u : Sees p w4 w5 r) where
            seen5 : SeesAll p.count p c w4 w5
            seen5 = u.all c

            made5 : w5.made ≡ w4.made
            made5 = ap (λ (v : Walk). v.made) u.same

            taken5 : w5.taken ≡ w4.taken
            taken5 = ap (λ (v : Walk). v.taken) u.same

            at5 : w5.at ≡ w4.at
            at5 = ap (λ (v : Walk). v.at) u.same

            fit5 : (k : ℕ) → Fit (2 + k + kept_of p) c w → w.rowless.listed + (top + p.count) + k ≤ w.at → Fit k c w5
            fit5 k f h = seen5.fit k k k (fit4 (lower (omega arith) (omega arith) (omega arith) (rooted (k + kept_of p) (lower (omega arith) (omega arith) (omega arith) f)))) named4 (omega (arith, at4, top4, listed4))

            star-pays : k ≤ cond {A = ℕ} p.star 1 0 * 2048
            star-pays = go p.star s4.count
              where
                go : (t : Bool) → k ≡ star_count t (entries w3.visible) → k ≤ cond {A = ℕ} t 1 0 * 2048
                go true e = omega (arith, few4, given.room, ready.fit.within, ready.fine.short)
                go false e = omega (arith, e)

            pub count-asks : Countable p.count k r w5
            count-asks =
                let f = fit4 root-fit in
                let n = f.needs in
                let v = f.within in
                let i = ready.fine.short in
                let d = given.room in
                let q = at4 in
                let o = few4 in
                let z = u.few in
                let m = made5 in
                let t = taken5 in
                record { taken = omega arith; made = omega arith }

            needs5 : (i : ℕ) → Fit (2 + i + kept_of p) c w → w5.made + (k + r) + (w5.taken + (k + p.count)) + i * 16384 ≤ w5.at * 16384
            needs5 i f =
                let g = (fit4 (rooted (i + kept_of p) (lower (omega arith) (omega arith) (omega arith) f))).needs in
                let o = star-pays in
                let z = u.few in
                let m = made5 in
                let t = taken5 in
                let q = at5 in
                omega arith

            quiet_is : (ps : List Pair) (L B : List Seen) (m d : ℕ) (s : State) → m ≡ suc (suc s.last) → seen_by ps (standing L m (standing B d (enter 1 b b (enter 7 a b s)))) ≡ quiet (above (suc (suc s.last)) ps L) a b s
            quiet_is ps L B m d s e = seen_as_lem ps _ ∙ rw e

            pub rebinds : Rebinds c p w (record w5 { taken = w5.taken + (k + p.count); made = w5.made + (k + r) }) a b top
            rebinds =
                let ps = pairs_of p in
                let below = first_seen top w in
                record {
                  at = at5 ∙ at4;
                  still = still-then still4 (still-then u.still (counts-still (k + r) (k + p.count)));
                  fit = λ i f h. counts-fit (k + r) (k + p.count) (needs5 i f) (fit5 i f h);
                  goes = λ id s h.
                      let e2 = opened.goes id s h in
                      let e5 = seen5.goes id _ named4 (settled-holds s4 (cut root-fit) (cut_holds l e2)) in
                      let last = suc (suc s.names.last) in
                      let m : w3.cur ≡ suc (suc s.names.last) = cur3 ∙ e2.cur in
                      let f3 = cut root-fit in
                      let f4 = fit4 root-fit in
                      let same : as_named w4.rowless (entries w4.visible) ≡ seen_under p.star (suc (suc s.names.last)) (first_seen top w) = ap (λ (r : Rowless). as_named r (entries w4.visible)) places4 ∙ ap (λ (v : List Seen). as_named w3.rowless v) s4.seen ∙ under-named f3.numbered p.star w3.cur (entries w3.visible) f3.below ∙ rw (seen3, m) refl in
                      let many : k ≡ star_count p.star (first_seen top w) = s4.count ∙ under-count f3.numbered p.star (entries w3.visible) f3.below ∙ rw seen3 refl in
                      let first : r ≡ firsts (suc (suc s.names.last)) (pairs_of p) (seen_under p.star (suc (suc s.names.last)) (first_seen top w)) = u.first ∙ firsts-named f4.numbered w4.cur (pairs_of p) (entries w4.visible) named4 f4.below ∙ rw (same, cur4, m) refl in
                      let z = all_quiet c.wants p.star (world_at c id) a b (first_seen top w) (pairs_of p) s.names in
                      let ends : seen_by (pairs_of p) (standing (seen_under p.star w3.cur (as_named w3.rowless (entries w3.visible))) w3.cur (standing (first_seen top w2) w2.cur (enter 1 b b (enter 7 a b s.names)))) ≡ quiet (above (suc (suc s.names.last)) (pairs_of p) (seen_under p.star (suc (suc s.names.last)) (first_seen top w))) a b s.names =
                      rw seen3 (quiet_is (pairs_of p) (seen_under p.star w3.cur (first_seen top w)) (first_seen top w2) w3.cur w2.cur s.names m
                      ∙ ap (λ (n : ℕ). quiet (above (suc (suc s.names.last)) (pairs_of p) (seen_under p.star n (first_seen top w))) a b s.names) m) in
                      counts-hold (k + r) (k + p.count) (beside-as (omega (arith, many, length_pairs p.count p.words.now)) (omega (arith, many, first)) (sym ends) z) (ap (λ (t : State). t.visible) (sym ends)) e5;
                }
