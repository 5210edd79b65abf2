-- A section that is walked. Its context is the sheet's, cut to its end (`cut_to` is one): the World and the tables are the same, so the
-- definition's head and arms are what is walked (`head-is`, `arms-are`), and it asks no more than the sheet's does (`asks-in`).
-- What the walk over the section's words says of the section: it is refused (`walks-no`; `walks-fell` at a `?`), or reaches the end or not
-- (`walks-to`). From one section to the next: `stands_on`.
use Prim.Native.Nat.{ℕ, ◌*◌, ◌/◌, ◌<◌, ◌≤◌}
use native.Mathlib.Omega.{arith}
use mathlib.Core.Path.{◌≡◌, refl, ap, sym, ◌∙◌}
use mathlib.Core.Bool.{Bool, true, false, not}
use lib.Dec.{ltb}
use borrow.Author.Tests.{ltb-true, ltb-false}
use mathlib.Core.List.{List, [], ◌∷◌}
use lib.ListN.{length, take, drop, length-take}
use Rattle.std.specs.Prelude.{Result, Ok, Err}
use Rattle.std.specs.Result.{IsErr, IsErrAnd}
use Rattle.refusal.proofs.Numbers.{same_cause}
use Rattle.refusal.specs.declared.Refusal.{Refusal}
use Rattle.refusal.specs.declared.Refusal.TheVariants.{Word}
use Rattle.words.proofs.Words.{length-words, drop-word, drop-none}
use Rattle.heads.specs.Got.{Got, ok, no}
use Rattle.expr.proofs.Inverse.{never}
use Rattle.sheet.specs.Read.{accepted, unless, used_up}
use Rattle.sheet.specs.Answer.{sheet_of, reached}
use Rattle.sheet.specs.declared.trailer.Places.{Places}
use Rattle.sheet.proofs.Cutting.{words-front}
use Rattle.fused.specs.Fused.{Both}
use Rattle.fused.specs.Fused as fused
use Rattle.fused.specs.Sheet.{head_go, arms_go}
use Rattle.fused.proofs.ApartStatement.{world_same}
use Rattle.steps.specs.Memory.{words_in, is_the, world_at}
use Rattle.steps.specs.Memory as memory
use Rattle.steps.specs.Hold.{Fine, Fit, Holds, Ready}
use Rattle.steps.specs.declared.Walk.{Walk}
use Rattle.steps.specs.declared.context.Context.{Context}
use Rattle.walk.specs.Goes.{Goer, rest_in}
use Rattle.clause_parts.specs.Passes.{Passes, Held, Clear}
use Rattle.arm_walk.specs.Clauses.{both_walks, clauses_at, arms_at}
use Rattle.arm_walk.specs.Taking.{Takes}
use Rattle.sheet_walk.specs.Parts.{CutTo, Set, Lent, Beginning, FitTo, Standing, Lasting, Walker, DoneAs, TakesAll, Walks, head_in, arms_in}

-- ---- a context that is cut
abbrev pub cut_to : ℕ → Context → Context
cut_to to c = record c { section = record c.section { bytes = record c.section.bytes { now = take (to * 4) c.section.bytes.now } } }

pub is-cut : (to : ℕ) (c : Context) → CutTo to c (cut_to to c)
is-cut to c =
    record {
      words = words-front to c.section.bytes.now;
      names = refl;
      rows = refl;
      texts = refl;
      uses = refl;
      hushed = refl;
      star = refl;
      ident = refl;
      warns = refl;
      wants = refl;
    }

module _ {to : ℕ} {c c' : Context} (k : CutTo to c c') where
  pub cut-long : to ≤ length (words_in c) → length (words_in c') ≡ to
  cut-long h = omega (arith, ap length k.words, length-take to (words_in c))

  cut-fine : to ≤ length (words_in c) → Fine c → Fine c'
  cut-fine h f =
      record {
        short = omega (arith, cut-long h, f.short);
        standing = rw k.rows f.standing;
        named = λ v x n e. rw k.names (f.named v x n (rw k.rows at e));
        used = rw (k.names, k.uses) f.used;
        texts = rw (k.names, k.texts) f.texts;
      }

  cut-world : (id : ℕ → ℕ) → world_at c' id ≡ world_at c id
  cut-world id = world_same (world_at c' id) (world_at c id) (λ x. refl) (λ x. rw k.star refl) (λ x. rw k.ident refl) (λ x. rw k.hushed refl) (λ v. rw k.rows refl) (λ v. rw k.texts refl) k.warns

  cut-holds : {id : ℕ → ℕ} {w : Walk} {u : Both} → Holds id c w u → Holds id c' w u
  cut-holds h =
      record {
        visible = h.visible;
        cur = h.cur;
        last = h.last;
        log = rw k.wants h.log;
        kinds = h.kinds;
        olds = h.olds;
        counts = h.counts;
        uses = rw (k.names, k.uses) h.uses;
      }

  cut-held : {id : ℕ → ℕ} {w : Walk} {u : Both} → Holds id c' w u → Holds id c w u
  cut-held h =
      record {
        visible = h.visible;
        cur = h.cur;
        last = h.last;
        log = rw k.wants at h.log;
        kinds = h.kinds;
        olds = h.olds;
        counts = h.counts;
        uses = rw (k.names, k.uses) at h.uses;
      }

-- what fits goes by the names and by how many words there are
fit-alike : {c c' : Context} {w : Walk} → memory.names_in c' ≡ memory.names_in c → c'.texts ≡ c.texts → words_in c' ≡ words_in c → Fit 0 c w → Fit 0 c' w
fit-alike a t b f =
    record {
      listed = rw a f.listed;
      heads = f.heads;
      numbered = f.numbered;
      right = rw t f.right;
      below = f.below;
      sound = f.sound;
      descends = f.descends;
      cur = f.cur;
      last = f.last;
      count = f.count;
      stack = f.stack;
      rowless = f.rowless;
      olds = f.olds;
      needs = f.needs;
      within = rw b f.within;
      names = rw b f.names;
      binders = rw b f.binders;
      room = rw b f.room;
    }

fits-to : {to : ℕ} {c c' : Context} {w : Walk} → CutTo to c c' → Fit 0 c' w → FitTo to c w
fits-to k f c'' j = fit-alike (j.names ∙ sym k.names) (j.texts ∙ sym k.texts) (j.words ∙ sym k.words) f

-- ---- what is walked
-- what is used up leaves nothing
used-up : {A : Type 0} (g : Got A) {a : A} → used_up g ≡ accepted a → g ≡ ok a []
used-up (ok b []) e = cc
used-up (ok b (w ∷ ws)) e = never (cc)
used-up (no c) e = never (cc)

module _ {c c' : Context} {w : Walk} {carried carried' : List ℕ} {from to : ℕ} {G : Goer} {W : Walker} (k : CutTo to c c') (st : Standing from to c w) (tie : (id : ℕ → ℕ) (u : Both) → used_up (G id u (drop from (words_in c'))) ≡ W id u)
    (tk : Takes c' w carried carried' G) where
  -- the section is what is left of its words
  from-here : (id : ℕ → ℕ) (u : Both) → W id u ≡ used_up (G id u (rest_in c' w))
  from-here id u = rw st.at (sym (tie id u))

  -- it carries what the walk carries
  takes_all : TakesAll c w carried carried' W
  takes_all id u v old h e x =
      tk.takes id u v [] old (cut-holds k h) (used-up (G id u (rest_in c' w)) (sym (from-here id u) ∙ e)) x

  module _ (long : to ≤ length (words_in c)) {w' : Walk} where
    walks : {q r : Result (Unit {0}) Refusal} → Passes 0 c' w w' G q → DoneAs c to w w' W r → Walks c to w carried w' carried' W r
    walks x d = record { still = x.still; lent = tk.kept; done = d; takes = takes_all }

    -- the cause that stopped the walk
    pub walks-no : {e : Refusal} → Passes 0 c' w w' G (Err e) → Walks c to w carried w' carried' W (Err e)
    walks-no x = walks x (λ id u h. from-here id u ∙ ap used_up (x.passes.same id u (cut-holds k h)))

    pub walks-fell : {e : Refusal} (r : Result (Unit {0}) Refusal) → Passes 0 c' w w' G (Err e) → IsErr r × IsErrAnd r (λ y. y ≡ e) → Walks c to w carried w' carried' W r
    walks-fell (Err y) x q = rw q.1 (walks-no x)
    walks-fell (Ok u) x q = absurd q.1

    module _ {a : Unit {0}} (x : Passes 0 c' w w' G (Ok a)) where
      -- a word is left over
      walks-left : w'.at < to → Walks c to w carried w' carried' W (Err Word)
      walks-left h =
          walks x
          (λ id u y.
          let l : w'.at < length (words_in c') = omega (arith, cut-long k long) in
          from-here id u ∙ ap used_up (x.passes.goes id u (cut-holds k y)).same ∙ rw (drop-word (words_in c') w'.at l))

      -- the section was walked to its end
      walks-end : {b : Unit {0}} → to ≤ w'.at → Walks c to w carried w' carried' W (Ok b)
      walks-end h =
          let f : Fit 0 c' w' = x.passes.fit 0 (st.fit c' k) in
          walks x
          (record {
            stands = record { at = omega (arith, f.within, cut-long k long); fit = fits-to k f };
            goes = λ id u y.
                let z = x.passes.goes id u (cut-holds k y) in
                let l : length (words_in c') ≤ w'.at = omega (arith, cut-long k long) in
                record { state = z.state; holds = cut-held k z.holds; same = from-here id u ∙ ap used_up z.same ∙ rw (drop-none (words_in c') w'.at l) };
          })

      -- whether the end is reached is the answer
      pub walks-to : (r : Result (Unit {0}) Refusal) → sheet_of r ≡ reached w'.at to → Walks c to w carried w' carried' W r
      walks-to r e = go r (ltb w'.at to) refl e
        where
          go : (r : Result (Unit {0}) Refusal) (b : Bool) → ltb w'.at to ≡ b → sheet_of r ≡ unless 5 (not b) (accepted tt) → Walks c to w carried w' carried' W r
          go (Ok u) true h e = never (cc)
          go (Ok u) false h e = walks-end (omega (arith, ltb-false w'.at to h))
          go (Err y) true h e = rw (same_cause y Word (cc)) (walks-left (ltb-true w'.at to h))
          go (Err y) false h e = never (cc)

-- ---- the sections of a sheet
module _ {p : Places} {c : Context} (h : Set p c) where
  -- their ends are within the words
  pub tail-long : p.tail ≤ length (words_in c)
  tail-long = omega (arith, h.places.tail, h.places.trailer, length-words c.section.bytes.now)

  pub trailer-long : p.trailer ≤ length (words_in c)
  trailer-long = omega (arith, h.places.trailer, length-words c.section.bytes.now)

  pub head-is : {c' : Context} → CutTo p.tail c c' → (id : ℕ → ℕ) (u : Both) → used_up (clauses_at c' both_walks p.clauses id u (drop p.head (words_in c'))) ≡ head_in p c id u
  unfolding head_go
  head-is k id u = rw (cut-world k id, k.words, k.names, h.names)

  pub arms-are : {c' : Context} → CutTo p.trailer c c' → (id : ℕ → ℕ) (u : Both) → used_up (arms_at c' both_walks p.arms id u (drop p.tail (words_in c'))) ≡ arms_in p c id u
  unfolding arms_go
  arms-are k id u = rw (cut-world k id, k.words, k.names, h.names)

  -- what the walks ask of a section up to the word `to`
  module _ {to : ℕ} {c' : Context} (k : CutTo to c c') (below : to ≤ p.trailer) where
    inside : to ≤ length (words_in c)
    inside = omega (arith, below, trailer-long)

    ready-in : {w : Walk} {from : ℕ} → Standing from to c w → Ready 0 c' w
    ready-in st = record { fine = cut-fine k inside h.fine; fit = st.fit c' k }

    held-in : {held marks : List ℕ} (mode : fused.Mode) → mode.resolves ≡ true → Lent p c held marks → Held c' held mode
    held-in mode r x = record { room = omega (arith, x.pairs, inside, cut-long k inside); resolves = r; unhushed = λ y. rw k.hushed (h.unhushed y) }

    clear-in : {held marks : List ℕ} → Lent p c held marks → Clear c' marks
    clear-in x = record { room = rw k.names x.clear.room; clear = x.clear.clear }

    pub asks-in : {held marks : List ℕ} {w : Walk} {from : ℕ} (mode : fused.Mode) → mode.resolves ≡ true → Lent p c held marks → Standing from to c w → (Held c' held mode × Clear c' marks) × Ready 0 c' w
    asks-in mode r x st = ((held-in mode r x, clear-in x), ready-in st)

-- the end of a section is the beginning of the next
pub stands_on : {p : Places} {c : Context} {w₀ w : Walk} → Beginning p c w₀ → Lasting w₀ w → Standing p.tail p.tail c w → Standing p.tail p.trailer c w
stands_on {p} {c} {w = w} b y st =
    let f = st.fit (cut_to p.tail c) (is-cut p.tail c) in
    let h = b.set in
    let same = ap (λ (n : ℕ). n / 2) y.rowless.slots in
    record {
      at = st.at;
      fit = λ c' k.
          let l = cut-long k (trailer-long h) in
          let t = trailer-long h in
          record {
            listed = f.listed ∙ sym k.names;
            heads = f.heads;
            numbered = f.numbered;
            right = rw k.texts f.right;
            below = f.below;
            sound = f.sound;
            descends = f.descends;
            cur = f.cur;
            last = f.last;
            count = f.count;
            stack = f.stack;
            rowless = f.rowless;
            olds = f.olds;
            needs = f.needs;
            within = omega (arith, st.at, l, h.places.tail);
            names = omega (arith, b.names, y.seen, same, l, t);
            binders = omega (arith, b.binders, same, l, t);
            room = omega (arith, b.room, y.wrote, l, h.places.trailer, length-words c.section.bytes.now);
          };
    }
