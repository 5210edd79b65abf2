-- The machine makes a written text's entries: the tokens of an operand, run above a stack of looser operators, leave the operand's own waiting
-- operators on the stack, and unwinding these gives the operand's entries before what was there.
use Prim.Native.Nat.{ℕ, suc, ◌+◌, ◌*◌, ◌<◌, ◌≤◌}
use native.Mathlib.Omega.{arith}
use mathlib.Core.Path.{◌≡◌, refl, ap, ◌∙◌}
use mathlib.Core.List.{List, [], ◌∷◌, ◌++◌, append_assoc}
use borrow.Author.Tests.{lt-ltb, le-ltb}
use Rattle.condition.specs.Cond.{Cond, unary, binary, binary_level, unary_level, left_level, entries}
use Rattle.condition.specs.Written.{Written, an-atom, a-unary, a-binary, in-brackets}
use Rattle.condition.specs.Tokens.{Tok, open', close', number, un, bin}
use Rattle.condition.specs.Machine.{Stack, empty, waits, Work, work, unwind, rank_of, run, count_of}
use lib.ListN.{length, length-append}
use Rattle.condition.proofs.Levels.{binary-high, left-high, unary-high, left-low, apart}

-- the tokens of a text, from the last to the first, before others
unfoldable pub toks : {m : ℕ} {s : List ℕ} {t : Cond} → Written m s t → List Tok → List Tok
toks (an-atom n h) ts = number n ∷ ts
toks (a-unary o h le w) ts = toks w (un o ∷ ts)
toks (a-binary o h le v w) ts = toks w (bin o ∷ toks v ts)
toks (in-brackets w) ts = close' ∷ toks w (open' ∷ ts)

-- one stack on another
unfoldable pub onto : Stack → Stack → Stack
onto empty st = st
onto (waits k o p) st = waits k o (onto p st)

-- every operator of a stack as an entry
unfoldable pub pops : Stack → List ℕ → List ℕ
pops empty out = out
pops (waits k o p) out = pops p (15 ∷ o ∷ out)

-- every rank of a stack is above a limit; its first is not
unfoldable pub Above : ℕ → Stack → Type 0
Above limit empty = Unit {0}
Above limit (waits k o p) = (limit < k) × Above limit p

unfoldable pub Below : ℕ → Stack → Type 0
Below limit empty = Unit {0}
Below limit (waits k o p) = k ≤ limit

unwind-stop : (limit : ℕ) (st : Stack) (out : List ℕ) → Below limit st → unwind limit st out ≡ work st out
unfolding unwind Below
unwind-stop limit empty out b = refl
unwind-stop limit (waits k o st) out b = rw (le-ltb limit k b)

unwind-all : (limit : ℕ) (p st : Stack) (out : List ℕ) → Above limit p → Below limit st → unwind limit (onto p st) out ≡ work st (pops p out)
unfolding unwind Above onto pops
unwind-all limit empty st out a b = unwind-stop limit st out b
unwind-all limit (waits k o p) st out a b = rw (lt-ltb limit k a.0) (unwind-all limit p st (15 ∷ o ∷ out) a.1 b)

-- a stack of operators of at least this level, within so many brackets
unfoldable pub Ranked : ℕ → ℕ → Stack → Type 0
Ranked d m empty = Unit {0}
Ranked d m (waits k o p) = (k ≡ rank_of d (binary_level o)) × ((o < 20) × ((m ≤ binary_level o) × Ranked d m p))

ranked-above : (limit d m : ℕ) (p : Stack) → limit ≤ d * 10 + m → Ranked d m p → Above limit p
unfolding Above Ranked
ranked-above limit d m empty le h = tt
ranked-above limit d m (waits k o p) le h = (omega arith, ranked-above limit d m p le h.1.1.1)

ranked-unary : (u d : ℕ) (p : Stack) → u < 2 → Ranked d (unary_level u) p → Above (rank_of d (unary_level u)) p
unfolding Above Ranked
ranked-unary u d empty lt h = tt
ranked-unary u d (waits k o p) lt h = (omega (arith, apart u o lt h.1.0 h.1.1.0), ranked-unary u d p lt h.1.1.1)

ranked-less : (d a b : ℕ) (p : Stack) → b ≤ a → Ranked d a p → Ranked d b p
unfolding Ranked
ranked-less d a b empty le h = tt
ranked-less d a b (waits k o p) le h = (h.0, (h.1.0, (omega arith, ranked-less d a b p le h.1.1.1)))

below_more : (a b : ℕ) (st : Stack) → a ≤ b → Below a st → Below b st
unfolding Below
below_more a b empty le h = tt
below_more a b (waits k o p) le h = omega arith

-- one more below
under : Stack → ℕ → ℕ → Stack
under p k o = onto p (waits k o empty)

onto_under : (p st : Stack) (k o : ℕ) → onto p (waits k o st) ≡ onto (under p k o) st
unfolding onto under
onto_under empty st k o = refl
onto_under (waits j q p) st k o = ap (waits j q) (onto_under p st k o)

pops-under : (p : Stack) (k o : ℕ) (out : List ℕ) → pops (under p k o) out ≡ 15 ∷ o ∷ pops p out
unfolding onto pops under
pops-under empty k o out = refl
pops-under (waits j q p) k o out = pops-under p k o (15 ∷ q ∷ out)

ranked-under : (d m : ℕ) (p : Stack) (o : ℕ) → o < 20 → m ≤ binary_level o → Ranked d m p → Ranked d m (under p (rank_of d (binary_level o)) o)
unfolding onto Ranked under
ranked-under d m empty o h le a = (refl, (h, (le, tt)))
ranked-under d m (waits j q p) o h le a = (a.0, (a.1.0, (a.1.1.0, ranked-under d m p o h le a.1.1.1)))

-- where the tokens of an operand lead
pub record Leads (m : ℕ) (t : Cond) (ts rest : List Tok) (d : ℕ) (st : Stack) (out : List ℕ) : Type 0 where
  pub waiting : Stack
  pub made : List ℕ
  pub same : run ts d (work st out) ≡ run rest d (work (onto waiting st) made)
  pub ranked : Ranked d m waiting
  pub done : pops waiting made ≡ entries t ++ out

module _ {m : ℕ} {ts rest : List Tok} {d : ℕ} {st : Stack} {out : List ℕ} (b : Below (d * 10 + m + 1) st) where
  leads-unary : {x : Cond} (o : ℕ) → o < 2 → m ≤ unary_level o → Leads (unary_level o) x ts (un o ∷ rest) d st out → Leads m (unary o x) ts rest d st out
  unfolding run onto pops Ranked entries
  leads-unary {x} o h le i =
      let u = unwind-all (rank_of d (unary_level o)) i.waiting st i.made (ranked-unary o d i.waiting h i.ranked) (below_more (d * 10 + m + 1) (rank_of d (unary_level o)) st (omega arith) b) in
      record { waiting = empty; made = 16 ∷ o ∷ (entries x ++ out); same = i.same ∙ rw (u, i.done); ranked = tt; done = refl }

  leads-binary : {l r : Cond} {mid : List Tok} (o : ℕ) → o < 20 → m ≤ binary_level o → Leads (suc (binary_level o)) r ts (bin o ∷ mid) d st out → ((st' : Stack) (out' : List ℕ) → Below (d * 10 + left_level o + 1) st' → Leads (left_level o) l mid rest d st' out') → Leads m (binary o l r) ts rest d st out
  unfolding run entries Below
  leads-binary {l} {r} o h le i k =
      let n = rank_of d (binary_level o) in
      let u = unwind-all n i.waiting st i.made (ranked-above n d (suc (binary_level o)) i.waiting (omega arith) i.ranked) (below_more (d * 10 + m + 1) n st (omega arith) b) in
      let j = k (waits n o st) (entries r ++ out) (omega (arith, left-low o h)) in
      record {
        waiting = under j.waiting n o;
        made = j.made;
        same = i.same ∙ (rw (u, i.done) (j.same ∙ rw (onto_under j.waiting st n o)));
        ranked = ranked-under d m j.waiting o h le (ranked-less d (left_level o) m j.waiting (omega (arith, left-low o h)) j.ranked);
        done = rw (pops-under, j.done, append_assoc);
      }

  leads-bracket : {t : Cond} → m ≤ 9 → Leads 0 t ts (open' ∷ rest) (suc d) st out → Leads m t (close' ∷ ts) rest d st out
  unfolding run onto pops Ranked
  leads-bracket {t} le i =
      let u = unwind-all (suc d * 10) i.waiting st i.made (ranked-above (suc d * 10) (suc d) 0 i.waiting (omega arith) i.ranked) (below_more (d * 10 + m + 1) (suc d * 10) st (omega arith) b) in
      record { waiting = empty; made = entries t ++ out; same = i.same ∙ rw (u, i.done); ranked = tt; done = refl }

pub leads : {m : ℕ} {s : List ℕ} {t : Cond} (w : Written m s t) (rest : List Tok) (d : ℕ) (st : Stack) (out : List ℕ) → m ≤ 9 → Below (d * 10 + m + 1) st → Leads m t (toks w rest) rest d st out
unfolding toks run onto pops Ranked entries
leads (an-atom n h) rest d st out hi b = record { waiting = empty; made = 0 ∷ n ∷ out; same = refl; ranked = tt; done = refl }
leads {m} (a-unary o h le w) rest d st out hi b =
    leads-unary b o h le (leads w (un o ∷ rest) d st out (unary-high o h) (below_more (d * 10 + m + 1) (d * 10 + unary_level o + 1) st (omega arith) b))
leads {m} (a-binary o h le v w) rest d st out hi b =
    leads-binary b o h le (leads w (bin o ∷ toks v rest) d st out (omega (arith, binary-high o h)) (below_more (d * 10 + m + 1) (d * 10 + suc (binary_level o) + 1) st (omega arith) b)) (λ st' out' b'. leads v rest d st' out' (omega (arith, left-high o h)) b')
leads {m} (in-brackets w) rest d st out hi b =
    leads-bracket b hi (leads w (open' ∷ rest) (suc d) st out (omega arith) (below_more (d * 10 + m + 1) (suc d * 10 + 0 + 1) st (omega arith) b))

-- the machine makes a whole text's entries, before what was there
pub runs : {s : List ℕ} {t : Cond} (w : Written 0 s t) (tail : List ℕ) → run (toks w []) 0 (work empty tail) ≡ entries t ++ tail
unfolding run Below
runs {t = t} w tail =
    let i = leads w [] 0 empty tail (omega arith) tt in
    let u = unwind-all 0 i.waiting empty i.made (ranked-above 0 0 0 i.waiting (omega arith) i.ranked) tt in
    i.same ∙ (ap (λ (v : Work). v.out) u ∙ i.done)

counted : {m : ℕ} {s : List ℕ} {t : Cond} (w : Written m s t) (ts : List Tok) → length (entries t) + count_of ts * 2 ≡ count_of (toks w ts) * 2
unfolding toks count_of entries
counted (an-atom n h) ts = omega arith
counted (a-unary o h le w) ts = omega (arith, counted w (un o ∷ ts))
counted (a-binary {l = l} {r = r} o h le v w) ts = omega (arith, counted w (bin o ∷ toks v ts), counted v ts, length-append (entries l) (entries r))
counted (in-brackets w) ts = omega (arith, counted w (open' ∷ ts))

-- and there are two words for each atom and operator
pub count-of : {s : List ℕ} {t : Cond} (w : Written 0 s t) → length (entries t) ≡ count_of (toks w []) * 2
unfolding count_of
count-of w = omega (arith, counted w [])
