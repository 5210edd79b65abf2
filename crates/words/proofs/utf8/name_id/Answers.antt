-- A byte that is left goes first; where a byte may not stand, no rest is well-formed. The hash goes along.
use Rattle.std.proofs.Common.{◌≡◌, ℕ, zero, suc, ◌+◌, ◌<◌, ◌≤◌, length, get_or, drop, false, List, [], ◌∷◌, eqb, refl, ◌∙◌, arith}
use Rattle.std.proofs.Math.Option.{Option, none, some}
use Rattle.std.proofs.lemmas.Bool.Decides.{nat_tests}
use borrow.Author.Tests.{eq-eqb, ne_eqb}
use Rattle.words.specs.Fnv.{fnv_step, fnv_from, fnv1_of, use_id}
use Rattle.words.specs.Utf8.{Range, after, goes_on, is_utf8, ranges, step}
use Rattle.words.proofs.Words.{drop-word, drop-none}
use Rattle.words.proofs.utf8.name_id.Goals as goal

turn : (s : List ℕ) (i : ℕ) (later : List Range) (o : Option (List Range)) → i < length s → o ≡ step later (get_or s i 0) → goes_on (drop i s) (some later) ≡ goes_on (drop (i + 1) s) o
unfolding goes_on
turn s i later o h e = rw (drop-word s i h, e)

hashed : (s : List ℕ) (i h k : ℕ) → i < length s → k ≡ fnv_step h (get_or s i 0) → fnv_from h (drop i s) ≡ fnv_from k (drop (i + 1) s)
unfolding fnv_from
hashed s i h k l e = rw (drop-word s i l, e)

never : (s : List ℕ) → goes_on s none ≡ false
unfolding goes_on
never [] = refl
never (b ∷ s) = refl

over : (n lo hi : ℕ) → goes_on [] (some (ranges n lo hi)) ≡ eqb n 0
unfolding goes_on
over zero lo hi = refl
over (suc n) lo hi = grind arith

pub loop-b-init : goal.loop-b-init
unfolding is_utf8 fnv1_of
loop-b-init c = (refl, refl)

pub returns-in_default : goal.returns-in_default
returns-in_default c =
    rw (c.loop-b.invariant.0 ∙ turn _ _ _ _ c.loop-b-test.true c.in_default.ensures ∙ never _)

alone : (n lo hi b : ℕ) → n ≡ 0 → b < 128 → some (ranges n lo hi) ≡ step (ranges n lo hi) b
unfolding step after
alone zero lo hi b e h = grind (arith, nat_tests)
alone (suc n) lo hi b e h = absurd (omega arith)

pub loop-b-preserved-then-p-eq0 : goal.loop-b-preserved-then-p-eq0
loop-b-preserved-then-p-eq0 c =
    (c.loop-b.invariant.0 ∙ turn _ _ _ _ c.loop-b-test.true (alone _ _ _ _ (omega arith) (omega arith)), c.loop-b.invariant.1 ∙ hashed _ _ _ _ c.loop-b-test.true c.fnv_step-hash.ensures)

pub loop-b-preserved : goal.loop-b-preserved
loop-b-preserved c =
    (c.loop-b.invariant.0 ∙ turn _ _ _ _ c.loop-b-test.true c.in-Some.ensures, c.loop-b.invariant.1 ∙ hashed _ _ _ _ c.loop-b-test.true c.fnv_step-hash.ensures)

-- at the end
told : (s : List ℕ) (i n lo hi h : ℕ) → length s ≤ i → is_utf8 s ≡ goes_on (drop i s) (some (ranges n lo hi)) → fnv1_of s ≡ fnv_from h (drop i s) → (is_utf8 s ≡ eqb n 0) × (fnv1_of s ≡ h)
unfolding fnv_from
told s i n lo hi h l e f = ((rw (drop-none s i l) at e) ∙ over n lo hi, rw (drop-none s i l) at f)

pub returns-then-p-eq0-2 : goal.returns-then-p-eq0-2
unfolding use_id
returns-then-p-eq0-2 c =
    let l = c.loop-b in
    let z = told c.args.s.now l.b-index l.p.left l.p.lo l.p.hi l.hash c.loop-b-test.false l.invariant.0 l.invariant.1 in
    rw (z.0, z.1, eq-eqb _ _ c.if-p-eq0-2.true, c.id_of.ensures) refl

pub returns-else-p-eq0-2 : goal.returns-else-p-eq0-2
returns-else-p-eq0-2 c =
    let l = c.loop-b in
    let z = told c.args.s.now l.b-index l.p.left l.p.lo l.p.hi l.hash c.loop-b-test.false l.invariant.0 l.invariant.1 in
    rw (z.0, ne_eqb _ _ c.if-p-eq0-2.false) refl
