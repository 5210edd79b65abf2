-- Passes that look at every level together tell what the judge does.
use Prim.Native.Nat.{ℕ, suc, pred, max, ◌+◌, ◌-◌, ◌<◌, ◌≤◌}
use native.Mathlib.Omega.{arith}
use mathlib.Core.Path.{◌≡◌, refl, sym, ◌∙◌}
use mathlib.Core.Logic.{◌⊎◌, inl, inr}
use mathlib.Core.Bool.{Bool, true, false, not, ◌&&◌, false≢true}
use mathlib.Core.List.{List, [], ◌∷◌}
use lib.Dec.{eqb, ltb}
use lib.ListN.{length}
use borrow.Author.Tests.{lt-ltb, ltb-true, ltb-false, le-leb}
use Rattle.condition.specs.Cond.{binary_level}
use Rattle.condition.specs.Tokens.{Tok, open', close', bad, number, un, bin}
use Rattle.condition.specs.Judge.{is_wanted, is_there, unary_mode, may_join, flag_after, judge}
use Rattle.condition.specs.declared.Mode.{Mode}
use Rattle.condition.specs.declared.Mode.TheVariants as mode
use Rattle.condition.proofs.Tables.{both}
use Rattle.condition_reader.specs.Pass.{judge_in, peak}
use Rattle.condition_reader.specs.Window.{window}

pair : (a b : Bool) → a ≡ true → b ≡ true → (a && b) ≡ true
pair a b p q = rw (p, q)

-- two levels of a test for a row
split : (W X U : ℕ → Bool) (d : ℕ) (c f : Bool) → (U d ≡ true → (W d ≡ true) ⊎ (X d ≡ true)) → not (c && (W d && f)) ≡ true → not (c && (X d && f)) ≡ true → not (c && (U d && f)) ≡ true
split W X U d false f h a b = refl
split W X U d true false h a b = go (U d)
  where
    go : (u : Bool) → not (u && false) ≡ true
    go true = refl
    go false = refl
split W X U d true true h a b = go (U d) refl
  where
    up : (w v : Bool) → W d ≡ w → X d ≡ v → not (W d && true) ≡ true → not (X d && true) ≡ true → (W d ≡ true) ⊎ (X d ≡ true) → ⊥
    up w v x y a b (inl e) = let z : ◌≡◌ {A = Bool} false true = rw e at a in false≢true z
    up w v x y a b (inr e) = let z : ◌≡◌ {A = Bool} false true = rw e at b in false≢true z

    go : (u : Bool) → U d ≡ u → not (u && true) ≡ true
    go false e = refl
    go true e = absurd (up (W d) (X d) refl refl a b (h e))

-- what two passes take, a pass takes that looks at no level but theirs
pub cover : (W X U : ℕ → Bool) → ((d : ℕ) → U d ≡ true → (W d ≡ true) ⊎ (X d ≡ true)) → (ts : List Tok) (m : Mode) (f : Bool) (fs : List Bool) → judge_in W ts m f fs ≡ true → judge_in X ts m f fs ≡ true → judge_in U ts m f fs ≡ true
unfolding judge_in
cover W X U h [] m f [] a b = a
cover W X U h [] m f (g ∷ fs) a b = a
cover W X U h (open' ∷ ts) m f [] a b = a
cover W X U h (open' ∷ ts) m f (g ∷ fs) a b =
    let x = both (is_there m) _ a in
    pair (is_there m) _ x.0 (cover W X U h ts mode.There g fs x.1 (both (is_there m) _ b).1)
cover W X U h (close' ∷ ts) m f fs a b =
    let x = both (is_wanted m) _ a in
    pair (is_wanted m) _ x.0 (cover W X U h ts mode.Wanted false (f ∷ fs) x.1 (both (is_wanted m) _ b).1)
cover W X U h (bad ∷ ts) m f fs a b = a
cover W X U h (number n ∷ ts) m f fs a b =
    let x = both (is_wanted m) _ a in
    pair (is_wanted m) _ x.0 (cover W X U h ts mode.There f fs x.1 (both (is_wanted m) _ b).1)
cover W X U h (un o ∷ ts) m f fs a b =
    let x = both (is_there (unary_mode m o)) _ a in
    pair (is_there (unary_mode m o)) _ x.0 (cover W X U h ts (unary_mode m o) f fs x.1 (both (is_there (unary_mode m o)) _ b).1)
cover W X U h (bin o ∷ ts) m f fs a b =
    let l = binary_level o in
    let x = both (may_join m l) _ a in
    let y = both (not (eqb l 4 && (W (length fs) && f))) _ x.1 in
    let z = both (not (eqb l 4 && (X (length fs) && f))) _ (both (may_join m l) _ b).1 in
    pair (may_join m l) _ x.0
    (pair (not (eqb l 4 && (U (length fs) && f))) _ (split W X U (length fs) (eqb l 4) f (h (length fs)) y.0 z.0) (cover W X U h ts mode.Wanted (flag_after l f) fs y.1 z.1))

-- the judge looks at every level
abbrev pub every : ℕ → Bool
every d = true

pub judge-every : (ts : List Tok) (m : Mode) (f : Bool) (fs : List Bool) → judge_in every ts m f fs ≡ judge ts m f fs
unfolding judge_in judge
judge-every [] m f [] = refl
judge-every [] m f (g ∷ fs) = refl
judge-every (open' ∷ ts) m f [] = refl
judge-every (open' ∷ ts) m f (g ∷ fs) = rw (judge-every ts mode.There g fs)
judge-every (close' ∷ ts) m f fs = rw (judge-every ts mode.Wanted false (f ∷ fs))
judge-every (bad ∷ ts) m f fs = refl
judge-every (number n ∷ ts) m f fs = rw (judge-every ts mode.There f fs)
judge-every (un o ∷ ts) m f fs = rw (judge-every ts (unary_mode m o) f fs)
judge-every (bin o ∷ ts) m f fs = rw (judge-every ts mode.Wanted (flag_after (binary_level o) f) fs)

-- the levels below a bound
abbrev pub below : ℕ → ℕ → Bool
below n d = ltb d n

pub reject : (W : ℕ → Bool) (ts : List Tok) (m : Mode) (f : Bool) (fs : List Bool) → judge_in W ts m f fs ≡ false → judge ts m f fs ≡ false
reject W ts m f fs e = go (judge ts m f fs) refl
  where
    go : (b : Bool) → judge ts m f fs ≡ b → b ≡ false
    go false x = refl
    go true x = let t = judge-every ts m f fs ∙ x in absurd (false≢true (sym e ∙ cover every every W (λ d h. inl refl) ts m f fs t t))

-- one window more
pub widen : (low : ℕ) (ts : List Tok) (m : Mode) (f : Bool) (fs : List Bool) → judge_in (below low) ts m f fs ≡ true → judge_in (window low) ts m f fs ≡ true → judge_in (below (low + 524288)) ts m f fs ≡ true
widen low ts m f fs a b = cover (below low) (window low) (below (low + 524288)) side ts m f fs a b
  where
    side : (d : ℕ) → ltb d (low + 524288) ≡ true → (ltb d low ≡ true) ⊎ (window low d ≡ true)
    side d e = go (ltb d low) refl
      where
        go : (c : Bool) → ltb d low ≡ c → (c ≡ true) ⊎ (window low d ≡ true)
        go true x = inl refl
        go false x =
            let u = ltb-true d (low + 524288) e in
            let v = ltb-false d low x in
            inr (rw (le-leb low d v, lt-ltb (d - low) 524288 (omega arith)))

pub begin : (ts : List Tok) (m : Mode) (f : Bool) (fs : List Bool) → judge_in (window 0) ts m f fs ≡ true → judge_in (below 0) ts m f fs ≡ true
begin ts m f fs a = cover (window 0) (window 0) (below 0) (λ d e. absurd (omega (arith, ltb-true d 0 e))) ts m f fs a a

peak-ge : (ts : List Tok) (d b : ℕ) → b ≤ peak ts d b
unfolding peak
peak-ge [] d b = omega arith
peak-ge (open' ∷ ts) d b = peak-ge ts (pred d) b
peak-ge (close' ∷ ts) d b = omega (arith, peak-ge ts (suc d) (max b (suc d)))
peak-ge (bad ∷ ts) d b = peak-ge ts d b
peak-ge (number n ∷ ts) d b = peak-ge ts d b
peak-ge (un o ∷ ts) d b = peak-ge ts d b
peak-ge (bin o ∷ ts) d b = peak-ge ts d b

pub peak-max : (ts : List Tok) (d b c : ℕ) → peak ts d (max b c) ≡ max b (peak ts d c)
unfolding peak
peak-max [] d b c = refl
peak-max (open' ∷ ts) d b c = peak-max ts (pred d) b c
peak-max (close' ∷ ts) d b c =
    let e : max (max b c) (suc d) ≡ max b (max c (suc d)) = omega arith in
    rw e (peak-max ts (suc d) b (max c (suc d)))
peak-max (bad ∷ ts) d b c = peak-max ts d b c
peak-max (number n ∷ ts) d b c = peak-max ts d b c
peak-max (un o ∷ ts) d b c = peak-max ts d b c
peak-max (bin o ∷ ts) d b c = peak-max ts d b c

-- a pass that looks at every level that there is looks at all
pub enough : (N : ℕ) (ts : List Tok) (m : Mode) (f : Bool) (fs : List Bool) (b : ℕ) → length fs ≤ b → peak ts (length fs) b < N → judge_in (below N) ts m f fs ≡ true → judge_in every ts m f fs ≡ true
unfolding judge_in peak
enough N [] m f [] b le h a = a
enough N [] m f (g ∷ fs) b le h a = a
enough N (open' ∷ ts) m f [] b le h a = a
enough N (open' ∷ ts) m f (g ∷ fs) b le h a =
    let x = both (is_there m) _ a in pair (is_there m) _ x.0 (enough N ts mode.There g fs b (omega arith) h x.1)
enough N (close' ∷ ts) m f fs b le h a =
    let x = both (is_wanted m) _ a in pair (is_wanted m) _ x.0 (enough N ts mode.Wanted false (f ∷ fs) (max b (suc (length fs))) (omega arith) h x.1)
enough N (bad ∷ ts) m f fs b le h a = a
enough N (number n ∷ ts) m f fs b le h a =
    let x = both (is_wanted m) _ a in pair (is_wanted m) _ x.0 (enough N ts mode.There f fs b le h x.1)
enough N (un o ∷ ts) m f fs b le h a =
    let x = both (is_there (unary_mode m o)) _ a in pair (is_there (unary_mode m o)) _ x.0 (enough N ts (unary_mode m o) f fs b le h x.1)
enough N (bin o ∷ ts) m f fs b le h a =
    let l = binary_level o in
    let x = both (may_join m l) _ a in
    let y = both (not (eqb l 4 && (ltb (length fs) N && f))) _ x.1 in
    let k = lt-ltb (length fs) N (omega (arith, peak-ge ts (length fs) b)) in
    pair (may_join m l) _ x.0 (pair (not (eqb l 4 && f)) _ (rw k at y.0) (enough N ts mode.Wanted (flag_after l f) fs b le h y.1))
