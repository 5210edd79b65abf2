-- The judge takes every written text: the tokens of an operand lead from the mode that wants one to the mode that has it.
use Prim.Native.Nat.{ℕ, zero, suc, ◌<◌, ◌≤◌}
use native.Mathlib.Omega.{arith}
use mathlib.Core.Path.{◌≡◌, refl, ◌∙◌}
use mathlib.Core.Bool.{Bool, true, false, not, ◌&&◌}
use mathlib.Core.List.{List, [], ◌∷◌}
use lib.Dec.{eqb, ltb}
use borrow.Author.Tests.{lt-ltb, le-ltb, ltb-false, eqb-true, eqb-false, ne_eqb}
use Rattle.condition.specs.Cond.{Cond, binary_level, unary_level, left_level}
use Rattle.condition.specs.Written.{Written, an-atom, a-unary, a-binary, in-brackets}
use Rattle.condition.specs.Tokens.{Tok, open', un, bin, pick}
use Rattle.condition.specs.Judge.{is_there, unary_mode, may_join, flag_after, judge}
use Rattle.condition.specs.declared.Mode.{Mode}
use Rattle.condition.specs.declared.Mode.TheVariants as mode
use Rattle.condition.proofs.Levels.{left-low, left-level, apart}
use Rattle.condition.proofs.Entries.{toks}

-- the mode that a text leads to: whether it begins with NOT
unfoldable pub mode_of : {m : ℕ} {s : List ℕ} {t : Cond} → Written m s t → Mode
mode_of (an-atom n h) = mode.There
mode_of (a-unary o h le w) = pick (eqb o 1) mode.Negated mode.There
mode_of (a-binary o h le v w) = mode_of v
mode_of (in-brackets w) = mode.There

-- the flag after it
unfoldable pub flag_of : {m : ℕ} {s : List ℕ} {t : Cond} → Written m s t → Bool → Bool
flag_of (an-atom n h) f = f
flag_of (a-unary o h le w) f = flag_of w f
flag_of (a-binary o h le v w) f = flag_of v (flag_after (binary_level o) (flag_of w f))
flag_of (in-brackets w) f = f

-- a place of a tight level has no bare NOT
pub data Bare : ℕ → Mode → Type 0 where
  there : {m : ℕ} → Bare m mode.There
  negated : {m : ℕ} → m ≤ 3 → Bare m mode.Negated

bare-less : {a b : ℕ} {x : Mode} → b ≤ a → Bare a x → Bare b x
bare-less le there = there
bare-less {b = b} le (negated h) = let g : b ≤ 3 = omega arith in negated g

unary-two : (o : ℕ) → o < 2 → (eqb o 1 ≡ true) → unary_level o ≡ 3
unary-two o h e = rw (eqb-true o 1 e)

bare-unary : (m o : ℕ) (b : Bool) → eqb o 1 ≡ b → o < 2 → m ≤ unary_level o → Bare m (pick b mode.Negated mode.There)
bare-unary m o true e h le = let g : m ≤ 3 = omega (arith, unary-two o h e) in negated g
bare-unary m o false e h le = there

pub bare : {m : ℕ} {s : List ℕ} {t : Cond} (w : Written m s t) → Bare m (mode_of w)
unfolding mode_of
bare (an-atom n h) = there
bare {m} (a-unary o h le w) = bare-unary m o (eqb o 1) refl h le
bare {m} (a-binary o h le v w) = bare-less (omega (arith, left-low o h)) (bare v)
bare (in-brackets w) = there

tight-flag : (level : ℕ) (f : Bool) → 5 ≤ level → flag_after level f ≡ f
tight-flag level f le = rw (le-ltb level 3 (omega arith), ne_eqb level 4 (λ e. omega arith))

-- a place of a tight level has no bare comparison
pub same_flag : {m : ℕ} {s : List ℕ} {t : Cond} (w : Written m s t) (f : Bool) → 5 ≤ m → flag_of w f ≡ f
unfolding flag_of
same_flag (an-atom n h) f le = refl
same_flag (a-unary o h k w) f le = same_flag w f (omega arith)
same_flag (a-binary o h k v w) f le =
    rw (same_flag w f (omega arith), tight-flag (binary_level o) f (omega arith)) (same_flag v f (omega (arith, left-low o h)))
same_flag (in-brackets w) f le = refl

-- a flag that is up stands only in a tight place
abbrev Fits : ℕ → Bool → Type 0
Fits m true = 5 ≤ m
Fits m false = Unit {0}

fits_more : (a b : ℕ) (f : Bool) → a ≤ b → Fits a f → Fits b f
fits_more a b true le h = omega arith
fits_more a b false le h = tt

there-bare : {m : ℕ} {x : Mode} → Bare m x → is_there x ≡ true
there-bare there = refl
there-bare (negated h) = refl

is-not : (o : ℕ) → o < 2 → unary_level o ≤ 3 → o ≡ 1
is-not zero h le = absurd (omega arith)
is-not (suc zero) h le = refl
is-not (suc (suc o)) h le = absurd (omega arith)

unary-step : {o : ℕ} {x : Mode} → o < 2 → Bare (unary_level o) x → unary_mode x o ≡ pick (eqb o 1) mode.Negated mode.There
unary-step h there = refl
unary-step {o} h (negated le) = rw (is-not o h le)

join_step : {x : Mode} (level : ℕ) → Bare (suc level) x → may_join x level ≡ true
join_step level there = refl
join_step level (negated le) = lt-ltb level 3 le

-- the flag of a comparison's right operand is down
chain-step : (level : ℕ) (f : Bool) (g : Bool) → (5 ≤ suc level → g ≡ f) → Fits level f → not (eqb level 4 && g) ≡ true
chain-step level f g same h = go (eqb level 4) refl f g same h
  where
    go : (b : Bool) → eqb level 4 ≡ b → (f g : Bool) → (5 ≤ suc level → g ≡ f) → Fits level f → not (b && g) ≡ true
    go false e f g same h = refl
    go true e false g same h = rw (same (omega (arith, eqb-true level 4 e)))
    go true e true g same h = absurd (omega (arith, eqb-true level 4 e))

fits-high : (a : ℕ) (f : Bool) → 5 ≤ a → Fits a f
fits-high a true h = h
fits-high a false h = tt

-- the flag after an operator fits its left operand's place
left-fits : (o : ℕ) (f : Bool) → o < 20 → Fits (left_level o) (flag_after (binary_level o) f)
left-fits o f h = go (ltb (binary_level o) 3) (eqb (binary_level o) 4) refl refl (left-level o h)
  where
    go : (a b : Bool) → ltb (binary_level o) 3 ≡ a → eqb (binary_level o) 4 ≡ b → left_level o ≡ pick b 5 (binary_level o) → Fits (left_level o) (pick a false (pick b true f))
    go true b x y e = tt
    go false true x y e = omega arith
    go false false x y e =
        let n = ltb-false (binary_level o) 3 x in
        fits-high (left_level o) f (omega (arith, apart 1 o (omega arith) h n, eqb-false (binary_level o) 4 y))

there-pick : (b : Bool) → is_there (pick b mode.Negated mode.There) ≡ true
there-pick true = refl
there-pick false = refl

take-unary : {o : ℕ} {x : Mode} (ts : List Tok) (f : Bool) (fs : List Bool) → o < 2 → Bare (unary_level o) x → judge (un o ∷ ts) x f fs ≡ judge ts (pick (eqb o 1) mode.Negated mode.There) f fs
unfolding judge
take-unary {o} ts f fs h b = rw (unary-step h b, there-pick (eqb o 1))

take-binary : (o : ℕ) {x : Mode} (ts : List Tok) (f g : Bool) (fs : List Bool) → Bare (suc (binary_level o)) x → (5 ≤ suc (binary_level o) → g ≡ f) → Fits (binary_level o) f → judge (bin o ∷ ts) x g fs ≡ judge ts mode.Wanted (flag_after (binary_level o) g) fs
unfolding judge
take-binary o ts f g fs b same h = rw (join_step (binary_level o) b, chain-step (binary_level o) f g same h)

take_open : {x : Mode} {m : ℕ} (ts : List Tok) (g f : Bool) (fs : List Bool) → Bare m x → judge (open' ∷ ts) x g (f ∷ fs) ≡ judge ts mode.There f fs
unfolding judge
take_open ts g f fs b = rw (there-bare b)

pub takes : {m : ℕ} {s : List ℕ} {t : Cond} (w : Written m s t) (ts : List Tok) (f : Bool) (fs : List Bool) → Fits m f → judge (toks w ts) mode.Wanted f fs ≡ judge ts (mode_of w) (flag_of w f) fs
unfolding toks judge mode_of flag_of
takes (an-atom n h) ts f fs k = refl
takes {m} (a-unary o h le w) ts f fs k =
    takes w (un o ∷ ts) f fs (fits_more m (unary_level o) f le k) ∙ take-unary ts (flag_of w f) fs h (bare w)
takes {m} (a-binary o h le v w) ts f fs k =
    let same : 5 ≤ suc (binary_level o) → flag_of w f ≡ f = λ x. same_flag w f x in
    takes w (bin o ∷ toks v ts) f fs (fits_more m (suc (binary_level o)) f (omega arith) k)
    ∙ (take-binary o (toks v ts) f (flag_of w f) fs (bare w) same (fits_more m (binary_level o) f le k)
    ∙ takes v ts (flag_after (binary_level o) (flag_of w f)) fs (left-fits o (flag_of w f) h))
takes {m} (in-brackets w) ts f fs k = takes w (open' ∷ ts) false (f ∷ fs) tt ∙ take_open ts (flag_of w false) f fs (bare w)

-- the judge takes a whole text
pub taken : {s : List ℕ} {t : Cond} (w : Written 0 s t) → judge (toks w []) mode.Wanted false [] ≡ true
unfolding judge
taken w = takes w [] false [] tt ∙ there-bare (bare w)
