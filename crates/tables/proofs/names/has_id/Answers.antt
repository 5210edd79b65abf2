-- Each id that is looked at is the one that is sought, or it is not and those that are left say.
use Rattle.std.proofs.Common.{◌≡◌, ℕ, Bool, true, false, ◌||◌, ◌+◌, ◌<◌, List, drop, get_or, length, cond, eqb, refl, sym, ◌∙◌, arith}
use Rattle.std.proofs.lemmas.Bool.Decides.{nat_tests}
use Rattle.heads.specs.Answer.{is_in}
use Rattle.words.proofs.Words.{drop-word, drop-none}
use Rattle.tables.proofs.names.has_id.Goals as goal

turn : (h : Bool) (x v : ℕ) (r : Bool) → (h || cond (eqb v x) true r) ≡ ((h || eqb x v) || r)
turn true x v r = refl
turn false x v r = grind (arith, nat_tests)

step : (ids : List ℕ) (i v : ℕ) (h : Bool) → i < length ids → (h || is_in v (drop i ids)) ≡ ((h || eqb (get_or ids i 0) v) || is_in v (drop (i + 1) ids))
unfolding is_in
step ids i v h l = rw (drop-word ids i l) (turn h (get_or ids i 0) v _)

or-none : (h : Bool) → (h || false) ≡ h
or-none true = refl
or-none false = refl

pub loop-other-init : goal.loop-other-init
loop-other-init c = refl

pub loop-other-preserved : goal.loop-other-preserved
loop-other-preserved c = c.loop-other.invariant ∙ step _ _ _ _ c.loop-other-test.true

pub returns : goal.returns
unfolding is_in
returns c = sym (c.loop-other.invariant ∙ rw (drop-none c.args.ids.now c.loop-other.other-index c.loop-other-test.false) (or-none _))
