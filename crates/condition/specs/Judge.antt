-- Whether tokens, from the last to the first, are a condition's.
use Rattle.std.specs.Prelude.{ℕ, Bool, true, false, not, ◌&&◌, List, [], ◌∷◌, eqb, ltb}
use Rattle.condition.specs.Cond.{binary_level}
use Rattle.condition.specs.Tokens.{Tok, open', close', bad, number, un, bin, pick}
use Rattle.condition.specs.declared.Mode.{Mode}
use Rattle.condition.specs.declared.Mode.TheVariants as mode

-- an operand is wanted, or there is one
abbrev pub is_wanted : Mode → Bool
is_wanted mode.Wanted = true
is_wanted mode.There = false
is_wanted mode.Negated = false
is_wanted mode.Wrong = false

-- there is an operand
abbrev pub is_there : Mode → Bool
is_there mode.Wanted = false
is_there mode.There = true
is_there mode.Negated = true
is_there mode.Wrong = false

-- before a unary operator: unary `-` can't stand before NOT
abbrev pub unary_mode : Mode → ℕ → Mode
unary_mode mode.Wanted o = mode.Wrong
unary_mode mode.There o = pick (eqb o 1) mode.Negated mode.There
unary_mode mode.Negated o = pick (eqb o 1) mode.Negated mode.Wrong
unary_mode mode.Wrong o = mode.Wrong

-- whether a binary operator of this level can stand before an operand
abbrev pub may_join : Mode → ℕ → Bool
may_join mode.Wanted level = false
may_join mode.There level = true
may_join mode.Negated level = ltb level 3
may_join mode.Wrong level = false

-- whether a comparison stands in the row so far, after one more operator
abbrev pub flag_after : ℕ → Bool → Bool
flag_after level f = pick (ltb level 3) false (pick (eqb level 4) true f)

-- m says what stands to the right; f, for this level of brackets and then for those around it, whether a comparison does, with no OR, XOR or
-- AND before it
unfoldable pub judge : List Tok → Mode → Bool → List Bool → Bool
judge [] m f [] = is_there m
judge [] m f (g ∷ fs) = false
judge (open' ∷ ts) m f [] = false
judge (open' ∷ ts) m f (g ∷ fs) = is_there m && judge ts mode.There g fs
judge (close' ∷ ts) m f fs = is_wanted m && judge ts mode.Wanted false (f ∷ fs)
judge (bad ∷ ts) m f fs = false
judge (number n ∷ ts) m f fs = is_wanted m && judge ts mode.There f fs
judge (un o ∷ ts) m f fs = is_there (unary_mode m o) && judge ts (unary_mode m o) f fs
judge (bin o ∷ ts) m f fs =
    may_join m (binary_level o) && (not (eqb (binary_level o) 4 && f) && judge ts mode.Wanted (flag_after (binary_level o) f) fs)
