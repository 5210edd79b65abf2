-- One pass of the judge: it looks for two comparisons in a row only at some levels of brackets.
use Rattle.std.specs.Prelude.{ℕ, suc, pred, max, ◌≤◌, ◌≡◌, Bool, true, false, not, ◌&&◌, List, [], ◌∷◌, eqb, length, reverse, Option, Some, None}
use Rattle.condition.specs.Cond.{binary_level}
use Rattle.condition.specs.Tokens.{Tok, open', close', bad, number, un, bin, lex}
use Rattle.condition.specs.Machine.{count_of}
use Rattle.condition.specs.Judge.{is_wanted, is_there, unary_mode, may_join, flag_after}
use Rattle.condition.specs.declared.Mode.{Mode}
use Rattle.condition.specs.declared.Mode.TheVariants as mode
use Rattle.condition_reader.specs.Window.{window}
use Rattle.condition_reader.specs.declared.judging.Judged.{Judged}

-- the judge of `cond`, which tests a level for two comparisons only where W has it
unfoldable pub judge_in : (ℕ → Bool) → List Tok → Mode → Bool → List Bool → Bool
judge_in W [] m f [] = is_there m
judge_in W [] m f (g ∷ fs) = false
judge_in W (open' ∷ ts) m f [] = false
judge_in W (open' ∷ ts) m f (g ∷ fs) = is_there m && judge_in W ts mode.There g fs
judge_in W (close' ∷ ts) m f fs = is_wanted m && judge_in W ts mode.Wanted false (f ∷ fs)
judge_in W (bad ∷ ts) m f fs = false
judge_in W (number n ∷ ts) m f fs = is_wanted m && judge_in W ts mode.There f fs
judge_in W (un o ∷ ts) m f fs = is_there (unary_mode m o) && judge_in W ts (unary_mode m o) f fs
judge_in W (bin o ∷ ts) m f fs =
    may_join m (binary_level o) && (not (eqb (binary_level o) 4 && (W (length fs) && f)) && judge_in W ts mode.Wanted (flag_after (binary_level o) f) fs)

-- the deepest level of brackets, where b was so far
unfoldable pub peak : List Tok → ℕ → ℕ → ℕ
peak [] d b = b
peak (open' ∷ ts) d b = peak ts (pred d) b
peak (close' ∷ ts) d b = peak ts (suc d) (max b (suc d))
peak (bad ∷ ts) d b = peak ts d b
peak (number n ∷ ts) d b = peak ts d b
peak (un o ∷ ts) d b = peak ts d b
peak (bin o ∷ ts) d b = peak ts d b

-- the tokens of a text
abbrev pub toks_of : List ℕ → List Tok
toks_of s = lex (reverse s)

-- what a pass tells
abbrev pub Judges : List ℕ → ℕ → Option Judged → Type 0
Judges s low None = judge_in (window low) (toks_of s) mode.Wanted false [] ≡ false
Judges s low (Some j) = (judge_in (window low) (toks_of s) mode.Wanted false [] ≡ true) × ((j.entries ≡ count_of (toks_of s)) × ((j.deepest ≡ peak (toks_of s) 0 low) × (j.entries ≤ length s)))
