-- One more than the exponent of the greatest power of ten within n, and 1 for 0.
use Rattle.std.proofs.Common.{rules, ◌≡◌, ◌∙◌, sym, ℕ, suc, ◌+◌, ◌*◌, ◌^◌, ◌<◌, ◌≤◌, arith}
use Rattle.std.specs.Prelude.{Option, None, Some, MatchOption}
use Rattle.std.specs.Option.{IfSome, IfNone}
use Rattle.words.specs.Decimal.{width}
use Rattle.words.proofs.Digits.{width_one, width-power}
use Rattle.words.proofs.decimal.decimal_width.Goals as goal

module _ (n : ℕ) {P : ℕ → Type 0} (r : ℕ) (f : (k : ℕ) → P k → r ≡ k + 1) where
  wide : (o : Option ℕ) → IfNone o (n ≡ 0) → IfSome o (λ k. 10 ^ k ≤ n) → IfSome o (λ k. n < 10 * 10 ^ k) → MatchOption o (r ≡ 1) P → r ≡ width n
  wide None z l h m = m ∙ sym (width_one n (omega arith))
  wide (Some k) z l h m = let more : k + 1 ≡ suc k = omega arith in f k m ∙ more ∙ sym (width-power k n l h)

pub returns : goal.returns
returns c =
    let o = c.checked_ilog10.ensures in
    wide c.args.n c.map_or.result (λ k h. search rules) c.checked_ilog10.result o.none o.power_le o.next_power_gt c.map_or.ensures
