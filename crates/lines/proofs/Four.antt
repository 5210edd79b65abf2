-- A code that has a text has four digits.
use Prim.Native.Nat.{ℕ}
use borrow.Author.Tests.{eqb-true}
use mathlib.Core.Path.{◌≡◌, refl, ap, ◌∙◌}
use mathlib.Core.Bool.{Bool, true, false, cond}
use lib.Dec.{eqb}
use Rattle.std.specs.Prelude.{Option, None, Some}
use Rattle.words.specs.Decimal.{width_within, width}
use Rattle.texts.specs.Codes.{of2007, of2008, of5010, unused, text_for}
use Rattle.texts.specs.declared.Text.{Text}
use Rattle.texts.specs.declared.Text.TheVariants as text

-- where u says a text, the code has four digits
record Four (code : ℕ) (u : Option Text) : Type 0 where
  four : (t : Text) → u ≡ Some t → width code ≡ 4

none : (code : ℕ) → Four code None
none code = record { four = λ t e. cc }

by-test : (code : ℕ) (b : Bool) (x y : Option Text) → (b ≡ true → width code ≡ 4) → Four code y → Four code (cond b x y)
by-test code true x y h g = record { four = λ t e. h refl }
by-test code false x y h g = g

by_key : (code k : ℕ) (x y : Option Text) → width k ≡ 4 → Four code y → Four code (cond (eqb code k) x y)
by_key code k x y w g = by-test code (eqb code k) x y (λ e. ap width (eqb-true code k e) ∙ w) g

codes : (code one : ℕ) → Four code (text_for code one)
unfolding text_for width width_within
codes code one =
    let g = cond (eqb code 5011) (unused text.ListIterable one) None in
    let f = cond (eqb code 5010) (of5010 one) g in
    let e = cond (eqb code 2011) (unused text.BoolPredicate one) f in
    let d = cond (eqb code 2008) (of2008 one) e in
    let c = cond (eqb code 2007) (of2007 one) d in
    let b = cond (eqb code 1002) (unused text.Shadows one) c in
    by_key code 1001 (unused text.Unresolved one) b refl (by_key code 1002 (unused text.Shadows one) c refl (by_key code 2007 (of2007 one) d refl (by_key code 2008 (of2008 one) e refl (by_key code 2011 (unused text.BoolPredicate one) f refl (by_key code 5010 (of5010 one) g refl (by_key code 5011 (unused text.ListIterable one) None refl (none code)))))))

pub four-digits : (code one : ℕ) {t : Text} → text_for code one ≡ Some t → width code ≡ 4
four-digits code one {t} e = (codes code one).four t e
