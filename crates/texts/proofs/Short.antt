-- The name of a kind or a type has at most 12 bytes, and a text at most 132 beside those of the name in it.
use Prim.Native.Nat.{ℕ, zero, suc, ◌+◌, ◌≤◌}
use native.Mathlib.Omega.{arith}
use mathlib.Core.List.{List, [], ◌∷◌}
use lib.ListN.{length, get_or, length-append}
use Rattle.texts.specs.Texts.{type_names, type_name, kind_names, kind_name, text_of}
use Rattle.texts.specs.declared.Text.{Text}
use Rattle.texts.specs.declared.Text.TheVariants as text

abbrev Short : List (List ℕ) → Type 0
Short [] = 0 ≤ 12
Short (x ∷ l) = (length x ≤ 12) × Short l

entry-short : (l : List (List ℕ)) (k : ℕ) → Short l → length (get_or l k []) ≤ 12
entry-short [] k h = h
entry-short (x ∷ l) zero h = h.0
entry-short (x ∷ l) (suc k) h = entry-short l k h.1

pub type_short : (t : ℕ) → length (type_name t) ≤ 12
unfolding type_name
type_short t = entry-short ([] ∷ type_names) t (omega arith)

pub kind_short : (k : ℕ) → length (kind_name k) ≤ 12
unfolding kind_name
kind_short k = entry-short ([] ∷ kind_names) k (omega arith)

pub text-short : (t : Text) (x : List ℕ) (two : ℕ) → length (text_of t x two) ≤ length x + 132
unfolding text_of
text-short text.Unresolved x two = simp length-append (omega arith)
text-short text.Shadows x two = simp length-append (omega arith)
text-short text.Arithmetic x two = simp length-append (omega (arith, kind_short two))
text-short text.PropAccess x two = simp length-append (omega arith)
text-short text.PathBinder x two = simp length-append (omega (arith, kind_short two))
text-short text.NodePosition x two = simp length-append (omega (arith, kind_short two))
text-short text.RelPosition x two = simp length-append (omega (arith, kind_short two))
text-short text.Index x two = simp length-append (omega (arith, type_short two))
text-short text.Slice x two = simp length-append (omega (arith, type_short two))
text-short text.IterateOver x two = simp length-append (omega (arith, type_short two))
text-short text.ListIterable x two = simp length-append (omega (arith, type_short two))
text-short text.BoolPredicate x two = simp length-append (omega (arith, type_short two))
