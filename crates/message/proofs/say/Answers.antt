-- The tests are those of `text_if`, in its order: 9 where one of them fails, and else the text.
use Prim.Native.Nat.{ℕ}
use mathlib.Core.Path.{◌≡◌, refl}
use mathlib.Core.List.{List, []}
use denote.Ref.{Bor}
use Rattle.std.proofs.Common.{rules}
use Rattle.std.specs.Prelude.{Option, None, Some}
use Rattle.std.specs.Option.{UnwrapsOrElse, is_some}
use Rattle.refusal.specs.declared.Refusal.TheVariants.{Asked}
use Rattle.texts.proofs.Giving.{gives-text, gives-ten, gives-refusal}
use Rattle.message.specs.Message.{text_in, is_cited, text_if}
use Rattle.message.proofs.say.Goals as goal

-- a name or none, as the definition has it
cited : (o : Option (Bor (List ℕ))) → is_some o ≡ is_cited o
cited None = refl
cited (Some x) = refl

text : (o : Option (Bor (List ℕ))) {P : Bor (List ℕ) → Type 0} (x : Bor (List ℕ)) → ((y : Bor (List ℕ)) → P y → y.now ≡ []) → UnwrapsOrElse o P x → x.now ≡ text_in o
text None x f h = f x h
text (Some y) x f h = rw h

pub returns-in_default : goal.returns-in_default
unfolding text_if
returns-in_default c = rw (← c.text_for.ensures, c.in_default.is) (gives-refusal Asked _)

pub returns-then-not-allows : goal.returns-then-not-allows
unfolding text_if
returns-then-not-allows c =
    rw (← c.text_for.ensures, c.in-Some.is, ← c.push_of.ensures, ← cited, ← c.is_some.ensures, ← c.allows.ensures, c.if-not-allows.true) (gives-refusal Asked _)

pub returns-then-is_starred : goal.returns-then-is_starred
unfolding text_if
returns-then-is_starred c =
    let same = text c.args.name c.unwrap_or_default-x.result (λ y h. search rules) c.unwrap_or_default-x.ensures in
    rw (← c.text_for.ensures, c.in-Some.is, ← c.push_of.ensures, ← cited c.args.name, ← c.is_some.ensures, ← c.allows.ensures, c.if-not-allows.false, ← same, ← c.is_starred.ensures, c.if-is_starred.true) (gives-refusal Asked _)

pub returns-then-page-text_len : goal.returns-then-page-text_len
unfolding text_if
returns-then-page-text_len c =
    let same = text c.args.name c.unwrap_or_default-x.result (λ y h. search rules) c.unwrap_or_default-x.ensures in
    rw (← c.text_for.ensures, c.in-Some.is, ← c.push_of.ensures, ← cited c.args.name, ← c.is_some.ensures, ← c.allows.ensures, c.if-not-allows.false, ← same, ← c.is_starred.ensures, c.if-is_starred.false)
    (gives-ten _ _ (rw c.text_len.ensures at c.if-page-text_len.true))

pub returns : goal.returns
unfolding text_if
returns c =
    let same = text c.args.name c.unwrap_or_default-x.result (λ y h. search rules) c.unwrap_or_default-x.ensures in
    rw (← c.text_for.ensures, c.in-Some.is, ← c.push_of.ensures, ← cited c.args.name, ← c.is_some.ensures, ← c.allows.ensures, c.if-not-allows.false, ← same, ← c.is_starred.ensures, c.if-is_starred.false)
    (gives-text c.write_text.ensures (rw c.text_len.ensures at c.if-page-text_len.false))
