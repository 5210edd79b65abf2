-- A name that is not found refuses as it does, and else the text is said of it; so of a generated name, where the sheet doesn't refuse.
use Rattle.std.proofs.Common.{◌≡◌, ℕ, false, eqb, ◌&&◌, ◌⊎◌, inl, inr}
use borrow.Author.Tests.{ne_eqb}
use Rattle.refusal.proofs.Handed.{handed}
use Rattle.refusal.specs.declared.Refusal.TheVariants.{Asked}
use Rattle.texts.proofs.Giving.{gives-refusal}
use Rattle.message.specs.Message.{message}
use Rattle.message.proofs.message.Goals as goal

pub returns-in_err-text : goal.returns-in_err-text
unfolding message
returns-in_err-text c =
    rw (c.if-a-eq0.true, c.in_err-text.ensures, handed _ _ c.from_residual.ensures) (gives-refusal c.in_err-text.field-0.0 _)

pub returns-then-a-eq0 : goal.returns-then-a-eq0
unfolding message
returns-then-a-eq0 c = rw (c.if-a-eq0.true, c.in_ok-text.ensures.0, c.in_ok-text.ensures.1) c.say.ensures

pub returns-in_err-find_text : goal.returns-in_err-find_text
unfolding message
returns-in_err-find_text c =
    let marked = ne_eqb c.args.a.mark 0 c.if-a-eq0.false in
    rw (marked, c.in_err-find_text.ensures, handed _ _ c.from_residual-in_err-find_text.ensures) (gives-refusal c.in_err-find_text.field-0.0 _)

-- another mark than 1, or another code than E1002's
other : (mark code : ℕ) → (mark ≡ 1 → ⊥) ⊎ ((mark ≡ 1) × (code ≡ 1002 → ⊥)) → (eqb mark 1 && eqb code 1002) ≡ false
other mark code (inl h) = rw (ne_eqb mark 1 h)
other mark code (inr h) = rw (h.0, ne_eqb code 1002 h.1)

pub returns-then-a-ne-GENERATED : goal.returns-then-a-ne-GENERATED
unfolding message
returns-then-a-ne-GENERATED c =
    let marked = ne_eqb c.args.a.mark 0 c.if-a-eq0.false in
    rw (marked, c.in_ok-find_text.ensures.0, other c.args.a.mark c.args.a.code c.then-a-ne-GENERATED.either) (gives-refusal Asked _)

pub returns : goal.returns
unfolding message
returns c =
    rw (c.if-a-ne-GENERATED.false, c.in_ok-find_text.ensures.0, c.if-a-ne-SHADOWS.false, ← c.new-name.ensures, ← c.text.ensures) (rw c.if-a-ne-SHADOWS.false at c.say-2.ensures)
