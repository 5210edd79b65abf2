-- A name of less than four bytes, or with other ones first, is no variable's (`headed`).
use Rattle.std.proofs.Common.{◌∙◌, ◌+◌, ◌-◌, ◌≡◌, sym, ap, arith, not, inl, inr, take, drop, rules}
use Rattle.std.proofs.lemmas.Bool.{false≢true}
use Rattle.std.proofs.lemmas.Slice.Eq.{bytes_eq-Decides}
use Rattle.tables.proofs.VarNames.{headed}
use Rattle.tables.proofs.var_name.var_at.Goals as goal

pub returns-in_default : goal.returns-in_default
returns-in_default c = λ v h e.
    let k = (headed c.args.s.now c.args.p v e).0 in
    elim c.in_default.ensures.lookup.0 [ inl l ↦ absurd (omega arith) | inr l ↦ absurd (omega (arith, k, l)) ]

pub returns-then-ne : goal.returns-then-ne
returns-then-ne c = λ v h e.
    let k = (headed c.args.s.now c.args.p v e).1 in
    let long : c.args.p + 8 - (c.args.p + 4) ≡ 4 = omega arith in
    let text : c.in-Some.head.now ≡ take (c.args.p + 8 - (c.args.p + 4)) (drop (c.args.p + 4) c.args.s.now) = search rules in
    let same : c.in-Some.head.now ≡ c.as_slice.result.now = text ∙ rw long k ∙ sym c.as_slice.ensures in
    false≢true (sym (ap not ((bytes_eq-Decides _ _).1 same)) ∙ sym c.ne.ensures ∙ c.if-ne.true)
