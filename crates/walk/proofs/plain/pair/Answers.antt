-- A Prop goes by its name, a binary operator by its number, a unary one by its own setting; every other head by its shape.
use native.Mathlib.Omega.{arith}
use mathlib.Core.Path.{◌∙◌}
use Rattle.walk.proofs.Plains.{law, paired, prop-pair, binary-pair, unary-pair}
use Rattle.walk.proofs.plain.pair.Goals as goal

pub returns-in-9 : goal.returns-in-9
returns-in-9 c =
    let a = c.args in c.property_settings.ensures ∙ prop-pair _ a.code a.a _ c.in-9.is

pub returns-in-15 : goal.returns-in-15
returns-in-15 c =
    let a = c.args in c.operator_settings.ensures ∙ binary-pair _ a.code a.a _ c.in-15.is

pub returns-in-16 : goal.returns-in-16
returns-in-16 c =
    let a = c.args in c.first.ensures ∙ rw c.passed.ensures (unary-pair _ a.code a.a _ c.in-16.is)

pub returns-in_default : goal.returns-in_default
returns-in_default c =
    let p = c.requires in
    let k = law _ _ (rw p.0 at p.1.0) p.1.1 in
    paired _ _ c.setting_at.ensures c.setting_at-in_default.ensures ∙ rw p.0 (k.pair (λ e. omega arith) (λ e. omega arith) (λ e. omega arith) _ _)
