-- A variable, a name, or a type, each as `steps` has it (`Acts`).
use Rattle.walk.proofs.Acts.{var-ready, name-ready, var-act, name-act, name-idle, type-act, type-idle}
use Rattle.walk.proofs.plain.act.Goals as goal

pub use_var-requires : goal.use_var-requires
use_var-requires c =
    var-ready c.args.code c.args.a c.if-code-eq7.true c.requires.1.1.1

pub returns-then-code-eq7 : goal.returns-then-code-eq7
returns-then-code-eq7 c =
    let a = c.args in var-act a.code a.a a.mode a.set c.if-code-eq7.true c.use_var.ensures

pub use_name-requires : goal.use_name-requires
use_name-requires c =
    name-ready c.args.code c.args.a c.if-code-eq8.true c.requires.1.1.0 c.requires.1.1.1

pub returns-then-mode : goal.returns-then-mode
returns-then-mode c =
    let a = c.args in name-act a.code a.a a.mode a.set c.if-code-eq8.true c.if-mode.true c.use_name.ensures

pub returns-else-mode : goal.returns-else-mode
returns-else-mode c =
    let a = c.args in name-idle a.code a.a a.mode a.set c.if-code-eq8.true c.if-mode.false

pub returns-then-mode-2 : goal.returns-then-mode-2
returns-then-mode-2 c =
    let a = c.args in type-act a.code a.a a.mode a.set c.requires.0 c.requires.1.0 c.if-code-eq7.false c.if-code-eq8.false _ c.type_by.ensures c.if-mode-2.true c.at_type.ensures

pub returns-else-mode-2 : goal.returns-else-mode-2
returns-else-mode-2 c =
    let a = c.args in type-idle a.code a.a a.mode a.set c.requires.0 c.requires.1.0 c.if-code-eq7.false c.if-code-eq8.false c.if-mode-2.false
