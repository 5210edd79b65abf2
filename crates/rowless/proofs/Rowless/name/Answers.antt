-- The sheet's names stand first.
use Rattle.std.proofs.Common.{sym}
use Rattle.rowless.proofs.Entries.{named-listed, named-entry}
use Rattle.rowless.proofs.Rowless.name.Goals as goal

pub returns-then-x-self-clause-name : goal.returns-then-x-self-clause-name
returns-then-x-self-clause-name c = sym (named-listed c.args.self.now c.args.x c.if-x-self.true)

pub returns-clause-name : goal.returns-clause-name
returns-clause-name c = sym (named-entry c.args.self.now c.args.x c.if-x-self.false)
