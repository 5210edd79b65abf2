-- A token that was found is shorter than the text.
use native.Mathlib.Omega.{arith}
use mathlib.Core.Path.{◌≡◌}
use mathlib.Core.List.{reverse}
use Rattle.condition.specs.Tokens.{last}
use Rattle.condition_lexer.specs.Seen.{last_of}
use Rattle.condition_lexer.proofs.Ends.{last_one, shorter, known}
use Rattle.condition_lexer.proofs.last_token.Goals as goal

pub returns-in-32-clause-shorter : goal.returns-in-32-clause-shorter
returns-in-32-clause-shorter c =
    let e : last (reverse c.args.text.now) ≡ last_of c.last_sign.result = grind (arith, last_one) in shorter c.args.text.now _ e

pub returns-in-32-clause-known : goal.returns-in-32-clause-known
returns-in-32-clause-known c =
    let e : last (reverse c.args.text.now) ≡ last_of c.last_sign.result = grind (arith, last_one) in known c.args.text.now _ e

pub returns-in_default-byte-clause-shorter : goal.returns-in_default-byte-clause-shorter
returns-in_default-byte-clause-shorter c =
    let e : last (reverse c.args.text.now) ≡ last_of c.last_atom.result = grind (arith, last_one) in shorter c.args.text.now _ e

pub returns-in_default-byte-clause-known : goal.returns-in_default-byte-clause-known
returns-in_default-byte-clause-known c =
    let e : last (reverse c.args.text.now) ≡ last_of c.last_atom.result = grind (arith, last_one) in known c.args.text.now _ e
