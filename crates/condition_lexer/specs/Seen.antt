-- What the code tells of a text's end, as what the definition finds. The definition takes a text from its last byte to its first.
use Rattle.std.specs.Prelude.{ℕ, List, reverse, Option, Some, None}
use denote.Ref.{Bor}
use Rattle.condition.specs.Tokens.{Tok, Last, found, nothing, open', close', number, un, bin}
use Rattle.condition_lexer.specs.declared.Token.{Token}
use Rattle.condition_lexer.specs.declared.Token.TheVariants as token

abbrev pub before_of : Option (Bor (List ℕ)) → Option (List ℕ)
before_of None = None
before_of (Some rest) = Some (reverse rest.now)

abbrev pub tok_of : Token → Tok
tok_of token.Open = open'
tok_of token.Close = close'
tok_of (token.Atom n) = number n
tok_of (token.Unary o) = un o
tok_of (token.Binary o) = bin o

abbrev pub last_of : Option (Token × Bor (List ℕ)) → Last
last_of None = nothing
last_of (Some l) = found (tok_of l.0) (reverse l.1.now)
