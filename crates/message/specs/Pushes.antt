-- The pushes of resolve.rs and kinds.rs: what comes with a text.
use Rattle.std.specs.Prelude.{ℕ, Bool, true, false, not, ◌&&◌, eqb, leb}
use Rattle.std.specs.Bool.{beq}
use Rattle.texts.specs.declared.Text.{Text}
use Rattle.texts.specs.declared.Text.TheVariants as text
use Rattle.message.specs.declared.pushes.Push.{Push}

-- a name and no detail two
abbrev pub plain : Push
plain = record { named = true; low = 0; high = 0; but = 1 }

-- a name, and a kind that is not the one the place is for
abbrev pub kind_but : ℕ → Push
kind_but k = record { named = true; low = 1; high = 4; but = k }

-- no name, and a type: "The name is 0 for E5010, E5011 and E2011"
abbrev pub any_type : Push
any_type = record { named = false; low = 1; high = 10; but = 0 }

-- what comes with a text: a name or none; detail two from low to high, but one
unfoldable pub push_of : Text → Push
push_of text.Unresolved = plain
push_of text.Shadows = plain
push_of text.Arithmetic = record { named = true; low = 1; high = 3; but = 0 }
push_of text.PropAccess = record { named = true; low = 3; high = 3; but = 0 }
push_of text.PathBinder = kind_but 3
push_of text.NodePosition = kind_but 1
push_of text.RelPosition = kind_but 2
push_of text.Index = any_type
push_of text.Slice = any_type
push_of text.IterateOver = any_type
push_of text.ListIterable = any_type
push_of text.BoolPredicate = record { named = false; low = 2; high = 4; but = 0 }

-- whether it comes with a name or none, as is said, and with this detail two
unfoldable pub gives : Push → Bool → ℕ → Bool
gives p named two = beq p.named named && (leb p.low two && (leb two p.high && not (eqb two p.but)))
