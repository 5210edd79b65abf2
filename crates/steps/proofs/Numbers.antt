-- A kind and a type as a number of the code are the definition's numbers (`kind-number`, `row-number`, `type-number`), and a type's is not 0
-- (`some-type`). What a setting that wants no list minds of a type and of a kind (`minds-no-type`, `minds-no-kind`).
use Rattle.std.specs.Prelude.{Option, None, Some}
use Prim.Native.Nat.{ℕ, suc, ◌+◌, ◌<◌}
use native.Mathlib.Omega.{arith}
use borrow.Author.Tests.{ne_eqb}
use mathlib.Core.Path.{◌≡◌, refl, ap}
use mathlib.Core.Bool as bool
use mathlib.Core.List.{[]}
use lib.Dec.{eqb}
use denote.Enum.Bare.{sameb}
use denote.Enum.Declared.{tag_of}
use Rattle.tables.specs.Kind as kinds
use Rattle.tables.specs.Row.{row}
use Rattle.tables.specs.contracts.kind.VarKind as kind
use Rattle.tables.specs.declared.kind.VarKind.{VarKind}
use Rattle.tables.specs.declared.kind.VarKind.TheVariants.{Node, Relationship, Path, Value}
use Rattle.semantics.specs.Kinds.{at_type, at_row}
use Rattle.steps.specs.Modes.{setting_of, list_code}
use Rattle.steps.specs.contracts.mode.Setting.{the_type}
use Rattle.steps.specs.declared.mode.Setting.{Setting}
use Rattle.steps.specs.declared.mode.Setting.TheVariants.{General, Arithmetic, Property, Boolean, Indexed, Sliced, Iterated, Quantified}
use Rattle.scope.specs.Kind.{number_of}
use Rattle.scope.specs.contracts.kind.ScopeKind as scopes
use Rattle.scope.specs.declared.kind.ScopeKind.{ScopeKind}
use Rattle.scope.specs.declared.kind.ScopeKind.TheVariants.{Root, Match, Create, Merge, Unwind, Call, WithBarrier, Return, PatternComprehension}
use Rattle.expr.specs.Types as types
use Rattle.expr.specs.contracts.types.«Type» as type
use Rattle.expr.specs.declared.types.«Type».{«Type»}
use Rattle.expr.specs.declared.types.«Type».TheVariants.{Bool, Int, Float, String, Null, Map, Pattern, Node, Relationship, Path}

pub kind-number : (k : ScopeKind) → number_of k ≡ tag_of scopes.the_type k + 1
kind-number Root = refl
kind-number Match = refl
kind-number Create = refl
kind-number Merge = refl
kind-number Unwind = refl
kind-number Call = refl
kind-number WithBarrier = refl
kind-number Return = refl
kind-number PatternComprehension = refl

abbrev code-of : Option (ℕ × ℕ) → ℕ
code-of None = 0
code-of (Some p) = p.0

above : {m a code one : ℕ} → ◌≡◌ {A = Option (ℕ × ℕ)} (Some (suc (suc (suc (suc (suc (suc (suc m)))))), a)) (Some (code, one)) → 6 < code
above q = let z = ap code-of q in omega arith

-- the codes of the findings where a list is wanted
pub list-codes : (s : Setting) {code one : ℕ} → list_code s ≡ Some (code, one) → 6 < code
list-codes General q = absurd (cc q)
list-codes Arithmetic q = absurd (cc q)
list-codes Property q = absurd (cc q)
list-codes Boolean q = absurd (cc q)
list-codes Indexed q = above q
list-codes Sliced q = above q
list-codes Iterated q = above q
list-codes Quantified q = above q

-- the settings that want no list
pub minds-no-type : (s : Setting) (t : ℕ) → list_code s ≡ None → sameb the_type s Boolean ≡ bool.false → at_type (setting_of s) t ≡ []
unfolding at_type
minds-no-type General t q e = refl
minds-no-type Arithmetic t q e = refl
minds-no-type Property t q e = refl
minds-no-type Boolean t q e = absurd (cc)
minds-no-type Indexed t q e = absurd (cc)
minds-no-type Sliced t q e = absurd (cc)
minds-no-type Iterated t q e = absurd (cc)
minds-no-type Quantified t q e = absurd (cc)

pub minds-no-kind : (s : Setting) (i x k a b : ℕ) → list_code s ≡ None → (sameb the_type s Arithmetic ≡ bool.true → k ≡ 4) → (sameb the_type s Property ≡ bool.true → k ≡ 3 → ⊥) →
    at_row (setting_of s) (Some (row i x k a b)) ≡ []
unfolding at_row
minds-no-kind General i x k a b q v p = refl
minds-no-kind Arithmetic i x k a b q v p = rw (v refl)
minds-no-kind Property i x k a b q v p = rw (ne_eqb k 3 (p refl))
minds-no-kind Boolean i x k a b q v p = refl
minds-no-kind Indexed i x k a b q v p = absurd (cc)
minds-no-kind Sliced i x k a b q v p = absurd (cc)
minds-no-kind Iterated i x k a b q v p = absurd (cc)
minds-no-kind Quantified i x k a b q v p = absurd (cc)

pub row-number : (k : VarKind) → kinds.number_of k ≡ tag_of kind.the_type k + 1
row-number Node = refl
row-number Relationship = refl
row-number Path = refl
row-number Value = refl

pub type-number : (t : «Type») → types.number_of t ≡ tag_of type.the_type t + 1
type-number Bool = refl
type-number Int = refl
type-number Float = refl
type-number String = refl
type-number Null = refl
type-number Map = refl
type-number Pattern = refl
type-number Node = refl
type-number Relationship = refl
type-number Path = refl

pub some-type : (t : «Type») → eqb (types.number_of t) 0 ≡ bool.false
some-type Bool = refl
some-type Int = refl
some-type Float = refl
some-type String = refl
some-type Null = refl
some-type Map = refl
some-type Pattern = refl
some-type Node = refl
some-type Relationship = refl
some-type Path = refl
