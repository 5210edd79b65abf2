-- The findings that there are, push by push of resolve.rs and kinds.rs: the span, name and details that come with each code.
use Rattle.std.specs.Prelude.{ℕ, zero, suc, ◌≤◌, ◌<◌, ◌≡◌, false, List, [], length, get_or, None, Some}
use Rattle.scope.specs.Graph.{Name, name, indexed}
use Rattle.tables.specs.Row.{node_kind, path_kind, value_kind}
use Rattle.semantics.specs.Log.{e1001, e1002, e2007, e2008, e2011, e5010, e5011, Finding, finding}
use Rattle.semantics.specs.World.{star_name}
use Rattle.semantics.specs.Kinds.{bool_type, int_type, string_type, kind_type}

-- a type: "1 Bool .. 10 Path"
abbrev pub IsType : ℕ → Type 0
IsType t = (bool_type ≤ t) × (t ≤ kind_type path_kind)

-- a kind that is not the one that its place wants
abbrev pub IsOther : ℕ → ℕ → Type 0
IsOther want k = (node_kind ≤ k) × (k ≤ value_kind) × (k ≡ want → ⊥)

-- a name of a sheet with these names, or a generated one (document 02, CR 5)
abbrev pub IsName : List (List ℕ) → Name → Type 0
IsName names (name zero x) = x < length names
IsName names (name (suc zero) v) = Unit {0}
IsName names (name (suc (suc m)) v) = ⊥

-- of a sheet with these names
pub data Pushed (names : List (List ℕ)) : Finding → Type 0 where
  -- "E1001 comes at each visit of an Unresolved name not visible, except `*`"
  unresolved : {x : ℕ} → x < length names → star_name (get_or names x []) ≡ false → Pushed names (finding e1001 0 0 (Some (indexed x)) 0 0)
  -- "E1002 .. arises from a path or a yield": no other push can have a generated name
  shadows : {a b : ℕ} {x : Name} → IsName names x → Pushed names (finding e1002 a b (Some x) 0 0)
  -- E2007: 1 arithmetic, with a Node, Relationship or Path; 2 property, with a Path
  arithmetic : {x k : ℕ} → x < length names → node_kind ≤ k → k ≤ path_kind → Pushed names (finding e2007 0 0 (Some (indexed x)) 1 k)
  property : {x : ℕ} → x < length names → Pushed names (finding e2007 0 0 (Some (indexed x)) 2 path_kind)
  -- E2008: 1 path, or an element's kind + 1
  path : {x k : ℕ} → x < length names → IsOther path_kind k → Pushed names (finding e2008 0 0 (Some (indexed x)) 1 k)
  element : {a b x want k : ℕ} → x < length names → 1 ≤ want → want ≤ 2 → IsOther want k → Pushed names (finding e2008 a b (Some (indexed x)) (suc want) k)
  -- E2011: an Int, Float or String
  predicate : {t : ℕ} → int_type ≤ t → t ≤ string_type → Pushed names (finding e2011 0 0 None 0 t)
  -- E5010: 1 index, 2 slice, 3 iterate over; E5011
  listed : {o t : ℕ} → 1 ≤ o → o ≤ 3 → IsType t → Pushed names (finding e5010 0 0 None o t)
  iterable : {t : ℕ} → IsType t → Pushed names (finding e5011 0 0 None 0 t)
