-- The kinds walk (document 01, "Walking kinds (001)"): the head's clauses to findings. The sentences in quotes are document 01's.
use Rattle.std.specs.Prelude.{ℕ, suc, ◌+◌, Bool, cond, ◌&&◌, ◌||◌, List, [], ◌∷◌, ◌++◌, eqb, leb, get_or, Option, None, Some}
use Rattle.heads.specs.declared.Form.{Form}
use Rattle.heads.specs.declared.Form.TheVariants.{Leaf, Var, Unresolved, Prop, Two, Slice, Many, BinOp, UnaryOp, Case, IsNull, PatternPredicate, ListComprehension, PatternComprehension, ListPredicate, MapProjection}
use Rattle.expr.specs.Tree.{Expr, var, unresolved, node, predicate, comprehension, Exprs, done, more, mark, Steps, end, part, elem}
use Rattle.clauses.specs.Tree.{Clause, opening, reading, with', return, unwind, call, exprs, keys_of}
use Rattle.scope.specs.Graph.{indexed}
use Rattle.tables.specs.Row.{path_kind, value_kind, Row, row}
use Rattle.semantics.specs.Log.{e2007, e2008, e2011, e5010, e5011, Finding, finding}
use Rattle.semantics.specs.World.{World}

-- Where an expression stands. `listed code one` wants a list (E5010 with its detail one, E5011), `boolean` a Bool (E2011).
pub data Setting : Type 0 where
  general arithmetic property boolean : Setting
  listed : (code one : ℕ) → Setting

-- "unary passes its setting on"
unfoldable pub passes : Setting → Setting
passes general = general
passes arithmetic = arithmetic
passes property = property
passes boolean = general
passes (listed c o) = general

-- "Operators 0 to 5 and 8 to 11 set arithmetic"
unfoldable pub is_arithmetic : ℕ → Bool
is_arithmetic o = leb o 5 || leb 8 o && leb o 11

-- "the type, 1 Bool, Int, Float, String, Null, Map, Pattern, Node, Relationship, 10 Path", and 0 for none
abbrev pub no_type : ℕ
no_type = 0

abbrev pub bool_type : ℕ
bool_type = 1

abbrev pub int_type : ℕ
int_type = 2

abbrev pub float_type : ℕ
float_type = 3

abbrev pub string_type : ℕ
string_type = 4

abbrev pub null_type : ℕ
null_type = 5

abbrev pub map_type : ℕ
map_type = 6

abbrev pub pattern_type : ℕ
pattern_type = 7

-- of a binding that is no Value
abbrev pub kind_type : ℕ → ℕ
kind_type kind = kind + 7

-- by the code of a leaf: 1 Null, 2 Bool, 3 Int, 4 Float, 5 String
abbrev pub leaf_types : List ℕ
leaf_types = no_type ∷ null_type ∷ bool_type ∷ int_type ∷ float_type ∷ string_type ∷ []

-- the type that a head shows
unfoldable pub type_of : Form → ℕ
type_of (Leaf k) = get_or leaf_types k no_type
type_of (Var v) = no_type
type_of (Unresolved x) = no_type
type_of (Prop x) = no_type
type_of (Two k) = no_type
type_of (Slice b) = no_type
type_of (Many k n) = cond (eqb k 13) map_type no_type
type_of (BinOp o) = no_type
type_of (UnaryOp o) = no_type
type_of (Case b n) = no_type
type_of IsNull = no_type
type_of PatternPredicate = no_type
type_of (ListComprehension g) = no_type
type_of (PatternComprehension a b g) = no_type
type_of (ListPredicate g) = no_type
type_of (MapProjection n) = no_type

-- The settings of a head's first part and of the others: "Prop other than `id` and MapProjection's base set property; all else is
-- general". Details of E5010: 1 index, 2 slice, 3 iterate over. Two is 10 Index or 19 InList.
pub data Pair : Type 0 where
  both : (first later : Setting) → Pair

abbrev pub plain : Pair
plain = both general general

unfoldable pub settings : (id : ℕ → Bool) → Form → Setting → Pair
settings id (Leaf k) c = plain
settings id (Var v) c = plain
settings id (Unresolved x) c = plain
settings id (Prop x) c = both (cond (id x) general property) general
settings id (Two k) c = both (cond (eqb k 10) (listed e5010 1) general) general
settings id (Slice b) c = both (listed e5010 2) general
settings id (Many k n) c = plain
settings id (BinOp o) c = let s = cond (is_arithmetic o) arithmetic general in both s s
settings id (UnaryOp o) c = both (passes c) general
settings id (Case b n) c = plain
settings id IsNull c = plain
settings id PatternPredicate c = plain
settings id (ListComprehension g) c = both (listed e5010 3) general
settings id (PatternComprehension a b g) c = plain
settings id (ListPredicate g) c = both (listed e5011 0) boolean
settings id (MapProjection n) c = both property general

-- A type against a setting: E2011 for a Bool that is an Int, Float or String, E5010 and E5011 for a list that is a type at all.
unfoldable pub at_type : Setting → ℕ → List Finding
at_type general t = []
at_type arithmetic t = []
at_type property t = []
at_type boolean t = cond (leb int_type t && leb t string_type) (finding e2011 0 0 None 0 t ∷ []) []
at_type (listed c o) t = cond (eqb t no_type) [] (finding c 0 0 None o t ∷ [])

-- A variable's row against a setting. Details of E2007: 1 arithmetic, 2 property.
unfoldable pub at_row : Setting → Option Row → List Finding
at_row c None = []
at_row general (Some (row i x k a b)) = []
at_row arithmetic (Some (row i x k a b)) = cond (eqb k value_kind) [] (finding e2007 0 0 (Some (indexed x)) 1 k ∷ [])
at_row property (Some (row i x k a b)) = cond (eqb k path_kind) (finding e2007 0 0 (Some (indexed x)) 2 k ∷ []) []
at_row boolean (Some (row i x k a b)) = []
at_row (listed d o) (Some (row i x k a b)) = cond (eqb k value_kind) [] (finding d 0 0 None o (kind_type k) ∷ [])

-- E2008: a binder whose row has another kind than its position wants. Details: 1 path, 2 node, 3 relationship.
unfoldable pub misplaced : ℕ → ℕ → ℕ → ℕ → Option Row → List Finding
misplaced one want a b None = []
misplaced one want a b (Some (row i x k c d)) = cond (eqb k want) [] (finding e2008 a b (Some (indexed x)) one k ∷ [])

module _ (w : World) where
  -- the row of a binder
  unfoldable pub row_for : Option ℕ → Option Row
  row_for (Some v) = w.row v
  row_for None = None

  -- "An own-level finding precedes those of its parts, but E2011 follows the iterable's": the iterable is a part before it.
  unfoldable mutual
    pub kinds_e : Expr → Setting → List Finding
    kinds_e (var v) c = at_row c (w.row v)
    kinds_e (unresolved x) c = []
    kinds_e (node f es) c = at_type c (type_of f) ++ kinds_es es (settings w.is_id f c)
    kinds_e (predicate s) c = at_type c pattern_type ++ kinds_s s
    kinds_e (comprehension a b s es) c = kinds_s s ++ kinds_es es plain

    pub kinds_es : Exprs → Pair → List Finding
    kinds_es done p = []
    kinds_es (more e es) (both c d) = kinds_e e c ++ kinds_es es (both d d)
    kinds_es (mark m es) p = kinds_es es p

    pub kinds_s : Steps → List Finding
    kinds_s end = []
    kinds_s (part p s) = misplaced 1 path_kind 0 0 (row_for p) ++ kinds_s s
    kinds_s (elem k a b v es s) = misplaced (suc k) k a b (row_for v) ++ (kinds_es es plain ++ kinds_s s)

  -- a clause's expressions and patterns, in order: "sort expressions as general, after the clause's other expressions" (document 02, CR 1)
  unfoldable pub kinds_c : Clause → List Finding
  kinds_c (opening o a b s) = kinds_s s
  kinds_c (reading r a b es) = kinds_es es plain
  kinds_c (with' a b ps f ks) = kinds_es (exprs ps f) plain ++ kinds_es (keys_of ks) plain
  kinds_c (return a b ps ks) = kinds_es (exprs ps done) plain ++ kinds_es (keys_of ks) plain
  kinds_c (unwind a b v e) = kinds_e e general
  kinds_c (call a b es ys) = kinds_es es plain

  -- "Head only"
  unfoldable pub kinds : List Clause → List Finding
  kinds [] = []
  kinds (c ∷ cs) = kinds_c c ++ kinds cs

-- `unfolding kind_walk` opens all of the walk.
unfoldable pub kind_walk : Unit {0}
unfolding passes is_arithmetic type_of settings at_type at_row misplaced row_for kinds_e kinds_c kinds exprs keys_of
kind_walk = tt
