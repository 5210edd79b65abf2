-- Reading, resolving and checking kinds in one: what the words at a place make of where both walks stand, or the cause of a refusal. proofs/
-- Apart has it that this is the definition's reading, and then its two walks over what was read.
use Rattle.std.specs.Prelude.{ℕ, zero, suc, ◌+◌, Bool, true, false, List, [], ◌∷◌}
use Rattle.scope.specs.Graph.{comprehension_scope, indexed}
use Rattle.heads.specs.Got.{Got, ok, no, bind, word_in, any_word}
use Rattle.heads.specs.Form.{read_form, kids_of, items_of}
use Rattle.heads.specs.Head.{read_part, read_elem, mark_low, mark_high, mark_kids, deep_cause}
use Rattle.heads.specs.declared.Elem.{Elem}
use Rattle.heads.specs.declared.Part.{Part}
use Rattle.heads.specs.declared.Form.{Form}
use Rattle.heads.specs.declared.Form.TheVariants.{Leaf, Var, Unresolved, Prop, Two, Slice, Many, BinOp, UnaryOp, Case, IsNull, PatternPredicate, ListComprehension, PatternComprehension, ListPredicate, MapProjection}
use Rattle.expr.specs.Olds.{old_in}
use Rattle.tables.specs.Row.{path_kind}
use Rattle.semantics.specs.Log.{Finding}
use Rattle.semantics.specs.World.{World, variable}
use Rattle.semantics.specs.Resolve.{State, lookup, enter, leave, use_var, visit, bind_path, bind_elem}
use Rattle.semantics.specs.Kinds.{Setting, Pair, both, plain, pattern_type, type_of, settings, at_type, at_row, misplaced, row_for}

-- Where both walks stand: the name walk's state, what the kind walk found, newest first, and how many expressions 25 were read so far.
pub record Both : Type 0 where
  pub names : State
  pub kinds : List Finding
  pub olds : ℕ

-- Which walks look at a place: names are "not resolved" in some, and kinds are checked in the "head only".
pub record Mode : Type 0 where
  pub resolves : Bool
  pub checks : Bool

abbrev pub unresolving : Mode → Mode
unresolving m = record { resolves = false; checks = m.checks }

abbrev pub Go : Type 0
Go = Both → List ℕ → Got Both

abbrev pub when : {A : Type 0} → Bool → (A → A) → A → A
when true f a = f a
when false f a = a

-- findings, pushed one after the other
unfoldable pub told : List Finding → List Finding → List Finding
told [] k = k
told (f ∷ fs) k = told fs (f ∷ k)

-- so many expressions 25 more, whichever walk looks
abbrev pub counting : ℕ → Both → Both
counting n s = record { names = s.names; kinds = s.kinds; olds = s.olds + n }

-- a step of the name walk and findings of the kind walk, of those that look
abbrev pub step : Mode → (State → State) → List Finding → Both → Both
step m f fs s = record { names = when m.resolves f s.names; kinds = when m.checks (told fs) s.kinds; olds = s.olds }

-- one after the other
unfoldable pub rounds : ℕ → Go → Go
rounds zero one s r = ok s r
rounds (suc n) one s r = bind (one s r) (λ t r2. rounds n one t r2)

-- expressions in a row, the first in one setting, the later ones in another
unfoldable pub row_go : (Setting → Go) → ℕ → Pair → Go
row_go E zero p s r = ok s r
row_go E (suc n) (both c d) s r = bind (E c s r) (λ t r2. row_go E n (both d d) t r2)

abbrev pub same : State → State
same s = s

-- out of a comprehension's scope; any other head leaves what its parts left
abbrev pub left : Mode → Both → Both → Both
left m s t = record { names = when m.resolves (leave s.names) t.names; kinds = t.kinds; olds = t.olds }

abbrev pub tail_of : Mode → Form → Both → Both → Both
tail_of m (Leaf k) s t = t
tail_of m (Var v) s t = t
tail_of m (Unresolved x) s t = t
tail_of m (Prop x) s t = t
tail_of m (Two k) s t = t
tail_of m (Slice b) s t = t
tail_of m (Many k n) s t = t
tail_of m (BinOp o) s t = t
tail_of m (UnaryOp o) s t = t
tail_of m (Case b n) s t = t
tail_of m IsNull s t = t
tail_of m PatternPredicate s t = t
tail_of m (ListComprehension g) s t = t
tail_of m (PatternComprehension a b g) s t = left m s t
tail_of m (ListPredicate g) s t = t
tail_of m (MapProjection n) s t = t

module _ (w : World) where
  -- a name, sought in the visible list if it is a use here
  abbrev pub name_use : ℕ → State → State
  name_use x s = visit w (w.hushed x) x (lookup (indexed x) s.visible) s

  -- what a head does before its parts: a use, the scope of a comprehension, the finding of its own level
  abbrev pub head_of : Mode → Form → Setting → Both → Both
  head_of m (Leaf k) c = λ s. counting (old_in (Leaf k)) (step m same (at_type c (type_of (Leaf k))) s)
  head_of m (Var v) c = step m (use_var w v (w.row v)) (at_row c (w.row v))
  head_of m (Unresolved x) c = step m (name_use x) []
  head_of m (Prop x) c = step m same (at_type c (type_of (Prop x)))
  head_of m (Two k) c = step m same (at_type c (type_of (Two k)))
  head_of m (Slice b) c = step m same (at_type c (type_of (Slice b)))
  head_of m (Many k n) c = step m same (at_type c (type_of (Many k n)))
  head_of m (BinOp o) c = step m same (at_type c (type_of (BinOp o)))
  head_of m (UnaryOp o) c = step m same (at_type c (type_of (UnaryOp o)))
  head_of m (Case b n) c = step m same (at_type c (type_of (Case b n)))
  head_of m IsNull c = step m same (at_type c (type_of IsNull))
  head_of m PatternPredicate c = step m same (at_type c pattern_type)
  head_of m (ListComprehension g) c = step m same (at_type c (type_of (ListComprehension g)))
  head_of m (PatternComprehension a b g) c = step m (enter comprehension_scope a b) []
  head_of m (ListPredicate g) c = step m same (at_type c (type_of (ListPredicate g)))
  head_of m (MapProjection n) c = step m same (at_type c (type_of (MapProjection n)))

  -- an element's and a part's own binder
  abbrev pub elem_step : Mode → Elem → Both → Both
  elem_step m h = step m (bind_elem w h.kind (variable h.variable)) (misplaced (suc h.kind) h.kind h.start h.end (row_for w h.variable))

  abbrev pub part_step : Mode → Part → Both → Both
  part_step m h = step m (bind_path w (variable h.path)) (misplaced 1 path_kind 0 0 (row_for w h.path))

  -- E walks an expression within, by mode and setting
  module _ (E : Mode → Setting → Go) where
    -- n marks of a kind, each with its expressions
    unfoldable pub mark_go : Mode → ℕ → Go
    mark_go m kind s r = bind (word_in (mark_low kind) (mark_high kind) r) (λ k r2. row_go (E m) (mark_kids kind k) plain s r2)

    unfoldable pub elem_go : Mode → Go
    elem_go m s r = bind (read_elem r) (λ h r2. row_go (E m) h.property plain (elem_step m h s) r2)

    unfoldable pub part_go : Mode → Go
    part_go m s r = bind (read_part r) (λ h r2. rounds h.count (elem_go m) (part_step m h s) r2)

    unfoldable pub pattern_go : Mode → Go
    pattern_go m s r = bind (any_word r) (λ n r2. rounds n (part_go m) s r2)

    -- the pattern of a head, where it has one: "PatternPredicate .. not resolved"
    abbrev pub inner_go : Mode → Form → Go
    inner_go m (Leaf k) s r = ok s r
    inner_go m (Var v) s r = ok s r
    inner_go m (Unresolved x) s r = ok s r
    inner_go m (Prop x) s r = ok s r
    inner_go m (Two k) s r = ok s r
    inner_go m (Slice b) s r = ok s r
    inner_go m (Many k n) s r = ok s r
    inner_go m (BinOp o) s r = ok s r
    inner_go m (UnaryOp o) s r = ok s r
    inner_go m (Case b n) s r = ok s r
    inner_go m IsNull s r = ok s r
    inner_go m PatternPredicate s r = pattern_go (unresolving m) s r
    inner_go m (ListComprehension g) s r = ok s r
    inner_go m (PatternComprehension a b g) s r = pattern_go m s r
    inner_go m (ListPredicate g) s r = ok s r
    inner_go m (MapProjection n) s r = ok s r

    -- what follows a head: its pattern, its expressions, its items
    unfoldable pub rest_go : Mode → Form → Setting → Go
    rest_go m f c s r =
        bind (inner_go m f s r)
        (λ s1 r1. bind (row_go (E m) (kids_of f) (settings w.is_id f c) s1 r1) (λ s2 r2. rounds (items_of f) (mark_go m 0) s2 r2))

  -- an expression, where there are so many names, with room for this many levels
  unfoldable pub expr_go : ℕ → ℕ → Mode → Setting → Go
  expr_go names zero m c s r = no (deep_cause r)
  expr_go names (suc d) m c s r =
      bind (read_form names r)
      (λ f r1. bind (rest_go (expr_go names d) m f c (head_of m f c s) r1) (λ s2 r2. ok (tail_of m f s s2) r2))
