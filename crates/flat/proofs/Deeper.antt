-- With one level more of room a reading is the same, but where less room refuses it by cause 6.
use Prim.Native.Nat.{ℕ, zero, suc}
use mathlib.Core.Bool.{Bool, true, false}
use mathlib.Core.List.{List, [], ◌∷◌}
use Rattle.heads.specs.Got.{Got, ok, no, bind, next, bare, word_in, any_word}
use Rattle.heads.specs.Form.{read_form, kids_of, items_of, has_pattern}
use Rattle.heads.specs.Head.{read_part, read_elem, mark_low, mark_high, mark_kids, deep_cause}
use Rattle.heads.specs.declared.Form.{Form}
use Rattle.heads.proofs.Shapes.{Rest}
use Rattle.expr.specs.Read.{Reader, RestE, RestS, no_more, times, marks, elem_one, elems, parts, pattern, maybe_pattern, after_form, read_expr}

-- the answer with more room, and the one with less
pub data Deep {A : Type 0} : Got A → Got A → Type 0 where
  same : {g : Got A} → Deep g g
  deep : {g : Got A} → Deep g (no 6)

-- a reader with more room, and one with less
abbrev pub Deeper : {A : Type 0} → (List ℕ → Got A) → (List ℕ → Got A) → Type 0
Deeper P P' = (ws : List ℕ) → Deep (P ws) (P' ws)

-- after a head, which takes no room
pub deep-head : {A B : Type 0} {k k' : A → List ℕ → Got B} (g : Got A) → ((a : A) (r : List ℕ) → Deep (k a r) (k' a r)) → Deep (bind g k) (bind g k')
deep-head (ok a r) f = f a r
deep-head (no c) f = same

-- one reader after another
pub deep-bind : {A B : Type 0} {g h : Got A} {k k' : A → List ℕ → Got B} → Deep g h → ((a : A) (r : List ℕ) → Deep (k a r) (k' a r)) → Deep (bind g k) (bind h k')
deep-bind (same {g}) f = deep-head g f
deep-bind deep f = deep

pub deep-bare : {A : Type 0} {g h : Got A} → Deep g h → Deep (bare g) (bare h)
deep-bare same = same
deep-bare deep = deep

pub deep-next : {h h' : Rest} (g : Got (Unit {0})) → ((r : List ℕ) → Deep (h r) (h' r)) → Deep (next g h) (next g h')
deep-next (ok a r) f = f r
deep-next (no c) f = same

pub deep-times : (n : ℕ) {P P' : Reader} {K K' : RestE} → Deeper P P' → Deeper K K' → Deeper (times n P K) (times n P' K')
unfolding times
deep-times zero p k ws = k ws
deep-times (suc n) p k ws = deep-bind (p ws) (λ e r. deep-bind (deep-times n p k r) (λ es r2. same))

pub deep-row : (n : ℕ) {P P' : Reader} → Deeper P P' → Deeper (times n P no_more) (times n P' no_more)
deep-row n p = deep-times n p (λ ws. same)

module _ {P P' : Reader} (p : Deeper P P') where
  deep-marks : (kind n : ℕ) → Deeper (marks kind n P) (marks kind n P')
  unfolding marks
  deep-marks kind zero ws = same
  deep-marks kind (suc n) ws =
      deep-head (word_in (mark_low kind) (mark_high kind) ws) (λ m r. deep-bind (deep-times (mark_kids kind m) p (deep-marks kind n) r) (λ es r2. same))

  deep-elem : Deeper (elem_one P) (elem_one P')
  unfolding elem_one
  deep-elem ws = deep-head (read_elem ws) (λ h r. deep-bind (deep-row h.property p r) (λ es r2. same))

  deep-elems : (n : ℕ) {K K' : RestS} → Deeper K K' → Deeper (elems n P K) (elems n P' K')
  unfolding elems
  deep-elems zero k ws = k ws
  deep-elems (suc n) k ws = deep-bind (deep-elem ws) (λ x r. deep-bind (deep-elems n k r) (λ s r2. same))

  deep-parts : (n : ℕ) → Deeper (parts n P) (parts n P')
  unfolding parts
  deep-parts zero ws = same
  deep-parts (suc n) ws =
      deep-head (read_part ws) (λ h r. deep-bind (deep-elems h.count (deep-parts n) r) (λ s r2. same))

  deep-pattern : (b : Bool) → Deeper (maybe_pattern b P) (maybe_pattern b P')
  unfolding maybe_pattern pattern
  deep-pattern true ws = deep-head (any_word ws) (λ n r. deep-parts n r)
  deep-pattern false ws = same

  deep-after : (f : Form) → Deeper (after_form P f) (after_form P' f)
  unfolding after_form
  deep-after f r =
      deep-bind (deep-pattern (has_pattern f) r) (λ s r2. deep-bind (deep-times (kids_of f) p (deep-marks 0 (items_of f)) r2) (λ es r3. same))

pub deep-expr : (names room : ℕ) (ws : List ℕ) → Deep (read_expr names (suc room) ws) (read_expr names room ws)
unfolding read_expr deep_cause read_form word_in
deep-expr names zero [] = same
deep-expr names zero (x ∷ ws) = deep
deep-expr names (suc room) ws = deep-head (read_form names ws) (λ f r. deep-after (deep-expr names room) f r)
