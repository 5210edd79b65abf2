-- Entries at the front of a list of words: what is stored after them, or in the place of one, makes the list of those with it.
use Prim.Native.Nat.{ℕ, zero, suc, ◌+◌, ◌-◌, ◌*◌, ◌≤◌}
use native.Mathlib.Nat.{zero-mul, zero-add, suc-add}
use native.Mathlib.Omega.{arith}
use mathlib.Core.Path.{◌≡◌, refl, ◌∙◌}
use mathlib.Core.List.{List, [], ◌∷◌, ◌++◌, flat_map, append_assoc, append-nil}
use lib.ListN.{length, set, drop, length-append, length-drop}
use lib.Seq.{sets, sets-eq, drop_at, drop-drop}
use Rattle.scope.specs.Flat.{scope_width, binding_width, carried_width}
use Rattle.scope.specs.Graph.{Scope, scope, name, Entry, entry, Carried, carried}
use Rattle.semantics.specs.Log.{Write, write, found, missing, Finding, finding}
use Rattle.finding.specs.Flat.{finding_width, finding_words}
use Rattle.entries.specs.Filled.{filled, scope_words, binding_words, carried_words, recorded_width, recorded_words}

-- words that are filled, and words stored after them
pub filled-nil : (old : List ℕ) → filled old [] ≡ old
unfolding filled
filled-nil old = refl

pub length-filled : (old ws : List ℕ) → length ws ≤ length old → length (filled old ws) ≡ length old
unfolding filled
length-filled old ws h = simp (length-append, length-drop) (omega arith)

pub filled-append : (old ws xs : List ℕ) → filled old (ws ++ xs) ≡ ws ++ filled (drop (length ws) old) xs
unfolding filled
filled-append old ws xs = rw (append_assoc, drop-drop, length-append)

sets-cons : (vs l : List ℕ) (x i : ℕ) → sets (x ∷ l) (suc i) vs ≡ x ∷ sets l i vs
sets-cons [] l x i = refl
sets-cons (v ∷ vs) l x i = sets-cons vs (set l i v) x (suc i)

sets-append : (vs xs l : List ℕ) (i : ℕ) → sets (xs ++ l) (length xs + i) vs ≡ xs ++ sets l i vs
sets-append vs [] l i = rw zero-add
sets-append vs (x ∷ xs) l i = rw (suc-add, sets-cons, sets-append vs xs l i)

sets-front : (vs l : List ℕ) → length vs ≤ length l → sets l 0 vs ≡ filled l vs
unfolding filled
sets-front vs l h = sets-eq vs l 0 (omega arith) ∙ rw zero-add

sets-instead : (vs xs l : List ℕ) → length xs ≡ length vs → sets (xs ++ l) 0 vs ≡ vs ++ l
unfolding filled
sets-instead vs xs l e = sets-front vs (xs ++ l) (simp length-append (omega arith)) ∙ rw (drop_at xs l (length vs) e)

-- e as the entry numbered i, or as the last
unfoldable pub over : {A : Type 0} → ℕ → A → List A → List A
over i e [] = e ∷ []
over zero e (x ∷ es) = e ∷ es
over (suc i) e (x ∷ es) = x ∷ over i e es

module _ {A : Type 0} (e : A) where
  pub length_over : (es : List A) (i : ℕ) → i ≤ length es → length (over i e es) ≡ suc i + (length es - suc i)
  unfolding over
  length_over [] i h = omega arith
  length_over (x ∷ es) zero h = omega arith
  length_over (x ∷ es) (suc i) h = omega (arith, length_over es i (omega arith))

  pub over_last : (es : List A) → over (length es) e es ≡ es ++ (e ∷ [])
  unfolding over
  over_last [] = refl
  over_last (x ∷ es) = rw (over_last es)

module _ {A : Type 0} (words : A → List ℕ) (width : ℕ) (sized : (a : A) → length (words a) ≡ width) where
  pub length-flat : (es : List A) → length (flat_map words es) ≡ length es * width
  unfolding flat_map
  length-flat [] = omega arith
  length-flat (x ∷ es) = simp length-append (omega (arith, sized x, length-flat es))

  pub sets_over : (e : A) (es : List A) (i : ℕ) (old : List ℕ) → i ≤ length es → suc i * width ≤ length old → sets (filled old (flat_map words es)) (i * width) (words e) ≡ filled old (flat_map words (over i e es))
  unfolding flat_map over
  sets_over e [] i old h r =
      let None : i ≡ 0 = omega arith in
      let w = sized e in
      rw (None, zero-mul, append-nil, filled-nil) (sets-front (words e) old (omega arith))
  sets_over e (x ∷ es) zero old h r =
      let same : length (words x) ≡ length (words e) = omega (arith, sized e, sized x) in
      rw (zero-mul, filled-append, filled-append, sets-instead (words e) (words x)) (rw same)
  sets_over e (x ∷ es) (suc i) old h r =
      let along : suc i * width ≡ length (words x) + i * width = omega (arith, sized x) in
      let room : suc i * width ≤ length (drop (length (words x)) old) = simp length-drop (omega (arith, sized x)) in
      rw (along, filled-append, filled-append, sets-append, sets_over e es i (drop (length (words x)) old) (omega arith))

-- how many words an entry has
pub sized-scope : (x : Scope) → length (scope_words x) ≡ scope_width
unfolding scope_words
sized-scope (scope k p a b) = refl

pub sized-binding : (x : Entry) → length (binding_words x) ≡ binding_width
unfolding binding_words
sized-binding (entry s (name m x) v k r) = refl

pub sized-carried : (x : Carried) → length (carried_words x) ≡ carried_width
unfolding carried_words
sized-carried (carried b (name m x) v) = refl

pub sized-recorded : (x : Write) → length (recorded_words x) ≡ recorded_width
unfolding recorded_words
sized-recorded (write i (found v k via)) = refl
sized-recorded (write i missing) = refl

pub sized-finding : (x : Finding) → length (finding_words x) ≡ finding_width
sized-finding (finding c a b x o t) = refl
