-- The place of an entry: a search for it among words, and what is put there.
use Rattle.std.specs.Prelude.{Option, None, Some, map}
use Rattle.std.proofs.lemmas.List.{length-map}
use Prim.Native.Nat.{ℕ, zero, suc, ◌+◌, ◌-◌, ◌*◌, ◌<◌, ◌≤◌}
use native.Mathlib.Omega.{arith}
use mathlib.Core.Path.{◌≡◌, refl, ap}
use mathlib.Core.Bool.{Bool, true, false, cond, ◌&&◌, and-false}
use mathlib.Core.List.{List, [], ◌∷◌, ◌++◌, flat_map}
use lib.Dec.{eqb}
use borrow.Author.Tests.{ne_eqb, eq-eqb}
use lib.ListN.{length, get_or, drop}
use lib.Seq.{sets, length-sets, drop_at, get_or-append-add}
use Rattle.scope.specs.Flat.{binding_width, entries_of, binding_of, bindings_of}
use Rattle.scope.specs.Graph.{Name, name, same_name, Entry, entry}
use Rattle.scope.specs.Answer.{name_of}
use Rattle.semantics.specs.Log.{bound, Answer, Write, write}
use Rattle.semantics.specs.Lists.{put, note}
use Rattle.entries.specs.Filled.{filled, binding_words}
use Rattle.entries.specs.Adding.{Holds, place, Without, last_place, is_binding}
use Rattle.entries.specs.declared.Binding.{Binding}
use Rattle.entries.specs.Stamps.{Stores}
use Rattle.entries.proofs.Filling.{over, length_over, filled-append, sized-binding}
use Rattle.entries.proofs.Adding.{set_holds}

-- what is read of entries' words is the entries
module _ {A : Type 0} (words : A → List ℕ) (width : ℕ) (sized : (a : A) → length (words a) ≡ width) (one : List ℕ → A) (same : (a : A) (rest : List ℕ) → one (words a ++ rest) ≡ a) where
  words-read : (es : List A) (old : List ℕ) → entries_of width one (length es) (filled old (flat_map words es)) ≡ es
  unfolding entries_of flat_map
  words-read [] old = refl
  words-read (x ∷ es) old =
      let rest = filled (drop (length (words x)) old) (flat_map words es) in
      rw (filled-append, drop_at (words x) rest width (sized x), same x rest, words-read es (drop (length (words x)) old))

  pub entries-read : {old out : List ℕ} {m : ℕ} {es : List A} → Holds words old out m es → entries_of width one m out ≡ es
  entries-read {old} {es = es} h = rw (h.count, h.wrote) (words-read es old)

-- where none of a list fits, its first doesn't, and none of the rest
pub none-ahead : (b : Bool) {p n : ℕ} → cond b 0 (suc p) ≡ suc n → (b ≡ false) × (p ≡ n)
none-ahead true h = absurd (omega arith)
none-ahead false h = (refl, omega arith)

-- a search from the back: past those that don't fit, to the last that does
module _ {A : Type 0} (fits : A → Bool) where
  pub last-none : (es : List A) → Without fits es → last_place fits es ≡ length es
  unfolding place last_place
  last-none [] w = refl
  last-none (e ∷ es) w = let h = none-ahead (fits e) w in rw h.0 (ap suc (last-none es h.1))

  pub one-passed : (e : A) (es : List A) → fits e ≡ false → Without fits es → Without fits (e ∷ es)
  unfolding place
  one-passed e es f w = rw f (ap suc w)

  pub last-at : {B : Type 0} (one : B → A) (none : B) (es : List B) (i : ℕ) → i < length es → fits (one (get_or es i none)) ≡ true → Without fits (map one (drop (suc i) es)) → last_place fits (map one es) ≡ i
  unfolding place last_place
  last-at one none [] i l f w = absurd (omega arith)
  last-at one none (e ∷ es) zero l f w = rw (f, eq-eqb _ _ w)
  last-at one none (e ∷ es) (suc i) l f w =
      let there : last_place fits (map one es) ≡ i = last-at one none es i (omega arith) f w in
      let later : eqb (place fits (map one es)) (length (map one es)) ≡ false = ne_eqb _ _ (λ (z : Without fits (map one es)). omega (arith, there, last-none (map one es) z, length-map es one)) in
      rw (later, and-false (fits (one e)), there)

-- an entry takes the place of the first that fits
here-or-later : {A : Type 0} (b : Bool) (new : ℕ → A) (x : A) (i : ℕ) (es : List A) {later : List A} → later ≡ over i (new (suc i)) es → cond b (new 0 ∷ es) (x ∷ later) ≡ over (cond b 0 (suc i)) (new (cond b 0 (suc i))) (x ∷ es)
unfolding over
here-or-later true new x i es h = refl
here-or-later false new x i es h = rw h

-- What a binding replaces, and where it goes.
unfoldable pub replaced_at : ℕ → List Entry → Option ℕ
replaced_at i [] = None
replaced_at zero (entry t y u j r ∷ es) = Some u
replaced_at (suc i) (e ∷ es) = replaced_at i es

module _ (s : ℕ) (x : Name) (v k : ℕ) where
  pub put-over : (es : List Entry) → put (bound s x v k) es ≡ over (place (is_binding s x) es) (entry s x v k (replaced_at (place (is_binding s x) es) es)) es
  unfolding put over place replaced_at
  put-over [] = refl
  put-over (entry t y u j r ∷ es) = here-or-later (eqb s t && same_name x y) (λ i. entry s x v k (replaced_at i (entry t y u j r ∷ es))) (entry t y u j r) (place (is_binding s x) es) es (put-over es)

within-or-later : (b : Bool) {i n : ℕ} → i ≤ n → cond b 0 (suc i) ≤ suc n
within-or-later true h = omega arith
within-or-later false h = omega arith

place-within : {A : Type 0} (fits : A → Bool) (es : List A) → place fits es ≤ length es
unfolding place
place-within fits [] = omega arith
place-within fits (e ∷ es) = within-or-later (fits e) (place-within fits es)

pub last-within : {A : Type 0} (fits : A → Bool) (es : List A) → last_place fits es ≤ length es
unfolding last_place
last-within fits [] = omega arith
last-within fits (e ∷ es) = within-or-later (fits e && eqb (place fits es) (length es)) (last-within fits es)

length-put : (s : ℕ) (x : Name) (v k : ℕ) (es : List Entry) → length (put (bound s x v k) es) ≡ suc (place (is_binding s x) es) + (length es - suc (place (is_binding s x) es))
length-put s x v k es = rw (put-over s x v k es) (length_over _ es (place (is_binding s x) es) (place-within (is_binding s x) es))

pub replaced-none : (es : List Entry) (i : ℕ) → length es ≤ i → replaced_at i es ≡ None
unfolding replaced_at
replaced-none [] i h = refl
replaced-none (entry t y u j r ∷ es) zero h = absurd (omega arith)
replaced-none (entry t y u j r ∷ es) (suc i) h = replaced-none es i (omega arith)

pub replaced-some : (es : List Entry) (i : ℕ) (old : List ℕ) → i < length es → replaced_at i es ≡ Some (get_or (filled old (flat_map binding_words es)) (i * binding_width + 2) 0)
unfolding replaced_at flat_map binding_words
replaced-some [] i old h = absurd (omega arith)
replaced-some (entry t (name m y) u j r ∷ es) zero old h = rw (filled-append old (binding_words (entry t (name m y) u j r)) (flat_map binding_words es))
replaced-some (e ∷ es) (suc i) old h =
    let w = binding_words e in
    let along : suc i * binding_width + 2 ≡ length w + (i * binding_width + 2) = omega (arith, sized-binding e) in
    rw (along, filled-append old w (flat_map binding_words es), get_or-append-add w) (replaced-some es i (drop (length w) old) (omega arith))

-- Where an answer goes.
abbrev pub is_use : ℕ → Write → Bool
is_use i (write j b) = eqb i j

pub note-over : (i : ℕ) (a : Answer) (es : List Write) → note (write i a) es ≡ over (place (is_use i) es) (write i a) es
unfolding note over place
note-over i a [] = refl
note-over i a (write j b ∷ es) = here-or-later (eqb i j) (λ n. write i a) (write j b) (place (is_use i) es) es (note-over i a es)

-- A binding is stored in its place.
binding-read : (e : Entry) (rest : List ℕ) → binding_of (binding_words e ++ rest) ≡ e
unfolding binding_words
binding-read (entry t (name m y) u j None) rest = refl
binding-read (entry t (name m y) u j (Some v)) rest = refl

pub bindings-read : {old out : List ℕ} {m : ℕ} {es : List Entry} → Holds binding_words old out m es → bindings_of m out ≡ es
bindings-read h = entries-read binding_words binding_width sized-binding binding_of binding-read h

module _ {old out : List ℕ} {m : ℕ} {es : List Entry} (s : ℕ) (x : Name) (v k i : ℕ) (h : Holds binding_words old out m es) (p : i ≡ place (is_binding s x) es) where
  binding-placed : (r : ℕ) (o : Option ℕ) → i ≤ m → suc i * binding_width ≤ length out → r ≡ suc i + (m - suc i) → replaced_at i es ≡ o → Holds binding_words old (sets out (i * binding_width) (binding_words (entry s x v k o))) r (put (bound s x v k) es)
  binding-placed r o b room c e = rw (put-over s x v k es, ← p, e) (set_holds binding_words binding_width sized-binding (entry s x v k o) i b room c h)

  binding-again : i < m → m * binding_width ≤ length out → Holds binding_words old (sets out (i * binding_width) (binding_words (entry s x v k (Some (get_or out (i * binding_width + 2) 0))))) m (put (bound s x v k) es)
  binding-again l room =
      let had : replaced_at i es ≡ Some (get_or out (i * binding_width + 2) 0) = rw h.wrote (replaced-some es i old (omega (arith, h.count))) in
      binding-placed m _ (omega arith) (omega arith) (omega arith) had

  binding-anew : i ≡ m → (m + 1) * binding_width ≤ length out → Holds binding_words old (sets out (m * binding_width) (binding_words (entry s x v k None))) (m + 1) (put (bound s x v k) es)
  binding-anew e room = rw e at (binding-placed (m + 1) None (omega arith) (omega arith) (omega arith) (replaced-none es i (omega (arith, h.count))))

  no_room : i ≡ m → length out < (m + 1) * binding_width → length (put (bound s x v k) es) * binding_width ≤ length out → ⊥
  no_room e full room = omega (arith, h.count, length-put s x v k es)

-- a binding is stored in the place of another, or as the last, or there is no room for it
abbrev pub stored : Binding → Option ℕ → List ℕ
stored b replaced = binding_words (entry b.scope (name_of b.name) b.variable b.kind replaced)

module _ (b : Binding) {out : List ℕ} {m i : ℕ} where
  pub stored-again : i < m → m * binding_width ≤ length out → Stores b i out (sets out (i * binding_width) (stored b (Some (get_or out (i * binding_width + 2) 0)))) m m
  stored-again l room =
      record {
        kept = length-sets out (i * binding_width) (stored b (Some (get_or out (i * binding_width + 2) 0)));
        within = room;
        holds = λ old es h p fits. binding-again b.scope (name_of b.name) b.variable b.kind i h p l room;
      }

  pub stored-anew : i ≡ m → (m + 1) * binding_width ≤ length out → Stores b i out (sets out (m * binding_width) (stored b None)) m (m + 1)
  stored-anew e room =
      record {
        kept = length-sets out (m * binding_width) (stored b None);
        within = room;
        holds = λ old es h p fits. binding-anew b.scope (name_of b.name) b.variable b.kind i h p e room;
      }

  pub not-stored : i ≡ m → m * binding_width ≤ length out → length out < (m + 1) * binding_width → Stores b i out out m m
  not-stored e room full =
      record {
        kept = refl;
        within = room;
        holds = λ old es h p fits. absurd (no_room b.scope (name_of b.name) b.variable b.kind i h p e full fits);
      }
