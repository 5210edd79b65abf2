-- Entries that are written as words at the front of a list read back: of scopes, bindings, carried names, recorded uses and findings.
use Rattle.std.specs.Prelude.{None, Some}
use Prim.Native.Nat.{ℕ, zero, suc}
use mathlib.Core.Path.{◌≡◌, refl, ap₂}
use mathlib.Core.List.{List, [], ◌∷◌, ◌++◌, flat_map, append_assoc}
use lib.ListN.{length, drop}
use Rattle.scope.specs.Graph.{Scope, scope, name, Entry, entry, Carried, carried}
use Rattle.scope.specs.Flat.{scope_width, binding_width, carried_width, entries_of, scope_of, binding_of, carried_of}
use Rattle.semantics.specs.Log.{Finding, finding, found, missing, Write, write}
use Rattle.finding.specs.Flat.{finding_width, finding_words, finding_of}
use Rattle.entries.specs.Filled.{filled, scope_words, binding_words, carried_words, recorded_width, recorded_words}
use Rattle.checker.specs.Calls.{write_of}

-- Entries at the front of words read back, if each does.
module _ {A : Type 0} (width : ℕ) (one : List ℕ → A) (words : A → List ℕ) (back : (a : A) (r : List ℕ) → one (words a ++ r) ≡ a)
    (past : (a : A) (r : List ℕ) → drop width (words a ++ r) ≡ r) where
  entries-back : (es : List A) (r : List ℕ) → entries_of width one (length es) (flat_map words es ++ r) ≡ es
  unfolding entries_of flat_map
  entries-back [] r = refl
  entries-back (e ∷ es) r =
      rw (append_assoc (words e) (flat_map words es) r, past e (flat_map words es ++ r)) (ap₂ ◌∷◌ (back e (flat_map words es ++ r)) (entries-back es r))

  filled-back : (es : List A) (old : List ℕ) → entries_of width one (length es) (filled old (flat_map words es)) ≡ es
  unfolding filled
  filled-back es old = entries-back es _

scope-back : (a : Scope) (r : List ℕ) → scope_of (scope_words a ++ r) ≡ a
unfolding scope_words
scope-back (scope k None a b) r = refl
scope-back (scope k (Some p) a b) r = refl

scope-past : (a : Scope) (r : List ℕ) → drop scope_width (scope_words a ++ r) ≡ r
unfolding scope_words
scope-past (scope k p a b) r = refl

binding-back : (a : Entry) (r : List ℕ) → binding_of (binding_words a ++ r) ≡ a
unfolding binding_words
binding-back (entry s (name m x) v k None) r = refl
binding-back (entry s (name m x) v k (Some u)) r = refl

binding-past : (a : Entry) (r : List ℕ) → drop binding_width (binding_words a ++ r) ≡ r
unfolding binding_words
binding-past (entry s (name m x) v k o) r = refl

carried-back : (a : Carried) (r : List ℕ) → carried_of (carried_words a ++ r) ≡ a
unfolding carried_words
carried-back (carried b (name m x) v) r = refl

carried-past : (a : Carried) (r : List ℕ) → drop carried_width (carried_words a ++ r) ≡ r
unfolding carried_words
carried-past (carried b (name m x) v) r = refl

recorded-back : (a : Write) (r : List ℕ) → write_of (recorded_words a ++ r) ≡ a
unfolding recorded_words
recorded-back (write i (found v k via)) r = refl
recorded-back (write i missing) r = refl

recorded-past : (a : Write) (r : List ℕ) → drop recorded_width (recorded_words a ++ r) ≡ r
unfolding recorded_words
recorded-past (write i (found v k via)) r = refl
recorded-past (write i missing) r = refl

finding-back : (a : Finding) (r : List ℕ) → finding_of (finding_words a ++ r) ≡ a
finding-back (finding c a b None o t) r = refl
finding-back (finding c a b (Some (name zero x)) o t) r = refl
finding-back (finding c a b (Some (name (suc m) x)) o t) r = refl

finding-past : (a : Finding) (r : List ℕ) → drop finding_width (finding_words a ++ r) ≡ r
finding-past (finding c a b x o t) r = refl

pub scopes-back : (es : List Scope) (old : List ℕ) → entries_of scope_width scope_of (length es) (filled old (flat_map scope_words es)) ≡ es
scopes-back = filled-back scope_width scope_of scope_words scope-back scope-past

pub bindings-back : (es : List Entry) (old : List ℕ) → entries_of binding_width binding_of (length es) (filled old (flat_map binding_words es)) ≡ es
bindings-back = filled-back binding_width binding_of binding_words binding-back binding-past

pub carrieds-back : (es : List Carried) (old : List ℕ) → entries_of carried_width carried_of (length es) (filled old (flat_map carried_words es)) ≡ es
carrieds-back = filled-back carried_width carried_of carried_words carried-back carried-past

pub recordeds-back : (es : List Write) (old : List ℕ) → entries_of recorded_width write_of (length es) (filled old (flat_map recorded_words es)) ≡ es
recordeds-back = filled-back recorded_width write_of recorded_words recorded-back recorded-past

pub findings-back : (es : List Finding) (old : List ℕ) → entries_of finding_width finding_of (length es) (filled old (flat_map finding_words es)) ≡ es
findings-back = filled-back finding_width finding_of finding_words finding-back finding-past
