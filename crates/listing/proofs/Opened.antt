-- What a run over a sheet gives its listing: a refusal is handed on, and 8 is given by what it counted; else the findings that it left in words
-- are the definition's, as are the expressions 25 that it counted, and what is written of them and of the names that a table has is the listing.
use Prim.Native.Nat.{ℕ, ◌+◌, ◌*◌, ◌<◌, ◌≤◌}
use native.Mathlib.Omega.{arith}
use mathlib.Core.Path.{◌≡◌, refl, sym}
use mathlib.Core.Bool.{Bool, false, ◌&&◌, and-false}
use mathlib.Core.List.{List}
use borrow.Author.Tests.{le-leb, lt-leb}
use lib.Dec.{leb}
use lib.ListN.{take}
use Rattle.std.specs.Prelude.{Result, Err}
use Rattle.words.specs.Words.{words}
use Rattle.refusal.specs.Number.{number_of}
use Rattle.refusal.specs.declared.Refusal.{Refusal}
use Rattle.refusal.specs.declared.Refusal.TheVariants.{Entries}
use Rattle.refusal.proofs.Numbers.{small}
use Rattle.refusal.proofs.Handed.{handed}
use Rattle.std.specs.Result.{IsErr, IsErrAnd}
use Rattle.sheet.specs.declared.trailer.Places.{Places}
use Rattle.sheet.specs.Answer.{sheet_of}
use Rattle.tables.specs.Answer.{names_in}
use Rattle.sheet.specs.Trailer.{places_of}
use Rattle.sheet.specs.Read.{accepted, refused, locate, read_sheet}
use Rattle.sheet.specs.declared.trailer.Places.{Places}
use Rattle.semantics.specs.World.{world_of}
use Rattle.semantics.specs.Resolve.{run, log}
use Rattle.semantics.specs.Kinds.{kinds}
use Rattle.semantics.specs.Lists.{findings}
use Rattle.rows.specs.declared.Index.{Index}
use Rattle.steps.specs.declared.Walk.{Walk}
use Rattle.sheet_walk.specs.Runs.{id_of, RanTo}
use Rattle.sheet_walk.specs.declared.Choice.{Choice}
use Rattle.sheet_walk.specs.declared.Scratch.{Scratch}
use Rattle.texts.specs.Page.{Writes, WritesAsWord}
use Rattle.texts.proofs.Giving.{gives-refusal}
use Rattle.lines.specs.Lines.{listed}
use Rattle.lines.specs.Given.{findings_in}
use Rattle.listing.specs.Listing.{entries, fits, listing}
use Rattle.listing.specs.Found.{FoundIn}
use Rattle.listing.proofs.Counted.{counted}
use Rattle.listing.proofs.Laid.{laid}

-- a refusal r whose number a sheet is refused by
pub refused-listing : (warns : Bool) (s page : List ℕ) {r : Refusal} {c : ℕ} → number_of r ≡ c → read_sheet s ≡ refused c → Writes (listing warns s) page page (Err r)
unfolding listing
refused-listing warns s page {r} n e = rw (e, ← n) (gives-refusal r page)

pub unplaced : (s : List ℕ) {c : ℕ} → locate s ≡ refused c → read_sheet s ≡ refused c
unfolding read_sheet
unplaced s e = rw e

-- a run that refused
pub ran-no : (warns : Bool) (page s : List ℕ) (e : Refusal) (r : Result ℕ Refusal) → read_sheet s ≡ refused (number_of e) → IsErr r × IsErrAnd r (λ y. y ≡ e) → WritesAsWord (listing warns s) page page r
ran-no warns page s e r x f = rw (handed e r f) (refused-listing warns s page refl x, omega (arith, small e))

-- what a `?` answers where the sections stand nowhere
pub unplaced-listing : (warns : Bool) (s page : List ℕ) (e : Refusal) (r : Result ℕ Refusal) → sheet_of {A = Places} (Err e) ≡ locate s → IsErr r × IsErrAnd r (λ y. y ≡ e) → WritesAsWord (listing warns s) page page r
unplaced-listing warns s page e r h f = ran-no warns page s e r (unplaced s (sym h)) f

-- the choice of a listing: findings alone
abbrev pub choice_of : Bool → Choice
choice_of warns = record { warns = warns; wants = false }

-- what a run for findings alone leaves
module _ (warns : Bool) {s : List ℕ} {a : Scratch} {old carried : List ℕ} {x : Index} (r : RanTo (choice_of warns) s a old carried x) where
  enough : fits warns r.statement ≡ leb a.walk.made entries && leb a.walk.taken entries
  enough = rw (r.bindings, r.carried_names) (counted warns s r.statement r.read)

  pub from-run : a.walk.made ≤ entries → a.walk.taken ≤ entries → FoundIn warns s a.places.now a.walk
  unfolding findings log
  from-run m t =
      let st = r.statement in
      record {
        statement = st;
        read = r.read;
        fitting = rw (enough, le-leb a.walk.made entries m, le-leb a.walk.taken entries t);
        names = r.names;
        lists = laid (id_of st) a.walk.log.said a.walk.log.told a.walk.log.words.now (run warns st).log (kinds (world_of warns st) st.head) r.log r.kinds;
        olds = r.olds;
        few = r.few;
        many = r.many;
        wide = r.wide;
      }

  eight : (page : List ℕ) → leb a.walk.made entries && leb a.walk.taken entries ≡ false → Writes (listing warns s) page page (Err Entries)
  unfolding listing
  eight page e = rw (r.read, enough, e) (gives-refusal Entries page)

  pub many-made : (page : List ℕ) → entries < a.walk.made → Writes (listing warns s) page page (Err Entries)
  many-made page h = eight page (rw (lt-leb a.walk.made entries h))

  pub many-carried : (page : List ℕ) → entries < a.walk.taken → Writes (listing warns s) page page (Err Entries)
  many-carried page h = eight page (rw (lt-leb a.walk.taken entries h, and-false))

-- an accepted sheet's names and findings, and its expressions 25
pub listed-is : {warns : Bool} {s places : List ℕ} {w : Walk} → FoundIn warns s places w → {p : Places} → p ≡ places_of (words s) → {old page : List ℕ} {r : Result ℕ Refusal} →
    Writes (accepted (listed (names_in (take (p.rows * 4) s) p.names places) (findings_in w.log.said (w.log.said + w.log.told) w.log.words.now) w.olds)) old page r → Writes (listing warns s) old page r
unfolding listing
listed-is {s = s} f {p} e x =
    rw (f.read, f.fitting) (rw (e, f.names, f.lists, f.olds) at x)
