-- What a page is given: a text that fits, 10 for one that does not, or a refusal.
use Prim.Native.Nat.{ℕ, ◌<◌, ◌≤◌}
use native.Mathlib.Nat.{zero-add}
use mathlib.Core.Path.{◌≡◌, refl, sym, ◌∙◌}
use mathlib.Core.Bool.{Bool, true, false, cond}
use mathlib.Core.List.{List}
use borrow.Author.Tests.{leb-true, le-leb, lt-leb}
use lib.Dec.{leb}
use lib.ListN.{length}
use Rattle.std.specs.Prelude.{Ok, Err}
use Rattle.words.specs.Front.{put_front}
use Rattle.refusal.specs.Number.{number_of}
use Rattle.refusal.specs.declared.Refusal.{Refusal}
use Rattle.refusal.specs.declared.Refusal.TheVariants.{Page}
use Rattle.expr.proofs.Inverse.{never}
use Rattle.sheet.specs.Read.{Sheet, accepted, refused}
use Rattle.texts.specs.Laid.{Lays}
use Rattle.texts.specs.Page.{written_as, page_as, Writes}
use Rattle.texts.proofs.Laying.{front-laid}

pub gives-text : {text old new : List ℕ} {r : ℕ} → Lays text old 0 new r → length text ≤ length old → Writes (accepted text) old new (Ok r)
unfolding written_as page_as put_front
gives-text {text} {old} p h =
    let fits = le-leb (length text) (length old) h in
    let long = p.next ∙ zero-add (length text) in
    record { answer = rw (long, fits); page = rw (p.wrote, fits) (front-laid text old h) }

pub gives-ten : (text old : List ℕ) → length old < length text → Writes (accepted text) old old (Err Page)
unfolding written_as page_as put_front
gives-ten text old h = let long = lt-leb (length text) (length old) h in record { answer = rw long; page = rw long }

pub gives-refusal : (c : Refusal) (old : List ℕ) → Writes (refused (number_of c)) old old (Err c)
unfolding written_as page_as
gives-refusal c old = record { answer = refl; page = refl }

within : (k n room : ℕ) (b : Bool) → b ≡ leb k room → accepted n ≡ cond b (accepted k) (refused 10) → n ≤ room
within k n room true t e = let same : n ≡ k = cc in rw same (leb-true k room (sym t))
within k n room false t e = never (cc)

-- what is written is no longer than the page
pub written-within : (x : Sheet (List ℕ)) {n room : ℕ} → accepted n ≡ written_as x room → n ≤ room
unfolding written_as
written-within (accepted text) {n} {room} e = within (length text) n room (leb (length text) room) refl e
written-within (refused c) e = never (cc)
