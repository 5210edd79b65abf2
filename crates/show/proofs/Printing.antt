-- What is printed after a listing was asked for: the front of its page where it was written, else the refusal's line, which is laid there.
use Prim.Native.Nat.{ℕ, ◌+◌, ◌^◌, ◌<◌, ◌≤◌}
use native.Mathlib.Nat.{zero-add}
use native.Mathlib.Omega.{arith}
use mathlib.Core.Path.{◌≡◌}
use mathlib.Core.Bool.{Bool, true, false, cond}
use mathlib.Core.List.{List, ◌++◌}
use lib.Dec.{leb}
use lib.ListN.{length, take, drop, length-append}
use lib.Seq.{take-append_seam}
use Rattle.std.specs.Prelude.{Ok, Err}
use Rattle.words.specs.Decimal.{decimal}
use Rattle.words.specs.Front.{put_front}
use Rattle.words.proofs.Digits.{width-le, length-decimal}
use Rattle.refusal.specs.Number.{number_of}
use Rattle.refusal.specs.declared.Refusal.{Refusal}
use Rattle.refusal.specs.declared.Refusal.TheVariants.{Size, Places, Names, Bindings, Word, Depth, Entries, Asked, Page, Room}
use Rattle.expr.proofs.Inverse.{never}
use Rattle.sheet.specs.Read.{Sheet, accepted, refused}
use Rattle.texts.specs.Laid.{Lays}
use Rattle.texts.specs.Page.{written_as, page_as, Writes}
use Rattle.texts.proofs.Laying.{front-laid}
use Rattle.show.specs.Printed.{page_size, refusal_text, on_page}

pub page-printed : (x : Sheet (List ℕ)) {old new : List ℕ} {n : ℕ} → length old ≡ page_size → Writes x old new (Ok n) → take n new ≡ on_page x
unfolding written_as page_as put_front on_page
page-printed (refused c) l w = let e = w.answer in never (cc)
page-printed (accepted text) {old} {new} {n} l w = go (leb (length text) page_size) (rw l at w.answer) (rw l at w.page)
  where
    go : (b : Bool) → accepted n ≡ cond b (accepted (length text)) (refused 10) → new ≡ cond b (text ++ drop (length text) old) old → take n new ≡ cond b text (refusal_text 10)
    go true e p =
        let long : n ≡ length text = cc in
        rw (p, long) (take-append_seam text (drop (length text) old))
    go false e p = never (cc)

pub refusal-printed : (x : Sheet (List ℕ)) {old new : List ℕ} {r : Refusal} → length old ≡ page_size → Writes x old new (Err r) → refusal_text (number_of r) ≡ on_page x
unfolding written_as on_page
refusal-printed (refused c) {r = r} l w = let e = w.answer in let same : number_of r ≡ c = cc in rw same
refusal-printed (accepted text) {r = r} l w = go (leb (length text) page_size) (rw l at w.answer)
  where
    go : (b : Bool) → refused (number_of r) ≡ cond b (accepted (length text)) (refused 10) → refusal_text (number_of r) ≡ cond b text (refusal_text 10)
    go true e = never (cc)
    go false e = let same : number_of r ≡ 10 = cc in rw same

number-small : (r : Refusal) → number_of r < 2 ^ 32
number-small Size = omega arith
number-small Places = omega arith
number-small Names = omega arith
number-small Bindings = omega arith
number-small Word = omega arith
number-small Depth = omega arith
number-small Entries = omega arith
number-small Asked = omega arith
number-small Page = omega arith
number-small Room = omega arith

pub refusal-long : (c : ℕ) → length (refusal_text c) ≡ 9 + length (decimal c)
unfolding refusal_text
refusal-long c = simp length-append (omega arith)

pub refusal-short : (r : Refusal) → length (refusal_text (number_of r)) ≤ 19
refusal-short r = omega (arith, refusal-long (number_of r), length-decimal (number_of r), width-le (number_of r) (number-small r))

-- the line stands at the front of the page
pub line-front : (r : Refusal) {old new : List ℕ} {n : ℕ} → length old ≡ page_size → Lays (refusal_text (number_of r)) old 0 new n
    → (take n new ≡ refusal_text (number_of r)) × (n ≤ length new)
line-front r {old} l p =
    let text = refusal_text (number_of r) in
    let fits : length text ≤ length old = omega (arith, refusal-short r) in
    (rw (p.next, p.wrote, zero-add (length text), front-laid text old fits) (take-append_seam text (drop (length text) old)), omega (arith, p.next, p.same, fits))
