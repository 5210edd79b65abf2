-- The page's front where it was written, else the refusal's line.
use Rattle.std.proofs.Common.{◌≤◌, length, refl, sym, ◌∙◌, subst, arith, length-take-le, OnOk}
use Rattle.std.specs.Io.KnownBytes.{Appends}
use Rattle.texts.proofs.Giving.{written-within}
use Rattle.show.specs.Printed.{printed}
use Rattle.show.proofs.Printing.{page-printed, refusal-printed, refusal-short, line-front}
use Rattle.show.proofs.show_listing.Goals as goal

pub slice_bounds-page-end : goal.slice_bounds-page-end
slice_bounds-page-end g c = omega (arith, written-within _ (c.in-Ok.ensures.0.answer), c.listing.auto)

pub slice_bounds-write_all-end : goal.slice_bounds-write_all-end
slice_bounds-write_all-end g c =
    let fits : c.in-Ok.n ≤ length c.listing.new.page = omega (arith, written-within _ c.in-Ok.ensures.0.answer, c.listing.auto) in
    sym (length-take-le c.in-Ok.n c.listing.new.page fits)

pub returns-in-Ok : goal.returns-in-Ok
unfolding printed
returns-in-Ok g c = subst (λ t. OnOk c.write_all.result (Appends (g.W.Write.contents c.args.out.now) (g.W.Write.contents c.write_all.new.self) t)) (page-printed _ refl c.in-Ok.ensures.0) c.write_all.ensures.bytes

pub lay_refusal-n-requires : goal.lay_refusal-n-requires
lay_refusal-n-requires g c = omega (arith, refusal-short c.in-Err.refusal, c.listing.auto)

pub slice_bounds-page-end-in-Err : goal.slice_bounds-page-end-in-Err
slice_bounds-page-end-in-Err g c =
    let line = line-front c.in-Err.refusal (omega (arith, c.listing.auto)) c.lay_refusal-n.ensures in
    omega (arith, line.1)

pub slice_bounds-write_all-end-in-Err : goal.slice_bounds-write_all-end-in-Err
slice_bounds-write_all-end-in-Err g c =
    let line = line-front c.in-Err.refusal (omega (arith, c.listing.auto)) c.lay_refusal-n.ensures in
    sym (length-take-le c.lay_refusal-n.result c.lay_refusal-n.new.page line.1)

pub returns-in-Err : goal.returns-in-Err
unfolding printed
returns-in-Err g c =
    let line = line-front c.in-Err.refusal (omega (arith, c.listing.auto)) c.lay_refusal-n.ensures in
    subst (λ t. OnOk c.write_all-in-Err.result (Appends (g.W.Write.contents c.args.out.now) (g.W.Write.contents c.write_all-in-Err.new.self) t)) (line.0 ∙ refusal-printed _ refl c.in-Err.ensures.0) c.write_all-in-Err.ensures.bytes
