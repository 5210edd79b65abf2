-- A hole `{:0width$x}` writes the digits with zeros before them.
use Rattle.std.proofs.Common.{◌≡◌, ℕ, ◌-◌, ◌^◌, false, List, [], ◌++◌, length, append-nil, replicate, arith, ap, subst, OnOk, Some, IfSome}
use Rattle.std.specs.Fmt.{digits, format_spec, padded_integral, char_count, styled_digits_output}
use Rattle.std.specs.Io.KnownBytes.{Appends}
use Rattle.streams.specs.Hex.{hex}
use Rattle.streams.proofs.print_hex.Goals as goal

padded : (width : ℕ) (ds : List ℕ) → padded_integral (format_spec 32 0 4 width (2 ^ 64 - 1)) false [] ds ≡ replicate (width - length ds) 48 ++ ds
unfolding padded_integral char_count
padded width ds =
    let short : width - length ds - 0 - 0 ≡ width - length ds = omega arith in
    rw (append-nil ds) (ap (λ k. replicate k 48 ++ ds) short)

pub returns : goal.returns
returns g c =
    let shown : styled_digits_output c.in_radix.result c.laid_out.result ≡ Some (hex c.args.width c.args.n) =
    rw (c.laid_out.ensures, c.in_radix.ensures) (ap Some (padded c.args.width (digits 16 false c.args.n))) in
    subst (λ o. OnOk c.write.result (IfSome o (Appends (g.W.Write.contents c.args.out.now) (g.W.Write.contents c.write.new.self)))) shown
    c.write.ensures.bytes
