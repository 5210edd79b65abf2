-- The scan refuses, ends too early, or reaches the end.
use Rattle.tables.proofs.Scan.{scanned_whole}
use Rattle.tables.proofs.names.are_read.Goals as goal

pub returns : goal.returns
returns c = scanned_whole _ c.scan_names.result c.scan_names.ensures c.eq.ensures
