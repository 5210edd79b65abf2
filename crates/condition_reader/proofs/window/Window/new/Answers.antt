-- No flag is set.
use Rattle.condition_reader.proofs.Flags.{cleared}
use Rattle.condition_reader.proofs.window.Window.new.Goals as goal

pub returns : goal.returns
returns c =
    cleared c.args.low
