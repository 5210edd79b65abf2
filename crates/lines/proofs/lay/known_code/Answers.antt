-- Each text has the digits of its code, by computation, once the code is put in: what opens `decimal` alone finds none.
use Rattle.words.specs.Decimal.{low_digits, width_within, width, decimal}
use Rattle.lines.proofs.lay.known_code.Goals as goal

pub returns-in-1001 : goal.returns-in-1001
unfolding decimal low_digits width width_within
returns-in-1001 c = rw c.in-1001.is

pub returns-in-1002 : goal.returns-in-1002
unfolding decimal low_digits width width_within
returns-in-1002 c = rw c.in-1002.is

pub returns-in-2007 : goal.returns-in-2007
unfolding decimal low_digits width width_within
returns-in-2007 c = rw c.in-2007.is

pub returns-in-2008 : goal.returns-in-2008
unfolding decimal low_digits width width_within
returns-in-2008 c = rw c.in-2008.is

pub returns-in-2011 : goal.returns-in-2011
unfolding decimal low_digits width width_within
returns-in-2011 c = rw c.in-2011.is

pub returns-in-5010 : goal.returns-in-5010
unfolding decimal low_digits width width_within
returns-in-5010 c = rw c.in-5010.is

pub returns-in-5011 : goal.returns-in-5011
unfolding decimal low_digits width width_within
returns-in-5011 c = rw c.in-5011.is
