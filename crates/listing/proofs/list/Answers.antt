-- The scratch is cut into what a run asks for.
use native.Mathlib.Omega.{arith}
use Rattle.listing.specs.Found.{AllZero}
use Rattle.listing.proofs.Zeros.{zeros_front, zeros_back}
use Rattle.listing.proofs.list.Goals as goal

pub list_in-requires : goal.list_in-requires
list_in-requires c =
    let places = c.split_at_mut-places.ensures in
    let ids = c.split_at_mut-ids.ensures in
    let chains = c.split_at_mut-chains.ensures in
    let marks = c.split_at_mut-marks.ensures in
    let held = c.split_at_mut-held.ensures in
    let slots = c.split_at_mut-slots.ensures in
    let entries = c.split_at_mut-entries.ensures in
    let visible = c.split_at_mut-visible.ensures in
    let from_chains : AllZero c.split_at_mut-ids.result.1.now = zeros_back c.count-n.result ids.back (zeros_back c.count-n.result places.back c.requires.1.1) in
    let from_marks : AllZero c.split_at_mut-chains.result.1.now = zeros_back _ chains.back from_chains in
    let from_slots : AllZero c.split_at_mut-held.result.1.now = zeros_back _ held.back (zeros_back _ marks.back from_marks) in
    let from_visible : AllZero c.split_at_mut-entries.result.1.now = zeros_back _ entries.back (zeros_back _ slots.back from_slots) in
    record {
      placed = omega arith;
      used = omega (arith, c.count-n.ensures, ids.front_len);
      long = omega (arith, c.count-n.ensures, chains.front_len);
      hung = (zeros_front _ chains.front from_chains).at;
      marked = omega (arith, c.count-n.ensures, marks.front_len);
      unmarked = (zeros_front _ marks.front from_marks).at;
      pairs = omega (arith, c.count-n.ensures, held.front_len);
      names = rw (c.new.ensures.visible, c.new.ensures.chains) (omega (arith, c.count-n.ensures, slots.front_len, visible.front_len));
      binders = rw c.new.ensures.chains (omega (arith, c.count-n.ensures, slots.front_len));
      listed = rw (c.new.ensures.chains, c.new.ensures.entries) (omega (arith, slots.front_len, entries.front_len));
      small = rw c.new.ensures.chains (omega (arith, slots.front_len, slots.back_len, c.count-n.ensures, c.requires.0, c.requires.1.0));
      unlisted = rw c.new.ensures.chains (zeros_front _ slots.front from_slots).at;
      unseen = rw c.new.ensures.visible (zeros_front _ visible.front from_visible).at;
      room = rw c.new.ensures.said (omega (arith, c.count-n.ensures, places.back_len, ids.back_len, chains.back_len, marks.back_len, held.back_len, slots.back_len, entries.back_len, visible.back_len, c.requires.0));
    }
