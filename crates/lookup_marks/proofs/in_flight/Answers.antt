-- `in_flight` counts one mark. Assumes nothing.
use Rattle.lookup_marks.proofs.Scans.{flights-are}
use Rattle.lookup_marks.proofs.in_flight.Goals as goal

pub returns : goal.returns
returns c = flights-are _ c.with_mark.ensures
