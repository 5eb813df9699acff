-- `after` goes by the kind of field.
use Rattle.wire.specs.Wire.{next_of}
use borrow.Author.Rules.{rules}
use Rattle.wire.proofs.after.Goals as goal

pub returns-in-End : goal.returns-in-End
returns-in-End c = unfold next_of in rw c.in-End.is

pub returns-in-Bad : goal.returns-in-Bad
returns-in-Bad c = unfold next_of in rw c.in-Bad.is

pub returns-in-Number : goal.returns-in-Number
returns-in-Number c = unfold next_of in rw c.in-Number.is

pub returns-in-Bytes : goal.returns-in-Bytes
returns-in-Bytes c = unfold next_of in rw c.in-Bytes.is

pub returns-in-Other : goal.returns-in-Other
returns-in-Other c = unfold next_of in rw c.in-Other.is
