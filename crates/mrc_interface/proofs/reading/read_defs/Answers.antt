use Rattle.mrc_interface.specs.Reading.{IsDefs, IsReason, reason_of, defs_of}
use Rattle.mrc_interface.proofs.ReadingLaws.{as_told, defs_told, defs_read}
use Rattle.mrc_interface.proofs.reading.read_defs.Goals as goal

pub returns-clause-found : goal.returns-clause-found
returns-clause-found c =
    let bytes = c.args.bytes.now in
    (as_told (IsDefs bytes) (IsReason bytes) (λ said. said) reason_of c.defs_of.result
    (defs_of bytes) (defs_told bytes) c.defs_of.ensures).0

pub returns-clause-only : goal.returns-clause-only
returns-clause-only c = λ said is. rw (defs_read c.args.bytes.now said is) at c.defs_of.ensures

pub returns-clause-refused : goal.returns-clause-refused
returns-clause-refused c =
    let bytes = c.args.bytes.now in
    (as_told (IsDefs bytes) (IsReason bytes) (λ said. said) reason_of c.defs_of.result
    (defs_of bytes) (defs_told bytes) c.defs_of.ensures).1
