use Rattle.mrc_interface.specs.Reading.{IsInterface, IsReason, reason_of, interface_of}
use Rattle.mrc_interface.proofs.ReadingLaws.{as_told, told, interface_read}
use Rattle.mrc_interface.proofs.reading.read_interface.Goals as goal

pub returns-clause-found : goal.returns-clause-found
returns-clause-found c =
    let bytes = c.args.bytes.now in
    (as_told (IsInterface bytes) (IsReason bytes) (λ table. table) reason_of c.interface_of.result
    (interface_of bytes) (told bytes) c.interface_of.ensures).0

pub returns-clause-only : goal.returns-clause-only
returns-clause-only c = λ table is.
    rw (interface_read c.args.bytes.now table is) at c.interface_of.ensures

pub returns-clause-refused : goal.returns-clause-refused
returns-clause-refused c =
    let bytes = c.args.bytes.now in
    (as_told (IsInterface bytes) (IsReason bytes) (λ table. table) reason_of c.interface_of.result
    (interface_of bytes) (told bytes) c.interface_of.ensures).1
