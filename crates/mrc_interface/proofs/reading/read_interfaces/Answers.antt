use Rattle.std.proofs.Common.{map}
use Rattle.mrc_interface.specs.Reading.{AreInterfaces, IsFirstRefused, refused_of, interfaces_of}
use Rattle.mrc_interface.proofs.ReadingLaws.{as_told, files_told, interfaces_read}
use Rattle.mrc_interface.proofs.reading.read_interfaces.Goals as goal

pub returns-clause-found : goal.returns-clause-found
returns-clause-found c =
    let files = map (λ bytes. bytes.items) c.args.files.now in
    (as_told (AreInterfaces files) (IsFirstRefused files) (λ tables. tables.items) refused_of
    c.interfaces_of.result (interfaces_of files) (files_told files) c.interfaces_of.ensures).0

pub returns-clause-only : goal.returns-clause-only
returns-clause-only c = λ tables are.
    rw (interfaces_read (map (λ bytes. bytes.items) c.args.files.now) tables are)
    at c.interfaces_of.ensures

pub returns-clause-refused : goal.returns-clause-refused
returns-clause-refused c =
    let files = map (λ bytes. bytes.items) c.args.files.now in
    (as_told (AreInterfaces files) (IsFirstRefused files) (λ tables. tables.items) refused_of
    c.interfaces_of.result (interfaces_of files) (files_told files) c.interfaces_of.ensures).1
