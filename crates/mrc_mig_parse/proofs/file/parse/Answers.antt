use Rattle.std.proofs.Common.{◌≡◌, None, refl, sym, ◌∙◌, ap}
use Rattle.std.specs.Option.{ok_or}
use Rattle.mrc_mig_symbols.specs.Places.{fault_of}
use Rattle.mrc_mig_parse.specs.Files.{meaning_of}
use Rattle.mrc_mig_parse.specs.Stops.{file_stop, meaning_or_fault}
use Rattle.mrc_mig_parse.proofs.FilePhrases.{read_is_file, file_is_read}
use Rattle.mrc_mig_parse.proofs.file.parse.Goals as goal

pub returns-in-Ok-clause-found : goal.returns-in-Ok-clause-found
returns-in-Ok-clause-found c = read_is_file c.args.tokens.now _ c.in-Ok.ensures.exact

pub returns-in-Ok-clause-only : goal.returns-in-Ok-clause-only
returns-in-Ok-clause-only c = λ m is.
    sym (file_is_read c.args.tokens.now m is) ∙ c.in-Ok.ensures.exact

pub returns-in-Ok-clause-fault : goal.returns-in-Ok-clause-fault
unfolding meaning_or_fault
returns-in-Ok-clause-fault c =
    let tokens = c.args.tokens.now in
    ap (λ m. ok_or m (fault_of tokens (file_stop tokens))) c.in-Ok.ensures.exact

pub returns-in-Err-Fault-clause-only : goal.returns-in-Err-Fault-clause-only
returns-in-Err-Fault-clause-only c =
    let none : meaning_of c.args.tokens.now ≡ None =
    rw c.in-Err-Fault.field-0-is at c.in-Err-Fault.ensures.exact in
    λ m is. sym (file_is_read c.args.tokens.now m is) ∙ none

pub returns-in-Err-Fault-clause-fault : goal.returns-in-Err-Fault-clause-fault
unfolding meaning_or_fault
returns-in-Err-Fault-clause-fault c =
    let tokens = c.args.tokens.now in
    let none : meaning_of tokens ≡ None =
    rw c.in-Err-Fault.field-0-is at c.in-Err-Fault.ensures.exact in
    let stop : c.in-Err-Fault.stop ≡ file_stop tokens =
    rw c.in-Err-Fault.field-0-is at c.in-Err-Fault.ensures.fault in
    rw (none, c.fault_of.ensures, stop) refl
