use Rattle.mrc_mig_forms.proofs.SlotLemmas.{slot_is_argument, argument_is_slot}
use Rattle.mrc_mig_forms.proofs.laws.slots_are_ports.Goals as goal

pub returns : goal.returns
returns c = record {
  ports = λ name id kind items i disposition. (
    slot_is_argument name id kind items i disposition,
    argument_is_slot name id kind items i disposition,
  );
}
