use Rattle.mrc_wiring.specs.Claims.{holding_of}
use Rattle.mrc_attack.proofs.Leaking.{leak_told, refused_told}
use Rattle.mrc_attack.proofs.judging.is_leak.Goals as goal

pub returns-in-Ok : goal.returns-in-Ok
returns-in-Ok c = record {
  exact = leak_told c.args.wired.now (holding_of c.args.line.now) c.args.text.now
      c.in-Ok.script _ c.in-Ok.ensures.found c.in-Ok.ensures.only c.is_breaking.ensures;
}

pub returns-in-Err-Fault : goal.returns-in-Err-Fault
returns-in-Err-Fault c = record {
  exact = refused_told c.args.wired.now (holding_of c.args.line.now) c.args.text.now
      c.in-Err-Fault.field-0
      c.in-Err-Fault.field-0-0 c.in-Err-Fault.field-0-is c.in-Err-Fault.ensures.only;
}
