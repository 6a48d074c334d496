use Rattle.mrc_answer.proofs.ScriptLaws.{said_so, refused_so, no_text}
use Rattle.mrc_answer.proofs.script.script_said.Goals as goal

pub returns-in-Ok-read_script : goal.returns-in-Ok-read_script
returns-in-Ok-read_script c =
    said_so c.args.live c.args.wired.now c.args.texts.now c.script.result.now c.in-Ok.text.now
    c.in-Ok-read_script.script c.script.ensures c.in-Ok.ensures.cases.1 c.in-Ok.ensures.cases.0
    c.in-Ok-read_script.ensures.fault

pub returns-in-Err-read_script : goal.returns-in-Err-read_script
returns-in-Err-read_script c =
    refused_so c.args.live c.args.wired.now c.args.texts.now c.script.result.now c.in-Ok.text.now
    c.in-Err-read_script.refusal c.map_fault.result c.script.ensures c.in-Ok.ensures.cases.1
    c.in-Ok.ensures.cases.0 c.in-Err-read_script.ensures.fault c.map_fault.ensures

pub returns-in-Err : goal.returns-in-Err
returns-in-Err c =
    no_text c.args.live c.args.wired.now c.args.texts.now c.script.result.now c.script.ensures
    c.in-Err.ensures.cases.0
