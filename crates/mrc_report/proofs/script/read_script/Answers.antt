-- What was read is a script that says so, and what a script says is read.
use Rattle.mrc_report.proofs.ScriptLaws.{found_in, read_by}
use Rattle.mrc_report.proofs.script.read_script.Goals as goal

pub returns-clause-found : goal.returns-clause-found
returns-clause-found c =
    found_in (λ script. script) c.args.live c.args.wired.now.names c.args.text.now
    c.script_of.result c.script_of.ensures

pub returns-clause-only : goal.returns-clause-only
returns-clause-only c =
    λ says is. read_by (λ script. script) c.args.live c.args.wired.now.names c.args.text.now
    c.script_of.result says c.script_of.ensures is
