use Rattle.std.proofs.Common.{subst}
use Rattle.mrc_forms.specs.Tables.{AreForms}
use Rattle.mrc_forms.proofs.interface.Interface.ids.Goals as goal

pub returns-clause-formed : goal.returns-clause-formed
returns-clause-formed c = subst AreForms c.self.view_is c.self.invariant.1
