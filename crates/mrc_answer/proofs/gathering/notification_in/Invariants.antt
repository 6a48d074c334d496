use Rattle.std.proofs.Common.{◌≡◌, find, filter_map}
use Rattle.std.specs.Prelude.{drop}
use Rattle.mrc_forms.specs.declared.form.MessageKind.TheVariants.{Request}
use Rattle.mrc_forms.specs.Forms.{Form}
use Rattle.mrc_forms.specs.Tables.{form_in}
use Rattle.mrc_answer.specs.Notices.{is_notification, notification_in}
use Rattle.mrc_answer.proofs.gathering.notification_in.Given as goal

-- none of the rows so far has such a name
abbrev pub invariant-loop-row : goal.invariant-loop-row
invariant-loop-row l =
    find (λ (form : Form). is_notification form.name)
    (filter_map (form_in Request) (drop l.row-index l.row-items))
    ≡ notification_in l.interface
