-- What renaming comes to, from what each step of code tells.
use Rattle.std.proofs.Common.{◌≡◌, ℕ, Some, None, Ok, Err, refl, sym, ◌∙◌, ap}
use Rattle.mrc_model.specs.declared.Entry.{Entry}
use Rattle.mrc_model.specs.declared.Code.TheVariants.{KernInvalidTask, KernInvalidValue}
use Rattle.mrc_model.specs.declared.Code.TheVariants.{KernNameExists}
use Rattle.mrc_model.specs.Map.{get, insert, remove}
use Rattle.mrc_model.specs.World.{Space, World, space}
use Rattle.mrc_model.specs.Reply.{Reply, Done, Refused, Try, ◌>>=◌, ◌>>◌, refuse_if, or_refuse}
use Rattle.mrc_model.specs.Space.{is_set, members_follow}
use Rattle.mrc_model.specs.Target.{is_reserved, bad_name, with_space, entry_at}
use Rattle.mrc_model.specs.CallRename.{is_used, call_rename}
use Rattle.mrc_names.specs.Takes.{rename_entry}
use Rattle.mrc_machine.specs.Housing.{target_of}
use Rattle.mrc_machine.proofs.TargetLaws.{target_none, target_some}
use Rattle.mrc_machine.proofs.Trying.{bind_bind, then_bind}

pub rename_no_task : (w : World) (t task old new : ℕ)
    → target_of w t task ≡ None
    → call_rename w t task old new ≡ Err (Refused KernInvalidTask)
unfolding call_rename ◌>>=◌
rename_no_task w t task old new none = rw (target_none w t task KernInvalidTask none) refl

-- what is answered for a space in which a name was changed
abbrev pub on_renamed : World → ℕ → Space → Try (World × Reply)
on_renamed w u y = Ok (with_space w u y, Done)

pub rename_by_space : (w : World) (t task old new u : ℕ)
    → target_of w t task ≡ Some u
    → call_rename w t task old new ≡ (rename_entry (space w.store u) old new >>= on_renamed w u)
unfolding call_rename rename_entry entry_at ◌>>=◌ ◌>>◌
rename_by_space w t task old new u task_is =
    let x = space w.store u in
    let used : Try (Unit {0}) = refuse_if (is_used (get x new)) (Refused KernNameExists) in
    let last : Entry → Try Space = λ e.
    Ok (members_follow (is_set e) old new (insert (remove x old) new e)) in
    let whole : (rename_entry x old new >>= on_renamed w u)
    ≡ (refuse_if (is_reserved new) (Refused KernInvalidValue)
    >> (or_refuse (get x old) bad_name >>= λ e. used >> (last e >>= on_renamed w u))) =
    then_bind (refuse_if (is_reserved new) (Refused KernInvalidValue))
    (or_refuse (get x old) bad_name >>= λ e. used >> last e) (on_renamed w u)
    ∙ ap (λ r. refuse_if (is_reserved new) (Refused KernInvalidValue) >> r)
    (bind_bind (or_refuse (get x old) bad_name) (λ e. used >> last e) (on_renamed w u)
    ∙ ap (λ (f : Entry → Try (World × Reply)). or_refuse (get x old) bad_name >>= f)
    (λ i e. then_bind used (last e) (on_renamed w u) i)) in
    rw (target_some w t task u KernInvalidTask task_is) (sym whole)
