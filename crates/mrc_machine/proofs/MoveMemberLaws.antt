-- What moving a member between sets comes to, from what each step of code tells.
use Rattle.std.proofs.Common.{◌≡◌, ℕ, Option, Some, None, Ok, Err, refl, sym}
use Rattle.mrc_model.specs.declared.Entry.{Entry}
use Rattle.mrc_model.specs.declared.Entry.TheVariants.{Receive as ReceiveEntry, Send as SendEntry}
use Rattle.mrc_model.specs.declared.Entry.TheVariants.{SendOnce as OnceEntry, PortSet as SetEntry}
use Rattle.mrc_model.specs.declared.Entry.TheVariants.{DeadName as DeadEntry}
use Rattle.mrc_model.specs.declared.Code.TheVariants.{KernInvalidTask}
use Rattle.mrc_model.specs.Map.{get, insert}
use Rattle.mrc_model.specs.World.{Space, World, space}
use Rattle.mrc_model.specs.Reply.{Refused, Try, ◌>>=◌, or_refuse}
use Rattle.mrc_model.specs.Target.{bad_name, wrong_right, entry_at}
use Rattle.mrc_model.specs.CallMoveMember.{call_move_member, move_entry}
use Rattle.mrc_names.specs.Changes.{move_member, join_set, new_set, member_of, in_set}
use Rattle.mrc_machine.specs.Housing.{target_of}
use Rattle.mrc_machine.proofs.RenameLaws.{on_renamed}
use Rattle.mrc_machine.proofs.TargetLaws.{target_none, target_some}
use Rattle.mrc_machine.proofs.Trying.{bind_bind}

pub member_no_task : (w : World) (t task member n : ℕ)
    → target_of w t task ≡ None
    → call_move_member w t task member n ≡ Err (Refused KernInvalidTask)
unfolding call_move_member ◌>>=◌
member_no_task w t task member n none = rw (target_none w t task KernInvalidTask none) refl

module _ (w : World) (u member n : ℕ) where
  -- an entry in its new set
  abbrev entry_moved : Entry → Try Space
  entry_moved e = or_refuse (member_of e) wrong_right
      >>= λ i. new_set (space w.store u) n i
      >>= λ j. Ok (insert (space w.store u) member (in_set j e))

  moved_by_space : (e : Entry) → move_entry w u member n e ≡ (entry_moved e >>= on_renamed w u)
  unfolding entry_at join_set or_refuse ◌>>=◌
  moved_by_space (ReceiveEntry p k i) = sym (bind_bind (new_set (space w.store u) n i)
      (λ j. Ok (insert (space w.store u) member (ReceiveEntry p k j))) (on_renamed w u))
  moved_by_space (SendEntry p k) = refl
  moved_by_space (OnceEntry p) = refl
  moved_by_space SetEntry = refl
  moved_by_space (DeadEntry k) = refl

  member_by_space : (o : Option Entry)
      → (or_refuse o bad_name >>= move_entry w u member n)
      ≡ (or_refuse o bad_name >>= entry_moved >>= on_renamed w u)
  unfolding or_refuse ◌>>=◌
  member_by_space None = refl
  member_by_space (Some e) = moved_by_space e

pub move_by_space : (w : World) (t task member n u : ℕ)
    → target_of w t task ≡ Some u
    → call_move_member w t task member n
    ≡ (move_member (space w.store u) member n >>= on_renamed w u)
unfolding call_move_member move_member entry_at ◌>>=◌
move_by_space w t task member n u task_is =
    rw (target_some w t task u KernInvalidTask task_is)
    (member_by_space w u member n (get (space w.store u) member))
