-- Each call, by any task number, keeps a world well formed and covered.
use Rattle.std.proofs.Common.{Bool, Err, Ok, false, if◌then◌else◌, refl, true, ℕ, ◌≡◌}
use Rattle.mrc_model.specs.Map.{get}
use Rattle.mrc_model.specs.Reply.{Allocate, Call, DeadTask, Deallocate, Destroy, ExtractRight}
use Rattle.mrc_model.specs.Reply.{GetRefs, InsertRight, ListNames, ModRefs, MoveMember, PortType}
use Rattle.mrc_model.specs.Reply.{ReceiveMessage, Rename, Reply, RequestNotification, SendMessage}
use Rattle.mrc_model.specs.Reply.{SetQlimit, Terminate, CreateTask, Try}
use Rattle.mrc_model.specs.Rules.{FactSet}
use Rattle.mrc_model.specs.Step.{concluded, step, try_call}
use Rattle.mrc_model.specs.Target.{is_alive}
use Rattle.mrc_model.specs.Wiring.{Wiring}
use Rattle.mrc_model.specs.World.{World}
use Rattle.mrc_cover.proofs.Kept.{IsAlive, Keeps, Kept}
use Rattle.mrc_cover.proofs.Obeyed.{Obeys}
use Rattle.mrc_cover.proofs.StepAllocate.{allocate_keeps}
use Rattle.mrc_cover.proofs.StepCreateTask.{create_task_keeps}
use Rattle.mrc_cover.proofs.StepDrop.{deallocate_keeps, destroy_keeps, mod_refs_keeps}
use Rattle.mrc_cover.proofs.StepExtractRight.{extract_right_keeps}
use Rattle.mrc_cover.proofs.StepInsertRight.{insert_right_keeps}
use Rattle.mrc_cover.proofs.StepMoveMember.{move_member_keeps}
use Rattle.mrc_cover.proofs.StepRead.{get_refs_keeps, names_keeps, type_keeps}
use Rattle.mrc_cover.proofs.StepReceive.{receive_keeps}
use Rattle.mrc_cover.proofs.StepRename.{rename_keeps}
use Rattle.mrc_cover.proofs.StepRequestNotification.{request_notification_keeps}
use Rattle.mrc_cover.proofs.StepSend.{send_keeps}
use Rattle.mrc_cover.proofs.StepSetQlimit.{set_qlimit_keeps}
use Rattle.mrc_cover.proofs.StepTerminate.{terminate_keeps}

module _ (W : Wiring) (G : FactSet) (obeys : Obeys W G) where
  -- each call of a live task
  call_keeps : (w : World) (t : ℕ) (call : Call) → IsAlive w t → Kept W G w
      → Keeps W G (try_call W w t call)
  call_keeps w t (SendMessage m) alive kept = send_keeps W G obeys w t m alive kept
  call_keeps w t (ReceiveMessage name limit) alive kept =
      receive_keeps W G obeys w t name limit alive kept
  call_keeps w t (Allocate task right kind) alive kept =
      allocate_keeps W G obeys w t task right kind kept
  call_keeps w t (Deallocate task name) alive kept = deallocate_keeps W G obeys w t task name kept
  call_keeps w t (Destroy task name) alive kept = destroy_keeps W G obeys w t task name kept
  call_keeps w t (ModRefs task name right delta) alive kept =
      mod_refs_keeps W G obeys w t task name right delta kept
  call_keeps w t (GetRefs task name right) alive kept = get_refs_keeps W G w t task name right kept
  call_keeps w t (InsertRight task name right disp) alive kept =
      insert_right_keeps W G obeys w t task name right disp alive kept
  call_keeps w t (ExtractRight task name disp) alive kept =
      extract_right_keeps W G obeys w t task name disp alive kept
  call_keeps w t (MoveMember task member n) alive kept =
      move_member_keeps W G w t task member n kept
  call_keeps w t (RequestNotification task name id sync notify disp) alive kept =
      request_notification_keeps W G obeys w t task name id sync notify disp alive kept
  call_keeps w t (SetQlimit task name limit) alive kept =
      set_qlimit_keeps W G w t task name limit kept
  call_keeps w t (PortType task name) alive kept = type_keeps W G w t task name kept
  call_keeps w t (ListNames task) alive kept = names_keeps W G w t task kept
  call_keeps w t (Rename task old new) alive kept = rename_keeps W G w t task old new kept
  call_keeps w t (Terminate task) alive kept = terminate_keeps W G obeys w t task kept
  call_keeps w t (CreateTask task) alive kept = create_task_keeps W G w t task alive kept

  -- a refusal changes nothing
  concluded_keeps : (w : World) (r : Try (World × Reply)) → Kept W G w → Keeps W G r
      → Kept W G (concluded w r).0
  concluded_keeps w (Ok r) kept g = g.holds r refl
  concluded_keeps w (Err e) kept g = kept

  -- each call of any task
  pub step_keeps : (w : World) (t : ℕ) (call : Call) → Kept W G w → Kept W G (step W w t call).0
  unfolding step
  step_keeps w t call kept =
      let go : (b : Bool) → is_alive (get w.tasks t) ≡ b
      → Kept W G (concluded w (if b then try_call W w t call else Err DeadTask)).0 = elim [
        | true ↦ λ e. concluded_keeps w (try_call W w t call) kept
            (call_keeps w t call (record { of = e }) kept)
        | false ↦ λ e. kept
      ] in
      go (is_alive (get w.tasks t)) refl
