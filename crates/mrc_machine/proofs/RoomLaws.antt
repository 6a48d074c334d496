-- What replies have room for: what a call is answered fits the size that the world before it gives.
-- And when a receive finds no message.
use Rattle.std.proofs.Common.{◌≡◌, ℕ, ◌≤◌, Bool, true, false, Some, Ok, Err, List}
use Rattle.std.proofs.Common.{length, map, refl, sym, ◌∙◌, ap, subst, arith, if◌then◌else◌}
use Rattle.std.proofs.Common.{◌↔◌, IsTrue}
use Rattle.std.proofs.lemmas.Bool.{false≢true}
use Rattle.std.proofs.lemmas.List.{length-map}
use Rattle.mrc_base.specs.declared.Right.{Right}
use Rattle.mrc_base.specs.declared.Right.TheVariants as named
use Rattle.mrc_model.specs.declared.Entry.{Entry}
use Rattle.mrc_model.specs.declared.Entry.TheVariants.{Receive as ReceiveEntry}
use Rattle.mrc_model.specs.declared.Code.TheVariants.{MachRcvTimedOut}
use Rattle.mrc_model.specs.Map.{get, len}
use Rattle.mrc_model.specs.Wiring.{Wiring}
use Rattle.mrc_model.specs.World.{World, space}
use Rattle.mrc_model.specs.Reply as model
use Rattle.mrc_model.specs.Reply.{Try, ReceiveMessage, Refused}
use Rattle.mrc_model.specs.Target.{is_alive, target}
use Rattle.mrc_model.specs.CallSend.{call_send}
use Rattle.mrc_model.specs.CallReceive.{call_receive}
use Rattle.mrc_model.specs.CallAllocate.{allocate_in, call_allocate}
use Rattle.mrc_model.specs.CallDeallocate.{call_deallocate, call_destroy}
use Rattle.mrc_model.specs.CallModRefs.{call_mod_refs}
use Rattle.mrc_model.specs.CallNames.{call_get_refs, call_type, call_names}
use Rattle.mrc_model.specs.CallInsertRight.{call_insert_right, call_extract_right}
use Rattle.mrc_model.specs.CallMoveMember.{move_entry, call_move_member}
use Rattle.mrc_model.specs.CallRequestNotification.{call_request_notification}
use Rattle.mrc_model.specs.CallSetQlimit.{call_set_qlimit}
use Rattle.mrc_model.specs.CallRename.{call_rename}
use Rattle.mrc_model.specs.CallTerminate.{call_terminate}
use Rattle.mrc_model.specs.CallCreateTask.{call_create_task}
use Rattle.mrc_model.specs.Step.{step, try_call}
use Rattle.mrc_model.proofs.Tries.{Gives, gives_ok, gives_err, bind, found, past, past_}
use Rattle.mrc_names.specs.Listings.{entry_name}
use Rattle.mrc_transit.specs.Receiving.{next_size}
use Rattle.mrc_transit.proofs.ReceiveNext.{next_size_is, next_refused, times_out}
use Rattle.mrc_machine.specs.declared.call.Call.{Call}
use Rattle.mrc_machine.specs.declared.call.Call.TheVariants.{Names, Receive, Allocate, MoveMember}
use Rattle.mrc_machine.specs.declared.reply.Reply.{Reply}
use Rattle.mrc_machine.specs.declared.reply.Reply.TheVariants as told
use Rattle.mrc_machine.specs.Calls.{call_of, reply_of, IsRefused}
use Rattle.mrc_machine.specs.Housing.{target_of}
use Rattle.mrc_machine.specs.Rooms.{Size, no_size, count_of_names, or_none, count_of_bytes}
use Rattle.mrc_machine.specs.Rooms.{size_of_live, size_of_call, Fits}
use Rattle.mrc_machine.proofs.StepLaws.{step_dead, step_done, step_refused}

-- a reply of the definitions has no more names and no more bytes
abbrev FitsReply : Size → model.Reply → Type 0
FitsReply size (model.Names names) = length names ≤ size.names
FitsReply size (model.Bytes bytes) = length bytes ≤ size.bytes
FitsReply size reply = Unit {0}

fits_reply : (size : Size) (reply : Reply) → FitsReply size (reply_of reply) → Fits size reply
fits_reply size (told.Names names) fits = fits
fits_reply size (told.Message bytes) fits = fits
fits_reply size reply fits = tt

-- a refusal takes no room
pub refusal_fits : (size : Size) (reply : Reply) → IsRefused reply → Fits size reply
refusal_fits size (told.Names names) refused = absurd refused
refusal_fits size (told.Message bytes) refused = absurd refused
refusal_fits size reply refused = tt

-- what a call is answered fits, where it is not refused
abbrev Fitting : Size → Try (World × model.Reply) → Type 0
Fitting size r = Gives (λ (end : World × model.Reply). FitsReply size end.1) r

-- calls that are answered neither names nor a message

done : (z : World) → Fitting no_size (Ok (z, model.Done))
done z = gives_ok tt

name_told : (z : World) (n : ℕ) → Fitting no_size (Ok (z, model.Name n))
name_told z n = gives_ok tt

refs_told : (z : World) (n : ℕ) → Fitting no_size (Ok (z, model.Refs n))
refs_told z n = gives_ok tt

mask_told : (z : World) (n : ℕ) → Fitting no_size (Ok (z, model.Mask n))
mask_told z n = gives_ok tt

made_told : (z : World) (task n : ℕ) → Fitting no_size (Ok (z, model.Created task n))
made_told z task n = gives_ok tt

module _ (W : Wiring) (w : World) (t : ℕ) where
  allocate_in_fits : (u : ℕ) (right : Right) (kind : ℕ)
      → Fitting no_size (allocate_in W w u right kind)
  allocate_in_fits u named.Send kind = gives_err _ _
  allocate_in_fits u named.SendOnce kind = gives_err _ _
  allocate_in_fits u right kind = search (past, past_, name_told)

  move_entry_fits : (u member n : ℕ) (e : Entry) → Fitting no_size (move_entry w u member n e)
  move_entry_fits u member n (ReceiveEntry p k i) = search (past, done)
  move_entry_fits u member n e = gives_err _ _

  -- names

  names_counted : (task u : ℕ)
      → target_of w t task ≡ Some u
      → length (map entry_name (space w.store u).list) ≤ count_of_names w (target_of w t task)
  unfolding len
  names_counted task u is =
      subst (λ o. length (map entry_name (space w.store u).list) ≤ count_of_names w o) (sym is)
      (omega (arith, length-map (space w.store u).list entry_name))

  names_fit : (task : ℕ) → Fitting (size_of_live w t (Names task)) (call_names w t task)
  unfolding call_names target
  names_fit task =
      bind _ _ (found (target_of w t task) _) (λ u is. gives_ok (names_counted task u is))

  -- a message

  received_bytes : (name limit : ℕ)
      → Gives (λ (end : World × model.Reply). (bytes : List ℕ) × (end.1 ≡ model.Bytes bytes))
      (call_receive w t name limit)
  unfolding call_receive
  received_bytes name limit =
      past _ _ (λ from. past _ _ (λ x. past _ _ (λ first. past_ _ _ (past_ _ _
      (gives_ok (_, refl))))))

  bytes_counted : (name limit : ℕ) (z : World) (bytes : List ℕ)
      → call_receive w t name limit ≡ Ok (z, model.Bytes bytes)
      → length bytes ≤ count_of_bytes w t name limit
  bytes_counted name limit z bytes is =
      subst (λ r. length bytes ≤ or_none r) (sym (next_size_is w t name limit z bytes is))
      (omega arith)

  receive_fits : (name limit : ℕ)
      → Fitting (size_of_live w t (Receive name limit)) (call_receive w t name limit)
  receive_fits name limit = record {
    holds = λ end is.
        let got = (received_bytes name limit).holds end is in
        subst (FitsReply (size_of_live w t (Receive name limit))) (sym got.1)
        (bytes_counted name limit end.0 got.0 (is ∙ ap (λ r. Ok (end.0, r)) got.1));
  }

  -- each call
  call_fits : (call : Call) → Fitting (size_of_live w t call) (try_call W w t (call_of call))
  unfolding call_send call_allocate call_deallocate call_destroy call_mod_refs call_get_refs
      call_type call_insert_right call_extract_right call_move_member call_request_notification
      call_set_qlimit call_rename call_terminate call_create_task
  call_fits (Names task) = names_fit task
  call_fits (Receive name limit) = receive_fits name limit
  call_fits (Allocate task right kind) = past _ _ (λ u. allocate_in_fits u right kind)
  call_fits (MoveMember task member set) =
      past _ _ (λ u. past _ _ (λ e. move_entry_fits u member set e))
  call_fits call = search (past, past_, done, name_told, refs_told, mask_told, made_told) depth 15

  -- the reply of a step that is not refused
  pub answer_fits : (call : Call) (z : World) (reply : Reply)
      → is_alive (get w.tasks t) ≡ true
      → try_call W w t (call_of call) ≡ Ok (z, reply_of reply)
      → Fits (size_of_call w t call) reply
  answer_fits call z reply alive is =
      subst (λ b. Fits (if b then size_of_live w t call else no_size) reply) (sym alive)
      (fits_reply (size_of_live w t call) reply
      ((call_fits call).holds (z, reply_of reply) is))

  -- a receive that finds no message
  module _ (name limit : ℕ) where
    pub waits : is_alive (get w.tasks t) ≡ true
        → next_size w.store t name limit ≡ Err (Refused MachRcvTimedOut)
        → step W w t (ReceiveMessage name limit) ≡ (w, Refused MachRcvTimedOut)
    waits alive none =
        step_refused W w t (ReceiveMessage name limit) alive (Refused MachRcvTimedOut)
        (next_refused w t name limit (Refused MachRcvTimedOut) none)

    pub waits_alive : step W w t (ReceiveMessage name limit) ≡ (w, Refused MachRcvTimedOut)
        → is_alive (get w.tasks t) ≡ true
    waits_alive is = go (is_alive (get w.tasks t)) refl
      where
        go : (b : Bool) → is_alive (get w.tasks t) ≡ b → is_alive (get w.tasks t) ≡ true
        go true e = e
        go false e =
            let dead : model.DeadTask ≡ Refused MachRcvTimedOut =
            ap (λ (r : World × model.Reply). r.1)
            (sym (step_dead W w t (ReceiveMessage name limit) e) ∙ is) in
            cc

    pub waits_none : step W w t (ReceiveMessage name limit) ≡ (w, Refused MachRcvTimedOut)
        → next_size w.store t name limit ≡ Err (Refused MachRcvTimedOut)
    waits_none is = go (call_receive w t name limit) refl
      where
        alive : is_alive (get w.tasks t) ≡ true
        alive = waits_alive is

        go : (r : Try (World × model.Reply))
            → call_receive w t name limit ≡ r
            → next_size w.store t name limit ≡ Err (Refused MachRcvTimedOut)
        go (Ok end) e =
            let got = (received_bytes name limit).holds end e in
            let other : model.Bytes got.0 ≡ Refused MachRcvTimedOut =
            sym got.1 ∙ ap (λ (r : World × model.Reply). r.1)
            (sym (step_done W w t (ReceiveMessage name limit) alive end.0 end.1 e) ∙ is) in
            cc
        go (Err reply) e =
            let same : reply ≡ Refused MachRcvTimedOut =
            ap (λ (r : World × model.Reply). r.1)
            (sym (step_refused W w t (ReceiveMessage name limit) alive reply e) ∙ is) in
            times_out w t name limit (e ∙ ap (λ r. Err r) same)

    -- what code tells of it
    pub waits_if : (v : World) (b : Bool)
        → v ≡ w
        → is_alive (get v.tasks t) ≡ true
        → IsTrue b ↔ (next_size v.store t name limit ≡ Err (Refused MachRcvTimedOut))
        → IsTrue b ↔ (step W w t (ReceiveMessage name limit) ≡ (w, Refused MachRcvTimedOut))
    waits_if v b same alive none = (
      λ yes. waits (subst (λ (z : World). is_alive (get z.tasks t) ≡ true) same alive)
          (subst
          (λ (z : World). next_size z.store t name limit ≡ Err (Refused MachRcvTimedOut))
          same (none.0 yes)),
      λ is. none.1
          (subst
          (λ (z : World). next_size z.store t name limit ≡ Err (Refused MachRcvTimedOut))
          (sym same) (waits_none is)),
    )

    pub waits_not : (v : World) (b : Bool)
        → v ≡ w
        → b ≡ is_alive (get v.tasks t)
        → b ≡ false
        → IsTrue b ↔ (step W w t (ReceiveMessage name limit) ≡ (w, Refused MachRcvTimedOut))
    waits_not v b same alive dead = (
      λ yes. absurd (false≢true (sym dead ∙ yes)),
      λ is. alive ∙ ap (λ (z : World). is_alive (get z.tasks t)) same ∙ waits_alive is,
    )
