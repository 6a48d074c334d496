-- Each call keeps all tasks, with their kernel ports and classes.
use Rattle.std.proofs.Common.{◌≡◌, ℕ, inl, inr, Bool, true, false, Some, Ok, Err, refl, sym, ◌∙◌}
use Rattle.std.proofs.Common.{ap, if◌then◌else◌}
use Rattle.std.proofs.lemmas.Bool.{cases_eq}
use Rattle.mrc_base.specs.declared.Right.{Right}
use Rattle.mrc_base.specs.declared.Right.TheVariants as named
use Rattle.mrc_model.specs.declared.Entry.{Entry}
use Rattle.mrc_model.specs.declared.Entry.TheVariants.{Receive as ReceiveEntry}
use Rattle.mrc_model.specs.Map.{get, insert, next_key}
use Rattle.mrc_model.specs.Wiring.{Wiring}
use Rattle.mrc_model.specs.World.{Store, Task, World}
use Rattle.mrc_model.specs.Reply.{Reply, DeadTask, Try, Call}
use Rattle.mrc_model.specs.Reply.{Allocate, MoveMember, Terminate, CreateTask}
use Rattle.mrc_model.specs.Target.{is_alive, with_store}
use Rattle.mrc_model.specs.CallSend.{call_send}
use Rattle.mrc_model.specs.CallReceive.{call_receive}
use Rattle.mrc_model.specs.CallAllocate.{allocate_in, call_allocate}
use Rattle.mrc_model.specs.CallDeallocate.{call_deallocate, call_destroy}
use Rattle.mrc_model.specs.CallModRefs.{call_mod_refs}
use Rattle.mrc_model.specs.CallNames.{call_get_refs, call_type, call_names}
use Rattle.mrc_model.specs.CallInsertRight.{call_insert_right, call_extract_right}
use Rattle.mrc_model.specs.CallMoveMember.{move_entry, call_move_member}
use Rattle.mrc_model.specs.CallRequestNotification.{call_request_notification}
use Rattle.mrc_model.specs.CallSetQlimit.{call_set_qlimit}
use Rattle.mrc_model.specs.CallRename.{call_rename}
use Rattle.mrc_model.specs.CallTerminate.{call_terminate}
use Rattle.mrc_model.specs.CallCreateTask.{with_task, call_create_task}
use Rattle.mrc_model.specs.Step.{try_call, concluded, step}
use Rattle.mrc_model.specs.Headline.{TasksAreKept}
use Rattle.mrc_model.proofs.Maps.{get-insert_same, get-insert_other, get-next_key, same_Some}
use Rattle.mrc_model.proofs.Maps.{not_None}
use Rattle.mrc_model.proofs.Tries.{Gives, gives_ok, gives_err, bind, found, past, past_}

-- each task is still there, with its kernel port and its class
record Stay (w z : World) : Type 0 where
  pub of : (u : ℕ) (x : Task) → get w.tasks u ≡ Some x
      → (y : Task) × (get z.tasks u ≡ Some y) × (y.kernel ≡ x.kernel) × (y.class ≡ x.class)

abbrev Keeps : World → Try (World × Reply) → Type 0
Keeps w r = Gives (λ (end : World × Reply). Stay w end.0) r

-- another store
same : (w : World) (s : Store) → Stay w (with_store w s)
same w s = record { of = λ u x at. (x, at, refl, refl) }

-- another task in the place of one with its kernel port and its class
put_same : (w : World) (u : ℕ) (x : Task) (s : Store) → get w.tasks u ≡ Some x
    → Stay w (record { tasks = insert w.tasks u (record x { alive = false }); store = s })
put_same w u x s at = record {
  of = λ v y is. elim (cases_eq v u) [
    | inl e ↦
        let one = same_Some x y (sym at ∙ ap (get w.tasks) (sym e) ∙ is) in (
          record x { alive = false },
          ap (get (insert w.tasks u (record x { alive = false }))) e
              ∙ get-insert_same w.tasks u (record x { alive = false }),
          ap (λ (z : Task). z.kernel) one,
          ap (λ (z : Task). z.class) one,
        )
    | inr n ↦ (y, get-insert_other w.tasks u (record x { alive = false }) v n ∙ is, refl, refl)
  ];
}

-- one task more
put_next : (w : World) (class kernel : ℕ) (s : Store)
    → Stay w (with_store (with_task w (next_key w.tasks) class kernel) s)
put_next w class kernel s = record {
  of = λ v y is. (
    y,
    get-insert_other w.tasks (next_key w.tasks) _ v
        (λ e. not_None y (sym is ∙ ap (get w.tasks) e ∙ get-next_key w.tasks))
        ∙ is,
    refl,
    refl,
  );
}

-- where a call ends that changes the store, or only asks
left : (w : World) (s : Store) (reply : Reply) → Keeps w (Ok (with_store w s, reply))
left w s reply = gives_ok (same w s)

asked : (w : World) (reply : Reply) → Keeps w (Ok (w, reply))
asked w reply = gives_ok (same w w.store)

module _ (W : Wiring) (w : World) (t : ℕ) where
  allocate_in_stays : (u : ℕ) (right : Right) (kind : ℕ) → Keeps w (allocate_in W w u right kind)
  allocate_in_stays u named.Send kind = gives_err _ _
  allocate_in_stays u named.SendOnce kind = gives_err _ _
  allocate_in_stays u right kind = search (past, past_, left)

  move_entry_stays : (u member n : ℕ) (e : Entry) → Keeps w (move_entry w u member n e)
  move_entry_stays u member n (ReceiveEntry p k i) = search (past, left)
  move_entry_stays u member n e = gives_err _ _

  -- A call that ends a task, one that makes one, those that go by cases; each other one changes the
  -- store alone.
  call_stays : (call : Call) → Keeps w (try_call W w t call)
  unfolding call_send call_receive call_allocate call_deallocate call_destroy call_mod_refs
      call_get_refs call_type call_names call_insert_right call_extract_right call_move_member
      call_request_notification call_set_qlimit call_rename call_terminate call_create_task
  call_stays (Terminate task) =
      past _ _ (λ u. bind _ _ (found (get w.tasks u) _) (λ x at. gives_ok (put_same w u x _ at)))
  call_stays (CreateTask task) =
      past _ _ (λ u. past _ _ (λ x. past _ _ (λ c. past_ _ _ (past_ _ _
      (gives_ok (put_next w x.class c _))))))
  call_stays (Allocate task right kind) = past _ _ (λ u. allocate_in_stays u right kind)
  call_stays (MoveMember task member n) =
      past _ _ (λ u. past _ _ (λ e. move_entry_stays u member n e))
  call_stays call = search (past, past_, left, asked) depth 15

  step_stays : (call : Call) → Stay w (step W w t call).0
  unfolding step
  step_stays call = go (is_alive (get w.tasks t))
    where
      by_try : (r : Try (World × Reply)) → Keeps w r → Stay w (concluded w r).0
      by_try (Ok r) keeps = keeps.holds r refl
      by_try (Err e) keeps = same w w.store

      go : (b : Bool) → Stay w (concluded w (if b then try_call W w t call else Err DeadTask)).0
      go true = by_try (try_call W w t call) (call_stays call)
      go false = same w w.store

-- each call
pub tasks_are_kept : TasksAreKept
tasks_are_kept W w t call u x at = (step_stays W w t call).of u x at
