-- What setting the limit of a queue comes to, from what each step of code tells.
use Rattle.std.proofs.Common.{◌≡◌, ℕ, ◌<◌, ◌≤◌, Some, None, Ok, Err, refl, sym}
use Rattle.std.proofs.Common.{◌∙◌, ap}
use Rattle.std.proofs.lemmas.Bool.{lt-ltb, le-ltb}
use Rattle.mrc_base.specs.Limits.{limit_of_queue}
use Rattle.mrc_model.specs.declared.Entry.{Entry}
use Rattle.mrc_model.specs.declared.Code.TheVariants.{KernInvalidTask, KernInvalidValue}
use Rattle.mrc_model.specs.Map.{get}
use Rattle.mrc_model.specs.World.{Space, Port, World, space, set_port}
use Rattle.mrc_model.specs.Reply.{Done, Refused, ◌>>=◌, ◌>>◌, refuse_if, or_refuse}
use Rattle.mrc_model.specs.Target.{with_store, bad_name, wrong_right, entry_at}
use Rattle.mrc_model.specs.CallRequestNotification.{received_port}
use Rattle.mrc_model.specs.CallSetQlimit.{call_set_qlimit}
use Rattle.mrc_machine.specs.Housing.{target_of}
use Rattle.mrc_machine.specs.Moves.{limited}
use Rattle.mrc_machine.proofs.TargetLaws.{target_none, target_some}
use Rattle.mrc_machine.proofs.Trying.{bind_bind}

module _ (w : World) (t task name limit : ℕ) where
  pub limit_no_task : target_of w t task ≡ None
      → call_set_qlimit w t task name limit ≡ Err (Refused KernInvalidTask)
  unfolding call_set_qlimit ◌>>=◌
  limit_no_task none = rw (target_none w t task KernInvalidTask none) refl

  module _ (u : ℕ) (task_is : target_of w t task ≡ Some u) where
    pub limit_too_large : limit_of_queue < limit
        → call_set_qlimit w t task name limit ≡ Err (Refused KernInvalidValue)
    unfolding call_set_qlimit ◌>>=◌ ◌>>◌ refuse_if
    limit_too_large above =
        rw (target_some w t task u KernInvalidTask task_is, lt-ltb limit_of_queue limit above) refl

    module _ (x : Space) (copy : x ≡ space w.store u) (within : limit ≤ limit_of_queue) where
      pub limit_no_name : get x name ≡ None → call_set_qlimit w t task name limit ≡ Err bad_name
      unfolding call_set_qlimit entry_at ◌>>=◌ ◌>>◌ refuse_if or_refuse
      limit_no_name none =
          let at : get (space w.store u) name ≡ None = ap (λ y. get y name) (sym copy) ∙ none in
          rw (
            target_some w t task u KernInvalidTask task_is,
            le-ltb limit_of_queue limit within,
            at,
          )
          refl

      module _ (e : Entry) (held : get x name ≡ Some e) where
        pub limit_no_right : received_port e ≡ None
            → call_set_qlimit w t task name limit ≡ Err wrong_right
        unfolding call_set_qlimit entry_at ◌>>=◌ ◌>>◌ refuse_if or_refuse
        limit_no_right none =
            let at : get (space w.store u) name ≡ Some e = ap (λ y. get y name) (sym copy) ∙ held in
            rw (
              target_some w t task u KernInvalidTask task_is,
              le-ltb limit_of_queue limit within,
              at,
              none,
            ) refl

        pub limit_of : (p : ℕ)
            → received_port e ≡ Some p
            → call_set_qlimit w t task name limit ≡ (limited w p limit >>= λ z. Ok (z, Done))
        unfolding call_set_qlimit entry_at limited ◌>>=◌ ◌>>◌ refuse_if or_refuse
        limit_of p port =
            let at : get (space w.store u) name ≡ Some e = ap (λ y. get y name) (sym copy) ∙ held in
            rw (
              target_some w t task u KernInvalidTask task_is,
              le-ltb limit_of_queue limit within,
              at,
              port,
            ) (sym (bind_bind (or_refuse (get w.store.ports p) bad_name)
            (λ (y : Port). Ok (with_store w (set_port w.store p (record y { limit = limit }))))
            (λ (z : World). Ok (z, Done))))
