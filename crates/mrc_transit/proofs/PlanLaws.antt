-- What the plan of a message is to sending it, from what each step of code tells.
use Rattle.std.proofs.Common.{◌≡◌, ℕ, Bool, true, false, List, Option, Some, None, Ok, Err}
use Rattle.std.proofs.Common.{refl, sym, ◌∙◌, ap, subst}
use Rattle.std.specs.Prelude.{unwrap_or, is_some, IsOk}
use Rattle.mrc_base.specs.declared.Disp.{Disp}
use Rattle.mrc_base.specs.declared.Disp.TheVariants.{MoveReceive, MoveSend, MoveSendOnce, CopySend}
use Rattle.mrc_base.specs.declared.Disp.TheVariants.{MakeSend, MakeSendOnce}
use Rattle.mrc_base.specs.declared.memory.OrMemory.TheVariants.{Memory}
use Rattle.mrc_base.specs.Disposition.{given, disp_of_number}
use Rattle.mrc_model.specs.declared.Item.{Item}
use Rattle.mrc_model.specs.declared.Entry.{Entry}
use Rattle.mrc_model.specs.declared.Denied.{Denied}
use Rattle.mrc_model.specs.declared.Code.TheVariants.{MachSendInvalidDest, MachSendInvalidReply}
use Rattle.mrc_model.specs.declared.Code.TheVariants.{MachSendTimedOut}
use Rattle.mrc_model.specs.Rights.{is_once, is_receive}
use Rattle.mrc_model.specs.Map.{Map, get, empty}
use Rattle.mrc_model.specs.Message.{Message, Arg}
use Rattle.mrc_model.specs.Wiring.{Wiring, form_shapes}
use Rattle.mrc_model.specs.Filter.{judge}
use Rattle.mrc_model.specs.World.{Space, QueuedArg, Port, Store, World, space, set_space}
use Rattle.mrc_model.specs.Reply.{Reply, Refused, Done, Try, ◌>>=◌, or_refuse}
use Rattle.mrc_model.specs.Death.{append}
use Rattle.mrc_model.specs.Space.{take, take_from, Taken, put_entry, restart_if}
use Rattle.mrc_model.specs.Target.{with_store}
use Rattle.mrc_model.specs.CallSend.{not_receive, take_reply_by, take_args}
use Rattle.mrc_model.proofs.Maps.{get-empty}
use Rattle.mrc_desc.specs.declared.message.Header.{Header}
use Rattle.mrc_desc.specs.View.{HasHeader}
use Rattle.mrc_ports.specs.Queues.{is_full_for, is_out_of_room}
use Rattle.mrc_filter.specs.declared.form.AcceptedForm.{AcceptedForm}
use Rattle.mrc_filter.specs.Places.{IsJudged}
use Rattle.mrc_transit.specs.declared.sending.SendFault.{SendFault}
use Rattle.mrc_transit.specs.declared.sending.SendFault.TheVariants as faults
use Rattle.mrc_names.specs.Leaving.{AreRests}
use Rattle.mrc_names.proofs.LeavingLaws.{patched_none}
use Rattle.mrc_transit.specs.Staging.{Scratch, no_scratch, staged, taken_of}
use Rattle.mrc_transit.specs.Queueing.{queued_from}
use Rattle.mrc_transit.specs.Sending.{fault_reply, judge_reply}
use Rattle.mrc_transit.specs.SendPlans.{SendPlan, sent, IsReady, IsPlanOf, IsRefused, IsNotSent}
use Rattle.mrc_transit.specs.SendPlans.{destination_disp, judged_as}
use Rattle.mrc_transit.proofs.StagingLaws.{put_same}
use Rattle.mrc_transit.proofs.SendLaws.{bad_destination, plain, send_no_disp, send_no_right}
use Rattle.mrc_transit.proofs.SendLaws.{send_no_port, send_denied, send_no_reply, send_no_args}
use Rattle.mrc_transit.proofs.SendLaws.{send_unfit, send_full, send_done}

-- nothing was taken yet
begun : (s : Store) (t : ℕ) (x : Space) (scratch : Scratch)
    → get s.spaces t ≡ Some x
    → scratch ≡ no_scratch
    → staged s t (taken_of x scratch) ≡ s
unfolding staged
begun s t x scratch at is =
    ap (λ k. staged s t (taken_of x k)) is
    ∙ ap (set_space s t) (patched_none x empty refl) ∙ put_same s t x at

-- a right that is no receive right changes no port

moves_none : (x : Disp) → not_receive x ≡ true → is_receive (given x) ≡ false
moves_none MoveReceive is = cc
moves_none MoveSend is = refl
moves_none MoveSendOnce is = refl
moves_none CopySend is = refl
moves_none MakeSend is = refl
moves_none MakeSendOnce is = refl

module _ (s : Store) (t n : ℕ) (x : Disp) (plain : not_receive x ≡ true) (e : Reply) where
  left : Entry → Try (Store × ℕ)
  left h = or_refuse (take_from h x) e
      >>= λ got. Ok (
        restart_if (is_receive (given x))
            (set_space s t (put_entry (space s t) n got.rest)) got.port,
        got.port,
      )

  -- no port changes where it is done
  KeepsPorts : Try (Store × ℕ) → Type 0
  KeepsPorts (Ok got) = got.0.ports ≡ s.ports
  KeepsPorts (Err d) = Unit {0}

  by_rest : (o : Option Taken) → KeepsPorts (or_refuse o e
      >>= λ got. Ok (
        restart_if (is_receive (given x))
            (set_space s t (put_entry (space s t) n got.rest)) got.port,
        got.port,
      ))
  unfolding KeepsPorts ◌>>=◌ or_refuse
  by_rest None = tt
  by_rest (Some got) =
      ap (λ b. (restart_if b (set_space s t (put_entry (space s t) n got.rest)) got.port).ports)
      (moves_none x plain)

  by_entry : (o : Option Entry) → KeepsPorts (or_refuse o e >>= left)
  unfolding KeepsPorts left ◌>>=◌ or_refuse
  by_entry None = tt
  by_entry (Some h) = by_rest (take_from h x)

  keeps_ports : KeepsPorts (take s t n x e e)
  unfolding take left
  keeps_ports = by_entry (get (space s t) n)

  same_ports : (z : Store) (p : ℕ) → take s t n x e e ≡ Ok (z, p) → z.ports ≡ s.ports
  unfolding KeepsPorts
  same_ports z p is = subst KeepsPorts is keeps_ports

-- a task without a space gives none
take_none : (s : Store) (t n : ℕ) (x : Disp) (e : Reply)
    → get s.spaces t ≡ None
    → take s t n x e e ≡ Err e
unfolding take ◌>>=◌ or_refuse
take_none s t n x e none =
    let at : get (space s t) n ≡ None = ap (λ o. get (unwrap_or o empty) n) none ∙ get-empty n in
    rw at refl

-- what has a plan is not refused: so memory may run out for it
pub granted : (W : Wiring) (s : Store) (own t : ℕ) (m : Message) (plan : SendPlan)
    → IsPlanOf W s own t m plan
    → IsNotSent Memory W s own t m
granted W s own t m plan is w of_class = subst IsOk (sym (is w of_class)) refl

-- each exit

module _ (W : Wiring) (s : Store) (own t : ℕ) (m : Message) (h : Header)
    (has : HasHeader m h) where
  pub plan_no_disp : destination_disp h.remote_disp ≡ None
      → IsRefused (faults.Refused MachSendInvalidDest) W s own t m
  plan_no_disp none = λ w of_class.
      send_no_disp W (with_store w s) t m (ap destination_disp (sym has.remote_disp) ∙ none)

  module _ (x : Disp) (disp : destination_disp h.remote_disp ≡ Some x) where
    disp_of : destination_disp m.remote_disp ≡ Some x
    disp_of = ap destination_disp (sym has.remote_disp) ∙ disp

    pub plan_no_space : get s.spaces t ≡ None
        → IsRefused (faults.Refused MachSendInvalidDest) W s own t m
    plan_no_space none = λ w of_class.
        send_no_right W (with_store w s) t m x disp_of
        (take_none s t m.remote x bad_destination none)

    module _ (y : Space) (there : get s.spaces t ≡ Some y) (k0 : Scratch)
        (blank : k0 ≡ no_scratch) where
      -- the store after what the scratch has
      abbrev pub after : Scratch → Store
      after k = staged s t (taken_of y k)

      from_start : (e : Reply) (r : Try (Store × ℕ))
          → take (after k0) t h.remote_port x e e ≡ r
          → take s t m.remote x e e ≡ r
      from_start e r is =
          ap (λ z. take z t m.remote x e e) (sym (begun s t y k0 there blank))
          ∙ ap (λ n. take (after k0) t n x e e) (sym has.remote_port) ∙ is

      pub plan_no_right : ((e : Reply) → take (after k0) t h.remote_port x e e ≡ Err e)
          → IsRefused (faults.Refused MachSendInvalidDest) W s own t m
      plan_no_right refused = λ w of_class.
          send_no_right W (with_store w s) t m x disp_of
          (from_start bad_destination _ (refused bad_destination))

      module _ (k1 : Scratch) (d : ℕ)
          (given_up : (e : Reply)
          → take (after k0) t h.remote_port x e e ≡ Ok (after k1, d)) where
        took : take s t m.remote x bad_destination bad_destination ≡ Ok (after k1, d)
        took = from_start bad_destination _ (given_up bad_destination)

        at_port : (w : World) (o : Option Port)
            → get s.ports d ≡ o
            → get (after k1).ports d ≡ o
        at_port w o is =
            ap (λ (ps : Map Port). get ps d) (same_ports s t m.remote x
            (plain W (with_store w s) t m x disp_of) bad_destination (after k1) d took) ∙ is

        pub plan_no_port : get s.ports d ≡ None
            → IsRefused (faults.Refused MachSendInvalidDest) W s own t m
        plan_no_port none = λ w of_class.
            send_no_port W (with_store w s) t m x disp_of (after k1) d took
            (at_port w None none)

        module _ (dest : Port) (live : get s.ports d ≡ Some dest) (class : ℕ)
            (class_is : class ≡ dest.class) where
          pub plan_denied : (denied : Denied)
              → IsJudged W class m (Err denied)
              → IsRefused (faults.Denied denied) W s own t m
          plan_denied denied judged = λ w of_class.
              send_denied W (with_store w s) t m x disp_of (after k1) d took dest
              (at_port w (Some dest) live) denied
              (ap (λ c. judge W c m) (sym class_is) ∙ judged)

          module _ (form : AcceptedForm) (judged : IsJudged W class m (Ok form)) where
            form_is : judge W dest.class m ≡ Ok form.found.now
            form_is = ap (λ c. judge W c m) (sym class_is) ∙ judged.1

            module _ (o : Option Disp) (o_is : o ≡ disp_of_number h.local_disp) where
              of_reply : (e : Reply) (r : Try (Store × Item))
                  → take_reply_by (after k1) t h.local_port o e ≡ r
                  → take_reply_by (after k1) t m.local (disp_of_number m.local_disp) e ≡ r
              of_reply e r is =
                  ap (λ n. take_reply_by (after k1) t m.local (disp_of_number n) e)
                  (sym has.local_disp)
                  ∙ ap (λ k. take_reply_by (after k1) t m.local k e) (sym o_is)
                  ∙ ap (λ n. take_reply_by (after k1) t n o e) (sym has.local_port) ∙ is

              pub plan_no_reply :
                  ((e : Reply) → take_reply_by (after k1) t h.local_port o e ≡ Err e)
                  → IsRefused (faults.Refused MachSendInvalidReply) W s own t m
              plan_no_reply refused = λ w of_class.
                  send_no_reply W (with_store w s) t m x disp_of (after k1) d took dest
                  (at_port w (Some dest) live) form.found.now form_is
                  (of_reply (Refused MachSendInvalidReply) _
                  (refused (Refused MachSendInvalidReply)))

              module _ (k2 : Scratch) (reply : Item)
                  (answered : (e : Reply)
                  → take_reply_by (after k1) t h.local_port o e
                  ≡ Ok (after k2, reply)) where
                replied : take_reply_by (after k1) t m.local (disp_of_number m.local_disp)
                    (Refused MachSendInvalidReply) ≡ Ok (after k2, reply)
                replied =
                    of_reply (Refused MachSendInvalidReply) _
                    (answered (Refused MachSendInvalidReply))

                of_judged : (r : Try (Unit {0}))
                    → judge_reply W s own class h.id reply ≡ r
                    → judge_reply W s own dest.class m.id reply ≡ r
                of_judged r is =
                    ap (λ c. judge_reply W s own c m.id reply) (sym class_is)
                    ∙ ap (λ n. judge_reply W s own class n reply) (sym has.id) ∙ is

                pub plan_unfit : (fault : SendFault)
                    → judge_reply W s own class h.id reply ≡ Err (fault_reply fault)
                    → IsRefused fault W s own t m
                plan_unfit fault refused = λ w of_class.
                    send_unfit W (with_store w s) t m x disp_of (after k1) d took dest
                    (at_port w (Some dest) live) form.found.now form_is (after k2)
                    reply replied own of_class (fault_reply fault) (of_judged _ refused)

                module _ (good : judge_reply W s own class h.id reply ≡ Ok tt) (args : List Arg)
                    (args_are : args ≡ m.args) where
                  of_args : (r : Try (Store × List QueuedArg))
                      → take_args W own t 0 (form_shapes form.found.now) (after k2) args ≡ r
                      → take_args W own t 0 (form_shapes form.found.now) (after k2) m.args ≡ r
                  of_args r is =
                      ap (take_args W own t 0 (form_shapes form.found.now) (after k2)) (sym
                      args_are)
                      ∙ is

                  pub plan_no_args : (fault : SendFault)
                      → take_args W own t 0 (form_shapes form.found.now) (after k2) args
                      ≡ Err (fault_reply fault)
                      → IsRefused fault W s own t m
                  plan_no_args fault refused = λ w of_class.
                      send_no_args W (with_store w s) t m x disp_of (after k1) d took dest
                      (at_port w (Some dest) live) form.found.now form_is (after k2)
                      reply replied own of_class (of_judged _ good)
                      (fault_reply fault) (of_args _ refused)

                  module _ (k3 : Scratch) (queued : List QueuedArg)
                      (taken : take_args W own t 0 (form_shapes form.found.now) (after k2) args
                      ≡ Ok (after k3, queued)) (b : Bool) (once : b ≡ is_once (given x)) where
                    pub plan_at_limit : is_full_for dest b ≡ true
                        → IsRefused (faults.Refused MachSendTimedOut) W s own t m
                    plan_at_limit full = λ w of_class.
                        send_full W (with_store w s) t m x disp_of (after k1) d took dest
                        (at_port w (Some dest) live) form.found.now form_is (after k2)
                        reply replied own of_class (of_judged _ good)
                        (after k3) queued (of_args _ taken)
                        (ap (is_full_for dest) (sym once) ∙ full)

                    module _ (below : is_full_for dest b ≡ false)
                        (items_are : queued_from m.args k3.items ≡ queued) where
                      -- what was taken is what the plan leaves
                      staged_so : after k3 ≡ staged s t (taken_of (space s t) k3)
                      staged_so =
                          ap (λ z. staged s t (taken_of z k3))
                          (sym (ap (λ o. unwrap_or o empty) there))

                      pub plan_done : IsPlanOf W s own t m (judged_as t m d b reply k3)
                      unfolding sent
                      plan_done w of_class =
                          send_done W (with_store w s) t m x disp_of (after k1) d took dest
                          (at_port w (Some dest) live) form.found.now form_is (after k2)
                          reply replied own of_class (of_judged _ good)
                          (after k3) queued (of_args _ taken)
                          (ap (is_full_for dest) (sym once) ∙ below)
                          ∙ (λ i. Ok (
                            with_store w (append (staged_so i) d record {
                              by_once = sym once i;
                              id = m.id;
                              reply = reply;
                              args = sym items_are i;
                            }),
                            Done,
                          ))

                      pub plan_ready : AreRests y k3.rests
                          → is_out_of_room dest ≡ false
                          → IsReady s (judged_as t m d b reply k3)
                      plan_ready rests room = record {
                        has_space = ap is_some there;
                        rests =
                            subst (λ z. AreRests z k3.rests) (sym (ap (λ o. unwrap_or o empty)
                            there)) rests;
                        port = dest;
                        live = live;
                        not_full = below;
                        room = room;
                      }
