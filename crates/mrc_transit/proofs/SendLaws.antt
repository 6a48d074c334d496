-- What sending a message comes to, exit by exit.
use Rattle.std.proofs.Common.{◌≡◌, ℕ, Bool, true, false, Option, Some, None, Ok, Err, refl, inl}
use Rattle.std.proofs.Common.{inr}
use Rattle.std.proofs.Common.{sym, ◌∙◌, ap, subst, List, ◌⊎◌}
use Rattle.std.specs.Prelude.{not, ◌&&◌, nat_le, length, option_and_then}
use Rattle.mrc_base.specs.declared.Disp.{Disp}
use Rattle.mrc_base.specs.declared.Disp.TheVariants.{MoveReceive, MoveSend, MoveSendOnce, CopySend}
use Rattle.mrc_base.specs.declared.Disp.TheVariants.{MakeSend, MakeSendOnce}
use Rattle.mrc_base.specs.Disposition.{given, disp_of_number}
use Rattle.mrc_model.specs.declared.Item.{Item}
use Rattle.mrc_model.specs.declared.Denied.{Denied}
use Rattle.mrc_model.specs.declared.Denied.TheVariants.{ReplySlot, NotForReply}
use Rattle.mrc_model.specs.declared.Code.TheVariants.{MachSendInvalidDest, MachSendInvalidReply}
use Rattle.mrc_model.specs.declared.Code.TheVariants.{MachSendTimedOut}
use Rattle.mrc_model.specs.Rights.{is_once}
use Rattle.mrc_model.specs.Map.{get}
use Rattle.mrc_model.specs.Message.{Message}
use Rattle.mrc_model.specs.Wiring.{Wiring, Form, form_shapes}
use Rattle.mrc_model.specs.Filter.{judge}
use Rattle.mrc_model.specs.declared.Verb.TheVariants.{Replies}
use Rattle.mrc_model.specs.Trust.{may_item}
use Rattle.mrc_model.specs.World.{QueuedArg, Port, Store, World, task_class}
use Rattle.mrc_model.specs.Reply.{Reply, Done, Refused, DeniedBy, Try, ◌>>=◌, ◌>>◌, check}
use Rattle.mrc_model.specs.Reply.{refuse_if, or_refuse}
use Rattle.mrc_model.specs.Space.{take}
use Rattle.mrc_model.specs.Death.{append}
use Rattle.mrc_model.specs.Target.{with_store}
use Rattle.mrc_model.specs.CallSend.{call_send, not_receive, take_reply_by, take_args, fits_item}
use Rattle.mrc_model.proofs.Maps.{same_Some, not_None}
use Rattle.mrc_transit.specs.Sending.{judge_reply}
use Rattle.mrc_transit.specs.SendPlans.{destination_disp, but_receive}

-- the refusal of a destination
abbrev pub bad_destination : Reply
bad_destination = Refused MachSendInvalidDest

-- the disposition of a destination

-- what is kept is the same, and moves no receive right
is_kept : (x : Disp) → ((but_receive x ≡ None) × (not_receive x ≡ false))
    ⊎ ((but_receive x ≡ Some x) × (not_receive x ≡ true))
is_kept MoveReceive = inl (refl, refl)
is_kept MoveSend = inr (refl, refl)
is_kept MoveSendOnce = inr (refl, refl)
is_kept CopySend = inr (refl, refl)
is_kept MakeSend = inr (refl, refl)
is_kept MakeSendOnce = inr (refl, refl)

kept_some : (o : Option Disp) (y : Disp)
    → option_and_then but_receive o ≡ Some y
    → (o ≡ Some y) × (not_receive y ≡ true)
kept_some None y is = absurd (not_None y (sym is))
kept_some (Some x) y is = elim (is_kept x) [
  | inl none ↦ absurd (not_None y (sym is ∙ none.0))
  | inr kept ↦
      let same : x ≡ y = same_Some x y (sym kept.0 ∙ is) in
      (ap Some same, subst (λ z. not_receive z ≡ true) same kept.1)
]

-- two tests, one behind the other

reason : Try (Unit {0}) → Reply
reason (Ok u) = Done
reason (Err e) = e

both_hold : (a b : Bool) (d e : Reply) → (check a d >> check b e) ≡ Ok tt
    → (a ≡ true) × (b ≡ true)
unfolding ◌>>◌ check
both_hold true true d e is = (refl, refl)
both_hold true false d e is = cc
both_hold false b d e is = cc

-- whichever fails first
fails_first : (a b : Bool) (d e why : Reply) → (check a d >> check b e) ≡ Err why
    → ((a ≡ false) × (d ≡ why)) ⊎ ((a ≡ true) × (b ≡ false) × (e ≡ why))
unfolding ◌>>◌ check reason
fails_first true true d e why is = cc
fails_first true false d e why is = inr (refl, refl, ap reason is)
fails_first false b d e why is = inl (refl, ap reason is)

module _ (W : Wiring) (w : World) (t : ℕ) (m : Message) where
  pub send_no_disp : destination_disp m.remote_disp ≡ None
      → call_send W w t m ≡ Err bad_destination
  unfolding call_send ◌>>=◌ ◌>>◌ or_refuse check
  send_no_disp none = go (disp_of_number m.remote_disp) refl
    where
      go : (o : Option Disp)
          → disp_of_number m.remote_disp ≡ o
          → call_send W w t m ≡ Err bad_destination
      go None is = rw is refl
      go (Some x) is = elim (is_kept x) [
        | inl out ↦ rw (is, out.1) refl
        | inr kept ↦ absurd (not_None x (sym kept.0
            ∙ ap (option_and_then but_receive) (sym is) ∙ none))
      ]

  module _ (x : Disp) (disp : destination_disp m.remote_disp ≡ Some x) where
    disp_is : disp_of_number m.remote_disp ≡ Some x
    disp_is = (kept_some (disp_of_number m.remote_disp) x disp).0

    pub plain : not_receive x ≡ true
    plain = (kept_some (disp_of_number m.remote_disp) x disp).1

    pub send_no_right : take w.store t m.remote x bad_destination bad_destination
        ≡ Err bad_destination
        → call_send W w t m ≡ Err bad_destination
    unfolding call_send ◌>>=◌ ◌>>◌ or_refuse check
    send_no_right is = rw (disp_is, plain, is) refl

    module _ (s1 : Store) (d : ℕ)
        (took : take w.store t m.remote x bad_destination bad_destination ≡ Ok (s1, d)) where
      pub send_no_port : get s1.ports d ≡ None → call_send W w t m ≡ Err bad_destination
      unfolding call_send ◌>>=◌ ◌>>◌ or_refuse check
      send_no_port is = rw (disp_is, plain, took, is) refl

      module _ (dest : Port) (live : get s1.ports d ≡ Some dest) where
        pub send_denied : (denied : Denied)
            → judge W dest.class m ≡ Err denied
            → call_send W w t m ≡ Err (DeniedBy denied)
        unfolding call_send ◌>>=◌ ◌>>◌ or_refuse check
        send_denied denied is = rw (disp_is, plain, took, live, is) refl

        module _ (form : Form) (judged : judge W dest.class m ≡ Ok form) where
          pub send_no_reply :
              take_reply_by s1 t m.local (disp_of_number m.local_disp)
              (Refused MachSendInvalidReply) ≡ Err (Refused MachSendInvalidReply)
              → call_send W w t m ≡ Err (Refused MachSendInvalidReply)
          unfolding call_send ◌>>=◌ ◌>>◌ or_refuse check
          send_no_reply is = rw (disp_is, plain, took, live, judged, is) refl

          module _ (s2 : Store) (reply : Item)
              (replied : take_reply_by s1 t m.local (disp_of_number m.local_disp)
              (Refused MachSendInvalidReply) ≡ Ok (s2, reply)) (own : ℕ)
              (of_class : task_class w t ≡ own) where
            pub send_unfit : (e : Reply)
                → judge_reply W w.store own dest.class m.id reply ≡ Err e
                → call_send W w t m ≡ Err e
            unfolding call_send judge_reply ◌>>=◌ ◌>>◌ or_refuse check
            send_unfit e is =
                elim (fails_first (fits_item W w.store dest.class m.id reply)
                (may_item W w.store Replies own reply) (DeniedBy ReplySlot)
                (DeniedBy NotForReply) e is) [
                  | inl unfit ↦
                      rw (disp_is, plain, took, live, judged, replied, of_class, unfit.0)
                      (ap Err unfit.1)
                  | inr unnamed ↦
                      rw (
                        disp_is,
                        plain,
                        took,
                        live,
                        judged,
                        replied,
                        of_class,
                        unnamed.0,
                        unnamed.1,
                      )
                      (ap Err unnamed.2)
                ]

            module _ (good : judge_reply W w.store own dest.class m.id reply ≡ Ok tt) where
              passed : (fits_item W w.store dest.class m.id reply ≡ true)
                  × (may_item W w.store Replies own reply ≡ true)
              unfolding judge_reply
              passed = both_hold (fits_item W w.store dest.class m.id reply)
                  (may_item W w.store Replies own reply) (DeniedBy ReplySlot)
                  (DeniedBy NotForReply) good

              pub send_no_args : (e : Reply)
                  → take_args W own t 0 (form_shapes form) s2 m.args ≡ Err e
                  → call_send W w t m ≡ Err e
              unfolding call_send ◌>>=◌ ◌>>◌ or_refuse check
              send_no_args e is =
                  rw (disp_is, plain, took, live, judged, replied, of_class, passed.0, passed.1, is)
                  refl

              module _ (s3 : Store) (args : List QueuedArg)
                  (taken : take_args W own t 0 (form_shapes form) s2 m.args ≡ Ok (s3, args)) where
                pub send_full :
                    (not (is_once (given x)) && nat_le dest.limit (length dest.queue)) ≡ true
                    → call_send W w t m ≡ Err (Refused MachSendTimedOut)
                unfolding call_send ◌>>=◌ ◌>>◌ or_refuse check refuse_if
                send_full is =
                    rw (disp_is, plain, took, live, judged, replied, of_class, passed.0, passed.1)
                    (rw (taken, is) refl)

                pub send_done :
                    (not (is_once (given x)) && nat_le dest.limit (length dest.queue)) ≡ false
                    → call_send W w t m ≡ Ok (
                      with_store w (append s3 d record {
                        by_once = is_once (given x);
                        id = m.id;
                        reply = reply;
                        args = args;
                      }),
                      Done,
                    )
                unfolding call_send ◌>>=◌ ◌>>◌ or_refuse check refuse_if
                send_done is =
                    rw (disp_is, plain, took, live, judged, replied, of_class, passed.0, passed.1)
                    (rw (taken, is) refl)
