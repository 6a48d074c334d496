-- What a message that is sent leaves of a state, from what the store tells.
use Rattle.std.proofs.Common.{◌≡◌, ℕ, Ok, sym, ◌∙◌, ap, subst}
use Rattle.mrc_base.specs.declared.memory.OrMemory.{OrMemory}
use Rattle.mrc_model.specs.Map.{Map}
use Rattle.mrc_model.specs.Message.{Message}
use Rattle.mrc_model.specs.Wiring.{Wiring}
use Rattle.mrc_model.specs.World.{Store, Task, World, task_class}
use Rattle.mrc_model.specs.Reply.{Done}
use Rattle.mrc_model.specs.CallSend.{call_send}
use Rattle.mrc_transit.specs.declared.sending.SendFault.{SendFault}
use Rattle.mrc_transit.specs.SendPlans.{SendPlan, sent, IsPlanOf, IsNotSent, IsSendAnswer}

module _ (W : Wiring) (own t : ℕ) (m : Message) (ts : Map Task) (s : Store) (w : World)
    (view : ◌≡◌ {A = World} (record { tasks = ts; store = s }) w)
    (class : task_class w t ≡ own) where
  -- the call is done
  pub sent_done : (plan : SendPlan) (z : Store)
      → IsPlanOf W s own t m plan
      → z ≡ sent s plan
      → call_send W w t m ≡ Ok (record { tasks = ts; store = z }, Done)
  sent_done plan z is left =
      subst (λ v. task_class v t ≡ own
      → call_send W v t m ≡ Ok (record { tasks = ts; store = z }, Done)) view
      (λ of_class. is record { tasks = ts; store = s } of_class
      ∙ ap (λ y. Ok (record { tasks = ts; store = y }, Done)) (sym left))
      class

  -- or refused
  pub sent_not : (fault : OrMemory SendFault) → IsNotSent fault W s own t m
      → IsSendAnswer fault (call_send W w t m)
  sent_not fault not =
      subst (λ v. task_class v t ≡ own → IsSendAnswer fault (call_send W v t m)) view
      (not record { tasks = ts; store = s }) class
