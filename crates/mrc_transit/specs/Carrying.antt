-- Law. What is sent can be received. This profile's own choice of what a message may be.
use Rattle.std.specs.Prelude.{◌≡◌, ℕ, List, Ok}
use Rattle.mrc_model.specs.Message.{Arg}
use Rattle.mrc_model.specs.Wiring.{Wiring, Shape}
use Rattle.mrc_model.specs.World.{Store, QueuedArg}
use Rattle.mrc_model.specs.CallSend.{take_args}
use Rattle.mrc_desc.specs.Lawful.{AreLawful}
use Rattle.mrc_ports.specs.Parcels.{AreCarried}

-- what is taken for the arguments of a lawful message fits a message, whatever names its rights get
abbrev pub TakenIsCarried : Type 0
TakenIsCarried =
    (W : Wiring) (own t i : ℕ) (shapes : List Shape) (s s2 : Store) (args : List Arg)
    (queued : List QueuedArg)
    → take_args W own t i shapes s args ≡ Ok (s2, queued)
    → AreLawful args
    → AreCarried queued
