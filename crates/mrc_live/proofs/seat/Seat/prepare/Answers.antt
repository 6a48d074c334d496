use Rattle.std.proofs.Common.{ap, Ok}
use Rattle.mrc_base.specs.declared.memory.OrMemory.{OrMemory}
use Rattle.mrc_base.specs.declared.memory.OrMemory.TheVariants.{Fault, Memory}
use Rattle.mrc_base.specs.Reading.{Refuses}
use Rattle.mrc_live.specs.Preparing.{sending}
use Rattle.mrc_live.proofs.seat.Seat.prepare.Goals as goal

-- a refusal that is no fault of one value is none of another
refuses_none : {A B F : Type 0} (refusal : OrMemory F) (x : A) (y : B) → Refuses refusal (Ok x)
    → Refuses refusal (Ok y)
refuses_none (Fault fault) x y refuses = cc
refuses_none Memory x y refuses = tt

pub returns-in-Ok-clause-only : goal.returns-in-Ok-clause-only
returns-in-Ok-clause-only g c = λ m spells. ap sending (c.in-Ok.ensures.only m spells)

pub returns-in-Err-clause-only : goal.returns-in-Err-clause-only
returns-in-Err-clause-only g c = λ m spells. refuses_none c.in-Err.fault m _
    (c.in-Err.ensures.only m spells)
