-- Believe. What trusted tasks may do with rights. Tasks of one class may do everything to each
-- other. This profile's own choice.
use Rattle.std.specs.Prelude.{ℕ, Bool, true, ◌||◌, ◌==◌, Option, Some, None}
use Rattle.mrc_base.specs.declared.PortRight.{PortRight}
use Rattle.mrc_model.specs.declared.Verb.{Verb}
use Rattle.mrc_model.specs.declared.Item.{Item}
use Rattle.mrc_model.specs.declared.Item.TheVariants.{Null as NullItem, Dead as DeadItem}
use Rattle.mrc_model.specs.declared.Item.TheVariants.{Right as RightItem}
use Rattle.mrc_model.specs.Wiring.{Wiring, may}
use Rattle.mrc_model.specs.World.{Store, World, class_of, task_class}

-- a task of class t may do so by the verb with the right on a port of this class; None is a port
-- that is not live
abbrev pub may_with : Wiring → Verb → ℕ → PortRight → Option ℕ → Bool
may_with W v t r None = true
may_with W v t r (Some c) = may W v t r c

-- the same of an item: null and dead are no rights
abbrev pub may_item : Wiring → Store → Verb → ℕ → Item → Bool
may_item W s v t NullItem = true
may_item W s v t DeadItem = true
may_item W s v t (RightItem p r) = may_with W v t r (class_of s p)

-- task t may do so to task u, always if both are of one class
abbrev pub may_on : Wiring → World → Verb → ℕ → ℕ → Item → Bool
may_on W w v t u item =
    task_class w t == task_class w u || may_item W w.store v (task_class w t) item
