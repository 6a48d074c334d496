-- Step. A round: what follows from its new facts and is not known yet. This profile's own choice.
use Rattle.std.specs.Prelude.{◌≡◌, ◌+◌, not, ◌&&◌, ◌||◌, List, length}
use Rattle.mrc_base.specs.declared.Fact.{Fact}
use Rattle.mrc_facts.specs.Sets.{has, IsAscending}
use Rattle.mrc_classes.specs.Following.{IsListOf}

-- A set with the found facts put into it: those of them that it lacked are the new ones. It has
-- become longer by as many.
pub record Merged (before found after new : List Fact) : Type 0 where
  pub members : (g : Fact) → has after g ≡ (has before g || has found g)
  pub new_ones : (g : Fact) → has new g ≡ (has found g && not (has before g))
  pub len : length after ≡ length before + length new

-- All that follows was found and put into a set. What was new there is what is new now.
pub record IsNextRound (Follows : Fact → Type 0) (before after new : List Fact) : Type 0 where
  pub found : List Fact
  pub all : IsListOf Follows found
  pub merged : Merged before found after new
  pub ascending : IsAscending after
