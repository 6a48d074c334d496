-- Believe. A chain as a tree. A chain as a tree, from its conclusion down: which step each line
-- tells, how deep it stands, and which earlier line has told the step. This profile's own choice.
use Rattle.std.specs.Prelude.{ℕ, zero, suc, ◌+◌, ◌*◌, ◌-◌, ◌^◌, ◌==◌, List, [], ◌∷◌, ◌++◌, Option}
use Rattle.std.specs.Prelude.{Some, None, length, set, replicate, min, slice_get, if◌then◌else◌}
use Rattle.mrc_closure.specs.declared.chains.Places.{Places}
use Rattle.mrc_closure.specs.declared.chains.Places.TheVariants.{Empty, One, Two}
use Rattle.mrc_closure.specs.declared.chains.Step.{Step}
use Rattle.mrc_why.specs.declared.trees.Waiting.{Waiting}
use Rattle.mrc_why.specs.declared.trees.TreeLine.{TreeLine}

-- the premises, to be told at this depth: a place that is both premises is told once
abbrev pub below : ℕ → Places → List Waiting
below depth Empty = []
below depth (One n) = record { depth = depth; place = n } ∷ []
below depth (Two n k) =
    if n == k then record { depth = depth; place = n } ∷ []
    else record { depth = depth; place = n } ∷ record { depth = depth; place = k } ∷ []

-- What was told so far: of each step the number of the line that tells it, if one does, the lines,
-- and what is still to be told, the next first.
pub record Telling : Type 0 where
  pub told : List (Option ℕ)
  pub lines : List TreeLine
  pub waiting : List Waiting

-- a step that is told by the line of number n: a line that says so
abbrev pub told_again : Telling → Waiting → List Waiting → ℕ → Telling
told_again x o rest n = record {
  told = x.told;
  lines = x.lines ++ (record { depth = o.depth; place = o.place; seen = Some n }) ∷ [];
  waiting = rest;
}

-- one deeper; no number of the machine is above 2^64 - 1
abbrev pub next_depth : ℕ → ℕ
next_depth depth = min (depth + 1) (2 ^ 64 - 1)

-- a step that no line tells: a line that tells it, and then its premises, one deeper
abbrev pub told_first : Telling → Waiting → List Waiting → Places → Telling
told_first x o rest premises = record {
  told = set x.told o.place (Some (length x.lines + 1));
  lines = x.lines ++ (record { depth = o.depth; place = o.place; seen = None }) ∷ [];
  waiting = below (next_depth o.depth) premises ++ rest;
}

-- what is told of a step, of which this is known
abbrev pub told_step : Telling → Waiting → List Waiting → Option (Option ℕ) → Option Step → Telling
told_step x o rest (Some (Some n)) step = told_again x o rest n
told_step x o rest (Some None) (Some step) = told_first x o rest step.premises
told_step x o rest (Some None) None = record { told = x.told; lines = x.lines; waiting = rest }
told_step x o rest None step = record { told = x.told; lines = x.lines; waiting = rest }

-- the next of what is to be told
abbrev pub turn_of : List Step → Telling → List Waiting → Telling
turn_of steps x [] = x
turn_of steps x (o ∷ rest) =
    told_step x o rest (slice_get x.told o.place) (slice_get steps o.place)

-- one turn: a line more, where something is still to be told
abbrev pub turn : List Step → Telling → Telling
turn steps x = turn_of steps x x.waiting

-- so many turns
abbrev pub turns : List Step → ℕ → Telling → Telling
turns steps zero x = x
turns steps (suc n) x = turn steps (turns steps n x)

-- no step is told
abbrev pub untold : List Step → List (Option ℕ)
untold steps = replicate (length steps) None

-- nothing was told, and the last step is to be told
abbrev pub at_first : List Step → Telling
at_first steps = record {
  told = untold steps;
  lines = [];
  waiting = record { depth = 0; place = length steps - 1 } ∷ [];
}

-- The lines of a chain, from its last step down. Each step is told once, and each of its premises
-- has a line below it: no more than two for a step, and one for the last.
abbrev pub tree_lines : List Step → List TreeLine
tree_lines steps = (turns steps (2 * length steps + 1) (at_first steps)).lines
