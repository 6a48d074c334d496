-- Believe. Holdings of code, read as the definitions'. This profile's own choice.
use Rattle.std.specs.Prelude.{ℕ, ◌<◌, ◌^◌, List, map, nat_lt, if◌then◌else◌, [], ◌∷◌}
use Rattle.std.specs.List.{AllByRecursion}
use Rattle.mrc_base.specs.declared.PortRight.TheVariants.{Send}
use Rattle.mrc_model.specs.World.{Space}
use Rattle.mrc_model.specs.Breach as model
use Rattle.mrc_machine.specs.declared.holding.Holding.{Holding}

-- a holding
abbrev pub holding_of : Holding → model.Holding
holding_of h = record { task = h.task; port = h.port; right = h.right }

-- a list of them
abbrev pub holdings_of : List Holding → List model.Holding
holdings_of hs = map holding_of hs

-- a send right of the task, where there are references
abbrev pub sends_holdings : ℕ → ℕ → ℕ → List model.Holding
sends_holdings t p sends =
    if nat_lt 0 sends then record { task = t; port = p; right = Send } ∷ [] else []

-- the numbers of these tasks are short
abbrev pub AreShort : List (ℕ × Space) → Type 0
AreShort spaces = AllByRecursion (λ x. x.0 < 2 ^ 32) spaces
