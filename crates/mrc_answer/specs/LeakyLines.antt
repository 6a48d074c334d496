-- Believe. Which lines of a policy hold while their task may come to hold another right on the same
-- class. This profile's own choice.
use Rattle.std.specs.Prelude.{◌&&◌, ◌==◌, ℕ, Bool, true, false, not, List, [], ◌∷◌}
use Rattle.std.specs.Prelude.{filter, flat_map}
use Rattle.std.specs.List.{list_any}
use Rattle.mrc_base.specs.declared.Fact.{Fact}
use Rattle.mrc_base.specs.declared.Fact.TheVariants.{Hold}
use Rattle.mrc_base.specs.declared.PortRight.{PortRight}
use Rattle.mrc_base.specs.declared.PortRight.TheVariants.{Send, Receive, SendOnce}
use Rattle.mrc_facts.specs.Order.{is_same}
use Rattle.mrc_wiring.specs.declared.claim.ForbiddenLine.{ForbiddenLine}
use Rattle.mrc_why.specs.Broken.{forbidden_fact, is_broken}

-- A line that holds, and the other rights on its class that its task may come to hold.
pub record LeakyLine : Type 0 where
  pub line : ForbiddenLine
  pub rights : List PortRight

-- the rights, in the order of facts
abbrev pub all_rights : List PortRight
all_rights = Send ∷ Receive ∷ SendOnce ∷ []

-- that the line's task holds this right on the line's class
abbrev pub hold_of : ForbiddenLine → PortRight → Fact
hold_of line right = Hold line.task line.class right

-- the line forbids the fact
abbrev pub forbids : Fact → ForbiddenLine → Bool
forbids fact line = is_same fact (forbidden_fact line)

-- one of the lines forbids the fact
abbrev pub is_forbidden : List ForbiddenLine → Fact → Bool
is_forbidden lines fact = list_any (forbids fact) lines

-- the line's task gets this right on the line's class, by a set of facts, and that is not among
-- what is forbidden
abbrev pub is_leak : (set forbidden : Fact → Bool) → ForbiddenLine → PortRight → Bool
is_leak set forbidden line right =
    set (hold_of line right) && not (forbidden (hold_of line right))

-- these rights, in the order of facts
abbrev pub leaks_of : (set forbidden : Fact → Bool) → ForbiddenLine → List PortRight
leaks_of set forbidden line = filter (is_leak set forbidden line) all_rights

-- one of the lines of this number is broken by the set
abbrev pub has_broken : (Fact → Bool) → List ForbiddenLine → ℕ → Bool
has_broken set lines number =
    list_any (λ line. is_broken set line && (number == line.line)) lines

-- the line with these rights, where it is not broken and there is one
abbrev pub leaky_line : Bool → ForbiddenLine → List PortRight → List LeakyLine
leaky_line true line rights = []
leaky_line false line [] = []
leaky_line false line (right ∷ rights) = record { line = line; rights = right ∷ rights } ∷ []

-- the same of a line, by a set of facts, what is forbidden, and the numbers of broken lines
abbrev pub leaky_by : (set forbidden : Fact → Bool) (broken : ℕ → Bool)
    → ForbiddenLine → List LeakyLine
leaky_by set forbidden broken line =
    leaky_line (broken line.line) line (leaks_of set forbidden line)

-- the same of each line, in order
abbrev pub all_leaky : (set forbidden : Fact → Bool) (broken : ℕ → Bool)
    → List ForbiddenLine → List LeakyLine
all_leaky set forbidden broken lines = flat_map (leaky_by set forbidden broken) lines

-- Those of the lines that hold while the set gives to their task another right on their class, each
-- with these rights. A right that one of the lines forbids is none of them: that line is broken. A
-- line of a number of which one is broken does not hold.
abbrev pub leaky_lines : (Fact → Bool) → List ForbiddenLine → List LeakyLine
leaky_lines set lines = all_leaky set (is_forbidden lines) (has_broken set lines) lines
