-- Law. What the lists of a line stand for: `all but` and `other` are all tasks but those that they
-- leave out, `any` is each kind, and a list that names all tasks has those of the whole text.
use Rattle.std.specs.Prelude.{◌≡◌, ◌<◌, ◌&&◌, ℕ, true, not, bytes_eq, List, Contains, Some, Ok}
use Rattle.mrc_base.specs.Limits.{limit_of_kinds}
use Rattle.mrc_wiring_text.specs.declared.policy.ClassName.TheVariants as class
use Rattle.mrc_wiring_text.specs.declared.reading.Line.{Line}
use Rattle.mrc_stand_for.specs.declared.known.Known.{Known}
use Rattle.mrc_stand_for.specs.declared.standing.Standing.{Standing}
use Rattle.mrc_stand_for.specs.declared.wide.WideSays.{WideSays}
use Rattle.mrc_stand_for.specs.Once.{is_among}
use Rattle.mrc_stand_for.specs.Known.{has_kind, all_births}
use Rattle.mrc_stand_for.specs.Lists.{all_but, others_of}
use Rattle.mrc_stand_for.specs.Standing.{add_line}
use Rattle.mrc_stand_for.specs.Steps.{each}

-- a name is in `all but` these if it is not one of these and a task
abbrev pub AllButAreTheOthers : Type 0
AllButAreTheOthers =
    (known : Known) (left : List (List ℕ)) (name : List ℕ)
    → is_among name (all_but known left)
    ≡ (not (is_among name left) && is_among name known.tasks)

-- a name is in `other` if it is not the holder and a task
abbrev pub OthersAreNotTheHolder : Type 0
OthersAreNotTheHolder =
    (known : Known) (n : ℕ) (holder : List ℕ) (others : List (List ℕ)) (name : List ℕ)
    → others_of known n (Some holder) ≡ Ok others
    → is_among name others ≡ (not (bytes_eq name holder) && is_among name known.tasks)

-- `births U any` has the births of each kind that U has
abbrev pub AnyHasEachKind : Type 0
AnyHasEachKind =
    (known : Known) (task : List ℕ) (kind : ℕ)
    → kind < limit_of_kinds → has_kind known task kind ≡ true
    → Contains (all_births known task) (class.Births task kind)

-- once a line has named all tasks, no line below that is stood for adds one
abbrev pub AllAreOfTheText : Type 0
AllAreOfTheText =
    (so_far more : Standing) (lines : List (Line WideSays))
    → so_far.known.closed ≡ true
    → each add_line so_far lines ≡ Ok more
    → more.known.tasks ≡ so_far.known.tasks
