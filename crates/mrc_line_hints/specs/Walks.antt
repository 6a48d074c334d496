-- Step. How far the words of a line are words of the grammar, one word after another. This
-- profile's own choice.
use Rattle.std.specs.Prelude.{ℕ, ◌+◌, Bool, List, [], ◌∷◌, Option, Some, None}
use Rattle.std.specs.Option.{is_some}
use Rattle.mrc_wiring_text.specs.declared.reading.Edition.{Edition}
use Rattle.mrc_line_hints.specs.declared.ways.Place.{Place}
use Rattle.mrc_line_hints.specs.declared.walks.Walked.{Walked}
use Rattle.mrc_line_hints.specs.Ways.{step}

-- the place behind words, if the line goes on with each of them
unfoldable pub run : Edition → Option Place → List (List ℕ) → Option Place
run edition None words = None
run edition (Some place) [] = Some place
run edition (Some place) (word ∷ words) = run edition (step edition place word) words

-- words that begin a line
abbrev pub begun : Edition → Place → List (List ℕ) → Bool
begun edition start words = is_some (run edition (Some start) words)

-- the walk goes on from the next place, if there is one
abbrev pub onward : ℕ → Place → Option Place → (Place → Walked) → Walked
onward count place None go = record { count = count; place = place }
onward count place (Some next) go = go next

-- the number of words with which the line goes on, after this many, and the place behind them
unfoldable pub walk : Edition → ℕ → Place → List (List ℕ) → Walked
walk edition count place [] = record { count = count; place = place }
walk edition count place (word ∷ words) = onward count place (step edition place word)
    (λ next. walk edition (count + 1) next words)
