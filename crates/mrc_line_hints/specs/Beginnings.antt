-- Law. Which words begin a line of the grammar, apart from how it is found, and that the caret is
-- under the first word with which no line goes on. This profile's own choice.
use Rattle.std.specs.Prelude.{◌≡◌, ◌↔◌, ◌<◌, ◌≤◌, ℕ, ◌+◌, Bool, false, IsTrue, List, [], ◌∷◌}
use Rattle.std.specs.Prelude.{◌++◌, length, take, Option, Some, None}
use Rattle.std.specs.List.{list_any}
use Rattle.mrc_wiring_text.specs.declared.reading.Edition.{Edition}
use Rattle.mrc_wiring_text.specs.declared.wiring.WiringSays.{WiringSays}
use Rattle.mrc_wiring_text.specs.Wiring.{wiring_says}
use Rattle.mrc_wiring_text.specs.Policy.{policy_says}
use Rattle.mrc_line_hints.specs.declared.ways.Place.{Place}
use Rattle.mrc_line_hints.specs.declared.ways.Place.TheVariants as at
use Rattle.mrc_line_hints.specs.declared.walks.Walked.{Walked}
use Rattle.mrc_line_hints.specs.Ways.{fits, ways, may_end}
use Rattle.mrc_line_hints.specs.Walks.{run, begun, walk}

-- a line may end at a place, if there is one
abbrev pub ends : Option Place → Bool
ends None = false
ends (Some place) = may_end place

-- words that are a line by the walk over them
abbrev pub accepted : Edition → Place → List (List ℕ) → Bool
accepted edition start words = ends (run edition (Some start) words)

-- some words behind these make a line that says something
abbrev pub IsBegun : {S : Type 0} → (List (List ℕ) → Option S) → List (List ℕ) → Type 0
IsBegun {S} meaning words =
    (rest : List (List ℕ)) × (says : S) × (meaning (words ++ rest) ≡ Some says)

-- words are found to begin a line of a wiring if and only if some words behind them make one
abbrev pub BeginningsAreFound : Type 0
BeginningsAreFound = (edition : Edition) (words : List (List ℕ))
    → IsTrue (begun edition at.WiringLine words) ↔ IsBegun (wiring_says edition) words

-- the same of the lines of a policy
abbrev pub PolicyBeginningsAreFound : Type 0
PolicyBeginningsAreFound = (edition : Edition) (words : List (List ℕ))
    → IsTrue (begun edition at.PolicyLine words) ↔ IsBegun (policy_says edition) words

-- words say something if and only if the walk over them ends where a line may end
abbrev pub LinesAreAccepted : Type 0
LinesAreAccepted = (edition : Edition) (words : List (List ℕ))
    → IsTrue (accepted edition at.WiringLine words)
    ↔ ((says : WiringSays) × (wiring_says edition words ≡ Some says))

-- How far words are walked: so many of them begin a line, and with one more they do not.
pub record IsLongest (edition : Edition) (start : Place) (words : List (List ℕ))
    (walked : Walked) : Type 0 where
  pub within : walked.count ≤ length words
  pub begins : IsTrue (begun edition start (take walked.count words))
  pub ends : walked.count < length words
      → begun edition start (take (walked.count + 1) words) ≡ false

-- the caret is under the first word with which no line goes on
abbrev pub CaretIsUnderTheFirst : Type 0
CaretIsUnderTheFirst = (edition : Edition) (start : Place) (words : List (List ℕ))
    → IsLongest edition start words (walk edition 0 start words)

-- a line goes on with a word in the place of the one that is wrong if and only if the word is one
-- of the parts that are expected there
abbrev pub WhatGoesOnIsExpected : Type 0
WhatGoesOnIsExpected = (edition : Edition) (start : Place) (words : List (List ℕ)) (word : List ℕ)
    → let walked = walk edition 0 start words in
    begun edition start (take walked.count words ++ word ∷ [])
    ≡ list_any (λ way. fits way.part word) (ways edition walked.place)
