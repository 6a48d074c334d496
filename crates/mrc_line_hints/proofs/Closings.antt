-- Words that begin a line are those behind which some words make one.
use Rattle.std.proofs.Common.{◌≡◌, ℕ, true, List, [], ◌∷◌, ◌++◌, Option, Some, None}
use Rattle.std.proofs.Common.{refl, sym, ap, ◌∙◌}
use Rattle.std.specs.Prelude.{codes, IsTrue}
use Rattle.std.specs.Option.{is_some}
use Rattle.std.proofs.lemmas.Bool.{false≢true}
use Rattle.mrc_wiring_text.specs.declared.policy.Forbid.{Forbid}
use Rattle.mrc_wiring_text.specs.declared.reading.Edition.{Edition}
use Rattle.mrc_wiring_text.specs.declared.reading.Edition.TheVariants as editions
use Rattle.mrc_wiring_text.specs.declared.wiring.WiringSays.{WiringSays}
use Rattle.mrc_wiring_text.specs.Names.{is_name}
use Rattle.mrc_wiring_text.specs.Kinds.{kind_of}
use Rattle.mrc_wiring_text.specs.Wiring.{wiring_says}
use Rattle.mrc_wiring_text.specs.Policy.{policy_says}
use Rattle.mrc_wiring_text.proofs.LineLaws.{each_line_is_spelled, each_policy_line_is_spelled}
use Rattle.mrc_line_hints.specs.declared.ways.Place.{Place}
use Rattle.mrc_line_hints.specs.declared.ways.Place.TheVariants as at
use Rattle.mrc_line_hints.specs.Ways.{step}
use Rattle.mrc_line_hints.specs.Walks.{run, begun}
use Rattle.mrc_line_hints.specs.Beginnings.{ends, accepted, IsBegun, LinesAreAccepted}
use Rattle.mrc_line_hints.specs.Beginnings.{BeginningsAreFound, PolicyBeginningsAreFound}
use Rattle.mrc_line_hints.proofs.Begins.{line_accepted, forbid_accepted}
use Rattle.mrc_line_hints.proofs.Ends.{line_found, forbid_found}

-- ---- words that end a line

abbrev name : List ℕ
name = codes "a"

abbrev to_port : List (List ℕ)
to_port = codes "port" ∷ name ∷ []

abbrev accepting : List (List ℕ)
accepting = codes "accepts" ∷ codes "none" ∷ []

abbrev with_kind : Edition → List (List ℕ)
with_kind editions.First = name ∷ accepting
with_kind editions.Second = name ∷ codes "0" ∷ accepting
with_kind editions.Third = name ∷ codes "0" ∷ accepting

-- words behind a place that make a line
abbrev closing : Edition → Place → List (List ℕ)
closing edition at.WiringHead = codes "wiring" ∷ codes "1" ∷ []
closing edition at.PolicyHead = codes "policy" ∷ codes "1" ∷ []
closing edition at.WiringVersion = codes "1" ∷ []
closing edition at.PolicyVersion = codes "1" ∷ []
closing edition at.WiringLine = codes "task" ∷ name ∷ []
closing edition at.PolicyLine = codes "forbid" ∷ name ∷ codes "send" ∷ to_port
closing edition at.LastTask = name ∷ []
closing edition at.LastPort = name ∷ []
closing edition at.NewPort = name ∷ codes "receiver" ∷ name ∷ accepting
closing edition at.Receiver = codes "receiver" ∷ name ∷ accepting
closing edition at.ReceiverTask = name ∷ accepting
closing edition at.BirthsTask = with_kind edition
closing edition at.BirthsKind = codes "0" ∷ accepting
closing edition at.Accepts = accepting
closing edition at.Items = codes "none" ∷ []
closing edition at.Item = codes "destroyed" ∷ []
closing edition at.Subsystem = name ∷ []
closing edition at.BehindItem = []
closing edition at.Holder = name ∷ codes "send" ∷ to_port
closing edition at.HeldRight = codes "send" ∷ to_port
closing edition at.SendTo = to_port
closing edition at.OnceTo = to_port
closing edition at.Slot = codes "a.a" ∷ codes "none" ∷ []
closing edition at.Admitted = codes "none" ∷ []
closing edition at.Class = to_port
closing edition at.ClassBirths = name ∷ []
closing edition at.ClassKind = []
closing edition at.Trusted = name ∷ codes "takes" ∷ codes "none" ∷ []
closing edition at.Verb = codes "takes" ∷ codes "none" ∷ []
closing edition at.NamedRight = codes "none" ∷ []
closing edition at.Fit = codes "fit" ∷ []
closing edition at.Forbidden = name ∷ codes "send" ∷ to_port
closing edition at.ForbiddenRight = codes "send" ∷ to_port
closing edition at.End = []

closes : (edition : Edition) (place : Place)
    → accepted edition place (closing edition place) ≡ true
unfolding run step is_name kind_of
closes edition at.WiringHead = refl
closes edition at.PolicyHead = refl
closes edition at.WiringVersion = refl
closes edition at.PolicyVersion = refl
closes edition at.WiringLine = refl
closes edition at.PolicyLine = refl
closes edition at.LastTask = refl
closes edition at.LastPort = refl
closes edition at.NewPort = refl
closes edition at.Receiver = refl
closes edition at.ReceiverTask = refl
closes editions.First at.BirthsTask = refl
closes editions.Second at.BirthsTask = refl
closes editions.Third at.BirthsTask = refl
closes edition at.BirthsKind = refl
closes edition at.Accepts = refl
closes edition at.Items = refl
closes edition at.Item = refl
closes edition at.Subsystem = refl
closes edition at.BehindItem = refl
closes edition at.Holder = refl
closes edition at.HeldRight = refl
closes edition at.SendTo = refl
closes edition at.OnceTo = refl
closes edition at.Slot = refl
closes edition at.Admitted = refl
closes edition at.Class = refl
closes editions.First at.ClassBirths = refl
closes editions.Second at.ClassBirths = refl
closes editions.Third at.ClassBirths = refl
closes edition at.ClassKind = refl
closes edition at.Trusted = refl
closes edition at.Verb = refl
closes edition at.NamedRight = refl
closes edition at.Fit = refl
closes edition at.Forbidden = refl
closes edition at.ForbiddenRight = refl
closes edition at.End = refl

-- ---- words and the words behind them

run_none : (edition : Edition) (words : List (List ℕ)) → run edition None words ≡ None
unfolding run
run_none edition words = refl

pub run_append : (edition : Edition) (o : Option Place) (one other : List (List ℕ))
    → run edition o (one ++ other) ≡ run edition (run edition o one) other
unfolding run
run_append edition None one other = refl
run_append edition (Some place) [] other = refl
run_append edition (Some place) (word ∷ one) other =
    run_append edition (step edition place word) one other

some_place : (o : Option Place) → is_some o ≡ true → (place : Place) × (o ≡ Some place)
some_place None h = absurd (false≢true h)
some_place (Some place) h = (place, refl)

goes : (edition : Edition) (o : Option Place) (words : List (List ℕ))
    → ends (run edition o words) ≡ true
    → is_some o ≡ true
unfolding run
goes edition None words h = absurd (false≢true h)
goes edition (Some place) words h = refl

-- words that begin a line, and those that end it
closed : (edition : Edition) (start : Place) (words : List (List ℕ))
    → IsTrue (begun edition start words)
    → (rest : List (List ℕ)) × (accepted edition start (words ++ rest) ≡ true)
closed edition start words h =
    let p = some_place (run edition (Some start) words) h in (
      closing edition p.0,
      ap ends (run_append edition (Some start) words (closing edition p.0))
          ∙ ap (λ o. ends (run edition o (closing edition p.0))) p.1 ∙ closes edition p.0,
    )

opened : (edition : Edition) (start : Place) (words rest : List (List ℕ))
    → accepted edition start (words ++ rest) ≡ true
    → IsTrue (begun edition start words)
opened edition start words rest h =
    goes edition (run edition (Some start) words) rest
    (sym (ap ends (run_append edition (Some start) words rest)) ∙ h)

-- ---- wirings

line_says : (edition : Edition) (words : List (List ℕ))
    → accepted edition at.WiringLine words ≡ true
    → (says : WiringSays) × (wiring_says edition words ≡ Some says)
line_says edition words h =
    let f = line_found edition words h in
    let spelled = each_line_is_spelled edition words f.0 in
    (f.0, spelled.1 f.1)

says_line : (edition : Edition) (words : List (List ℕ)) (says : WiringSays)
    → wiring_says edition words ≡ Some says
    → accepted edition at.WiringLine words ≡ true
says_line edition words says e =
    let spelled = each_line_is_spelled edition words says in
    line_accepted edition words says (spelled.0 e)

pub lines_are_accepted : LinesAreAccepted
lines_are_accepted =
    λ edition words. (line_says edition words, λ found. says_line edition words found.0 found.1)

begins : (edition : Edition) (words : List (List ℕ))
    → IsTrue (begun edition at.WiringLine words)
    → IsBegun (wiring_says edition) words
begins edition words h =
    let c = closed edition at.WiringLine words h in
    let s = line_says edition (words ++ c.0) c.1 in
    (c.0, s.0, s.1)

pub beginnings_are_found : BeginningsAreFound
beginnings_are_found = λ edition words. (
  begins edition words,
  λ is. opened edition at.WiringLine words is.0 (says_line edition (words ++ is.0) is.1 is.2),
)

-- ---- policies

policy_begins : (edition : Edition) (words : List (List ℕ))
    → IsTrue (begun edition at.PolicyLine words)
    → IsBegun (policy_says edition) words
policy_begins edition words h =
    let c = closed edition at.PolicyLine words h in
    let f = forbid_found edition (words ++ c.0) c.1 in
    let spelled = each_policy_line_is_spelled edition (words ++ c.0) f.0 in
    (c.0, f.0, spelled.1 f.1)

says_forbid : (edition : Edition) (words : List (List ℕ)) (says : Forbid)
    → policy_says edition words ≡ Some says
    → accepted edition at.PolicyLine words ≡ true
says_forbid edition words says e =
    let spelled = each_policy_line_is_spelled edition words says in
    forbid_accepted edition words says (spelled.0 e)

pub policy_beginnings_are_found : PolicyBeginningsAreFound
policy_beginnings_are_found = λ edition words. (
  policy_begins edition words,
  λ is. opened edition at.PolicyLine words is.0 (says_forbid edition (words ++ is.0) is.1 is.2),
)
