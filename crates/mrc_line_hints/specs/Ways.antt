-- Step. Which words may come next in a line, by the place that the words before them lead to. This
-- grammar is this profile's own choice.
use Rattle.std.specs.Prelude.{ℕ, Bool, true, false, ◌&&◌, bytes_eq, codes, List, [], ◌∷◌}
use Rattle.std.specs.Prelude.{Option, Some, None, if◌then◌else◌}
use Rattle.std.specs.Option.{is_some}
use Rattle.std.specs.List.{before_first, after_first}
use Rattle.mrc_wiring_text.specs.declared.reading.Edition.{Edition}
use Rattle.mrc_wiring_text.specs.declared.reading.Edition.TheVariants as editions
use Rattle.mrc_wiring_text.specs.Lexis.{is_dot}
use Rattle.mrc_wiring_text.specs.Names.{is_name}
use Rattle.mrc_wiring_text.specs.Kinds.{is_number, kind_of}
use Rattle.mrc_line_hints.specs.declared.parts.Keyword.{Keyword}
use Rattle.mrc_line_hints.specs.declared.parts.Keyword.TheVariants as key
use Rattle.mrc_line_hints.specs.declared.parts.Part.{Part}
use Rattle.mrc_line_hints.specs.declared.parts.Part.TheVariants.{Fixed, TaskName, PortName}
use Rattle.mrc_line_hints.specs.declared.parts.Part.TheVariants.{SubsystemName, SlotType}
use Rattle.mrc_line_hints.specs.declared.parts.Part.TheVariants.{KindNumber, Version}
use Rattle.mrc_line_hints.specs.declared.ways.Place.{Place}
use Rattle.mrc_line_hints.specs.declared.ways.Place.TheVariants as at
use Rattle.mrc_line_hints.specs.declared.ways.Way.{Way}

-- the text of a word that is written as it is
abbrev pub keyword_text : Keyword → List ℕ
keyword_text key.Wiring = codes "wiring"
keyword_text key.Policy = codes "policy"
keyword_text key.Task = codes "task"
keyword_text key.Port = codes "port"
keyword_text key.Births = codes "births"
keyword_text key.Hold = codes "hold"
keyword_text key.Admit = codes "admit"
keyword_text key.Trust = codes "trust"
keyword_text key.Replies = codes "replies"
keyword_text key.Forbid = codes "forbid"
keyword_text key.Receiver = codes "receiver"
keyword_text key.Accepts = codes "accepts"
keyword_text key.NoOther = codes "none"
keyword_text key.Request = codes "request"
keyword_text key.Reply = codes "reply"
keyword_text key.Destroyed = codes "destroyed"
keyword_text key.Comma = codes ","
keyword_text key.Send = codes "send"
keyword_text key.Receive = codes "receive"
keyword_text key.Once = codes "once"
keyword_text key.Takes = codes "takes"
keyword_text key.Gives = codes "gives"
keyword_text key.Sends = codes "sends"
keyword_text key.Fit = codes "fit"

-- a word is a name, a dot and a name
abbrev pub is_slot : List ℕ → Bool
is_slot word = is_name (before_first is_dot word) && is_name (after_first is_dot word)

-- a word is one of the part
abbrev pub fits : Part → List ℕ → Bool
fits (Fixed keyword) word = bytes_eq word (keyword_text keyword)
fits TaskName word = is_name word
fits PortName word = is_name word
fits SubsystemName word = is_name word
fits SlotType word = is_slot word
fits KindNumber word = is_some (kind_of word)
fits Version word = is_number word

-- a word of the part leads to this place
abbrev pub way : Part → Place → Way
way part next = record { part = part; next = next }

-- the same of a word that is written as it is
abbrev pub fixed : Keyword → Place → Way
fixed keyword next = way (Fixed keyword) next

-- the words that name a right
abbrev pub right_ways : Place → List Way
right_ways next = fixed key.Send next ∷ fixed key.Receive next ∷ fixed key.Once next ∷ []

-- the first words of CLASS
abbrev pub class_ways : List Way
class_ways =
    fixed key.Port at.LastPort ∷ fixed key.Task at.LastTask ∷ fixed key.Births at.ClassBirths ∷ []

-- the first words of an item
abbrev pub item_ways : List Way
item_ways =
    fixed key.Request at.Subsystem ∷ fixed key.Reply at.Subsystem
    ∷ fixed key.Destroyed at.BehindItem ∷ []

-- the first words of lines of version 3 alone
abbrev pub third_ways : Edition → List Way
third_ways editions.First = []
third_ways editions.Second = []
third_ways editions.Third = fixed key.Trust at.Trusted ∷ fixed key.Replies at.Fit ∷ []

-- the first words of lines of a wiring, those that each version has and others
abbrev pub line_ways : List Way → List Way
line_ways others =
    fixed key.Task at.LastTask ∷ fixed key.Port at.NewPort ∷ fixed key.Births at.BirthsTask
    ∷ fixed key.Hold at.Holder ∷ fixed key.Admit at.Slot ∷ others

-- the first words of lines of a wiring
abbrev pub wiring_ways : Edition → List Way
wiring_ways edition = line_ways (third_ways edition)

-- the verbs of trusted tasks
abbrev pub verb_ways : List Way
verb_ways =
    fixed key.Takes at.NamedRight ∷ fixed key.Gives at.NamedRight ∷ fixed key.Sends at.NamedRight
    ∷ fixed key.Replies at.Admitted ∷ []

-- behind `births T` at the beginning of a line: the kind, from version 2 on
abbrev pub behind_task : Edition → Place
behind_task editions.First = at.Accepts
behind_task editions.Second = at.BirthsKind
behind_task editions.Third = at.BirthsKind

-- behind `births U` in CLASS: the kind or nothing, from version 2 on
abbrev pub behind_class : Edition → Place
behind_class editions.First = at.End
behind_class editions.Second = at.ClassKind
behind_class editions.Third = at.ClassKind

-- the words that may come next, and where each leads
abbrev pub ways : Edition → Place → List Way
ways edition at.WiringHead = fixed key.Wiring at.WiringVersion ∷ []
ways edition at.PolicyHead = fixed key.Policy at.PolicyVersion ∷ []
ways edition at.WiringVersion = way Version at.End ∷ []
ways edition at.PolicyVersion = way Version at.End ∷ []
ways edition at.WiringLine = wiring_ways edition
ways edition at.PolicyLine = fixed key.Forbid at.Forbidden ∷ []
ways edition at.LastTask = way TaskName at.End ∷ []
ways edition at.LastPort = way PortName at.End ∷ []
ways edition at.NewPort = way PortName at.Receiver ∷ []
ways edition at.Receiver = fixed key.Receiver at.ReceiverTask ∷ []
ways edition at.ReceiverTask = way TaskName at.Accepts ∷ []
ways edition at.BirthsTask = way TaskName (behind_task edition) ∷ []
ways edition at.BirthsKind = way KindNumber at.Accepts ∷ []
ways edition at.Accepts = fixed key.Accepts at.Items ∷ []
ways edition at.Items = fixed key.NoOther at.End ∷ item_ways
ways edition at.Item = item_ways
ways edition at.Subsystem = way SubsystemName at.BehindItem ∷ []
ways edition at.BehindItem = fixed key.Comma at.Item ∷ []
ways edition at.Holder = way TaskName at.HeldRight ∷ []
ways edition at.HeldRight = fixed key.Send at.SendTo ∷ fixed key.Once at.OnceTo ∷ []
ways edition at.SendTo = fixed key.Port at.LastPort ∷ fixed key.Task at.LastTask ∷ []
ways edition at.OnceTo = fixed key.Port at.LastPort ∷ []
ways edition at.Slot = way SlotType at.Admitted ∷ []
ways edition at.Admitted = fixed key.NoOther at.End ∷ class_ways
ways edition at.Class = class_ways
ways edition at.ClassBirths = way TaskName (behind_class edition) ∷ []
ways edition at.ClassKind = way KindNumber at.End ∷ []
ways edition at.Trusted = way TaskName at.Verb ∷ []
ways edition at.Verb = verb_ways
ways edition at.NamedRight = fixed key.NoOther at.End ∷ right_ways at.Class
ways edition at.Fit = fixed key.Fit at.End ∷ []
ways edition at.Forbidden = way TaskName at.ForbiddenRight ∷ []
ways edition at.ForbiddenRight = right_ways at.Class
ways edition at.End = []

-- the line may end here
abbrev pub may_end : Place → Bool
may_end at.End = true
may_end at.BehindItem = true
may_end at.ClassKind = true
may_end _ = false

-- the place that the first way leads to whose part the word is of
abbrev pub first_fit : List ℕ → List Way → Option Place
first_fit word [] = None
first_fit word (w ∷ others) =
    if fits w.part word then Some w.next else first_fit word others

-- the place behind a word
unfoldable pub step : Edition → Place → List ℕ → Option Place
step edition place word = first_fit word (ways edition place)
