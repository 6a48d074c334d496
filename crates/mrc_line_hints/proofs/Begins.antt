-- A line that says something is a line by the walk over its words.
use Rattle.std.proofs.Common.{◌≡◌, ℕ, true, List, [], ◌∷◌, ◌++◌, Option, Some, None}
use Rattle.std.proofs.Common.{refl, ap, ◌∙◌, subst, inl, inr, ◌&&◌}
use Rattle.std.specs.Prelude.{codes, IsTrue}
use Rattle.std.specs.List.{AllByRecursion, flat_map, after_first}
use Rattle.std.specs.Option.{is_some}
use Rattle.std.proofs.lemmas.Bool.{false≢true, lt-ltb}
use Rattle.mrc_base.specs.Limits.{limit_of_kinds}
use Rattle.mrc_base.specs.declared.PortRight.{PortRight}
use Rattle.mrc_base.specs.declared.PortRight.TheVariants as rights
use Rattle.mrc_wiring_text.specs.declared.items.Item.{Item}
use Rattle.mrc_wiring_text.specs.declared.items.Item.TheVariants.{Request, Reply, Destroyed}
use Rattle.mrc_wiring_text.specs.declared.policy.ClassName.{ClassName}
use Rattle.mrc_wiring_text.specs.declared.policy.ClassName.TheVariants as class
use Rattle.mrc_wiring_text.specs.declared.policy.Forbid.{Forbid}
use Rattle.mrc_wiring_text.specs.declared.reading.Edition.{Edition}
use Rattle.mrc_wiring_text.specs.declared.reading.Edition.TheVariants as editions
use Rattle.mrc_wiring_text.specs.declared.wiring.HeldRight.{HeldRight}
use Rattle.mrc_wiring_text.specs.declared.wiring.HeldRight.TheVariants.{Send, SendOnce}
use Rattle.mrc_wiring_text.specs.declared.wiring.WiringSays.{WiringSays}
use Rattle.mrc_wiring_text.specs.declared.wiring.WiringSays.TheVariants.{Task, Port, Births}
use Rattle.mrc_wiring_text.specs.declared.wiring.WiringSays.TheVariants.{HoldPort, HoldTask, Admit}
use Rattle.mrc_wiring_text.specs.declared.wiring.WiringSays.TheVariants.{Trust, RepliesFit}
use Rattle.mrc_wiring_text.specs.declared.trust.TrustVerb.{TrustVerb}
use Rattle.mrc_wiring_text.specs.declared.trust.TrustVerb.TheVariants.{Takes, Gives, Sends, Replies}
use Rattle.mrc_wiring_text.specs.declared.trust.TrustedRight.{TrustedRight}
use Rattle.mrc_wiring_text.specs.Lexis.{is_dot}
use Rattle.mrc_wiring_text.specs.Names.{is_name}
use Rattle.mrc_wiring_text.specs.Kinds.{kind_of}
use Rattle.mrc_wiring_text.specs.Grammar.{item_words, items_words, HasName, port_right_word}
use Rattle.mrc_wiring_text.specs.Grammar.{right_word}
use Rattle.mrc_wiring_text.specs.Grammar.{IsKindWord, AreBirthsWords, AreClassWords, has_kinds}
use Rattle.mrc_wiring_text.specs.Grammar.{AreAdmittedWords, AreKindWords, AreTrustedWords}
use Rattle.mrc_wiring_text.specs.Grammar.{AreNamedWords, AreOnceWords, verb_word}
use Rattle.mrc_wiring_text.specs.Grammar.{AreWordsOf, AreForbidWords}
use Rattle.mrc_wiring_text.proofs.SlotLaws.{slot_again}
use Rattle.mrc_line_hints.specs.declared.ways.Place.{Place}
use Rattle.mrc_line_hints.specs.declared.ways.Place.TheVariants as at
use Rattle.mrc_line_hints.specs.declared.parts.Part.{Part}
use Rattle.mrc_line_hints.specs.declared.parts.Part.TheVariants.{TaskName, PortName}
use Rattle.mrc_line_hints.specs.declared.parts.Part.TheVariants.{SubsystemName, SlotType}
use Rattle.mrc_line_hints.specs.declared.parts.Part.TheVariants.{KindNumber}
use Rattle.mrc_line_hints.specs.Ways.{step, is_slot, fits, way, ways, first_fit}
use Rattle.mrc_line_hints.specs.Ways.{behind_task, behind_class}
use Rattle.mrc_line_hints.specs.Walks.{run}
use Rattle.mrc_line_hints.specs.Beginnings.{ends, accepted}
use Rattle.mrc_line_hints.proofs.Loops.{front_fits}

-- ---- one word

-- a word of the one part that may be next
on : (edition : Edition) (place : Place) (part : Part) (next : Place) (word : List ℕ)
    (words : List (List ℕ))
    → ways edition place ≡ way part next ∷ []
    → fits part word ≡ true
    → run edition (Some place) (word ∷ words) ≡ run edition (Some next) words
unfolding run step
on edition place part next word words is fit =
    ap (λ all. run edition (first_fit word all) words) is
    ∙ ap (λ o. run edition o words) (front_fits word (way part next) [] fit)

last_task : (edition : Edition) (name : List ℕ)
    → IsTrue (is_name name)
    → accepted edition at.LastTask (name ∷ []) ≡ true
unfolding run
last_task edition name h = ap ends (on edition at.LastTask TaskName at.End name [] refl h)

last_port : (edition : Edition) (name : List ℕ)
    → IsTrue (is_name name)
    → accepted edition at.LastPort (name ∷ []) ≡ true
unfolding run
last_port edition name h = ap ends (on edition at.LastPort PortName at.End name [] refl h)

-- ---- ITEMS

subsystem : (edition : Edition) (name : List ℕ) (words : List (List ℕ))
    → IsTrue (is_name name)
    → run edition (Some at.Subsystem) (name ∷ words) ≡ run edition (Some at.BehindItem) words
subsystem edition name words h =
    on edition at.Subsystem SubsystemName at.BehindItem name words refl h

abbrev behind_items : List Item → List (List ℕ)
behind_items items = flat_map (λ i. codes "," ∷ item_words i) items

more_items : (edition : Edition) (items : List Item)
    → AllByRecursion HasName items
    → run edition (Some at.BehindItem) (behind_items items) ≡ Some at.BehindItem
unfolding run step
more_items edition [] h = refl
more_items edition (Request s ∷ items) h =
    subsystem edition s (behind_items items) h.0 ∙ more_items edition items h.1
more_items edition (Reply s ∷ items) h =
    subsystem edition s (behind_items items) h.0 ∙ more_items edition items h.1
more_items edition (Destroyed ∷ items) h = more_items edition items h.1

pub items_accepted : (edition : Edition) (items : List Item)
    → AllByRecursion HasName items
    → accepted edition at.Items (items_words items) ≡ true
unfolding run step
items_accepted edition [] h = refl
items_accepted edition (Request s ∷ items) h =
    ap ends (subsystem edition s (behind_items items) h.0 ∙ more_items edition items h.1)
items_accepted edition (Reply s ∷ items) h =
    ap ends (subsystem edition s (behind_items items) h.0 ∙ more_items edition items h.1)
items_accepted edition (Destroyed ∷ items) h = ap ends (more_items edition items h.1)

-- ---- CLASS

kind_fits : (word : List ℕ) (kind : ℕ) → IsKindWord word kind → is_some (kind_of word) ≡ true
unfolding kind_of
kind_fits word kind is = rw (is.0, is.1, lt-ltb kind limit_of_kinds is.2) refl

-- behind `births` in CLASS
class_births : (edition : Edition) (task : List ℕ) (words : List (List ℕ))
    → IsTrue (is_name task)
    → accepted edition at.ClassBirths (task ∷ words)
    ≡ accepted edition (behind_class edition) words
class_births edition task words h =
    ap ends (on edition at.ClassBirths TaskName (behind_class edition) task words refl h)

no_kind : (edition : Edition) → accepted edition (behind_class edition) [] ≡ true
unfolding run
no_kind editions.First = refl
no_kind editions.Second = refl
no_kind editions.Third = refl

with_kind : (edition : Edition) (word : List ℕ) (kind : ℕ)
    → IsTrue (has_kinds edition)
    → IsKindWord word kind
    → accepted edition (behind_class edition) (word ∷ []) ≡ true
unfolding run
with_kind editions.First word kind has is = absurd (false≢true has)
with_kind editions.Second word kind has is =
    ap ends (on editions.Second at.ClassKind KindNumber at.End word [] refl
    (kind_fits word kind is))
with_kind editions.Third word kind has is =
    ap ends (on editions.Third at.ClassKind KindNumber at.End word [] refl
    (kind_fits word kind is))

births_accepted : (edition : Edition) (words : List (List ℕ)) (task : List ℕ) (kind : ℕ)
    → AreBirthsWords edition words task kind
    → IsTrue (is_name task)
    → accepted edition at.Class words ≡ true
unfolding run step
births_accepted edition words task kind (inl is) h =
    ap (accepted edition at.Class) is.0 ∙ class_births edition task [] h ∙ no_kind edition
births_accepted edition words task kind (inr (has, (word, is, same))) h =
    ap (accepted edition at.Class) same ∙ class_births edition task (word ∷ []) h
    ∙ with_kind edition word kind has is

pub class_accepted : (edition : Edition) (words : List (List ℕ)) (found : ClassName)
    → AreClassWords edition words found
    → accepted edition at.Class words ≡ true
unfolding run step
class_accepted edition words (class.Port n) h =
    ap (accepted edition at.Class) h.0 ∙ last_port edition n h.1
class_accepted edition words (class.Task n) h =
    ap (accepted edition at.Class) h.0 ∙ last_task edition n h.1
class_accepted edition words (class.Births t k) h = births_accepted edition words t k h.0 h.1

-- words of CLASS are also words of what a slot admits
admits_class : (edition : Edition) (words : List (List ℕ)) (found : ClassName)
    → AreClassWords edition words found
    → accepted edition at.Admitted words ≡ accepted edition at.Class words
unfolding run step
admits_class edition words (class.Port n) h = rw h.0 refl
admits_class edition words (class.Task n) h = rw h.0 refl
admits_class edition words (class.Births t k) (inl is, h) = rw is.0 refl
admits_class edition words (class.Births t k) (inr (has, (word, is, same)), h) = rw same refl

admitted_accepted : (edition : Edition) (words : List (List ℕ)) (found : Option ClassName)
    → AreAdmittedWords edition words found
    → accepted edition at.Admitted words ≡ true
unfolding run step
admitted_accepted edition words (Some found) is =
    admits_class edition words found is ∙ class_accepted edition words found is
admitted_accepted edition words None is = rw is refl

-- ---- rights

right_step : (edition : Edition) (right : PortRight)
    → step edition at.ForbiddenRight (port_right_word right) ≡ Some at.Class
unfolding step
right_step edition rights.Send = refl
right_step edition rights.Receive = refl
right_step edition rights.SendOnce = refl

named_step : (edition : Edition) (right : PortRight)
    → step edition at.NamedRight (port_right_word right) ≡ Some at.Class
unfolding step
named_step edition rights.Send = refl
named_step edition rights.Receive = refl
named_step edition rights.SendOnce = refl

named_accepted : (edition : Edition) (words : List (List ℕ)) (right : Option TrustedRight)
    → AreNamedWords edition words right
    → accepted edition at.NamedRight words ≡ true
unfolding run step
named_accepted edition words None is = rw is refl
named_accepted edition words (Some on) is =
    ap (accepted edition at.NamedRight) is.2
    ∙ ap (λ o. ends (run edition o is.0)) (named_step edition on.right)
    ∙ class_accepted edition is.0 on.class is.1

once_accepted : (edition : Edition) (words : List (List ℕ)) (right : Option TrustedRight)
    → AreOnceWords edition words right
    → accepted edition at.Admitted words ≡ true
once_accepted edition words None is = admitted_accepted edition words None is
once_accepted edition words (Some on) is =
    admitted_accepted edition words (Some on.class) is.0

trusted_accepted : (edition : Edition) (verb : TrustVerb) (words : List (List ℕ))
    (right : Option TrustedRight)
    → AreTrustedWords edition verb words right
    → accepted edition at.Verb (verb_word verb ∷ words) ≡ true
unfolding run step
trusted_accepted edition Takes words right is = named_accepted edition words right is
trusted_accepted edition Gives words right is = named_accepted edition words right is
trusted_accepted edition Sends words right is = named_accepted edition words right is
trusted_accepted edition Replies words right is = once_accepted edition words right is

-- ---- lines

accepts_line : (edition : Edition) (accepts : List Item)
    → AllByRecursion HasName accepts
    → accepted edition at.Accepts (codes "accepts" ∷ items_words accepts) ≡ true
unfolding run step
accepts_line edition accepts each = items_accepted edition accepts each

port_line : (edition : Edition) (port receiver : List ℕ) (accepts : List Item)
    → IsTrue (is_name port)
    → IsTrue (is_name receiver)
    → AllByRecursion HasName accepts
    → accepted edition at.NewPort (port ∷ codes "receiver" ∷ receiver ∷ codes "accepts"
    ∷ items_words accepts) ≡ true
unfolding run step
port_line edition port receiver accepts hp hr each =
    let tail = codes "accepts" ∷ items_words accepts in
    ap ends (on edition at.NewPort PortName at.Receiver port
    (codes "receiver" ∷ receiver ∷ tail) refl hp)
    ∙ ap ends (on edition at.ReceiverTask TaskName at.Accepts receiver tail refl hr)
    ∙ accepts_line edition accepts each

births_task : (edition : Edition) (task : List ℕ) (words : List (List ℕ))
    → IsTrue (is_name task)
    → accepted edition at.BirthsTask (task ∷ words)
    ≡ accepted edition (behind_task edition) words
births_task edition task words h =
    ap ends (on edition at.BirthsTask TaskName (behind_task edition) task words refl h)

births_line : (edition : Edition) (named : List (List ℕ)) (task : List ℕ) (kind : ℕ)
    (accepts : List Item)
    → AreKindWords edition named task kind
    → IsTrue (is_name task)
    → AllByRecursion HasName accepts
    → accepted edition at.BirthsTask (named ++ codes "accepts" ∷ items_words accepts) ≡ true
births_line editions.First named task kind accepts is h each =
    let tail = codes "accepts" ∷ items_words accepts in
    ap (λ n. accepted editions.First at.BirthsTask (n ++ tail)) is.0
    ∙ births_task editions.First task tail h ∙ accepts_line editions.First accepts each
births_line editions.Second named task kind accepts is h each =
    let tail = codes "accepts" ∷ items_words accepts in
    ap (λ n. accepted editions.Second at.BirthsTask (n ++ tail)) is.2
    ∙ births_task editions.Second task (is.0 ∷ tail) h
    ∙ ap ends (on editions.Second at.BirthsKind KindNumber at.Accepts is.0 tail refl
    (kind_fits is.0 kind is.1))
    ∙ accepts_line editions.Second accepts each
births_line editions.Third named task kind accepts is h each =
    let tail = codes "accepts" ∷ items_words accepts in
    ap (λ n. accepted editions.Third at.BirthsTask (n ++ tail)) is.2
    ∙ births_task editions.Third task (is.0 ∷ tail) h
    ∙ ap ends (on editions.Third at.BirthsKind KindNumber at.Accepts is.0 tail refl
    (kind_fits is.0 kind is.1))
    ∙ accepts_line editions.Third accepts each

holder : (edition : Edition) (task : List ℕ) (words : List (List ℕ))
    → IsTrue (is_name task)
    → accepted edition at.Holder (task ∷ words) ≡ accepted edition at.HeldRight words
holder edition task words h =
    ap ends (on edition at.Holder TaskName at.HeldRight task words refl h)

hold_port : (edition : Edition) (task port : List ℕ) (right : HeldRight)
    → IsTrue (is_name task)
    → IsTrue (is_name port)
    → accepted edition at.Holder (task ∷ right_word right ∷ codes "port" ∷ port ∷ []) ≡ true
unfolding run step
hold_port edition task port Send h hp =
    holder edition task (codes "send" ∷ codes "port" ∷ port ∷ []) h ∙ last_port edition port hp
hold_port edition task port SendOnce h hp =
    holder edition task (codes "once" ∷ codes "port" ∷ port ∷ []) h ∙ last_port edition port hp

hold_task : (edition : Edition) (task other : List ℕ)
    → IsTrue (is_name task)
    → IsTrue (is_name other)
    → accepted edition at.Holder (task ∷ codes "send" ∷ codes "task" ∷ other ∷ []) ≡ true
unfolding run step
hold_task edition task other h ho =
    holder edition task (codes "send" ∷ codes "task" ∷ other ∷ []) h ∙ last_task edition other ho

slot_fits : (s t : List ℕ) → IsTrue (is_name s) → IsTrue (is_name t)
    → is_slot (s ++ (codes "." ++ t)) ≡ true
slot_fits s t hs ht =
    let around = slot_again s t hs in
    ap (λ w. is_name w && is_name (after_first is_dot (s ++ 46 ∷ t))) around.0
    ∙ ap (λ w. is_name s && is_name w) around.1
    ∙ ap (λ b. b && is_name t) hs ∙ ht

admit_line : (edition : Edition) (named : List (List ℕ)) (s t : List ℕ) (found : Option ClassName)
    → AreAdmittedWords edition named found
    → IsTrue (is_name s)
    → IsTrue (is_name t)
    → accepted edition at.Slot ((s ++ (codes "." ++ t)) ∷ named) ≡ true
admit_line edition named s t found is hs ht =
    ap ends (on edition at.Slot SlotType at.Admitted (s ++ (codes "." ++ t)) named refl
    (slot_fits s t hs ht))
    ∙ admitted_accepted edition named found is

trust_line : (task : List ℕ) (verb : TrustVerb) (right : Option TrustedRight)
    (named : List (List ℕ))
    → AreTrustedWords editions.Third verb named right
    → IsTrue (is_name task)
    → accepted editions.Third at.Trusted (task ∷ verb_word verb ∷ named) ≡ true
trust_line task verb right named is h =
    ap ends (on editions.Third at.Trusted TaskName at.Verb task (verb_word verb ∷ named) refl h)
    ∙ trusted_accepted editions.Third verb named right is

-- a trust line in the version that has it
third_accepted : (edition : Edition) (words named : List (List ℕ)) (task : List ℕ)
    (verb : TrustVerb)
    → edition ≡ editions.Third
    → words ≡ codes "trust" ∷ task ∷ verb_word verb ∷ named
    → accepted editions.Third at.Trusted (task ∷ verb_word verb ∷ named) ≡ true
    → accepted edition at.WiringLine words ≡ true
unfolding run step
third_accepted edition words named task verb third same is =
    ap (λ e. accepted e at.WiringLine words) third
    ∙ ap (accepted editions.Third at.WiringLine) same ∙ is

fit_accepted : (edition : Edition) (words : List (List ℕ))
    → edition ≡ editions.Third
    → words ≡ codes "replies" ∷ codes "fit" ∷ []
    → accepted edition at.WiringLine words ≡ true
unfolding run step
fit_accepted edition words third same =
    ap (λ e. accepted e at.WiringLine words) third
    ∙ ap (accepted editions.Third at.WiringLine) same

pub line_accepted : (edition : Edition) (words : List (List ℕ)) (says : WiringSays)
    → AreWordsOf edition words says
    → accepted edition at.WiringLine words ≡ true
unfolding run step
line_accepted edition words (Task t) h =
    ap (accepted edition at.WiringLine) h.0 ∙ last_task edition t h.1
line_accepted edition words (Port p r a) h =
    ap (accepted edition at.WiringLine) h.0 ∙ port_line edition p r a h.1 h.2 h.3
line_accepted edition words (Births t k a) h =
    ap (accepted edition at.WiringLine) h.0.2 ∙ births_line edition h.0.0 t k a h.0.1 h.1 h.2
line_accepted edition words (HoldPort t r p) h =
    ap (accepted edition at.WiringLine) h.0 ∙ hold_port edition t p r h.1 h.2
line_accepted edition words (HoldTask t u) h =
    ap (accepted edition at.WiringLine) h.0 ∙ hold_task edition t u h.1 h.2
line_accepted edition words (Admit s t c) h =
    ap (accepted edition at.WiringLine) h.0.2
    ∙ admit_line edition h.0.0 s t c h.0.1 h.1 h.2
line_accepted edition words (Trust t v r) h =
    let named = h.1.0 in
    let third : AreTrustedWords editions.Third v named r =
    subst (λ e. AreTrustedWords e v named r) h.0 h.1.1 in
    third_accepted edition words named t v h.0 h.1.2 (trust_line t v r named third h.2)
line_accepted edition words RepliesFit h = fit_accepted edition words h.0 h.1

forbidden : (edition : Edition) (task : List ℕ) (right : PortRight) (named : List (List ℕ))
    → IsTrue (is_name task)
    → accepted edition at.Class named ≡ true
    → accepted edition at.Forbidden (task ∷ port_right_word right ∷ named) ≡ true
unfolding run
forbidden edition task right named h is =
    ap ends (on edition at.Forbidden TaskName at.ForbiddenRight task
    (port_right_word right ∷ named) refl h)
    ∙ ap (λ o. ends (run edition o named)) (right_step edition right) ∙ is

pub forbid_accepted : (edition : Edition) (words : List (List ℕ)) (says : Forbid)
    → AreForbidWords edition words says
    → accepted edition at.PolicyLine words ≡ true
unfolding run step
forbid_accepted edition words says is =
    ap (accepted edition at.PolicyLine) is.0.2
    ∙ forbidden edition says.task says.right is.0.0 is.1
    (class_accepted edition is.0.0 says.class is.0.1)
