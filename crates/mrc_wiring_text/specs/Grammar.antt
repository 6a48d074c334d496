-- Believe. The words of each line, by the edition of the text; with laws. The grammar of the lines
-- of a wiring and of a policy: the words that say each thing, apart from how words are read. This
-- profile's own choice.
use Rattle.std.specs.Prelude.{◌≡◌, ◌<◌, ◌↔◌, ◌⊎◌, ⊤, ℕ, codes, IsTrue, List, [], ◌∷◌, ◌++◌}
use Rattle.std.specs.Prelude.{Option, Some, None, Bool, true, false}
use Rattle.std.specs.List.{AllByRecursion, flat_map}
use Rattle.mrc_base.specs.Limits.{limit_of_kinds}
use Rattle.mrc_base.specs.declared.PortRight.{PortRight}
use Rattle.mrc_base.specs.declared.PortRight.TheVariants as rights
use Rattle.mrc_wiring_text.specs.declared.items.Item.{Item}
use Rattle.mrc_wiring_text.specs.declared.items.Item.TheVariants.{Request, Reply, Destroyed}
use Rattle.mrc_wiring_text.specs.declared.policy.ClassName.{ClassName}
use Rattle.mrc_wiring_text.specs.declared.policy.ClassName.TheVariants as class
use Rattle.mrc_wiring_text.specs.declared.policy.Forbid.{Forbid}
use Rattle.mrc_wiring_text.specs.declared.reading.Edition.{Edition}
use Rattle.mrc_wiring_text.specs.declared.reading.Edition.TheVariants as editions
use Rattle.mrc_wiring_text.specs.declared.wiring.HeldRight.{HeldRight}
use Rattle.mrc_wiring_text.specs.declared.wiring.HeldRight.TheVariants.{Send, SendOnce}
use Rattle.mrc_wiring_text.specs.declared.wiring.WiringSays.{WiringSays}
use Rattle.mrc_wiring_text.specs.declared.wiring.WiringSays.TheVariants.{Task, Port, Births}
use Rattle.mrc_wiring_text.specs.declared.wiring.WiringSays.TheVariants.{HoldPort, HoldTask, Admit}
use Rattle.mrc_wiring_text.specs.declared.wiring.WiringSays.TheVariants.{Trust, RepliesFit}
use Rattle.mrc_wiring_text.specs.declared.trust.TrustVerb.{TrustVerb}
use Rattle.mrc_wiring_text.specs.declared.trust.TrustVerb.TheVariants.{Takes, Gives, Sends, Replies}
use Rattle.mrc_wiring_text.specs.declared.trust.TrustedRight.{TrustedRight}
use Rattle.mrc_wiring_text.specs.Lexis.{decimal}
use Rattle.mrc_wiring_text.specs.Names.{is_name}
use Rattle.mrc_wiring_text.specs.Kinds.{is_number}
use Rattle.mrc_wiring_text.specs.Policy.{policy_says}
use Rattle.mrc_wiring_text.specs.Wiring.{wiring_says}

-- the words of an item
abbrev pub item_words : Item → List (List ℕ)
item_words (Request subsystem) = codes "request" ∷ subsystem ∷ []
item_words (Reply subsystem) = codes "reply" ∷ subsystem ∷ []
item_words Destroyed = codes "destroyed" ∷ []

-- ITEMS: `none`, or items with a comma between each two
abbrev pub items_words : List Item → List (List ℕ)
items_words [] = codes "none" ∷ []
items_words (item ∷ items) = item_words item ++ flat_map (λ i. codes "," ∷ item_words i) items

-- the word of a right that is held
abbrev pub right_word : HeldRight → List ℕ
right_word Send = codes "send"
right_word SendOnce = codes "once"

-- the word of a right that is forbidden
abbrev pub port_right_word : PortRight → List ℕ
port_right_word rights.Send = codes "send"
port_right_word rights.Receive = codes "receive"
port_right_word rights.SendOnce = codes "once"

-- K: decimal digits, leading zeros or not, that encode the kind of births
abbrev pub IsKindWord : List ℕ → ℕ → Type 0
IsKindWord word kind =
    IsTrue (is_number word) × (decimal word ≡ kind) × (kind < limit_of_kinds)

-- kinds have words in the edition
abbrev pub has_kinds : Edition → Bool
has_kinds editions.First = false
has_kinds editions.Second = true
has_kinds editions.Third = true

-- the words of births in CLASS: `births U` are those of kind 0, in each edition, and `births U K`
-- those of kind K, from version 2 on
abbrev pub AreBirthsWords : Edition → List (List ℕ) → List ℕ → ℕ → Type 0
AreBirthsWords edition words task kind =
    ((words ≡ codes "births" ∷ task ∷ []) × (kind ≡ 0))
    ⊎ (IsTrue (has_kinds edition)
    × ((word : List ℕ) × IsKindWord word kind × (words ≡ codes "births" ∷ task ∷ word ∷ [])))

-- the words are those of CLASS
abbrev pub AreClassWords : Edition → List (List ℕ) → ClassName → Type 0
AreClassWords edition words (class.Port port) =
    (words ≡ codes "port" ∷ port ∷ []) × IsTrue (is_name port)
AreClassWords edition words (class.Task task) =
    (words ≡ codes "task" ∷ task ∷ []) × IsTrue (is_name task)
AreClassWords edition words (class.Births task kind) =
    AreBirthsWords edition words task kind × IsTrue (is_name task)

-- the words are those of CLASS, or `none`
abbrev pub AreAdmittedWords : Edition → List (List ℕ) → Option ClassName → Type 0
AreAdmittedWords edition words (Some class) = AreClassWords edition words class
AreAdmittedWords edition words None = words ≡ codes "none" ∷ []

-- the words between `births` and `accepts`: T, and from version 2 on its kind, else 0
abbrev pub AreKindWords : Edition → List (List ℕ) → List ℕ → ℕ → Type 0
AreKindWords editions.First words task kind = (words ≡ task ∷ []) × (kind ≡ 0)
AreKindWords editions.Second words task kind =
    (word : List ℕ) × IsKindWord word kind × (words ≡ task ∷ word ∷ [])
AreKindWords editions.Third words task kind =
    (word : List ℕ) × IsKindWord word kind × (words ≡ task ∷ word ∷ [])

-- the word of a verb
abbrev pub verb_word : TrustVerb → List ℕ
verb_word Takes = codes "takes"
verb_word Gives = codes "gives"
verb_word Sends = codes "sends"
verb_word Replies = codes "replies"

-- RIGHT CLASS
abbrev pub AreRightWords : Edition → List (List ℕ) → TrustedRight → Type 0
AreRightWords edition words on =
    (named : List (List ℕ)) × AreClassWords edition named on.class
    × (words ≡ port_right_word on.right ∷ named)

-- RIGHT CLASS, or `none`
abbrev pub AreNamedWords : Edition → List (List ℕ) → Option TrustedRight → Type 0
AreNamedWords edition words None = words ≡ codes "none" ∷ []
AreNamedWords edition words (Some on) = AreRightWords edition words on

-- CLASS, which names the send-once right on it, or `none`
abbrev pub AreOnceWords : Edition → List (List ℕ) → Option TrustedRight → Type 0
AreOnceWords edition words None = words ≡ codes "none" ∷ []
AreOnceWords edition words (Some on) =
    AreClassWords edition words on.class × (on.right ≡ rights.SendOnce)

-- the words after the verb
abbrev pub AreTrustedWords : Edition → TrustVerb → List (List ℕ) → Option TrustedRight → Type 0
AreTrustedWords edition Takes words right = AreNamedWords edition words right
AreTrustedWords edition Gives words right = AreNamedWords edition words right
AreTrustedWords edition Sends words right = AreNamedWords edition words right
AreTrustedWords edition Replies words right = AreOnceWords edition words right

-- the name in an item is one
abbrev pub HasName : Item → Type 0
HasName (Request subsystem) = IsTrue (is_name subsystem)
HasName (Reply subsystem) = IsTrue (is_name subsystem)
HasName Destroyed = ⊤

-- the words are those of a line that says it, and the names in it are names
abbrev pub AreWordsOf : Edition → List (List ℕ) → WiringSays → Type 0
AreWordsOf edition words (Task task) =
    (words ≡ codes "task" ∷ task ∷ []) × IsTrue (is_name task)
AreWordsOf edition words (Port port receiver accepts) =
    (words ≡ codes "port" ∷ port ∷ codes "receiver" ∷ receiver ∷ codes "accepts"
    ∷ items_words accepts)
    × IsTrue (is_name port) × IsTrue (is_name receiver) × AllByRecursion HasName accepts
AreWordsOf edition words (Births task kind accepts) =
    ((named : List (List ℕ)) × AreKindWords edition named task kind
    × (words ≡ codes "births" ∷ (named ++ codes "accepts" ∷ items_words accepts)))
    × IsTrue (is_name task) × AllByRecursion HasName accepts
AreWordsOf edition words (HoldPort holder right port) =
    (words ≡ codes "hold" ∷ holder ∷ right_word right ∷ codes "port" ∷ port ∷ [])
    × IsTrue (is_name holder) × IsTrue (is_name port)
AreWordsOf edition words (HoldTask holder task) =
    (words ≡ codes "hold" ∷ holder ∷ codes "send" ∷ codes "task" ∷ task ∷ [])
    × IsTrue (is_name holder) × IsTrue (is_name task)
AreWordsOf edition words (Admit subsystem type class) =
    ((named : List (List ℕ)) × AreAdmittedWords edition named class
    × (words ≡ codes "admit" ∷ (subsystem ++ (codes "." ++ type)) ∷ named))
    × IsTrue (is_name subsystem) × IsTrue (is_name type)
AreWordsOf edition words (Trust task verb right) =
    (edition ≡ editions.Third)
    × ((named : List (List ℕ)) × AreTrustedWords edition verb named right
    × (words ≡ codes "trust" ∷ task ∷ verb_word verb ∷ named))
    × IsTrue (is_name task)
AreWordsOf edition words RepliesFit =
    (edition ≡ editions.Third) × (words ≡ codes "replies" ∷ codes "fit" ∷ [])

-- words say something if and only if they are words of it
abbrev pub EachLineIsSpelled : Type 0
EachLineIsSpelled =
    (edition : Edition) (words : List (List ℕ)) (says : WiringSays)
    → (wiring_says edition words ≡ Some says) ↔ AreWordsOf edition words says

-- the words are those of a line of a policy
abbrev pub AreForbidWords : Edition → List (List ℕ) → Forbid → Type 0
AreForbidWords edition words says =
    ((named : List (List ℕ)) × AreClassWords edition named says.class
    × (words ≡ codes "forbid" ∷ says.task ∷ port_right_word says.right ∷ named))
    × IsTrue (is_name says.task)

-- the same of the lines of a policy
abbrev pub EachPolicyLineIsSpelled : Type 0
EachPolicyLineIsSpelled =
    (edition : Edition) (words : List (List ℕ)) (says : Forbid)
    → (policy_says edition words ≡ Some says) ↔ AreForbidWords edition words says
