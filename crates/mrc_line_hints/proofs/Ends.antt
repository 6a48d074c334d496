-- Words that the walk takes as a line are those of a line that says something.
use Rattle.std.proofs.Common.{◌≡◌, ℕ, true, false, List, [], ◌∷◌, ◌++◌, Option, Some}
use Rattle.std.proofs.Common.{None, refl, sym, ap, ◌∙◌, subst, inl, inr, ◌⊎◌}
use Rattle.std.specs.Prelude.{bytes_eq, codes, IsTrue, nat_lt}
use Rattle.std.specs.List.{AllByRecursion, flat_map, before_first, after_first}
use Rattle.std.specs.Option.{is_some}
use Rattle.std.proofs.lemmas.Bool.{cases_Bool, false≢true, ltb-true, and_parts}
use Rattle.mrc_base.specs.Limits.{limit_of_kinds}
use Rattle.mrc_base.specs.declared.PortRight.TheVariants as rights
use Rattle.mrc_wiring_text.specs.declared.items.Item.{Item}
use Rattle.mrc_wiring_text.specs.declared.items.Item.TheVariants.{Request, Reply, Destroyed}
use Rattle.mrc_wiring_text.specs.declared.policy.ClassName.{ClassName}
use Rattle.mrc_wiring_text.specs.declared.policy.ClassName.TheVariants as class
use Rattle.mrc_wiring_text.specs.declared.policy.Forbid.{Forbid}
use Rattle.mrc_wiring_text.specs.declared.reading.Edition.{Edition}
use Rattle.mrc_wiring_text.specs.declared.reading.Edition.TheVariants as editions
use Rattle.mrc_wiring_text.specs.declared.wiring.HeldRight.TheVariants.{Send, SendOnce}
use Rattle.mrc_wiring_text.specs.declared.wiring.WiringSays.{WiringSays}
use Rattle.mrc_wiring_text.specs.declared.wiring.WiringSays.TheVariants.{Task, Port, Births}
use Rattle.mrc_wiring_text.specs.declared.wiring.WiringSays.TheVariants.{HoldPort, HoldTask, Admit}
use Rattle.mrc_wiring_text.specs.declared.wiring.WiringSays.TheVariants.{Trust, RepliesFit}
use Rattle.mrc_wiring_text.specs.declared.trust.TrustVerb.{TrustVerb}
use Rattle.mrc_wiring_text.specs.declared.trust.TrustVerb.TheVariants.{Takes, Gives, Sends, Replies}
use Rattle.mrc_wiring_text.specs.declared.trust.TrustedRight.{TrustedRight}
use Rattle.mrc_wiring_text.specs.Lexis.{decimal, is_dot}
use Rattle.mrc_wiring_text.specs.Names.{is_name}
use Rattle.mrc_wiring_text.specs.Kinds.{is_number, kind_of}
use Rattle.mrc_wiring_text.specs.Grammar.{item_words, items_words, HasName, port_right_word}
use Rattle.mrc_wiring_text.specs.Grammar.{IsKindWord, AreBirthsWords, AreClassWords, has_kinds}
use Rattle.mrc_wiring_text.specs.Grammar.{AreAdmittedWords, AreKindWords, AreTrustedWords}
use Rattle.mrc_wiring_text.specs.Grammar.{AreNamedWords, AreRightWords, AreOnceWords, verb_word}
use Rattle.mrc_wiring_text.specs.Grammar.{AreWordsOf, AreForbidWords}
use Rattle.mrc_wiring_text.proofs.ItemLaws.{word_is, name_again}
use Rattle.mrc_wiring_text.proofs.SlotLaws.{slot_found}
use Rattle.mrc_line_hints.specs.declared.parts.Keyword.TheVariants as key
use Rattle.mrc_line_hints.specs.declared.parts.Part.{Part}
use Rattle.mrc_line_hints.specs.declared.parts.Part.TheVariants.{Fixed, TaskName, PortName}
use Rattle.mrc_line_hints.specs.declared.parts.Part.TheVariants.{SlotType, KindNumber}
use Rattle.mrc_line_hints.specs.declared.ways.Place.{Place}
use Rattle.mrc_line_hints.specs.declared.ways.Place.TheVariants as at
use Rattle.mrc_line_hints.specs.declared.ways.Way.{Way}
use Rattle.mrc_line_hints.specs.Ways.{fits, way, ways, class_ways, item_ways, right_ways}
use Rattle.mrc_line_hints.specs.Ways.{third_ways}
use Rattle.mrc_line_hints.specs.Ways.{behind_task, behind_class, may_end, first_fit, step}
use Rattle.mrc_line_hints.specs.Walks.{run}
use Rattle.mrc_line_hints.specs.Beginnings.{ends, accepted}
use Rattle.mrc_line_hints.proofs.Loops.{front_fits, front_does_not}

-- ---- one word

-- the word is of the part of one of the ways, and the others go on from where it leads
abbrev Taken : Edition → List ℕ → List (List ℕ) → List Way → Type 0
Taken edition word words [] = ⊥
Taken edition word words (w ∷ others) =
    ((fits w.part word ≡ true) × (accepted edition w.next words ≡ true))
    ⊎ Taken edition word words others

taken_by : (edition : Edition) (word : List ℕ) (words : List (List ℕ)) (all : List Way)
    → ends (run edition (first_fit word all) words) ≡ true
    → Taken edition word words all
unfolding run
taken_by edition word words [] h = false≢true h
taken_by edition word words (w ∷ others) h =
    elim (cases_Bool (fits w.part word)) [
      | inl e ↦ inl (
        e,
        subst (λ o. ends (run edition o words) ≡ true) (front_fits word w others e) h,
      )
      | inr e ↦ inr (taken_by edition word words others
          (subst (λ o. ends (run edition o words) ≡ true) (front_does_not word w others e) h))
    ]

taken : (edition : Edition) (place : Place) (word : List ℕ) (words : List (List ℕ))
    → accepted edition place (word ∷ words) ≡ true
    → Taken edition word words (ways edition place)
unfolding run step
taken edition place word words h = taken_by edition word words (ways edition place) h

nothing : (edition : Edition) (place : Place)
    → accepted edition place [] ≡ true
    → may_end place ≡ true
unfolding run
nothing edition place h = h

at_end : (edition : Edition) (words : List (List ℕ))
    → accepted edition at.End words ≡ true
    → words ≡ []
at_end edition [] h = refl
at_end edition (w ∷ ws) h = absurd (taken edition at.End w ws h)

both : {X : Type 0} (a b : X) (xs ys : List X) → a ≡ b → xs ≡ ys → a ∷ xs ≡ b ∷ ys
both a b xs ys one rest = ap (λ x. x ∷ xs) one ∙ ap (λ r. b ∷ r) rest

-- words that are a line from a place at which one part alone may be next
abbrev OneWay : Edition → Part → Place → List (List ℕ) → Type 0
OneWay edition part next words =
    (word : List ℕ) × (rest : List (List ℕ)) × (words ≡ word ∷ rest)
    × (fits part word ≡ true) × (accepted edition next rest ≡ true)

one_taken : (edition : Edition) (part : Part) (next : Place) (word : List ℕ)
    (words : List (List ℕ))
    → Taken edition word words (way part next ∷ [])
    → OneWay edition part next (word ∷ words)
one_taken edition part next word words (inl (fit, more)) = (word, words, refl, fit, more)
one_taken edition part next word words (inr none) = absurd none

one_way : (edition : Edition) (place : Place) (part : Part) (next : Place)
    → ways edition place ≡ way part next ∷ []
    → may_end place ≡ false
    → (words : List (List ℕ))
    → accepted edition place words ≡ true
    → OneWay edition part next words
one_way edition place part next is shut [] h =
    absurd (false≢true (sym shut ∙ nothing edition place h))
one_way edition place part next is shut (w ∷ ws) h =
    one_taken edition part next w ws (subst (Taken edition w ws) is (taken edition place w ws h))

-- a name as the last word
abbrev LastName : List (List ℕ) → Type 0
LastName words = (name : List ℕ) × (words ≡ name ∷ []) × IsTrue (is_name name)

last_task : (edition : Edition) (words : List (List ℕ))
    → accepted edition at.LastTask words ≡ true
    → LastName words
last_task edition words h =
    let a = one_way edition at.LastTask TaskName at.End refl refl words h in
    (a.0, a.2 ∙ ap (λ r. a.0 ∷ r) (at_end edition a.1 a.4), a.3)

last_port : (edition : Edition) (words : List (List ℕ))
    → accepted edition at.LastPort words ≡ true
    → LastName words
last_port edition words h =
    let a = one_way edition at.LastPort PortName at.End refl refl words h in
    (a.0, a.2 ∙ ap (λ r. a.0 ∷ r) (at_end edition a.1 a.4), a.3)

-- ---- CLASS

kind_found : (word : List ℕ)
    → is_some (kind_of word) ≡ true
    → (kind : ℕ) × IsKindWord word kind
unfolding kind_of
kind_found word h =
    elim (cases_Bool (is_number word)) [
      | inl e ↦ elim (cases_Bool (nat_lt (decimal word) limit_of_kinds)) [
        | inl lt ↦ (decimal word, (e, refl, ltb-true _ _ lt))
        | inr ge ↦
            let none : is_some (kind_of word) ≡ false = rw (e, ge) refl in
            absurd (false≢true (sym none ∙ h))
      ]
      | inr e ↦
          let none : is_some (kind_of word) ≡ false = rw e refl in
          absurd (false≢true (sym none ∙ h))
    ]

-- what is behind `births U` in CLASS
abbrev BirthsEnd : Edition → List (List ℕ) → ℕ → Type 0
BirthsEnd edition words kind =
    ((words ≡ []) × (kind ≡ 0))
    ⊎ (IsTrue (has_kinds edition)
    × ((word : List ℕ) × IsKindWord word kind × (words ≡ word ∷ [])))

kind_taken : (edition : Edition) → IsTrue (has_kinds edition)
    → (word : List ℕ) (words : List (List ℕ))
    → Taken edition word words (way KindNumber at.End ∷ [])
    → (kind : ℕ) × BirthsEnd edition (word ∷ words) kind
kind_taken edition has word words (inl (is, more)) =
    let n = kind_found word is in
    (n.0, inr (has, (word, n.1, ap (λ r. word ∷ r) (at_end edition words more))))
kind_taken edition has word words (inr none) = absurd none

kind_end : (edition : Edition) → IsTrue (has_kinds edition)
    → (words : List (List ℕ))
    → accepted edition at.ClassKind words ≡ true
    → (kind : ℕ) × BirthsEnd edition words kind
kind_end edition has [] h = (0, inl (refl, refl))
kind_end edition has (w ∷ ws) h =
    kind_taken edition has w ws (taken edition at.ClassKind w ws h)

births_end : (edition : Edition) (words : List (List ℕ))
    → accepted edition (behind_class edition) words ≡ true
    → (kind : ℕ) × BirthsEnd edition words kind
births_end editions.First words h = (0, inl (at_end editions.First words h, refl))
births_end editions.Second words h = kind_end editions.Second refl words h
births_end editions.Third words h = kind_end editions.Third refl words h

births_words : (edition : Edition) (first task : List ℕ) (words : List (List ℕ)) (kind : ℕ)
    → first ≡ codes "births"
    → BirthsEnd edition words kind
    → AreBirthsWords edition (first ∷ task ∷ words) task kind
births_words edition first task words kind is (inl (none, zeroth)) =
    inl (
      both first (codes "births") (task ∷ words) (task ∷ []) is (ap (λ r. task ∷ r) none),
      zeroth,
    )
births_words edition first task words kind is (inr (has, (word, k, same))) =
    inr (
      has,
      (
        word,
        k,
        both first (codes "births") (task ∷ words) (task ∷ word ∷ []) is (ap (λ r. task ∷ r) same),
      ),
    )

-- words of a class
abbrev SomeClass : Edition → List (List ℕ) → Type 0
SomeClass edition words = (found : ClassName) × AreClassWords edition words found

births_found : (edition : Edition) (first : List ℕ) (words : List (List ℕ))
    → first ≡ codes "births"
    → OneWay edition TaskName (behind_class edition) words
    → SomeClass edition (first ∷ words)
births_found edition first words is a =
    let b = births_end edition a.1 a.4 in
    subst (λ ws. SomeClass edition (first ∷ ws)) (sym a.2)
    (class.Births a.0 b.0, (births_words edition first a.0 a.1 b.0 is b.1, a.3))

class_taken : (edition : Edition) (word : List ℕ) (words : List (List ℕ))
    → Taken edition word words class_ways
    → SomeClass edition (word ∷ words)
class_taken edition word words (inl (is, more)) =
    let n = last_port edition words more in (
      class.Port n.0,
      (
        both word (codes "port") words (n.0 ∷ []) (word_is word (codes "port") is) n.1,
        n.2,
      ),
    )
class_taken edition word words (inr (inl (is, more))) =
    let n = last_task edition words more in (
      class.Task n.0,
      (
        both word (codes "task") words (n.0 ∷ []) (word_is word (codes "task") is) n.1,
        n.2,
      ),
    )
class_taken edition word words (inr (inr (inl (is, more)))) =
    births_found edition word words (word_is word (codes "births") is)
    (one_way edition at.ClassBirths TaskName (behind_class edition) refl refl words more)
class_taken edition word words (inr (inr (inr none))) = absurd none

class_found : (edition : Edition) (words : List (List ℕ))
    → accepted edition at.Class words ≡ true
    → SomeClass edition words
class_found edition [] h = absurd (false≢true (nothing edition at.Class h))
class_found edition (w ∷ ws) h = class_taken edition w ws (taken edition at.Class w ws h)

-- words of what a slot admits
abbrev SomeAdmitted : Edition → List (List ℕ) → Type 0
SomeAdmitted edition words = (found : Option ClassName) × AreAdmittedWords edition words found

none_alone : (edition : Edition) (word : List ℕ) (words : List (List ℕ))
    → bytes_eq word (codes "none") ≡ true
    → accepted edition at.End words ≡ true
    → word ∷ words ≡ codes "none" ∷ []
none_alone edition word words is more =
    both word (codes "none") words [] (word_is word (codes "none") is) (at_end edition words more)

admitted_taken : (edition : Edition) (word : List ℕ) (words : List (List ℕ))
    → Taken edition word words (ways edition at.Admitted)
    → SomeAdmitted edition (word ∷ words)
admitted_taken edition word words (inl (is, more)) =
    (None, none_alone edition word words is more)
admitted_taken edition word words (inr others) =
    let c = class_taken edition word words others in (Some c.0, c.1)

admitted_found : (edition : Edition) (words : List (List ℕ))
    → accepted edition at.Admitted words ≡ true
    → SomeAdmitted edition words
admitted_found edition [] h = absurd (false≢true (nothing edition at.Admitted h))
admitted_found edition (w ∷ ws) h =
    admitted_taken edition w ws (taken edition at.Admitted w ws h)

-- ---- ITEMS

abbrev behind_items : List Item → List (List ℕ)
behind_items items = flat_map (λ i. codes "," ∷ item_words i) items

abbrev BehindItem : List (List ℕ) → Type 0
BehindItem words =
    (items : List Item) × (words ≡ behind_items items) × AllByRecursion HasName items

abbrev AtItem : List (List ℕ) → Type 0
AtItem words =
    (item : Item) × (items : List Item) × (words ≡ item_words item ++ behind_items items)
    × HasName item × AllByRecursion HasName items

abbrev AtSubsystem : List (List ℕ) → Type 0
AtSubsystem words =
    (name : List ℕ) × (items : List Item) × (words ≡ name ∷ behind_items items)
    × IsTrue (is_name name) × AllByRecursion HasName items

-- what words are that are a line from three places
abbrev ItemsAt : Edition → List (List ℕ) → Type 0
ItemsAt edition words =
    (accepted edition at.BehindItem words ≡ true → BehindItem words)
    × (accepted edition at.Item words ≡ true → AtItem words)
    × (accepted edition at.Subsystem words ≡ true → AtSubsystem words)

behind_taken : (edition : Edition) (word : List ℕ) (words : List (List ℕ))
    → ItemsAt edition words
    → Taken edition word words (ways edition at.BehindItem)
    → BehindItem (word ∷ words)
behind_taken edition word words ih (inl (is, more)) =
    let i = ih.1 more in (
      i.0 ∷ i.1,
      both word (codes ",") words (item_words i.0 ++ behind_items i.1)
          (word_is word (codes ",") is) i.2,
      (i.3, i.4),
    )
behind_taken edition word words ih (inr none) = absurd none

item_taken : (edition : Edition) (word : List ℕ) (words : List (List ℕ))
    → ItemsAt edition words
    → Taken edition word words item_ways
    → AtItem (word ∷ words)
item_taken edition word words ih (inl (is, more)) =
    let s = ih.2 more in (
      Request s.0,
      s.1,
      both word (codes "request") words (s.0 ∷ behind_items s.1)
          (word_is word (codes "request") is) s.2,
      s.3,
      s.4,
    )
item_taken edition word words ih (inr (inl (is, more))) =
    let s = ih.2 more in (
      Reply s.0,
      s.1,
      both word (codes "reply") words (s.0 ∷ behind_items s.1)
          (word_is word (codes "reply") is) s.2,
      s.3,
      s.4,
    )
item_taken edition word words ih (inr (inr (inl (is, more)))) =
    let b = ih.0 more in (
      Destroyed,
      b.0,
      both word (codes "destroyed") words (behind_items b.0)
          (word_is word (codes "destroyed") is) b.1,
      tt,
      b.2,
    )
item_taken edition word words ih (inr (inr (inr none))) = absurd none

subsystem_taken : (edition : Edition) (word : List ℕ) (words : List (List ℕ))
    → ItemsAt edition words
    → Taken edition word words (ways edition at.Subsystem)
    → AtSubsystem (word ∷ words)
subsystem_taken edition word words ih (inl (is, more)) =
    let b = ih.0 more in (word, b.0, ap (λ r. word ∷ r) b.1, is, b.2)
subsystem_taken edition word words ih (inr none) = absurd none

items_at : (edition : Edition) (words : List (List ℕ)) → ItemsAt edition words
items_at edition [] = (
  λ h. ([], refl, tt),
  λ h. absurd (false≢true (nothing edition at.Item h)),
  λ h. absurd (false≢true (nothing edition at.Subsystem h)),
)
items_at edition (w ∷ ws) =
    let ih = items_at edition ws in (
      λ h. behind_taken edition w ws ih (taken edition at.BehindItem w ws h),
      λ h. item_taken edition w ws ih (taken edition at.Item w ws h),
      λ h. subsystem_taken edition w ws ih (taken edition at.Subsystem w ws h),
    )

abbrev SomeItems : List (List ℕ) → Type 0
SomeItems words =
    (items : List Item) × (words ≡ items_words items) × AllByRecursion HasName items

items_taken : (edition : Edition) (word : List ℕ) (words : List (List ℕ))
    → Taken edition word words (ways edition at.Items)
    → SomeItems (word ∷ words)
items_taken edition word words (inl (is, more)) =
    ([], none_alone edition word words is more, tt)
items_taken edition word words (inr others) =
    let i = item_taken edition word words (items_at edition words) others in
    (i.0 ∷ i.1, i.2, (i.3, i.4))

items_found : (edition : Edition) (words : List (List ℕ))
    → accepted edition at.Items words ≡ true
    → SomeItems words
items_found edition [] h = absurd (false≢true (nothing edition at.Items h))
items_found edition (w ∷ ws) h = items_taken edition w ws (taken edition at.Items w ws h)

abbrev AcceptsItems : List (List ℕ) → Type 0
AcceptsItems words =
    (items : List Item) × (words ≡ codes "accepts" ∷ items_words items)
    × AllByRecursion HasName items

accepts_found : (edition : Edition) (words : List (List ℕ))
    → accepted edition at.Accepts words ≡ true
    → AcceptsItems words
accepts_found edition words h =
    let a = one_way edition at.Accepts (Fixed key.Accepts) at.Items refl refl words h in
    let i = items_found edition a.1 a.4 in (
      i.0,
      a.2 ∙ both a.0 (codes "accepts") a.1 (items_words i.0)
          (word_is a.0 (codes "accepts") a.3) i.1,
      i.2,
    )

-- ---- lines

abbrev SaysSome : Edition → List (List ℕ) → Type 0
SaysSome edition words = (says : WiringSays) × AreWordsOf edition words says

task_found : (edition : Edition) (first : List ℕ) (words : List (List ℕ))
    → first ≡ codes "task"
    → accepted edition at.LastTask words ≡ true
    → SaysSome edition (first ∷ words)
task_found edition first words is h =
    let n = last_task edition words h in
    (Task n.0, (both first (codes "task") words (n.0 ∷ []) is n.1, n.2))

port_words : (first : List ℕ) (words : List (List ℕ)) (port : List ℕ) (one : List (List ℕ))
    (second : List ℕ) (two : List (List ℕ)) (receiver : List ℕ) (three : List (List ℕ))
    (accepts : List Item)
    → first ≡ codes "port"
    → words ≡ port ∷ one
    → one ≡ second ∷ two
    → second ≡ codes "receiver"
    → two ≡ receiver ∷ three
    → three ≡ codes "accepts" ∷ items_words accepts
    → first ∷ words ≡ codes "port" ∷ port ∷ codes "receiver" ∷ receiver ∷ codes "accepts"
    ∷ items_words accepts
port_words first words port one second two receiver three accepts a b c d e f =
    rw (a, b, c, d, e, f) refl

port_found : (edition : Edition) (first : List ℕ) (words : List (List ℕ))
    → first ≡ codes "port"
    → accepted edition at.NewPort words ≡ true
    → SaysSome edition (first ∷ words)
port_found edition first words is h =
    let a = one_way edition at.NewPort PortName at.Receiver refl refl words h in
    let b = one_way edition at.Receiver (Fixed key.Receiver) at.ReceiverTask refl refl a.1 a.4 in
    let c = one_way edition at.ReceiverTask TaskName at.Accepts refl refl b.1 b.4 in
    let i = accepts_found edition c.1 c.4 in (
      Port a.0 c.0 i.0,
      (
        port_words first words a.0 a.1 b.0 b.1 c.0 c.1 i.0 is a.2 b.2
            (word_is b.0 (codes "receiver") b.3) c.2 i.1,
        a.3,
        c.3,
        i.2,
      ),
    )

-- what is behind `births`
abbrev SomeKind : Edition → List ℕ → List (List ℕ) → Type 0
SomeKind edition task words =
    (named : List (List ℕ)) × (kind : ℕ) × (accepts : List Item)
    × AreKindWords edition named task kind
    × (words ≡ named ++ codes "accepts" ∷ items_words accepts)
    × AllByRecursion HasName accepts

kinds_found : (edition : Edition) (task : List ℕ) (words : List (List ℕ))
    → accepted edition (behind_task edition) words ≡ true
    → SomeKind edition task (task ∷ words)
kinds_found editions.First task words h =
    let i = accepts_found editions.First words h in
    (task ∷ [], 0, i.0, (refl, refl), ap (λ r. task ∷ r) i.1, i.2)
kinds_found editions.Second task words h =
    let a = one_way editions.Second at.BirthsKind KindNumber at.Accepts refl refl words h in
    let k = kind_found a.0 a.3 in
    let i = accepts_found editions.Second a.1 a.4 in (
      task ∷ a.0 ∷ [],
      k.0,
      i.0,
      (a.0, k.1, refl),
      ap (λ r. task ∷ r) (a.2 ∙ ap (λ r. a.0 ∷ r) i.1),
      i.2,
    )
kinds_found editions.Third task words h =
    let a = one_way editions.Third at.BirthsKind KindNumber at.Accepts refl refl words h in
    let k = kind_found a.0 a.3 in
    let i = accepts_found editions.Third a.1 a.4 in (
      task ∷ a.0 ∷ [],
      k.0,
      i.0,
      (a.0, k.1, refl),
      ap (λ r. task ∷ r) (a.2 ∙ ap (λ r. a.0 ∷ r) i.1),
      i.2,
    )

births_line_found : (edition : Edition) (first : List ℕ) (words : List (List ℕ))
    → first ≡ codes "births"
    → accepted edition at.BirthsTask words ≡ true
    → SaysSome edition (first ∷ words)
births_line_found edition first words is h =
    let a = one_way edition at.BirthsTask TaskName (behind_task edition) refl refl words h in
    let k = kinds_found edition a.0 a.1 a.4 in (
      Births a.0 k.1 k.2,
      (
        (
          k.0,
          k.3,
          both first (codes "births") words (k.0 ++ codes "accepts" ∷ items_words k.2) is
              (a.2 ∙ k.4),
        ),
        a.3,
        k.5,
      ),
    )

send_taken : (edition : Edition) (holder : List ℕ) → IsTrue (is_name holder)
    → (word : List ℕ) (words : List (List ℕ))
    → Taken edition word words (ways edition at.SendTo)
    → SaysSome edition (codes "hold" ∷ holder ∷ codes "send" ∷ word ∷ words)
send_taken edition holder named word words (inl (is, more)) =
    let n = last_port edition words more in (
      HoldPort holder Send n.0,
      (
        ap (λ ws. codes "hold" ∷ holder ∷ codes "send" ∷ ws)
            (both word (codes "port") words (n.0 ∷ []) (word_is word (codes "port") is) n.1),
        named,
        n.2,
      ),
    )
send_taken edition holder named word words (inr (inl (is, more))) =
    let n = last_task edition words more in (
      HoldTask holder n.0,
      (
        ap (λ ws. codes "hold" ∷ holder ∷ codes "send" ∷ ws)
            (both word (codes "task") words (n.0 ∷ []) (word_is word (codes "task") is) n.1),
        named,
        n.2,
      ),
    )
send_taken edition holder named word words (inr (inr none)) = absurd none

send_found : (edition : Edition) (holder : List ℕ) → IsTrue (is_name holder)
    → (words : List (List ℕ))
    → accepted edition at.SendTo words ≡ true
    → SaysSome edition (codes "hold" ∷ holder ∷ codes "send" ∷ words)
send_found edition holder named [] h = absurd (false≢true (nothing edition at.SendTo h))
send_found edition holder named (w ∷ ws) h =
    send_taken edition holder named w ws (taken edition at.SendTo w ws h)

once_found : (edition : Edition) (holder : List ℕ) → IsTrue (is_name holder)
    → (words : List (List ℕ))
    → accepted edition at.OnceTo words ≡ true
    → SaysSome edition (codes "hold" ∷ holder ∷ codes "once" ∷ words)
once_found edition holder named words h =
    let a = one_way edition at.OnceTo (Fixed key.Port) at.LastPort refl refl words h in
    let n = last_port edition a.1 a.4 in (
      HoldPort holder SendOnce n.0,
      (
        ap (λ ws. codes "hold" ∷ holder ∷ codes "once" ∷ ws)
            (a.2 ∙ both a.0 (codes "port") a.1 (n.0 ∷ []) (word_is a.0 (codes "port") a.3) n.1),
        named,
        n.2,
      ),
    )

held_taken : (edition : Edition) (holder : List ℕ) → IsTrue (is_name holder)
    → (word : List ℕ) (words : List (List ℕ))
    → Taken edition word words (ways edition at.HeldRight)
    → SaysSome edition (codes "hold" ∷ holder ∷ word ∷ words)
held_taken edition holder named word words (inl (is, more)) =
    subst (λ w. SaysSome edition (codes "hold" ∷ holder ∷ w ∷ words))
    (sym (word_is word (codes "send") is)) (send_found edition holder named words more)
held_taken edition holder named word words (inr (inl (is, more))) =
    subst (λ w. SaysSome edition (codes "hold" ∷ holder ∷ w ∷ words))
    (sym (word_is word (codes "once") is)) (once_found edition holder named words more)
held_taken edition holder named word words (inr (inr none)) = absurd none

held_found : (edition : Edition) (holder : List ℕ) → IsTrue (is_name holder)
    → (words : List (List ℕ))
    → accepted edition at.HeldRight words ≡ true
    → SaysSome edition (codes "hold" ∷ holder ∷ words)
held_found edition holder named [] h = absurd (false≢true (nothing edition at.HeldRight h))
held_found edition holder named (w ∷ ws) h =
    held_taken edition holder named w ws (taken edition at.HeldRight w ws h)

hold_found : (edition : Edition) (first : List ℕ) (words : List (List ℕ))
    → first ≡ codes "hold"
    → accepted edition at.Holder words ≡ true
    → SaysSome edition (first ∷ words)
hold_found edition first words is h =
    let a = one_way edition at.Holder TaskName at.HeldRight refl refl words h in
    subst (SaysSome edition) (sym (both first (codes "hold") words (a.0 ∷ a.1) is a.2))
    (held_found edition a.0 a.3 a.1 a.4)

admit_found : (edition : Edition) (first : List ℕ) (words : List (List ℕ))
    → first ≡ codes "admit"
    → accepted edition at.Slot words ≡ true
    → SaysSome edition (first ∷ words)
admit_found edition first words is h =
    let a = one_way edition at.Slot SlotType at.Admitted refl refl words h in
    let s = before_first is_dot a.0 in
    let t = after_first is_dot a.0 in
    let names = and_parts (is_name s) (is_name t) a.3 in
    let slot = slot_found a.0 s t (name_again s names.0) (name_again t names.1) in
    let c = admitted_found edition a.1 a.4 in (
      Admit s t c.0,
      (
        (
          a.1,
          c.1,
          both first (codes "admit") words ((s ++ (codes "." ++ t)) ∷ a.1) is
              (a.2 ∙ ap (λ w. w ∷ a.1) slot.0),
        ),
        names.0,
        names.1,
      ),
    )

-- RIGHT CLASS
abbrev SomeRight : Edition → List (List ℕ) → Type 0
SomeRight edition words =
    (on : TrustedRight) × AreRightWords edition words on

right_taken : (edition : Edition) (word : List ℕ) (words : List (List ℕ))
    → Taken edition word words (right_ways at.Class)
    → SomeRight edition (word ∷ words)
right_taken edition word words (inl (is, more)) =
    let c = class_found edition words more in (
      record { right = rights.Send; class = c.0 },
      (words, c.1, ap (λ w. w ∷ words) (word_is word (codes "send") is)),
    )
right_taken edition word words (inr (inl (is, more))) =
    let c = class_found edition words more in (
      record { right = rights.Receive; class = c.0 },
      (words, c.1, ap (λ w. w ∷ words) (word_is word (codes "receive") is)),
    )
right_taken edition word words (inr (inr (inl (is, more)))) =
    let c = class_found edition words more in (
      record { right = rights.SendOnce; class = c.0 },
      (words, c.1, ap (λ w. w ∷ words) (word_is word (codes "once") is)),
    )
right_taken edition word words (inr (inr (inr none))) = absurd none

abbrev SomeNamed : Edition → List (List ℕ) → Type 0
SomeNamed edition words = (right : Option TrustedRight) × AreNamedWords edition words right

named_taken : (edition : Edition) (word : List ℕ) (words : List (List ℕ))
    → Taken edition word words (ways edition at.NamedRight)
    → SomeNamed edition (word ∷ words)
named_taken edition word words (inl (is, more)) =
    (None, none_alone edition word words is more)
named_taken edition word words (inr others) =
    let r = right_taken edition word words others in (Some r.0, r.1)

named_found : (edition : Edition) (words : List (List ℕ))
    → accepted edition at.NamedRight words ≡ true
    → SomeNamed edition words
named_found edition [] h = absurd (false≢true (nothing edition at.NamedRight h))
named_found edition (w ∷ ws) h =
    named_taken edition w ws (taken edition at.NamedRight w ws h)

abbrev SomeOnce : Edition → List (List ℕ) → Type 0
SomeOnce edition words = (right : Option TrustedRight) × AreOnceWords edition words right

once_of : (edition : Edition) (words : List (List ℕ)) (found : Option ClassName)
    → AreAdmittedWords edition words found
    → SomeOnce edition words
once_of edition words None is = (None, is)
once_of edition words (Some c) is =
    (Some (record { right = rights.SendOnce; class = c }), (is, refl))

abbrev SomeVerb : Edition → List (List ℕ) → Type 0
SomeVerb edition words =
    (verb : TrustVerb) × (right : Option TrustedRight) × (named : List (List ℕ))
    × AreTrustedWords edition verb named right × (words ≡ verb_word verb ∷ named)

verb_taken : (edition : Edition) (word : List ℕ) (words : List (List ℕ))
    → Taken edition word words (ways edition at.Verb)
    → SomeVerb edition (word ∷ words)
verb_taken edition word words (inl (is, more)) =
    let n = named_found edition words more in
    (Takes, n.0, words, n.1, ap (λ w. w ∷ words) (word_is word (codes "takes") is))
verb_taken edition word words (inr (inl (is, more))) =
    let n = named_found edition words more in
    (Gives, n.0, words, n.1, ap (λ w. w ∷ words) (word_is word (codes "gives") is))
verb_taken edition word words (inr (inr (inl (is, more)))) =
    let n = named_found edition words more in
    (Sends, n.0, words, n.1, ap (λ w. w ∷ words) (word_is word (codes "sends") is))
verb_taken edition word words (inr (inr (inr (inl (is, more))))) =
    let c = admitted_found edition words more in
    let n = once_of edition words c.0 c.1 in
    (Replies, n.0, words, n.1, ap (λ w. w ∷ words) (word_is word (codes "replies") is))
verb_taken edition word words (inr (inr (inr (inr none)))) = absurd none

verb_found : (edition : Edition) (words : List (List ℕ))
    → accepted edition at.Verb words ≡ true
    → SomeVerb edition words
verb_found edition [] h = absurd (false≢true (nothing edition at.Verb h))
verb_found edition (w ∷ ws) h = verb_taken edition w ws (taken edition at.Verb w ws h)

trust_found : (first : List ℕ) (words : List (List ℕ))
    → first ≡ codes "trust"
    → accepted editions.Third at.Trusted words ≡ true
    → SaysSome editions.Third (first ∷ words)
trust_found first words is h =
    let a = one_way editions.Third at.Trusted TaskName at.Verb refl refl words h in
    let v = verb_found editions.Third a.1 a.4 in (
      Trust a.0 v.0 v.1,
      (
        refl,
        (
          v.2,
          v.3,
          both first (codes "trust") words (a.0 ∷ verb_word v.0 ∷ v.2) is
              (a.2 ∙ ap (λ r. a.0 ∷ r) v.4),
        ),
        a.3,
      ),
    )

fit_found : (first : List ℕ) (words : List (List ℕ))
    → first ≡ codes "replies"
    → accepted editions.Third at.Fit words ≡ true
    → SaysSome editions.Third (first ∷ words)
fit_found first words is h =
    let a = one_way editions.Third at.Fit (Fixed key.Fit) at.End refl refl words h in (
      RepliesFit,
      (
        refl,
        both first (codes "replies") words (codes "fit" ∷ []) is
            (a.2 ∙ both a.0 (codes "fit") a.1 [] (word_is a.0 (codes "fit") a.3)
            (at_end editions.Third a.1 a.4)),
      ),
    )

third_taken : (edition : Edition) (word : List ℕ) (words : List (List ℕ))
    → Taken edition word words (third_ways edition)
    → SaysSome edition (word ∷ words)
third_taken editions.First word words none = absurd none
third_taken editions.Second word words none = absurd none
third_taken editions.Third word words (inl (is, more)) =
    trust_found word words (word_is word (codes "trust") is) more
third_taken editions.Third word words (inr (inl (is, more))) =
    fit_found word words (word_is word (codes "replies") is) more
third_taken editions.Third word words (inr (inr none)) = absurd none

line_taken : (edition : Edition) (word : List ℕ) (words : List (List ℕ))
    → Taken edition word words (ways edition at.WiringLine)
    → SaysSome edition (word ∷ words)
line_taken edition word words (inl (is, more)) =
    task_found edition word words (word_is word (codes "task") is) more
line_taken edition word words (inr (inl (is, more))) =
    port_found edition word words (word_is word (codes "port") is) more
line_taken edition word words (inr (inr (inl (is, more)))) =
    births_line_found edition word words (word_is word (codes "births") is) more
line_taken edition word words (inr (inr (inr (inl (is, more))))) =
    hold_found edition word words (word_is word (codes "hold") is) more
line_taken edition word words (inr (inr (inr (inr (inl (is, more)))))) =
    admit_found edition word words (word_is word (codes "admit") is) more
line_taken edition word words (inr (inr (inr (inr (inr others))))) =
    third_taken edition word words others

pub line_found : (edition : Edition) (words : List (List ℕ))
    → accepted edition at.WiringLine words ≡ true
    → (says : WiringSays) × AreWordsOf edition words says
line_found edition [] h = absurd (false≢true (nothing edition at.WiringLine h))
line_found edition (w ∷ ws) h = line_taken edition w ws (taken edition at.WiringLine w ws h)

right_found : (edition : Edition) (words : List (List ℕ))
    → accepted edition at.ForbiddenRight words ≡ true
    → SomeRight edition words
right_found edition [] h = absurd (false≢true (nothing edition at.ForbiddenRight h))
right_found edition (w ∷ ws) h =
    right_taken edition w ws (taken edition at.ForbiddenRight w ws h)

pub forbid_found : (edition : Edition) (words : List (List ℕ))
    → accepted edition at.PolicyLine words ≡ true
    → (says : Forbid) × AreForbidWords edition words says
forbid_found edition words h =
    let a = one_way edition at.PolicyLine (Fixed key.Forbid) at.Forbidden refl refl words h in
    let b = one_way edition at.Forbidden TaskName at.ForbiddenRight refl refl a.1 a.4 in
    let r = right_found edition b.1 b.4 in
    let on = r.0 in (
      record { task = b.0; right = on.right; class = on.class },
      (
        (
          r.1.0,
          r.1.1,
          a.2 ∙ both a.0 (codes "forbid") a.1 (b.0 ∷ port_right_word on.right ∷ r.1.0)
              (word_is a.0 (codes "forbid") a.3) (b.2 ∙ ap (λ w. b.0 ∷ w) r.1.2),
        ),
        b.3,
      ),
    )
