-- What is printed of a fact in range is read as the fact, and what is read prints as the text.
use Rattle.std.proofs.Common.{◌≡◌, ◌<◌, ℕ, List, Option, Some, None, refl, sym}
use Rattle.std.proofs.Common.{subst, ap, ap₂, ◌∙◌, true, false, codes, if◌then◌else◌}
use Rattle.std.specs.Prelude.{slice_get, bytes_eq, IfSome}
use Rattle.std.proofs.lemmas.Slice.Eq.{bytes_eq-Decides}
use Rattle.mrc_base.specs.declared.PortRight.{PortRight}
use Rattle.mrc_base.specs.declared.PortRight.TheVariants.{Send, Receive, SendOnce}
use Rattle.mrc_base.specs.declared.Fact.{Fact}
use Rattle.mrc_base.specs.declared.Fact.TheVariants.{Hold, Carry, Backup}
use Rattle.mrc_base.proofs.Lists.{element_there}
use Rattle.mrc_model.specs.Wiring.{classes}
use Rattle.mrc_model.specs.Rules.{InRange}
use Rattle.mrc_wiring.specs.Table.{Table, wiring_of}
use Rattle.mrc_wiring.specs.Names.{number_of, class_named}
use Rattle.mrc_wiring.proofs.NameLemmas.{number_at, named_at, read_within}
use Rattle.mrc_words.specs.Words.{◌␣◌, right_word, class_word, task_text, task_word, fact_text}
use Rattle.mrc_words.specs.Reading.{◌>>=◌, cut, right_named, hold_named, carry_named, backup_named}
use Rattle.mrc_words.specs.Reading.{fact_of_kind, fact_named}
use Rattle.mrc_words.specs.Laws.{PrintedIsRead, ReadIsPrinted, NamesOneFact}
use Rattle.mrc_words.proofs.Cuts.{HasNoBlank, no_blanks, no_blank_name, cut_joined, cut_back}
use Rattle.mrc_words.proofs.ClassWords.{AreNamed, class_word_read, class_word_no_blank}
use Rattle.mrc_words.proofs.ClassWords.{class_word_back}

right_read : (right : PortRight) → right_named (right_word right) ≡ Some right
right_read Send = refl
right_read Receive = refl
right_read SendOnce = refl

-- what both gave
bound : {A B : Type 0} (o : Option A) (f : A → Option B) (y : B) → (o >>= f) ≡ Some y
    → (x : A) × (o ≡ Some x) × (f x ≡ Some y)
bound None f y e = cc
bound (Some x) f y e = (x, refl, e)

-- from what is there to what follows
then_is : {A B : Type 0} (o : Option A) (x : A) (f : A → Option B) (y : B) → o ≡ Some x
    → f x ≡ Some y → (o >>= f) ≡ Some y
then_is o x f y e g = ap (λ p. p >>= f) e ∙ g

task_read : (table : Table) (t : ℕ) (name : List ℕ) → AreNamed table
    → slice_get table.names t ≡ Some name
    → (task_word table t ≡ name) × (number_of table.names name ≡ Some t) × HasNoBlank name
task_read table t name are e =
    (ap (task_text t) e, number_at table.names name t are.0 e, no_blank_name name (are.0.each t name e))

hold_read : (table : Table) (t c : ℕ) (right : PortRight) (name : List ℕ) → AreNamed table
    → slice_get table.names t ≡ Some name
    → c < classes (wiring_of table) → hold_named table
    (name ␣ class_word table c ␣ right_word right) ≡ Some (Hold t c right)
hold_read table t c right name are e h =
    let task = task_read table t name are e in
    then_is _ _ _ _ (cut_joined name (class_word table c ␣ right_word right) task.2)
    (then_is _ _ _ _ (cut_joined (class_word table c) (right_word right) (class_word_no_blank table c are h))
    (then_is _ _ _ _ task.1
    (then_is _ _ _ _ (class_word_read table c are h)
    (then_is _ _ _ _ (right_read right) refl))))

carry_read : (table : Table) (d c : ℕ) (right : PortRight) → AreNamed table
    → d < classes (wiring_of table) → c < classes (wiring_of table)
    → carry_named table (class_word table d ␣ class_word table c ␣ right_word right) ≡ Some
    (Carry d c right)
carry_read table d c right are g h =
    then_is _ _ _ _ (cut_joined (class_word table d) (class_word table c ␣ right_word right) (class_word_no_blank table d are g))
    (then_is _ _ _ _ (cut_joined (class_word table c) (right_word right) (class_word_no_blank table c are h))
    (then_is _ _ _ _ (class_word_read table d are g)
    (then_is _ _ _ _ (class_word_read table c are h)
    (then_is _ _ _ _ (right_read right) refl))))

backup_read : (table : Table) (c d : ℕ) → AreNamed table
    → c < classes (wiring_of table) → d < classes (wiring_of table)
    → backup_named table (class_word table c ␣ class_word table d) ≡ Some (Backup c d)
backup_read table c d are g h =
    then_is _ _ _ _ (cut_joined (class_word table c) (class_word table d) (class_word_no_blank table c are g))
    (then_is _ _ _ _ (class_word_read table c are g)
    (then_is _ _ _ _ (class_word_read table d are h) refl))

pub printed_is_read : PrintedIsRead
printed_is_read table tasks ports births kinds (Hold t c right) range =
    let are : AreNamed table = (tasks, ports, births, kinds) in
    let found = element_there table.names t range.0 in
    let task = task_read table t found.0 are found.1 in
    then_is _ _ _ _ (cut_joined (codes "hold") (task_word table t ␣ class_word table c ␣ right_word right) (no_blanks (codes "hold") refl))
    (ap (λ name. hold_named table (name ␣ class_word table c ␣ right_word right)) task.0
    ∙ hold_read table t c right found.0 are found.1 range.1)
printed_is_read table tasks ports births kinds (Carry d c right) range =
    let are : AreNamed table = (tasks, ports, births, kinds) in
    then_is _ _ _ _ (cut_joined (codes "carry") (class_word table d ␣ class_word table c ␣ right_word right) (no_blanks (codes "carry") refl))
    (carry_read table d c right are range.0 range.1)
printed_is_read table tasks ports births kinds (Backup c d) range =
    let are : AreNamed table = (tasks, ports, births, kinds) in
    then_is _ _ _ _ (cut_joined (codes "backup") (class_word table c ␣ class_word table d) (no_blanks (codes "backup") refl))
    (backup_read table c d are range.0 range.1)

-- no text names two facts
pub names_one_fact : NamesOneFact
names_one_fact table tasks ports births kinds one other r s e =
    let first = printed_is_read table tasks ports births kinds one r in
    let second = printed_is_read table tasks ports births kinds other s in
    let same : Some one ≡ Some other = sym first ∙ ap (fact_named table) e ∙ second in
    cc

right_back : (word : List ℕ) (right : PortRight) → right_named word ≡ Some right
    → right_word right ≡ word
right_back word right e =
    elim (bytes_eq word (codes "send")) as (λ b. bytes_eq word (codes "send") ≡ b
    → (if b then Some Send else if bytes_eq word (codes "receive") then Some Receive
    else if bytes_eq word (codes "once") then Some SendOnce else None) ≡ Some right → right_word right ≡ word) [
      | true ↦ λ is found.
          let same : Send ≡ right = cc in ap right_word (sym same) ∙ sym ((bytes_eq-Decides word (codes "send")).0 is)
      | false ↦ λ is found. elim (bytes_eq word (codes "receive")) as (λ b. bytes_eq word (codes "receive") ≡ b
          → (if b then Some Receive else if bytes_eq word (codes "once") then Some SendOnce else None) ≡ Some right → right_word right ≡ word) [
            | true ↦ λ is found.
                let same : Receive ≡ right = cc in ap right_word (sym same) ∙ sym ((bytes_eq-Decides word (codes "receive")).0 is)
            | false ↦ λ is found. elim (bytes_eq word (codes "once")) as (λ b. bytes_eq word (codes "once") ≡ b
                → (if b then Some SendOnce else None) ≡ Some right → right_word right ≡ word) [
                  | true ↦ λ is found.
                      let same : SendOnce ≡ right = cc in ap right_word (sym same) ∙ sym ((bytes_eq-Decides word (codes "once")).0 is)
                  | false ↦ λ is found. cc
                ] refl found
          ] refl found
    ] refl e

-- a fact in range whose words, after its kind, are the text
abbrev Says : Table → List ℕ → List ℕ → Fact → Type 0
Says table kind text fact = InRange (wiring_of table) fact × (fact_text table fact ≡ kind ␣ text)

hold_back : (table : Table) (text : List ℕ) (fact : Fact) → hold_named table text ≡ Some fact
    → Says table (codes "hold") text fact
hold_back table text fact e =
    let first = bound (cut text) _ fact e in
    let second = bound (cut first.0.1) _ fact first.2 in
    let task = bound (number_of table.names first.0.0) _ fact second.2 in
    let class = bound (class_named table second.0.0) _ fact task.2 in
    let right = bound (right_named second.0.1) _ fact class.2 in
    let here = named_at table.names first.0.0 task.0 task.1 in
    let holder : task_word table task.0 ≡ first.0.0 = ap (task_text task.0) here in
    let of_class = class_word_back table second.0.0 class.0 class.1 in
    let word : right_word right.0 ≡ second.0.1 = right_back second.0.1 right.0 right.1 in
    let text_is : task_word table task.0 ␣ class_word table class.0 ␣ right_word right.0 ≡ text =
    ap₂ (λ (a b : List ℕ). a ␣ b) holder
    (ap₂ (λ (a b : List ℕ). a ␣ b) of_class.1 word ∙ cut_back first.0.1 second.0.0 second.0.1 second.1)
    ∙ cut_back text first.0.0 first.0.1 first.1 in
    let same : Hold task.0 class.0 right.0 ≡ fact = cc in
    subst (Says table (codes "hold") text) same
    ((read_within table.names task.0 first.0.0 here, of_class.0), ap (λ t. codes "hold" ␣ t) text_is)

carry_back : (table : Table) (text : List ℕ) (fact : Fact) → carry_named table text ≡ Some fact
    → Says table (codes "carry") text fact
carry_back table text fact e =
    let first = bound (cut text) _ fact e in
    let second = bound (cut first.0.1) _ fact first.2 in
    let destination = bound (class_named table first.0.0) _ fact second.2 in
    let class = bound (class_named table second.0.0) _ fact destination.2 in
    let right = bound (right_named second.0.1) _ fact class.2 in
    let of_first = class_word_back table first.0.0 destination.0 destination.1 in
    let of_second = class_word_back table second.0.0 class.0 class.1 in
    let word : right_word right.0 ≡ second.0.1 = right_back second.0.1 right.0 right.1 in
    let text_is : class_word table destination.0 ␣ class_word table class.0 ␣ right_word right.0 ≡ text =
    ap₂ (λ (a b : List ℕ). a ␣ b) of_first.1
    (ap₂ (λ (a b : List ℕ). a ␣ b) of_second.1 word ∙ cut_back first.0.1 second.0.0 second.0.1 second.1)
    ∙ cut_back text first.0.0 first.0.1 first.1 in
    let same : Carry destination.0 class.0 right.0 ≡ fact = cc in
    subst (Says table (codes "carry") text) same
    ((of_first.0, of_second.0), ap (λ t. codes "carry" ␣ t) text_is)

backup_back : (table : Table) (text : List ℕ) (fact : Fact) → backup_named table text ≡ Some fact
    → Says table (codes "backup") text fact
backup_back table text fact e =
    let first = bound (cut text) _ fact e in
    let class = bound (class_named table first.0.0) _ fact first.2 in
    let notify = bound (class_named table first.0.1) _ fact class.2 in
    let of_first = class_word_back table first.0.0 class.0 class.1 in
    let of_second = class_word_back table first.0.1 notify.0 notify.1 in
    let text_is : class_word table class.0 ␣ class_word table notify.0 ≡ text =
    ap₂ (λ (a b : List ℕ). a ␣ b) of_first.1 of_second.1 ∙ cut_back text first.0.0 first.0.1 first.1 in
    let same : Backup class.0 notify.0 ≡ fact = cc in
    subst (Says table (codes "backup") text) same
    ((of_first.0, of_second.0), ap (λ t. codes "backup" ␣ t) text_is)

kind_is : (table : Table) (kind word rest : List ℕ) (fact : Fact) → bytes_eq kind word ≡ true
    → Says table word rest fact → Says table kind rest fact
kind_is table kind word rest fact is says =
    (says.0, says.1 ∙ ap (λ k. k ␣ rest) (sym ((bytes_eq-Decides kind word).0 is)))

kind_back : (table : Table) (kind rest : List ℕ) (fact : Fact)
    → fact_of_kind table kind rest ≡ Some fact → Says table kind rest fact
kind_back table kind rest fact e =
    elim (bytes_eq kind (codes "hold")) as (λ b. bytes_eq kind (codes "hold") ≡ b
    → (if b then hold_named table rest else if bytes_eq kind (codes "carry")
    then carry_named table rest
    else if bytes_eq kind (codes "backup") then backup_named table rest else None) ≡ Some fact → Says table kind rest fact) [
      | true ↦ λ is found. kind_is table kind (codes "hold") rest fact is (hold_back table rest fact found)
      | false ↦ λ is found. elim (bytes_eq kind (codes "carry")) as (λ b. bytes_eq kind (codes "carry") ≡ b
          → (if b then carry_named table rest
          else if bytes_eq kind (codes "backup") then backup_named table rest else None) ≡ Some fact → Says table kind rest fact) [
            | true ↦ λ is found. kind_is table kind (codes "carry") rest fact is (carry_back table rest fact found)
            | false ↦ λ is found. elim (bytes_eq kind (codes "backup")) as (λ b. bytes_eq kind (codes "backup") ≡ b
                → (if b then backup_named table rest else None) ≡ Some fact → Says table kind rest fact) [
                  | true ↦ λ is found. kind_is table kind (codes "backup") rest fact is (backup_back table rest fact found)
                  | false ↦ λ is found. cc
                ] refl found
          ] refl found
    ] refl e

pub read_is_printed : ReadIsPrinted
read_is_printed table text fact e =
    let parts = bound (cut text) _ fact e in
    let says = kind_back table parts.0.0 parts.0.1 fact parts.2 in
    (says.0, says.1 ∙ cut_back text parts.0.0 parts.0.1 parts.1)

-- what is found is in range and prints as the text
pub found_facts : (table : Table) (text : List ℕ) (o : Option Fact) → o ≡ fact_named table text
    → IfSome o (λ fact. InRange (wiring_of table) fact × (fact_text table fact ≡ text))
found_facts table text None e = tt
found_facts table text (Some fact) e = read_is_printed table text fact (sym e)
