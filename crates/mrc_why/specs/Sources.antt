-- Believe. Where a step of a chain comes from. Where a step of a chain comes from in the files of a
-- system: the line of the wiring that gives what is held at first, the slot through which a right
-- passes, the subsystem whose request brings a reply right, the task whose kernel port is held.
-- This profile's own choice.
use Rattle.std.specs.Prelude.{◌≡◌, ℕ, ◌<◌, true, List, [], ◌∷◌, find, Option, Some}
use Rattle.std.specs.Prelude.{slice_get, IfSome}
use Rattle.mrc_base.specs.declared.PortRight.{PortRight}
use Rattle.mrc_base.specs.declared.PortRight.TheVariants.{Send}
use Rattle.mrc_base.specs.declared.Fact.TheVariants.{Hold, Carry}
use Rattle.mrc_base.specs.declared.Disp.{Disp}
use Rattle.mrc_base.specs.Disposition.{needed, given}
use Rattle.mrc_model.specs.IsIn.{IsIn}
use Rattle.mrc_model.specs.declared.LabelItem.{LabelItem}
use Rattle.mrc_model.specs.declared.LabelItem.TheVariants as label
use Rattle.mrc_model.specs.Wiring.{Wiring, label as label_of, admits, brings_reply_kind}
use Rattle.mrc_model.specs.Wiring.{kernel_class}
use Rattle.mrc_forms.specs.declared.form.MessageKind.{MessageKind}
use Rattle.mrc_forms.specs.declared.form.FormKind.{FormKind}
use Rattle.mrc_forms.specs.declared.form.FormKind.TheVariants as kinds
use Rattle.mrc_forms.specs.Forms.{Argument, Slot, Form}
use Rattle.mrc_forms.specs.Types.{dispositions_of}
use Rattle.mrc_forms.specs.Tables.{Row, Table as Interface, form_in}
use Rattle.mrc_wiring.specs.ModelForms.{is_at}
use Rattle.mrc_wiring.specs.Sorts.{sorts_of, sort_number}
use Rattle.mrc_wiring.specs.Table.{Table, wiring_of}
use Rattle.mrc_wiring.specs.Finding.{item_of}
use Rattle.mrc_classes.specs.declared.rule_names.RuleName.TheVariants as rules
use Rattle.mrc_closure.specs.declared.chains.Places.{Places}
use Rattle.mrc_closure.specs.declared.chains.Step.{Step}
use Rattle.mrc_closure.specs.Chains.{place_list, IsAt}
use Rattle.mrc_why.specs.declared.origins.SlotNames.{SlotNames}
use Rattle.mrc_why.specs.declared.origins.Source.{Source}
use Rattle.mrc_why.specs.declared.origins.Source.TheVariants.{Line, Slot as SlotSource}
use Rattle.mrc_why.specs.declared.origins.Source.TheVariants.{Subsystem, KernelPort}
use Rattle.mrc_why.specs.Lines.{Numbered, IsGivenBy}

-- A form of an interface, and an argument of it that is a slot: which of the two messages it is of,
-- the number of the interface, and the place of the argument, which counts from 0.
pub record FormSlot : Type 0 where
  pub kind : MessageKind
  pub number : ℕ
  pub interface : Interface
  pub row : Row
  pub form : Form
  pub place : ℕ
  pub argument : Argument
  pub slot : Slot

-- the argument of this place in the form is the slot
pub record IsArgument (form : Form) (place : ℕ) (argument : Argument) (slot : Slot) : Type 0 where
  pub at : slice_get form.arguments place ≡ Some argument
  pub is : find (is_at place) form.slots ≡ Some slot

-- the interface is the table's, the form is one of the interface, and the argument is the slot
pub record IsFormSlot (table : Table) (x : FormSlot) : Type 0 where
  pub interface : slice_get table.interfaces x.number ≡ Some x.interface
  pub row : IsIn x.row x.interface.rows
  pub form : form_in x.kind x.row ≡ Some x.form
  pub argument : IsArgument x.form x.place x.argument x.slot

-- the names are those of the subsystem, the routine, the argument and its type
pub record AreNamesOf (interface : Interface) (form : Form) (argument : Argument) (slot : Slot)
    (names : SlotNames) : Type 0 where
  pub of_subsystem : names.subsystem.now ≡ interface.name
  pub of_routine : names.routine.now ≡ form.name
  pub of_argument : names.argument.now ≡ argument.name
  pub of_type : names.type_name.now ≡ slot.type_name

-- by one of its dispositions the slot, whose type has this number, needs a right q and hands it
-- over as r, and its type admits class c
pub record IsPassing (W : Wiring) (c : ℕ) (q r : PortRight) (slot : Slot) (sort : ℕ)
    : Type 0 where
  pub disposition : Disp
  pub of_slot : IsIn disposition (dispositions_of slot.types)
  pub needs : needed disposition ≡ q
  pub gives : given disposition ≡ r
  pub admits : admits W sort c ≡ true

-- the number of the type of a slot
abbrev pub sort_of : Table → FormSlot → ℕ
sort_of table x = sort_number (sorts_of table.interfaces) x.number x.slot.type_name

-- the slot of these names stands in a form that the item stands for, and lets a right q on class c
-- pass as r
pub record IsItemSlot (table : Table) (item : LabelItem) (c : ℕ) (q r : PortRight)
    (names : SlotNames) : Type 0 where
  pub at : FormSlot
  pub stands : IsFormSlot table at
  pub of_item : item_of at.kind at.number ≡ item
  pub passes : IsPassing (wiring_of table) c q r at.slot (sort_of table at)
  pub named : AreNamesOf at.interface at.form at.argument at.slot names

-- the same in a form of the label of class d
pub record IsSlot (table : Table) (d c : ℕ) (q r : PortRight) (names : SlotNames) : Type 0 where
  pub item : LabelItem
  pub in_label : IsIn item (label_of (wiring_of table) d)
  pub slot : IsItemSlot table item c q r names

-- a form of the kind is that of a request which may bring a reply right
abbrev pub BringsReply : FormKind → Type 0
BringsReply (kinds.Request kind) = brings_reply_kind kind ≡ true
BringsReply kinds.Reply = ⊥

-- the interface has a request which may bring a reply right
pub record HasRoutine (interface : Interface) : Type 0 where
  pub row : Row
  pub in_rows : IsIn row interface.rows
  pub form : Form
  pub request : row.request ≡ Some form
  pub routine : BringsReply form.kind

-- The item stands for the requests of the subsystem of this name, which has one that may bring a
-- reply right. If reply ports have to fit, class c accepts the replies of the subsystem.
pub record IsRoutineItem (table : Table) (item : LabelItem) (c : ℕ) (name : List ℕ) : Type 0 where
  pub number : ℕ
  pub is : item ≡ label.Request number
  pub interface : Interface
  pub there : slice_get table.interfaces number ≡ Some interface
  pub routine : HasRoutine interface
  pub fits : (wiring_of table).replies_fit ≡ true
      → IsIn (label.Reply number) (label_of (wiring_of table) c)
  pub named : name ≡ interface.name

-- class d accepts requests of the subsystem of this name, which has a routine, and if reply ports
-- have to fit, class c accepts its replies
pub record AcceptsRoutine (table : Table) (d c : ℕ) (name : List ℕ) : Type 0 where
  pub item : LabelItem
  pub in_label : IsIn item (label_of (wiring_of table) d)
  pub routine : IsRoutineItem table item c name

-- a step of rule K1, and the line that gives what it concludes
pub record IsLineSource (numbered : Numbered) (s : Step) (n : ℕ) : Type 0 where
  pub rule : s.rule ≡ rules.First
  pub task : ℕ
  pub class : ℕ
  pub right : PortRight
  pub fact : s.fact ≡ Hold task class right
  pub gives : IsGivenBy numbered task class right n

-- the second of two premises is that a task holds the right on a port of the class
pub record IsHeldBySecond (steps : List Step) (premises : Places) (class : ℕ) (right : PortRight)
    : Type 0 where
  pub first : ℕ
  pub second : ℕ
  pub are : place_list premises ≡ first ∷ second ∷ []
  pub holder : ℕ
  pub holds : IsAt steps second (Hold holder class right)

-- a step of rule K4, and the slot that lets its right pass, which its sender holds by its second
-- premise
pub record IsSlotSource (table : Table) (steps : List Step) (s : Step) (names : SlotNames)
    : Type 0 where
  pub rule : s.rule ≡ rules.Slot
  pub to : ℕ
  pub class : ℕ
  pub right : PortRight
  pub fact : s.fact ≡ Carry to class right
  pub held : PortRight
  pub sender : IsHeldBySecond steps s.premises class held
  pub slot : IsSlot table to class held right names

-- a step of rule K5, and the subsystem whose request brings the reply right, on a port of the class
-- that the step carries
pub record IsSubsystemSource (table : Table) (s : Step) (name : List ℕ) : Type 0 where
  pub rule : s.rule ≡ rules.Reply
  pub to : ℕ
  pub class : ℕ
  pub right : PortRight
  pub fact : s.fact ≡ Carry to class right
  pub routine : AcceptsRoutine table to class name

-- a step of rule K7, and the task whose kernel port is held by its first premise
pub record IsKernelSource (table : Table) (steps : List Step) (s : Step) (name : List ℕ)
    : Type 0 where
  pub rule : s.rule ≡ rules.KernelPort
  pub first : ℕ
  pub second : ℕ
  pub premises : place_list s.premises ≡ first ∷ second ∷ []
  pub holder : ℕ
  pub task : ℕ
  pub there : task < (wiring_of table).tasks
  pub held : IsAt steps first (Hold holder (kernel_class (wiring_of table) task) Send)
  pub named : slice_get table.names task ≡ Some name

-- the step, one of these, comes from there
abbrev pub IsSource : Numbered → List Step → Step → Source → Type 0
IsSource numbered steps s (Line n) = IsLineSource numbered s n
IsSource numbered steps s (SlotSource names) = IsSlotSource numbered.table steps s names
IsSource numbered steps s (Subsystem name) = IsSubsystemSource numbered.table s name.now
IsSource numbered steps s (KernelPort name) = IsKernelSource numbered.table steps s name.now

-- where it is known where the step comes from, it is so
abbrev pub IsSourceIfKnown : Numbered → List Step → Step → Option Source → Type 0
IsSourceIfKnown numbered steps s source = IfSome source (IsSource numbered steps s)

-- one for each of these steps
abbrev pub AreSourcesOf : Numbered → List Step → List Step → List (Option Source) → Type 0
AreSourcesOf numbered steps [] [] = Unit {0}
AreSourcesOf numbered steps [] (x ∷ xs) = ⊥
AreSourcesOf numbered steps (s ∷ ss) [] = ⊥
AreSourcesOf numbered steps (s ∷ ss) (x ∷ xs) =
    IsSourceIfKnown numbered steps s x × AreSourcesOf numbered steps ss xs

-- one for each step of a chain
abbrev pub AreSources : Numbered → List Step → List (Option Source) → Type 0
AreSources numbered steps sources = AreSourcesOf numbered steps steps sources
