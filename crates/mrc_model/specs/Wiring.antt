-- Believe. What a wiring says: forms, labels, classes, what slots admit. What a wiring says: tasks
-- and ports of the first state, classes, interfaces, labels and what slots admit. Classes, labels
-- and admit lines are this profile's own choice; forms are those of MIG (Server Writer's Guide).
use Rattle.std.specs.Prelude.{ℕ, ◌+◌, ◌<◌, IsTrue, is_some, Bool, true, false, ◌&&◌, List, [], ◌∷◌}
use Rattle.std.specs.Prelude.{length, map, flat_map, Option, Some, None, nat_le, nat_lt, ◌==◌}
use Rattle.std.specs.Prelude.{if◌then◌else◌, slice_get, unwrap_or, option_map}
use Rattle.std.specs.List.{list_any}
use Rattle.mrc_base.specs.declared.PortRight.{PortRight}
use Rattle.mrc_model.specs.declared.Verb.{Verb}
use Rattle.mrc_model.specs.declared.Verb.TheVariants.{Takes, Gives, Sends, Replies}
use Rattle.mrc_model.specs.declared.RequestKind.{RequestKind}
use Rattle.mrc_model.specs.declared.RequestKind.TheVariants.{Routine, Simple, Replied}
use Rattle.mrc_model.specs.declared.LabelItem.{LabelItem}
use Rattle.mrc_model.specs.declared.LabelItem.TheVariants.{Request as RequestOf, Reply as ReplyOf}
use Rattle.mrc_model.specs.declared.LabelItem.TheVariants.{Destroyed}
use Rattle.mrc_model.specs.declared.FirstLine.{FirstLine}
use Rattle.mrc_model.specs.Rights.{same_right}

-- What the items of an argument are: data of any kind, or items of one of these type numbers. For
-- MIG's MACH_MSG_TYPE_PORT_SEND the sender chooses among MOVE_SEND, COPY_SEND and MAKE_SEND.
pub data ItemTypes : Type 0 where
  AnyData : ItemTypes
  OneOf : List ℕ → ItemTypes

-- the type numbers that the items may have; none are listed for data of any kind
abbrev pub type_numbers : ItemTypes → List ℕ
type_numbers AnyData = []
type_numbers (OneOf numbers) = numbers

-- One argument of a form. As in mach_msg_type_t, `size` is the bits of an item and `number` how
-- many items there are, or, where that is a bound, the most that there are; data of any kind has
-- any size and number.
-- `sort` is the number of the argument's MIG type in the wiring. There is one number for each pair
-- of an interface that the wiring lists and a name of a type that stands in that interface: two
-- arguments have the same number exactly where they are of one interface and their types have the
-- same name. So types of two interfaces that have the same name have two numbers, and an admit
-- line, which names an interface and a type, is for one number.
pub record Shape : Type 0 where
  pub types : ItemTypes
  pub size : ℕ
  pub number : ℕ
  pub is_bound : Bool
  pub sort : ℕ

-- The body of a request. A routine's request has a reply, a simpleroutine's has none; that of a
-- simpleroutine with a reply port may bring a reply right, and has no reply of its own.
pub record RequestForm : Type 0 where
  pub id : ℕ
  pub kind : RequestKind
  pub shapes : List Shape

-- the body of a reply, the return code first
pub record ReplyForm : Type 0 where
  pub id : ℕ
  pub shapes : List Shape

-- what one subsystem's messages look like
pub record Interface : Type 0 where
  pub requests : List RequestForm
  pub replies : List ReplyForm

-- a form that a label has
pub data Form : Type 0 where
  OfRequest : RequestForm → Form
  OfReply : ReplyForm → Form

-- the id of a form
abbrev pub form_id : Form → ℕ
form_id (OfRequest f) = f.id
form_id (OfReply f) = f.id

-- the arguments of a form
abbrev pub form_shapes : Form → List Shape
form_shapes (OfRequest f) = f.shapes
form_shapes (OfReply f) = f.shapes

-- A line about a trusted task: what tasks of the class do by the verb is limited to this right on
-- ports of this class and what other lines name; None names no right.
pub record TrustLine : Type 0 where
  pub verb : Verb
  pub task : ℕ
  pub right : Option (PortRight × ℕ)

-- `lines` make the first state. `tasks` and `ports` are the numbers of wired tasks and ports.
-- `births` has the birth classes in their order, each by its task and its kind. `labels` are by
-- class. `admitted` has a pair for each admit line: the number of a MIG type, and the class, or
-- none. `trusted` has the lines about trusted tasks. If `replies_fit`, the reply port of a request
-- has to accept the replies of the request's interface.
pub record Wiring : Type 0 where
  pub lines : List FirstLine
  pub tasks : ℕ
  pub ports : ℕ
  pub births : List (ℕ × ℕ)
  pub interfaces : List Interface
  pub labels : List (List LabelItem)
  pub admitted : List (ℕ × Option ℕ)
  pub trusted : List TrustLine
  pub replies_fit : Bool

-- Classes are numbers: first the wired ports, then the kernel ports of the wired tasks, then
-- births.

-- how many classes there are
abbrev pub classes : Wiring → ℕ
classes W = W.ports + W.tasks + length W.births

-- How many wired tasks, wired ports and classes there are: all of a wiring that tells kernel ports
-- from others.
pub record Numbers : Type 0 where
  pub tasks : ℕ
  pub ports : ℕ
  pub classes : ℕ

-- the numbers of a wiring
abbrev pub numbers_of : Wiring → Numbers
numbers_of W = record { tasks = W.tasks; ports = W.ports; classes = classes W }

-- by these numbers, the class of the kernel port of a task of class u
abbrev pub kernel_number : Numbers → ℕ → ℕ
kernel_number N u = N.ports + u

-- by these numbers, the class is that of a kernel port
abbrev pub is_kernel_number : Numbers → ℕ → Bool
is_kernel_number N c = nat_le N.ports c && nat_lt c (N.ports + N.tasks)

-- the class of the kernel port of a task of class u
abbrev pub kernel_class : Wiring → ℕ → ℕ
kernel_class W u = kernel_number (numbers_of W) u

-- the class of the first of these pairs that is (u, kind), where the classes count from c
abbrev pub births_from : ℕ → ℕ → ℕ → List (ℕ × ℕ) → Option ℕ
births_from c u kind [] = None
births_from c u kind (b ∷ bs) =
    if b.0 == u && b.1 == kind then Some c else births_from (c + 1) u kind bs

-- the class of the ports that a task of class u is the first to hold, by kind
abbrev pub births_class : Wiring → ℕ → ℕ → Option ℕ
births_class W u kind = births_from (W.ports + W.tasks) u kind W.births

-- every wired task has births of kind 0
abbrev pub HasKindZero : Wiring → Type 0
HasKindZero W = (u : ℕ) → u < W.tasks → IsTrue (is_some (births_class W u 0))

-- what a class accepts; a number that is no class has no label
abbrev pub label : Wiring → ℕ → List LabelItem
label W c = if nat_lt c (classes W) then unwrap_or (slice_get W.labels c) [] else []

-- the interface of this number; one with no form where there is none
abbrev pub interface : Wiring → ℕ → Interface
interface W s = unwrap_or (slice_get W.interfaces s) record { requests = []; replies = [] }

-- the forms that an item of a label stands for
abbrev pub item_forms : Wiring → LabelItem → List Form
item_forms W (RequestOf s) = map OfRequest (interface W s).requests
item_forms W (ReplyOf s) = map OfReply (interface W s).replies
item_forms W Destroyed = []

-- the forms of a class's label
unfoldable pub forms : Wiring → ℕ → List Form
forms W c = flat_map (item_forms W) (label W c)

-- a request of this kind may bring a reply right
abbrev pub brings_reply_kind : RequestKind → Bool
brings_reply_kind Routine = true
brings_reply_kind Simple = false
brings_reply_kind Replied = true

-- the request may bring a reply right
abbrev pub brings_reply : RequestForm → Bool
brings_reply f = brings_reply_kind f.kind

-- the item stands for requests of an interface that has one which may bring a reply right
abbrev pub has_routine : Wiring → LabelItem → Bool
has_routine W (RequestOf s) = list_any brings_reply (interface W s).requests
has_routine W (ReplyOf s) = false
has_routine W Destroyed = false

-- the class accepts requests of an interface that has one which may bring a reply right
unfoldable pub accepts_routine : Wiring → ℕ → Bool
accepts_routine W c = list_any (has_routine W) (label W c)

-- the item stands for the replies of interface s
abbrev pub is_reply_of : ℕ → LabelItem → Bool
is_reply_of s (RequestOf r) = false
is_reply_of s (ReplyOf r) = r == s
is_reply_of s Destroyed = false

-- the class accepts the replies of interface s
unfoldable pub accepts_reply : Wiring → ℕ → ℕ → Bool
accepts_reply W c s = list_any (is_reply_of s) (label W c)

-- the item stands for requests of an interface that has one which may bring a reply right, and
-- class c accepts its replies
abbrev pub is_answered : Wiring → ℕ → LabelItem → Bool
is_answered W c (RequestOf s) =
    list_any brings_reply (interface W s).requests && accepts_reply W c s
is_answered W c (ReplyOf s) = false
is_answered W c Destroyed = false

-- Some request to class d can carry a reply right on a port of class c: one of an interface whose
-- replies c accepts if reply ports have to fit.
unfoldable pub accepts_replier : Wiring → ℕ → ℕ → Bool
accepts_replier W d c =
    if W.replies_fit then list_any (is_answered W c) (label W d) else accepts_routine W d

-- the request may bring a reply right and has this id
abbrev pub is_routine_of : ℕ → RequestForm → Bool
is_routine_of id f = brings_reply f && f.id == id

-- the item stands for requests of an interface that has one with this id which may bring a reply
-- right, and class c accepts its replies
abbrev pub is_answered_at : Wiring → ℕ → ℕ → LabelItem → Bool
is_answered_at W id c (RequestOf s) =
    list_any (is_routine_of id) (interface W s).requests && accepts_reply W c s
is_answered_at W id c (ReplyOf s) = false
is_answered_at W id c Destroyed = false

-- a reply right on a port of class c fits the request with this id to class d
unfoldable pub fits_at : Wiring → ℕ → ℕ → ℕ → Bool
fits_at W d id c = if W.replies_fit then list_any (is_answered_at W id c) (label W d) else true

-- the item lets ports be named in port-destroyed requests
abbrev pub is_destroyed_item : LabelItem → Bool
is_destroyed_item (RequestOf s) = false
is_destroyed_item (ReplyOf s) = false
is_destroyed_item Destroyed = true

-- a port of the class may be named in a port-destroyed request
unfoldable pub accepts_destroyed : Wiring → ℕ → Bool
accepts_destroyed W c = list_any is_destroyed_item (label W c)

-- an admit line of the type
abbrev pub is_line_of : ℕ → ℕ × Option ℕ → Bool
is_line_of sort line = line.0 == sort

-- an admit line of the type for the class
abbrev pub admits_by : ℕ → ℕ → ℕ × Option ℕ → Bool
admits_by sort c line = line.0 == sort && unwrap_or (option_map (λ d. d == c) line.1) false

-- A type admits the classes of its admit lines; a type with no such line admits every class. A
-- number that is no class is admitted by no type.
unfoldable pub admits : Wiring → ℕ → ℕ → Bool
admits W sort c =
    nat_lt c (classes W)
    && (if list_any (is_line_of sort) W.admitted then list_any (admits_by sort c) W.admitted
    else true)

-- the verbs are the same
abbrev pub same_verb : Verb → Verb → Bool
same_verb Takes Takes = true
same_verb Gives Gives = true
same_verb Sends Sends = true
same_verb Replies Replies = true
same_verb v u = false

-- a line of the verb for tasks of class t
abbrev pub is_trust_of : Verb → ℕ → TrustLine → Bool
is_trust_of v t line = same_verb v line.verb && line.task == t

-- the right on the class is the one that a line names
abbrev pub is_right_on : PortRight → ℕ → Option (PortRight × ℕ) → Bool
is_right_on r c None = false
is_right_on r c (Some named) = same_right r named.0 && named.1 == c

-- a line of the verb for tasks of class t that names the right on the class
abbrev pub trusts_by : Verb → ℕ → PortRight → ℕ → TrustLine → Bool
trusts_by v t r c line = is_trust_of v t line && is_right_on r c line.right

-- tasks of class t are limited in what they do by the verb
abbrev pub is_limited : Wiring → Verb → ℕ → Bool
is_limited W v t = list_any (is_trust_of v t) W.trusted

-- A task of class t may use the verb with the right on class c: a line of the verb names it, or no
-- line limits the verb for t.
unfoldable pub may : Wiring → Verb → ℕ → PortRight → ℕ → Bool
may W v t r c = if is_limited W v t then list_any (trusts_by v t r c) W.trusted else true
