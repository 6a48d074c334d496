-- Giving one after the other, as loops do.
use Rattle.std.proofs.Common.{◌≡◌, ℕ, ◌<◌, ◌+◌, List, [], ◌∷◌, ◌++◌, length, get_or, drop, take}
use Rattle.std.proofs.Common.{map, refl, sym, ◌∙◌, ap, subst, append_assoc, add-one}
use Rattle.std.specs.Prelude.{Bool, if◌then◌else◌}
use Rattle.std.proofs.lemmas.List.{append-nil, map-append}
use Rattle.std.proofs.Math.Seq.{take-suc}
use Rattle.mrc_base.specs.declared.PortRight.TheVariants.{Send, SendOnce}
use Rattle.mrc_base.specs.declared.memory.OrMemory.{OrMemory}
use Rattle.mrc_base.specs.declared.memory.OrMemory.TheVariants.{Fault, Memory}
use Rattle.mrc_model.specs.declared.Code.{Code}
use Rattle.mrc_model.specs.declared.Item.{Item}
use Rattle.mrc_model.specs.Rights.{given_number}
use Rattle.mrc_model.specs.Message.{Arg, Message}
use Rattle.mrc_model.specs.World.{Space, Store, QueuedArg, Parcel, space, set_space}
use Rattle.mrc_model.specs.Space.{give_item, is_over_full}
use Rattle.mrc_model.specs.CallReceive.{give_items, give_arg, give_args, received, reply_disp}
use Rattle.mrc_desc.specs.declared.argument.Argument.{Argument}
use Rattle.mrc_desc.specs.Laws.{OtherArg, OtherArgs}
use Rattle.mrc_desc.specs.View.{argument_of, arguments_of}
use Rattle.mrc_desc.proofs.Walks.{item_first}
use Rattle.mrc_ports.specs.declared.parcel.QueuedArgument.{QueuedArgument}
use Rattle.mrc_ports.specs.Parcels.{queued_of, unnamed}
use Rattle.mrc_transit.specs.Giving.{IsNotGiven}
use Rattle.mrc_transit.specs.Receiving.{IsOverFilled}
use Rattle.mrc_transit.proofs.ReceiveGrowth.{over_items, over_args, over_reply}
use Rattle.mrc_transit.proofs.ReceiveSizes.{others_more}

-- what was given before, and what comes after
abbrev pub with_front : {Y : Type 0} → List Y → Store × List Y → Store × List Y
with_front ys got = (got.0, ys ++ got.1)

regroup : {Y : Type 0} (ys : List Y) (y : Y) (got : Store × List Y)
    → with_front ys (got.0, y ∷ got.1) ≡ with_front (ys ++ y ∷ []) got
regroup {Y} ys y got = ap (λ (zs : List Y). (got.0, zs)) (simp append_assoc)

-- items

-- from the space x0 on all items come to what these names, and the rest from the space x on, do
abbrev pub ItemsWalk : Space → Space → List Item → List Item → List ℕ → Type 0
ItemsWalk x0 x items rest names =
    (s : Store) (t : ℕ)
    → give_items t (set_space s t x0) items
    ≡ with_front names (give_items t (set_space s t x) rest)

pub items_done : (x0 x : Space) (items rest : List Item) (names : List ℕ)
    → ItemsWalk x0 x items rest names
    → rest ≡ []
    → (s : Store) (t : ℕ)
    → give_items t (set_space s t x0) items ≡ (set_space s t x, names)
items_done x0 x items rest names so_far none s t =
    so_far s t
    ∙ ap (λ r. with_front names (give_items t (set_space s t x) r)) none
    ∙ ap (λ ns. (set_space s t x, ns)) (append-nil names)

pub items_over : (x0 x : Space) (items : List Item) (i : ℕ) (item : Item) (names : List ℕ)
    (e : OrMemory Code)
    → ItemsWalk x0 x items (drop i items) names
    → i < length items
    → item ≡ get_or items i item
    → ((s : Store) (t : ℕ) → IsNotGiven e t (give_item (set_space s t x) t item).0)
    → (s : Store) (t : ℕ)
    → IsOverFilled e (space (give_items t (set_space s t x0) items).0 t)
items_over x0 x items i item names (Fault code) so_far here is over s t = (
  (over s t).0,
  ap (λ (r : Store × List ℕ). is_over_full (space r.0 t))
      (so_far s t ∙ ap (λ r. with_front names (give_items t (set_space s t x) r))
      (item_first items i item here is))
      ∙ over_items t (set_space s t x) item (drop (i + 1) items) (over s t).1,
)
items_over x0 x items i item names Memory so_far here is over s t = tt

-- arguments

-- the same for arguments
abbrev pub ArgsWalk : Space → Space → List QueuedArg → List QueuedArg → List Arg → Type 0
ArgsWalk x0 x args rest got =
    (s : Store) (t : ℕ)
    → give_args t (set_space s t x0) args
    ≡ with_front got (give_args t (set_space s t x) rest)

pub args_next : (x0 x y : Space) (args rest left : List QueuedArg) (a : QueuedArg)
    (got more : List Arg) (b : Arg)
    → ArgsWalk x0 x args rest got
    → rest ≡ a ∷ left
    → ((s : Store) (t : ℕ) → give_arg t (set_space s t x) a ≡ (set_space s t y, b))
    → more ≡ got ++ b ∷ []
    → ArgsWalk x0 y args left more
args_next x0 x y args rest left a got more b so_far is given pushed = λ s t.
    so_far s t
    ∙ ap (λ r. with_front got (give_args t (set_space s t x) r)) is
    ∙ ap (λ (z : Store × Arg). with_front got (
      (give_args t z.0 left).0,
      z.1 ∷ (give_args t z.0 left).1,
    )) (given s t)
    ∙ regroup got b (give_args t (set_space s t y) left)
    ∙ ap (λ ns. with_front ns (give_args t (set_space s t y) left)) (sym pushed)

pub args_done : (x0 x : Space) (args rest : List QueuedArg) (got : List Arg)
    → ArgsWalk x0 x args rest got
    → rest ≡ []
    → (s : Store) (t : ℕ)
    → give_args t (set_space s t x0) args ≡ (set_space s t x, got)
args_done x0 x args rest got so_far none s t =
    so_far s t
    ∙ ap (λ r. with_front got (give_args t (set_space s t x) r)) none
    ∙ ap (λ ns. (set_space s t x, ns)) (append-nil got)

pub args_over : (x0 x : Space) (args rest left : List QueuedArg) (a : QueuedArg)
    (got : List Arg) (e : OrMemory Code)
    → ArgsWalk x0 x args rest got
    → rest ≡ a ∷ left
    → ((s : Store) (t : ℕ) → IsOverFilled e (space (give_arg t (set_space s t x) a).0 t))
    → (s : Store) (t : ℕ)
    → IsOverFilled e (space (give_args t (set_space s t x0) args).0 t)
args_over x0 x args rest left a got (Fault code) so_far is over s t = (
  (over s t).0,
  ap (λ (r : Store × List Arg). is_over_full (space r.0 t))
      (so_far s t ∙ ap (λ r. with_front got (give_args t (set_space s t x) r)) is)
      ∙ over_args t (set_space s t x) a left (over s t).1,
)
args_over x0 x args rest left a got Memory so_far is over s t = tt

-- one argument more, as code has them

pub arguments_pushed : (xs ys : List Argument) (b : Argument)
    → ys ≡ xs ++ b ∷ []
    → arguments_of ys ≡ arguments_of xs ++ argument_of b ∷ []
arguments_pushed xs ys b is = ap arguments_of is ∙ map-append argument_of xs (b ∷ [])

pub others_next : (args : List QueuedArgument) (i : ℕ) (a : QueuedArgument)
    (others more : List Argument) (b : Argument)
    → OtherArgs (map unnamed (map queued_of (take i args))) (arguments_of others)
    → i < length args
    → a ≡ get_or args i a
    → OtherArg (unnamed (queued_of a)) (argument_of b)
    → more ≡ others ++ b ∷ []
    → OtherArgs (map unnamed (map queued_of (take (i + 1) args))) (arguments_of more)
others_next args i a others more b so_far here is one pushed =
    let last : take (i + 1) args ≡ take i args ++ a ∷ [] =
    ap (λ k. take k args) (add-one i) ∙ take-suc args i a here
    ∙ ap (λ z. take i args ++ z ∷ []) (sym is) in
    let front : map unnamed (map queued_of (take (i + 1) args))
    ≡ map unnamed (map queued_of (take i args)) ++ unnamed (queued_of a) ∷ [] =
    ap (λ l. map unnamed (map queued_of l)) last
    ∙ ap (map unnamed) (map-append queued_of (take i args) (a ∷ []))
    ∙ map-append unnamed (map queued_of (take i args)) (queued_of a ∷ []) in
    subst (λ l. OtherArgs l (arguments_of more)) (sym front)
    (subst (OtherArgs (map unnamed (map queued_of (take i args)) ++ unnamed (queued_of a) ∷ []))
    (sym (arguments_pushed others more b pushed))
    (others_more (map unnamed (map queued_of (take i args))) (arguments_of others)
    (unnamed (queued_of a)) (argument_of b) so_far one))

-- the whole message

-- the message under these names
abbrev with_parts : Parcel → ℕ → ℕ → ℕ → List Arg → Message
with_parts m name receipts remote args = record {
  remote_disp = reply_disp m.reply;
  local_disp = if m.by_once then given_number SendOnce else given_number Send;
  remote = remote;
  local = name;
  seqno = receipts;
  id = m.id;
  args = args;
}

pub reply_over : (e : OrMemory Code) (x : Space) (item : Item) (name receipts : ℕ) (m : Parcel)
    → item ≡ m.reply
    → ((s : Store) (t : ℕ) → IsNotGiven e t (give_item (set_space s t x) t item).0)
    → (s : Store) (t : ℕ)
    → IsOverFilled e (space (received (set_space s t x) t name receipts m).0 t)
reply_over (Fault code) x item name receipts m is over s t = (
  (over s t).0,
  over_reply t (set_space s t x) name receipts m
      (ap (λ k. is_over_full (space (give_item (set_space s t x) t k).0 t)) (sym is)
      ∙ (over s t).1),
)
reply_over Memory x item name receipts m is over s t = tt

module _ (x y : Space) (item : Item) (n : ℕ) (args : List QueuedArg) (m : Parcel)
    (reply : item ≡ m.reply)
    (queued : args ≡ m.args)
    (given : (s : Store) (t : ℕ) → give_item (set_space s t x) t item ≡ (set_space s t y, n)) where
  pub rest_over : (e : OrMemory Code) (name receipts : ℕ)
      → ((s : Store) (t : ℕ)
      → IsOverFilled e (space (give_args t (set_space s t y) args).0 t))
      → (s : Store) (t : ℕ)
      → IsOverFilled e (space (received (set_space s t x) t name receipts m).0 t)
  unfolding received
  rest_over e name receipts over s t =
      subst (λ (z : Store × ℕ). IsOverFilled e (space (give_args t z.0 m.args).0 t))
      (sym (ap (give_item (set_space s t x) t) (sym reply) ∙ given s t))
      (subst (λ l. IsOverFilled e (space (give_args t (set_space s t y) l).0 t)) queued (over s t))

  pub received_whole : (z : Space) (got : List Arg) (name receipts remote_disp local_disp id : ℕ)
      (by_once : Bool) (message : Message)
      → ((s : Store) (t : ℕ) → give_args t (set_space s t y) args ≡ (set_space s t z, got))
      → remote_disp ≡ reply_disp item
      → local_disp ≡ (if by_once then given_number SendOnce else given_number Send)
      → by_once ≡ m.by_once
      → id ≡ m.id
      → message ≡ record {
        remote_disp = remote_disp;
        local_disp = local_disp;
        remote = n;
        local = name;
        seqno = receipts;
        id = id;
        args = got;
      }
      → (s : Store) (t : ℕ)
      → received (set_space s t x) t name receipts m ≡ (set_space s t z, message)
  unfolding received
  received_whole z got name receipts remote_disp local_disp id by_once message rest rd ld once ids
      is s t =
      ap (λ (a : Store × ℕ). (
        (give_args t a.0 m.args).0,
        with_parts m name receipts a.1 (give_args t a.0 m.args).1,
      )) (ap (give_item (set_space s t x) t) (sym reply) ∙ given s t)
      ∙ ap (λ (b : Store × List Arg). (b.0, with_parts m name receipts n b.1))
      (ap (give_args t (set_space s t y)) (sym queued) ∙ rest s t)
      ∙ ap (λ k. (set_space s t z, k)) (sym (is ∙ same_parts))
    where
      same_parts : ◌≡◌ {A = Message} (record {
        remote_disp = remote_disp;
        local_disp = local_disp;
        remote = n;
        local = name;
        seqno = receipts;
        id = id;
        args = got;
      }) (with_parts m name receipts n got)
      same_parts = rw (rd, ld, once, ids, reply) refl
