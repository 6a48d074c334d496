-- The names and the arguments of a message, one after the other.
use Rattle.std.proofs.Common.{◌≡◌, ℕ, zero, suc, ◌+◌, ◌-◌, ◌<◌, ◌≤◌, List, [], ◌∷◌, ◌++◌, length}
use Rattle.std.proofs.Common.{drop, get_or, Ok, Err, refl, sym, ◌∙◌, ap, subst, append_assoc}
use Rattle.std.proofs.Common.{add-one, arith}
use Rattle.std.proofs.Common.{Result, OnOk}
use Rattle.std.specs.List.{flat_map}
use Rattle.std.proofs.lemmas.List.{append-nil, drop_all}
use Rattle.mrc_base.specs.declared.Disp.{Disp}
use Rattle.mrc_base.specs.declared.Disp.TheVariants.{MoveReceive, MoveSend, MoveSendOnce, CopySend}
use Rattle.mrc_base.specs.declared.Disp.TheVariants.{MakeSend, MakeSendOnce}
use Rattle.mrc_base.specs.Disposition.{given, disp_number}
use Rattle.mrc_model.specs.declared.Item.{Item}
use Rattle.mrc_model.specs.declared.Code.TheVariants.{MachSendInvalidRight}
use Rattle.mrc_model.specs.Message.{Arg, Ports}
use Rattle.mrc_model.specs.Wiring.{Wiring, Shape}
use Rattle.mrc_model.specs.World.{Space, Store, QueuedArg, QueuedData, QueuedItems}
use Rattle.mrc_model.specs.Reply.{Reply, Refused, Try, ◌>>=◌, ◌>>◌, or_refuse}
use Rattle.mrc_model.specs.CallSend.{take_item, admit_item, take_items, take_arg, take_args}
use Rattle.mrc_model.specs.CallSend.{first_sort, rest_of}
use Rattle.mrc_desc.specs.declared.argument.Argument.{Argument}
use Rattle.mrc_desc.specs.declared.argument.Argument.TheVariants.{Data as DataArgument}
use Rattle.mrc_desc.specs.declared.argument.Desc.{Desc}
use Rattle.mrc_desc.specs.View.{argument_of, arguments_of}
use Rattle.mrc_desc.proofs.Walks.{item_first}
use Rattle.mrc_names.specs.Leaving.{AreRests}
use Rattle.mrc_transit.specs.Room.{carried_by}
use Rattle.mrc_transit.specs.Staging.{Scratch, staged, taken_of, HasRoom, Spends, limit_of_taken}
use Rattle.mrc_transit.specs.Sending.{take_admitted}
use Rattle.mrc_transit.specs.Queueing.{names_in, names_of}
use Rattle.mrc_transit.proofs.StagingLaws.{fewer, spent_item}

-- what the rest gives stands behind these
abbrev pub onto : {A : Type 0} → List A → Try (Store × List A) → Try (Store × List A)
onto xs (Ok got) = Ok (got.0, xs ++ got.1)
onto xs (Err e) = Err e

-- one more of them
pub onto_more : {A : Type 0} (xs : List A) (x : A) (m : Try (Store × List A))
    → onto xs (onto (x ∷ []) m) ≡ onto (xs ++ x ∷ []) m
onto_more xs x (Ok got) = ap (λ ys. Ok (got.0, ys)) (sym (append_assoc xs (x ∷ []) got.1))
onto_more xs x (Err e) = refl

-- what comes first is given, and then the rest
abbrev before : {A : Type 0} → A → Try (Store × List A) → Try (Store × List A)
before x m = m >>= λ more. Ok (more.0, x ∷ more.1)

onto_one : {A : Type 0} (x : A) (m : Try (Store × List A)) → before x m ≡ onto (x ∷ []) m
unfolding ◌>>=◌
onto_one x (Ok got) = refl
onto_one x (Err e) = refl

-- a name that was not taken refuses the name
pub name_refused : (W : Wiring) (own t sort i n : ℕ) (x : Disp) (s : Store) (e : Reply)
    → take_item s t n x (Refused MachSendInvalidRight) ≡ Err e
    → take_admitted W own t x sort i s n ≡ Err e
unfolding take_admitted ◌>>=◌
name_refused W own t sort i n x s e is = rw is refl

-- the names of one argument

-- what one name carries, and the store after it
abbrev carried : Store → Item → Try (Store × Item)
carried z item = Ok (z, item)

module _ (W : Wiring) (own t : ℕ) (x : Disp) (sort i : ℕ) where
  items_by_first : (s : Store) (n : ℕ) (ns : List ℕ)
      → take_items W own t x sort i s (n ∷ ns)
      ≡ (take_admitted W own t x sort i s n >>= λ got. before got.1 (take_items W own t x sort i
      got.0 ns))
  unfolding take_admitted ◌>>=◌ ◌>>◌
  items_by_first s n ns = go (take_item s t n x (Refused MachSendInvalidRight))
    where
      admitted : (z : Store) (item : Item) (a : Try (Unit {0}))
          → (a >> before item (take_items W own t x sort i z ns))
          ≡ ((a >> carried z item) >>= λ got. before got.1 (take_items W own t x sort i got.0 ns))
      admitted z item (Ok u) = refl
      admitted z item (Err e) = refl

      go : (m : Try (Store × Item))
          → (m >>= λ got. admit_item W own got.0 sort i got.1
          >> before got.1 (take_items W own t x sort i got.0 ns))
          ≡ ((m >>= λ got. admit_item W own got.0 sort i got.1 >> carried got.0 got.1)
          >>= λ got. before got.1 (take_items W own t x sort i got.0 ns))
      go (Ok got) = admitted got.0 got.1 (admit_item W own got.0 sort i got.1)
      go (Err e) = refl

  -- the first name is taken
  items_more : (s z : Store) (n : ℕ) (ns : List ℕ) (item : Item)
      → take_admitted W own t x sort i s n ≡ Ok (z, item)
      → take_items W own t x sort i s (n ∷ ns) ≡ onto (item ∷ []) (take_items W own t x sort i z ns)
  unfolding ◌>>=◌
  items_more s z n ns item is =
      items_by_first s n ns ∙ rw is (onto_one item (take_items W own t x sort i z ns))

  -- or refused
  items_stop : (s : Store) (n : ℕ) (ns : List ℕ) (e : Reply)
      → take_admitted W own t x sort i s n ≡ Err e
      → take_items W own t x sort i s (n ∷ ns) ≡ Err e
  unfolding ◌>>=◌
  items_stop s n ns e is = items_by_first s n ns ∙ rw is refl

  -- so far
  abbrev pub ItemsSoFar : Store → Store → List Item → ℕ → List ℕ → Type 0
  ItemsSoFar s z items k names =
      take_items W own t x sort i s names ≡ onto items (take_items W own t x sort i z (drop k
      names))

  pub items_begun : (s : Store) (names : List ℕ) → ItemsSoFar s s [] 0 names
  items_begun s names = sym (onto_none (take_items W own t x sort i s names))
    where
      onto_none : (m : Try (Store × List Item)) → onto [] m ≡ m
      onto_none (Ok got) = refl
      onto_none (Err e) = refl

  module _ (s z : Store) (items : List Item) (k n : ℕ) (names : List ℕ)
      (far : ItemsSoFar s z items k names)
      (less : k < length names)
      (here : n ≡ get_or names k n) where
    at_name : take_items W own t x sort i s names
        ≡ onto items (take_items W own t x sort i z (n ∷ drop (k + 1) names))
    at_name =
        far ∙ ap (λ ns. onto items (take_items W own t x sort i z ns)) (item_first names k n less
        here)

    pub items_turn : (y : Store) (item : Item)
        → take_admitted W own t x sort i z n ≡ Ok (y, item)
        → ItemsSoFar s y (items ++ item ∷ []) (k + 1) names
    items_turn y item is =
        at_name ∙ ap (onto items) (items_more z y n (drop (k + 1) names) item is)
        ∙ onto_more items item (take_items W own t x sort i y (drop (k + 1) names))

    pub items_refused : (e : Reply)
        → take_admitted W own t x sort i z n ≡ Err e
        → take_items W own t x sort i s names ≡ Err e
    items_refused e is = at_name ∙ ap (onto items) (items_stop z n (drop (k + 1) names) e is)

  -- no name is left
  pub items_done : (s z : Store) (items : List Item) (k : ℕ) (names : List ℕ)
      → ItemsSoFar s z items k names
      → length names ≤ k
      → take_items W own t x sort i s names ≡ Ok (z, items)
  items_done s z items k names far most =
      far ∙ ap (λ ns. onto items (take_items W own t x sort i z ns)) (drop_all k names most)
      ∙ ap (λ xs. Ok (z, xs)) (append-nil items)

-- one argument

module _ (W : Wiring) (own t sort i : ℕ) where
  arg_by_items : (s : Store) (x : Disp) (names : List ℕ)
      → take_arg W own t sort i s (Ports (disp_number x) names)
      ≡ (take_items W own t x sort i s names >>= λ got. Ok (got.0, QueuedItems (given x) got.1))
  unfolding ◌>>=◌ or_refuse
  arg_by_items s MoveReceive names = refl
  arg_by_items s MoveSend names = refl
  arg_by_items s MoveSendOnce names = refl
  arg_by_items s CopySend names = refl
  arg_by_items s MakeSend names = refl
  arg_by_items s MakeSendOnce names = refl

  pub arg_taken : (s z : Store) (x : Disp) (names : List ℕ) (items : List Item)
      → take_items W own t x sort i s names ≡ Ok (z, items)
      → take_arg W own t sort i s (Ports (disp_number x) names)
      ≡ Ok (z, QueuedItems (given x) items)
  unfolding ◌>>=◌
  arg_taken s z x names items is = arg_by_items s x names ∙ rw is refl

  pub arg_refused : (s : Store) (x : Disp) (names : List ℕ) (e : Reply)
      → take_items W own t x sort i s names ≡ Err e
      → take_arg W own t sort i s (Ports (disp_number x) names) ≡ Err e
  unfolding ◌>>=◌
  arg_refused s x names e is = arg_by_items s x names ∙ rw is refl

-- what holds of a value follows
pub on_ok : {A E : Type 0} (r : Result A E) (P Q : Type 0) → (P → Q) → OnOk r P → OnOk r Q
on_ok (Ok x) P Q f h = f h
on_ok (Err e) P Q f h = tt

-- the same from what code tells
module _ (W : Wiring) (own sort i : ℕ) (s : Store) (y : Space) (a : Argument) (old : Scratch) where
  pub data_taken : (desc : Desc) (bytes : List ℕ)
      → a ≡ DataArgument desc bytes
      → (queued : QueuedArg) × (old.items ≡ old.items ++ carried_by queued)
      × ((t : ℕ) → take_arg W own t sort i (staged s t (taken_of y old)) (argument_of a)
      ≡ Ok (staged s t (taken_of y old), queued))
  data_taken desc bytes is = (
    QueuedData desc.name desc.size desc.number bytes,
    sym (append-nil old.items),
    λ t. ap (λ b. take_arg W own t sort i (staged s t (taken_of y old)) (argument_of b)) is,
  )

  module _ (x : Disp) (names : List ℕ) (is : argument_of a ≡ Ports (disp_number x) names) where
    pub ports_taken : (new : Scratch)
        → ((items : List Item) × (new.items ≡ old.items ++ items)
        × ((t : ℕ) → take_items W own t x sort i (staged s t (taken_of y old)) names
        ≡ Ok (staged s t (taken_of y new), items)))
        → (queued : QueuedArg) × (new.items ≡ old.items ++ carried_by queued)
        × ((t : ℕ) → take_arg W own t sort i (staged s t (taken_of y old)) (argument_of a)
        ≡ Ok (staged s t (taken_of y new), queued))
    ports_taken new took = (
      QueuedItems (given x) took.0,
      took.1,
      λ t. ap (take_arg W own t sort i (staged s t (taken_of y old))) is
          ∙ arg_taken W own t sort i (staged s t (taken_of y old)) (staged s t (taken_of y new))
          x names took.0 (took.2 t),
    )

    pub ports_refused : (e : Reply)
        → ((t : ℕ) → take_items W own t x sort i (staged s t (taken_of y old)) names ≡ Err e)
        → (t : ℕ)
        → take_arg W own t sort i (staged s t (taken_of y old)) (argument_of a) ≡ Err e
    ports_refused e refused t =
        ap (take_arg W own t sort i (staged s t (taken_of y old))) is
        ∙ arg_refused W own t sort i (staged s t (taken_of y old)) x names e (refused t)

    pub ports_spent : (new : Scratch) → Spends (length names) old new
        → Spends (names_in (argument_of a)) old new
    ports_spent new spent n room =
        spent n (subst (λ k. HasRoom (n + k) old) (ap names_in is) room)

-- all arguments

rest_after : (k : ℕ) (shapes : List Shape) → rest_of (drop k shapes) ≡ drop (suc k) shapes
rest_after zero [] = refl
rest_after zero (s ∷ ss) = refl
rest_after (suc k) [] = refl
rest_after (suc k) (s ∷ ss) = rest_after k ss

rest_drop : (k : ℕ) (shapes : List Shape) → rest_of (drop k shapes) ≡ drop (k + 1) shapes
rest_drop k shapes = rest_after k shapes ∙ ap (λ n. drop n shapes) (sym (add-one k))

module _ (W : Wiring) (own t : ℕ) where
  args_more : (i : ℕ) (shapes : List Shape) (s z : Store) (a : Arg) (more : List Arg)
      (q : QueuedArg)
      → take_arg W own t (first_sort shapes) i s a ≡ Ok (z, q)
      → take_args W own t i shapes s (a ∷ more)
      ≡ onto (q ∷ []) (take_args W own t (i + 1) (rest_of shapes) z more)
  unfolding ◌>>=◌
  args_more i shapes s z a more q is =
      rw is (onto_one q (take_args W own t (i + 1) (rest_of shapes) z more))

  args_stop : (i : ℕ) (shapes : List Shape) (s : Store) (a : Arg) (more : List Arg) (e : Reply)
      → take_arg W own t (first_sort shapes) i s a ≡ Err e
      → take_args W own t i shapes s (a ∷ more) ≡ Err e
  unfolding ◌>>=◌
  args_stop i shapes s a more e is = rw is refl

  module _ (shapes : List Shape) where
    -- so far
    abbrev pub ArgsSoFar : Store → Store → List QueuedArg → ℕ → List Argument → Type 0
    ArgsSoFar s z queued k args =
        take_args W own t 0 shapes s (arguments_of args)
        ≡ onto queued (take_args W own t k (drop k shapes) z (arguments_of (drop k args)))

    pub args_begun : (s : Store) (args : List Argument) → ArgsSoFar s s [] 0 args
    args_begun s args = sym (onto_none (take_args W own t 0 shapes s (arguments_of args)))
      where
        onto_none : (m : Try (Store × List QueuedArg)) → onto [] m ≡ m
        onto_none (Ok got) = refl
        onto_none (Err e) = refl

    module _ (s z : Store) (queued : List QueuedArg) (k sort : ℕ) (a : Argument)
        (args : List Argument)
        (far : ArgsSoFar s z queued k args)
        (less : k < length args)
        (here : a ≡ get_or args k a)
        (sort_is : sort ≡ first_sort (drop k shapes)) where
      at_arg : take_args W own t 0 shapes s (arguments_of args)
          ≡ onto queued (take_args W own t k (drop k shapes) z
          (argument_of a ∷ arguments_of (drop (k + 1) args)))
      at_arg = far ∙ ap (λ rest. onto queued
          (take_args W own t k (drop k shapes) z (arguments_of rest)))
          (item_first args k a less here)

      pub args_turn : (y : Store) (q : QueuedArg)
          → take_arg W own t sort k z (argument_of a) ≡ Ok (y, q)
          → ArgsSoFar s y (queued ++ q ∷ []) (k + 1) args
      args_turn y q is =
          let rest = arguments_of (drop (k + 1) args) in
          at_arg ∙ ap (onto queued) (args_more k (drop k shapes) z y (argument_of a)
          rest q (ap (λ n. take_arg W own t n k z (argument_of a)) (sym sort_is) ∙ is))
          ∙ onto_more queued q (take_args W own t (k + 1) (rest_of (drop k shapes)) y rest)
          ∙ ap (λ ss. onto (queued ++ q ∷ []) (take_args W own t (k + 1) ss y rest))
          (rest_drop k shapes)

      pub args_refused : (e : Reply)
          → take_arg W own t sort k z (argument_of a) ≡ Err e
          → take_args W own t 0 shapes s (arguments_of args) ≡ Err e
      args_refused e is =
          at_arg ∙ ap (onto queued) (args_stop k (drop k shapes) z (argument_of a)
          (arguments_of (drop (k + 1) args)) e
          (ap (λ n. take_arg W own t n k z (argument_of a)) (sym sort_is) ∙ is))

    -- no argument is left
    pub args_done : (s z : Store) (queued : List QueuedArg) (k : ℕ) (args : List Argument)
        → ArgsSoFar s z queued k args
        → length args ≤ k
        → take_args W own t 0 shapes s (arguments_of args) ≡ Ok (z, queued)
    args_done s z queued k args far most =
        far ∙ ap (λ rest. onto queued (take_args W own t k (drop k shapes) z (arguments_of rest)))
        (drop_all k args most)
        ∙ ap (λ qs. Ok (z, qs)) (append-nil queued)

-- the same for what the scratch has

-- behind the items that were there are those of so many names
pub record ItemsAre (W : Wiring) (own : ℕ) (x : Disp) (sort i : ℕ) (s : Store) (y : Space)
    (old new : Scratch) (k : ℕ) (names : List ℕ) : Type 0 where
  pub items : List Item
  pub behind : new.items ≡ old.items ++ items
  pub far : (t : ℕ) → ItemsSoFar W own t x sort i (staged s t (taken_of y old))
      (staged s t (taken_of y new)) items k names
  pub rests : AreRests y old.rests → AreRests y new.rests
  pub room : (n : ℕ) → HasRoom (n + length names) old → HasRoom (n + (length names - k)) new

module _ (W : Wiring) (own : ℕ) (x : Disp) (sort i : ℕ) (s : Store) (y : Space) where
  pub items_none : (old : Scratch) (names : List ℕ) → ItemsAre W own x sort i s y old old 0 names
  items_none old names = record {
    items = [];
    behind = sym (append-nil old.items);
    far = λ t. items_begun W own t x sort i (staged s t (taken_of y old)) names;
    rests = λ r. r;
    room = λ n r. fewer (n + length names) (n + (length names - 0)) old (omega arith) r;
  }

  module _ (old mid : Scratch) (k n : ℕ) (names : List ℕ)
      (are : ItemsAre W own x sort i s y old mid k names)
      (less : k < length names)
      (here : n ≡ get_or names k n) where
    pub items_room : HasRoom (length names) old → HasRoom 1 mid
    items_room room =
        fewer (0 + (length names - k)) 1 mid (omega arith)
        (are.room 0 (fewer (length names) (0 + length names) old (omega arith) room))

    -- and for its item
    pub item_room : (next : Scratch) → next.items ≡ mid.items → HasRoom (length names) old
        → length next.items < limit_of_taken
    item_room next same room =
        omega (arith, (items_room room).items, ap (λ (xs : List Item). length xs) same)

    pub items_stopped : (e : Reply)
        → ((t : ℕ) → take_admitted W own t x sort i (staged s t (taken_of y mid)) n ≡ Err e)
        → (t : ℕ)
        → take_items W own t x sort i (staged s t (taken_of y old)) names ≡ Err e
    items_stopped e refused t =
        items_refused W own t x sort i (staged s t (taken_of y old)) (staged s t (taken_of y mid))
        are.items k n names (are.far t) less here e (refused t)

    module _ (next new : Scratch) (item : Item)
        (took : (t : ℕ) → take_admitted W own t x sort i (staged s t (taken_of y mid)) n
        ≡ Ok (staged s t (taken_of y next), item))
        (kept : AreRests y mid.rests → AreRests y next.rests)
        (spent : Spends 1 mid next)
        (same : next.items ≡ mid.items)
        (left : new ≡ record next { items = next.items ++ item ∷ [] }) where
      pub items_next : ItemsAre W own x sort i s y old new (k + 1) names
      items_next = record {
        items = are.items ++ item ∷ [];
        behind =
            ap (λ (z : Scratch). z.items) left
            ∙ ap (λ xs. xs ++ item ∷ []) (same ∙ are.behind)
            ∙ append_assoc old.items are.items (item ∷ []);
        far = λ t.
            subst (λ z. ItemsSoFar W own t x sort i (staged s t (taken_of y old))
            (staged s t z) (are.items ++ item ∷ []) (k + 1) names) (ap (taken_of y) (sym left))
            (items_turn W own t x sort i (staged s t (taken_of y old))
            (staged s t (taken_of y mid)) are.items k n names (are.far t) less here
            (staged s t (taken_of y next)) item (took t));
        rests = λ r. subst (AreRests y) (ap (λ (z : Scratch). z.rests) (sym left))
            (kept (are.rests r));
        room = λ m r.
            let before : HasRoom ((m + (length names - (k + 1))) + 1) mid =
            fewer (m + (length names - k)) ((m + (length names - (k + 1))) + 1) mid (omega arith)
            (are.room m r) in
            spent_item (m + (length names - (k + 1))) mid next new item before
            (spent (m + (length names - (k + 1))) before) same left;
      }

  pub items_all : (old new : Scratch) (k : ℕ) (names : List ℕ)
      → ItemsAre W own x sort i s y old new k names
      → length names ≤ k
      → (items : List Item) × (new.items ≡ old.items ++ items)
      × ((t : ℕ) → take_items W own t x sort i (staged s t (taken_of y old)) names
      ≡ Ok (staged s t (taken_of y new), items))
  items_all old new k names are most = (
    are.items,
    are.behind,
    λ t. items_done W own t x sort i (staged s t (taken_of y old)) (staged s t (taken_of y new))
        are.items k names (are.far t) most,
  )

  pub items_spent : (old new : Scratch) (k : ℕ) (names : List ℕ)
      → ItemsAre W own x sort i s y old new k names
      → Spends (length names) old new
  items_spent old new k names are = λ n r.
      fewer (n + (length names - k)) n new (omega arith) (are.room n r)

-- behind the items that were there are those of so many arguments
pub record ArgsAre (W : Wiring) (own : ℕ) (shapes : List Shape) (s : Store) (y : Space)
    (old new : Scratch) (k : ℕ) (args : List Argument) : Type 0 where
  pub queued : List QueuedArg
  pub behind : new.items ≡ old.items ++ flat_map carried_by queued
  pub far : (t : ℕ) → ArgsSoFar W own t shapes (staged s t (taken_of y old))
      (staged s t (taken_of y new)) queued k args
  pub rests : AreRests y old.rests → AreRests y new.rests
  pub room : HasRoom (names_of (arguments_of args)) old
      → HasRoom (names_of (arguments_of (drop k args))) new

-- what one more argument carries
carried_more : (qs : List QueuedArg) (q : QueuedArg)
    → flat_map carried_by (qs ++ q ∷ []) ≡ flat_map carried_by qs ++ carried_by q
carried_more [] q = append-nil (carried_by q)
carried_more (p ∷ qs) q =
    ap (λ xs. carried_by p ++ xs) (carried_more qs q)
    ∙ sym (append_assoc (carried_by p) (flat_map carried_by qs) (carried_by q))

module _ (W : Wiring) (own : ℕ) (shapes : List Shape) (s : Store) (y : Space) where
  pub args_none : (old : Scratch) (args : List Argument) → ArgsAre W own shapes s y old old 0 args
  args_none old args = record {
    queued = [];
    behind = sym (append-nil old.items);
    far = λ t. args_begun W own t shapes (staged s t (taken_of y old)) args;
    rests = λ r. r;
    room = λ r. r;
  }

  module _ (old mid : Scratch) (k sort : ℕ) (a : Argument) (args : List Argument)
      (are : ArgsAre W own shapes s y old mid k args)
      (less : k < length args)
      (here : a ≡ get_or args k a)
      (sort_is : sort ≡ first_sort (drop k shapes)) where
    -- room for this argument and those behind it
    room_here : HasRoom (names_of (arguments_of args)) old
        → HasRoom (names_in (argument_of a) + names_of (arguments_of (drop (k + 1) args))) mid
    room_here room =
        subst (λ rest. HasRoom (names_of (arguments_of rest)) mid)
        (item_first args k a less here) (are.room room)

    pub args_room : HasRoom (names_of (arguments_of args)) old
        → HasRoom (names_in (argument_of a)) mid
    args_room room =
        fewer (names_in (argument_of a) + names_of (arguments_of (drop (k + 1) args)))
        (names_in (argument_of a)) mid (omega arith) (room_here room)

    pub args_stopped : (e : Reply)
        → ((t : ℕ) → take_arg W own t sort k (staged s t (taken_of y mid)) (argument_of a) ≡ Err e)
        → (t : ℕ)
        → take_args W own t 0 shapes (staged s t (taken_of y old)) (arguments_of args) ≡ Err e
    args_stopped e refused t =
        args_refused W own t shapes (staged s t (taken_of y old)) (staged s t (taken_of y mid))
        are.queued k sort a args (are.far t) less here sort_is e (refused t)

    pub args_next : (new : Scratch)
        → ((queued : QueuedArg) × (new.items ≡ mid.items ++ carried_by queued)
        × ((t : ℕ) → take_arg W own t sort k (staged s t (taken_of y mid)) (argument_of a)
        ≡ Ok (staged s t (taken_of y new), queued)))
        → (AreRests y mid.rests → AreRests y new.rests)
        → Spends (names_in (argument_of a)) mid new
        → ArgsAre W own shapes s y old new (k + 1) args
    args_next new took kept spent = record {
      queued = are.queued ++ took.0 ∷ [];
      behind =
          took.1 ∙ ap (λ xs. xs ++ carried_by took.0) are.behind
          ∙ append_assoc old.items (flat_map carried_by are.queued) (carried_by took.0)
          ∙ ap (λ xs. old.items ++ xs) (sym (carried_more are.queued took.0));
      far = λ t. args_turn W own t shapes (staged s t (taken_of y old))
          (staged s t (taken_of y mid)) are.queued k sort a args (are.far t) less here sort_is
          (staged s t (taken_of y new)) took.0 (took.2 t);
      rests = λ r. kept (are.rests r);
      room = λ r.
          let rest = names_of (arguments_of (drop (k + 1) args)) in
          spent rest (fewer (names_in (argument_of a) + rest) (rest + names_in (argument_of a)) mid
          (omega arith) (room_here r));
    }

  pub args_all : (old new : Scratch) (k : ℕ) (args : List Argument)
      → ArgsAre W own shapes s y old new k args
      → length args ≤ k
      → (queued : List QueuedArg) × (new.items ≡ old.items ++ flat_map carried_by queued)
      × ((t : ℕ) → take_args W own t 0 shapes (staged s t (taken_of y old)) (arguments_of args)
      ≡ Ok (staged s t (taken_of y new), queued))
  args_all old new k args are most = (
    are.queued,
    are.behind,
    λ t. args_done W own t shapes (staged s t (taken_of y old)) (staged s t (taken_of y new))
        are.queued k args (are.far t) most,
  )
