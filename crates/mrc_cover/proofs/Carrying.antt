-- Taking what a message carries.
use Rattle.std.proofs.Common.{Bool, List, None, Ok, Option, Some, [], ap, arith, false}
use Rattle.std.proofs.Common.{if◌then◌else◌, refl, subst, sym, true, ℕ, ◌++◌, ◌+◌, ◌-◌, ◌==◌, ◌∙◌}
use Rattle.std.proofs.Common.{◌∷◌, ◌≡◌, ◌≤◌}
use Rattle.std.proofs.Math.Nat.{le_trans}
use Rattle.mrc_base.specs.Disposition.{given, needed, disp_of_number}
use Rattle.mrc_base.specs.declared.Disp.{Disp}
use Rattle.mrc_base.specs.declared.Disp.TheVariants.{CopySend, MakeSend, MakeSendOnce, MoveReceive}
use Rattle.mrc_base.specs.declared.Disp.TheVariants.{MoveSend, MoveSendOnce}
use Rattle.mrc_base.specs.declared.Fact.TheVariants.{Hold}
use Rattle.mrc_base.specs.declared.PortRight.{PortRight}
use Rattle.mrc_model.proofs.Maps.{not_None, same_Some}
use Rattle.mrc_model.proofs.Tries.{Gives, bind, bind_, checked, found, gives_ok}
use Rattle.mrc_model.specs.CallSend.{admit_item, dead_taken, take_arg, take_args, take_dead}
use Rattle.mrc_model.specs.CallSend.{take_item, take_items, take_live, take_named}
use Rattle.mrc_model.specs.Covers.{Known}
use Rattle.mrc_model.specs.IsIn.{IsIn, here, later}
use Rattle.mrc_model.specs.Map.{get, len}
use Rattle.mrc_model.specs.Message.{Arg, Data, Ports}
use Rattle.mrc_model.specs.Reply.{Reply}
use Rattle.mrc_model.specs.Rules.{FactSet}
use Rattle.mrc_model.specs.Step.{step}
use Rattle.mrc_model.specs.Wiring.{Shape, Wiring, admits, may, type_numbers}
use Rattle.mrc_model.specs.World.{Held, QueuedArg, Store, arg_rights, args_rights, class_of}
use Rattle.mrc_model.specs.World.{item_rights, items_rights, receives, space}
use Rattle.mrc_model.specs.declared.Entry.{Entry}
use Rattle.mrc_model.specs.declared.Entry.TheVariants.{DeadName as DeadEntry, SendOnce as OnceEntry}
use Rattle.mrc_model.specs.declared.Entry.TheVariants.{Receive as ReceiveEntry, Send as SendEntry}
use Rattle.mrc_model.specs.declared.Entry.TheVariants.{PortSet as SetEntry}
use Rattle.mrc_model.specs.declared.Verb.TheVariants.{Sends}
use Rattle.mrc_model.specs.declared.Item.{Item}
use Rattle.mrc_model.specs.declared.Item.TheVariants.{Dead as DeadItem, Null as NullItem}
use Rattle.mrc_model.specs.declared.Item.TheVariants.{Right as RightItem}
use Rattle.mrc_cover.proofs.Entries.{IsLeft, all_is_left, dead_is_left, rights-dead_entry}
use Rattle.mrc_cover.proofs.Entries.{rights_left}
use Rattle.mrc_cover.proofs.Judging.{Fit, Meets, fits_next}
use Rattle.mrc_cover.proofs.Obeyed.{Obeys, obeys}
use Rattle.mrc_cover.proofs.Rights.{Known-along, Known-append, Known-more, MayHold, receives-append}
use Rattle.mrc_cover.proofs.Sound.{Leaves, SoundWith, changes_nothing, changes_then, exchange_hand}
use Rattle.mrc_cover.proofs.Stores.{live_class}
use Rattle.mrc_cover.proofs.Taking.{put_entry_adds_no_name, put_entry_leaves, take_leaves}

module _ (W : Wiring) (G : FactSet) (task : ℕ → ℕ) (A : ℕ → Type 0) where
  -- these rights are taken from the store, and P holds of each and its class
  pub record IsCarried (s : Store) (hand rights : List Held) (P : ℕ → PortRight
      → Type 0) (z : Store) : Type 0 where
    pub leaves : Leaves W G task A s (rights ++ hand) z
    pub known : Known (class_of z) P rights
    pub small : (u : ℕ) → len (space z u) ≤ len (space s u)

  -- no right is taken
  pub carries_nothing : (s : Store) (hand : List Held) (P : ℕ → PortRight → Type 0)
      → SoundWith W G task s hand
      → IsCarried s hand [] P s
  carries_nothing s hand P sound = record {
    leaves = record { sound = sound; changes = changes_nothing A s };
    known = record { all = tt };
    small = λ u. omega arith;
  }

  -- first some rights, then more
  pub carries_then : {r s z : Store} {hand xs ys : List Held} {P : ℕ → PortRight → Type 0}
      → IsCarried r hand xs P s
      → IsCarried s (xs ++ hand) ys P z → IsCarried r hand (xs ++ ys) P z
  carries_then {r} {s} {z} {hand} {xs} {ys} a b = record {
    leaves = record {
      sound = exchange_hand (λ q.
          let c = receives-append q (xs ++ ys) hand in
          let d = receives-append q xs ys in
          let e = receives-append q ys (xs
          ++ hand) in let f = receives-append q xs hand in omega arith) b.leaves.sound;
      changes = changes_then a.leaves.changes b.leaves.changes;
    };
    known = Known-append (Known-along b.leaves.changes.classes a.known) b.known;
    small = λ u. le_trans (b.small u) (a.small u);
  }

  -- what is left of a dead entry has no right
  dead_part : (k : ℕ) (x : Disp) (rest : Option Entry) (F : ℕ → PortRight → Type 0) (at : ℕ
      → Option ℕ)
      → take_dead k x ≡ Some rest → (rights_left rest ≡ []) × IsLeft at F (DeadEntry k) rest
  dead_part k MoveSend rest F at e =
      subst (λ v. (rights_left v ≡ []) × IsLeft at F (DeadEntry k) v) (same_Some _ rest e)
      (rights-dead_entry (k - 1), dead_is_left at F k (k - 1))
  dead_part k MoveSendOnce rest F at e =
      subst (λ v. (rights_left v ≡ []) × IsLeft at F (DeadEntry k) v) (same_Some _ rest e)
      (rights-dead_entry (k - 1), dead_is_left at F k (k - 1))
  dead_part k CopySend rest F at e =
      subst (λ v. (rights_left v ≡ []) × IsLeft at F (DeadEntry k) v) (same_Some _ rest e)
      (refl, all_is_left at F (DeadEntry k))
  dead_part k MoveReceive rest F at e = absurd (not_None rest (sym e))
  dead_part k MakeSend rest F at e = absurd (not_None rest (sym e))
  dead_part k MakeSendOnce rest F at e = absurd (not_None rest (sym e))

  -- only a dead name gives a dead right
  dead_entry_of : (o : Option Entry) (x : Disp) (rest : Option Entry) → dead_taken o x ≡ Some rest
      → (k : ℕ) × (o ≡ Some (DeadEntry k)) × (take_dead k x ≡ Some rest)
  dead_entry_of None x rest e = absurd (not_None rest (sym e))
  dead_entry_of (Some (ReceiveEntry p k i)) x rest e = absurd (not_None rest (sym e))
  dead_entry_of (Some (SendEntry p k)) x rest e = absurd (not_None rest (sym e))
  dead_entry_of (Some (OnceEntry p)) x rest e = absurd (not_None rest (sym e))
  dead_entry_of (Some SetEntry) x rest e = absurd (not_None rest (sym e))
  dead_entry_of (Some (DeadEntry k)) x rest e = (k, refl, e)

  -- what an item carries came by this disposition
  abbrev pub By : ℕ → Disp → ℕ → PortRight → Type 0
  By t x c r = G (Hold (task t) c (needed x)) × (r ≡ given x)

  -- one item: null, dead, or a right that the sender may hold
  pub take_item_carries : Obeys W G
      → (s : Store) (hand : List Held) (t n : ℕ) (x : Disp) (e : Reply) → A t
      → SoundWith W G task s hand
      → Gives (λ (r : Store × Item). IsCarried s hand (item_rights r.1) (By t x) r.0)
      (take_item s t n x e)
  unfolding take_item
  take_item_carries obeys s hand t n x e mine sound = by_null (n == 0)
    where
      by_live : Gives (λ (r : Store
          × Item). IsCarried s hand (item_rights r.1) (By t x) r.0) (take_live s t n x e)
      by_live =
          bind _ _ (take_leaves W G task A obeys s hand t n x e e mine sound)
          (λ got h. gives_ok record {
            leaves = h.leaves;
            known = record { all = ((h.had.0, h.had.1, (h.had.2, refl)), tt) };
            small = h.small;
          })

      by_dead : (o : Option (Option Entry)) → dead_taken (get (space s t) n) x ≡ o
          → Gives (λ (r : Store × Item). IsCarried s hand (item_rights r.1) (By t x) r.0)
          (take_named s t n x e o)
      by_dead None z = by_live
      by_dead (Some rest) z =
          let (k, is, took) = dead_entry_of (get (space s t) n) x rest z in
          let part = dead_part k x rest (MayHold G (task t)) (class_of s) took in
          gives_ok record {
            leaves =
                put_entry_leaves W G task A s hand hand t n (DeadEntry k) rest mine sound is part.1
                (λ q.
                let a = ap (receives q) part.0 in
                omega arith);
            known = record { all = tt };
            small = put_entry_adds_no_name s t n (DeadEntry k) rest is;
          }

      by_gone : (b : Bool)
          → Gives (λ (r : Store × Item). IsCarried s hand (item_rights r.1) (By t x) r.0)
          (if b then Ok (s, DeadItem) else take_named s t n x e (dead_taken (get (space s t) n) x))
      by_gone true = gives_ok (carries_nothing s hand (By t x) sound)
      by_gone false = by_dead (dead_taken (get (space s t) n) x) refl

      by_null : (b : Bool)
          → Gives (λ (r : Store × Item). IsCarried s hand (item_rights r.1) (By t x) r.0)
          (if b then Ok (s, NullItem) else if n == 0xffffffff then Ok (s, DeadItem)
          else take_named s t n x e
          (dead_taken (get (space s t) n) x))
      by_null true = gives_ok (carries_nothing s hand (By t x) sound)
      by_null false = by_gone (n == 0xffffffff)

  -- rights are carried for weaker facts
  pub carries_weaker : {s z : Store} {hand rights : List Held} {P Q : ℕ → PortRight → Type 0}
      → ((c : ℕ) (r : PortRight) → P c r → Q c r) → IsCarried s hand rights P z
      → IsCarried s hand rights Q z
  carries_weaker step c =
      record { leaves = c.leaves; known = Known-more step c.known; small = c.small }

  -- the rule of slots serves a right that is sent by this disposition in a slot of this type
  abbrev Serves : (ℕ → PortRight → Type 0) → ℕ → ℕ → Disp → Type 0
  Serves Q t sort x =
      (c : ℕ) → admits W sort c ≡ true → may W Sends (task t) (given x) c ≡ true
      → G (Hold (task t) c (needed x)) → Q c (given x)

  -- an item of a slot, admitted, and sent by a task that may send it
  admitted : (s z : Store) (hand : List Held) (t sort i : ℕ) (x : Disp) (item : Item) (Q : ℕ
      → PortRight → Type 0)
      → Serves Q t sort x
      → IsCarried s hand (item_rights item) (By t x) z
      → Gives (λ _. IsCarried s hand (item_rights item) Q z)
      (admit_item W (task t) z sort i item)
  admitted s z hand t sort i x NullItem Q step c = gives_ok record {
    leaves = c.leaves;
    known = record { all = tt };
    small = c.small;
  }
  admitted s z hand t sort i x DeadItem Q step c = gives_ok record {
    leaves = c.leaves;
    known = record { all = tt };
    small = c.small;
  }
  admitted s z hand t sort i x (RightItem p r) Q step c =
      bind _ _ (found (get z.ports p) _) (λ y live.
      bind_ _ _ (checked (admits W sort y.class) _) (λ _ yes. record {
        holds = λ a e.
            let trusted = (checked (may W Sends (task t) r y.class) _).holds a e in
            let h = c.known.all.0 in
            let same : y.class ≡ h.0 = same_Some y.class h.0 (sym (live_class z p y live) ∙ h.1) in
            let sends : may W Sends (task t) (given x) h.0 ≡ true =
            subst (λ v. may W Sends (task t) v h.0 ≡ true) h.2.1
            (subst (λ v. may W Sends (task t) r v ≡ true) same trusted) in
            let q : Q h.0 (given x) = step h.0 (rw same at yes) sends h.2.0 in
            record {
              leaves = c.leaves;
              known =
                  record { all = ((h.0, h.1, rw (sym h.2.1) at q), tt) };
              small = c.small;
            };
      }))

  -- the items of one argument
  take_items_carry : Obeys W G
      → (s : Store) (hand : List Held) (t sort i : ℕ) (x : Disp) (ns : List ℕ) (Q : ℕ → PortRight
      → Type 0)
      → Serves Q t sort x → A t
      → SoundWith W G task s hand
      → Gives (λ (r : Store × List Item). IsCarried s hand (items_rights r.1) Q r.0)
      (take_items W (task t) t x sort i s ns)
  take_items_carry obeys s hand t sort i x [] Q step mine sound =
      gives_ok (carries_nothing s hand Q sound)
  take_items_carry obeys s hand t sort i x (n ∷ ns) Q step mine sound =
      bind _ _ (take_item_carries obeys s hand t n x _ mine sound) (λ a h.
      bind_ _ _ (admitted s a.0 hand t sort i x a.1 Q step h) (λ _ g.
      bind _ _ (take_items_carry obeys a.0 (item_rights a.1
      ++ hand) t sort i x ns Q step mine g.leaves.sound) (λ b k.
      gives_ok (carries_then g k))))

  -- the argument carries rights by this disposition
  abbrev CarriesBy : Arg → Disp → Type 0
  CarriesBy (Data name size number bytes) x = ⊥
  CarriesBy (Ports disp names) x = disp_of_number disp ≡ Some x

  -- one argument
  take_arg_carries : Obeys W G
      → (s : Store) (hand : List Held) (t sort i : ℕ) (a : Arg) (Q : ℕ → PortRight → Type 0)
      → ((x : Disp) → CarriesBy a x → Serves Q t sort x)
      → A t → SoundWith W G task s hand
      → Gives (λ (r : Store × QueuedArg). IsCarried s hand (arg_rights r.1) Q r.0)
      (take_arg W (task t) t sort i s a)
  take_arg_carries obeys s hand t sort i (Data name size number bytes) Q step mine sound =
      gives_ok (carries_nothing s hand Q sound)
  take_arg_carries obeys s hand t sort i (Ports disp names) Q step mine sound =
      bind _ _ (found (disp_of_number disp) _) (λ x is.
      bind _ _
      (take_items_carry obeys s hand t sort i x names Q (step x is) mine sound)
      (λ b k.
      gives_ok k))

  -- the rule of slots serves each argument
  abbrev pub IsSlotOf : (ℕ → PortRight → Type 0) → ℕ → Shape → Type 0
  IsSlotOf Q t s =
      (n : ℕ) (x : Disp) → IsIn n (type_numbers s.types) → disp_of_number n ≡ Some x
      → Serves Q t s.sort x

  -- so an argument that meets the shape
  slot_serves : (Q : ℕ → PortRight → Type 0) (t : ℕ) (s : Shape) (a : Arg) → Meets s a
      → IsSlotOf Q t s → (x : Disp) → CarriesBy a x → Serves Q t s.sort x
  slot_serves Q t s (Data name size number bytes) met step x by = absurd by
  slot_serves Q t s (Ports disp names) met step x by = step disp x met by

  -- all arguments
  pub take_args_carry : Obeys W G
      → (s : Store) (hand : List Held) (t i : ℕ) (ss : List Shape) (xs : List Arg) (Q : ℕ
      → PortRight → Type 0)
      → Fit ss xs → ((h : Shape) → IsIn h ss → IsSlotOf Q t h) → A t → SoundWith W G task s hand
      → Gives (λ (r : Store × List QueuedArg). IsCarried s hand (args_rights r.1) Q r.0)
      (take_args W (task t) t i ss s xs)
  take_args_carry obeys s hand t i ss [] Q fit step mine sound =
      gives_ok (carries_nothing s hand Q sound)
  take_args_carry obeys s hand t i [] (a ∷ more) Q fit step mine sound = elim fit [ ]
  take_args_carry obeys s hand t i (h ∷ ss) (a ∷ more) Q (fits_next k fit) step mine sound =
      bind _ _ (take_arg_carries obeys s hand t h.sort i a Q
      (slot_serves Q t h a k (step h (here))) mine sound) (λ b l.
      bind _ _ (take_args_carry obeys b.0 (arg_rights b.1 ++ hand) t (i + 1) ss more Q fit
      (λ v j. step v (later j)) mine l.leaves.sound) (λ d m.
      gives_ok (carries_then l m)))
