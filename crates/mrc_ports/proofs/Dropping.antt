-- Ports that leave one after the other, and then the others as that leaves them.
use Rattle.std.proofs.Common.{◌≡◌, ℕ, suc, ◌<◌, ◌≤◌, nat_lt, Bool, true, false, ◌&&◌, List}
use Rattle.std.proofs.Common.{[], ◌∷◌, map, length, Option, Some, None, refl, sym, ◌∙◌, ap, arith}
use Rattle.std.proofs.Common.{inl, inr, if◌then◌else◌}
use Rattle.std.proofs.lemmas.Bool.{cases_eq, ltb-true, ltb-false, lt-ltb, and_right}
use Rattle.std.specs.Option.{option_and_then}
use Rattle.mrc_model.specs.declared.Backup.{Backup}
use Rattle.mrc_model.specs.declared.Backup.TheVariants.{Absent as NoBackup, Dead as DeadBackup}
use Rattle.mrc_model.specs.declared.Backup.TheVariants.{Port as BackupPort}
use Rattle.mrc_model.specs.declared.Item.{Item}
use Rattle.mrc_model.specs.declared.Item.TheVariants.{Null as NullItem, Dead as DeadItem}
use Rattle.mrc_model.specs.declared.Item.TheVariants.{Right as RightItem}
use Rattle.mrc_model.specs.declared.Entry.{Entry}
use Rattle.mrc_model.specs.declared.Entry.TheVariants.{Receive as ReceiveEntry, Send as SendEntry}
use Rattle.mrc_model.specs.declared.Entry.TheVariants.{SendOnce as OnceEntry, PortSet as SetEntry}
use Rattle.mrc_model.specs.declared.Entry.TheVariants.{DeadName as DeadEntry}
use Rattle.mrc_model.specs.Map.{Map, get, remove, alter_all}
use Rattle.mrc_model.specs.World.{QueuedArg, QueuedData, QueuedItems, Parcel, Port, Space, Store}
use Rattle.mrc_model.specs.Death.{has, perished_entry, perished_item, perished_arg}
use Rattle.mrc_model.specs.Death.{perished_parcel, perished_backup, perished_port, bury}
use Rattle.mrc_model.proofs.Maps.{get-alter_all, get-remove_same, get-remove_other, if_false}
use Rattle.mrc_map.specs.Members.{above, IsMember, IsFirst}
use Rattle.mrc_map.proofs.SameMaps.{same_map}
use Rattle.mrc_ports.specs.Burials.{left_of, without}

-- the members below a number are gone
abbrev pub AreGone : List ℕ → ℕ → Map Port → Map Port → Type 0
AreGone dead below was now =
    (q : ℕ) → get now q ≡ (if nat_lt q below && has dead q then None else get was q)

module _ (dead : List ℕ) (last : Option ℕ) where
  -- whether a port is gone, once the next one is
  gone_too : (p q : ℕ)
      → IsMember dead (above last) p
      → (q ≡ p → ⊥)
      → (nat_lt q (above last) && has dead q) ≡ (nat_lt q (suc p) && has dead q)
  gone_too p q m apart =
      let up : above last ≤ p = m.above in
      elim (nat_lt q (above last)) as (λ b. nat_lt q (above last) ≡ b
      → (b && has dead q) ≡ (nat_lt q (suc p) && has dead q)) [
        | true ↦ λ t.
            let low : q < above last = ltb-true q (above last) t in
            sym (ap (λ c. c && has dead q) (lt-ltb q (suc p) (omega arith)))
        | false ↦ λ t.
            let high : above last ≤ q = ltb-false q (above last) t in
            sym (elim (nat_lt q (suc p)) as (λ c. nat_lt q (suc p) ≡ c
            → (c && has dead q) ≡ false) [
              | true ↦ λ u.
                  let near : q < suc p = ltb-true q (suc p) u in
                  m.first q high (beside q p near apart)
              | false ↦ λ u. refl
            ] refl)
      ] refl
    where
      beside : (a b : ℕ) → a < suc b → (a ≡ b → ⊥) → a < b
      beside a b h d = grind arith

  -- one more
  pub next_gone : (p : ℕ) (was now next : Map Port)
      → IsMember dead (above last) p
      → AreGone dead (above last) was now
      → next ≡ remove now p
      → AreGone dead (suc p) was next
  next_gone p was now next m so_far is q = ap (λ z. get z q) is ∙ elim (cases_eq q p) [
    | inl same ↦
        ap (get (remove now p)) same ∙ get-remove_same now p
        ∙ sym (ap (λ k. if nat_lt k (suc p) && has dead k then None else get was q) same
        ∙ ap (λ b. if b && has dead p then None else get was q) (lt-ltb p (suc p) (omega arith))
        ∙ ap (λ b. if b then None else get was q) m.there)
    | inr apart ↦
        get-remove_other now p q apart ∙ so_far q
        ∙ ap (λ b. if b then None else get was q) (gone_too p q m apart)
  ]

  -- at the end all are
  pub all_gone : (was now : Map Port)
      → IsFirst dead (above last) None
      → AreGone dead (above last) was now
      → now ≡ alter_all (without dead) was
  all_gone was now none so_far = same_map _ _ (λ q.
      so_far q ∙ each q (get was q) (has dead q) refl ∙ sym (get-alter_all (without dead) was q))
    where
      each : (q : ℕ) (o : Option Port) (b : Bool)
          → has dead q ≡ b
          → (if nat_lt q (above last) && has dead q then None else o)
          ≡ option_and_then (without dead q) o
      each q None b h = elim (nat_lt q (above last) && has dead q) as (λ c.
          (if c then None else None) ≡ option_and_then (without dead q) None) [
            | true ↦ refl
            | false ↦ refl
          ]
      each q (Some x) false h =
          ap (λ b. if nat_lt q (above last) && b then None else Some x) h
          ∙ ap (λ b. if b then None else Some x) (and_right (nat_lt q (above last)) false refl)
          ∙ sym (if_false (has dead q) None (Some x) h)
      each q (Some x) true h = elim (nat_lt q (above last)) as (λ c. nat_lt q (above last) ≡ c
          → (if c && has dead q then None else Some x) ≡ without dead q x) [
            | true ↦ λ t. refl
            | false ↦ λ t.
                let false_too = sym h ∙ none q (ltb-false q (above last) t) in cc
          ] refl

-- and the others are left as that leaves them
pub left_map : (dead : List ℕ) (was less now : Map Port)
    → less ≡ alter_all (without dead) was
    → now ≡ alter_all (λ p x. Some (left_of dead x)) less
    → now ≡ alter_all (perished_port dead) was
left_map dead was less now first second = same_map _ _ (λ q.
    ap (λ z. get z q) second ∙ get-alter_all (λ p x. Some (left_of dead x)) less q
    ∙ ap (λ z. option_and_then (λ x. Some (left_of dead x)) (get z q)) first
    ∙ ap (option_and_then (λ x. Some (left_of dead x))) (get-alter_all (without dead) was q)
    ∙ each q (get was q) ∙ sym (get-alter_all (perished_port dead) was q))
  where
    each : (q : ℕ) (o : Option Port)
        → option_and_then (λ x. Some (left_of dead x)) (option_and_then (without dead q) o)
        ≡ option_and_then (perished_port dead q) o
    each q None = refl
    each q (Some x) = elim (has dead q) as (λ b.
        option_and_then (λ x. Some (left_of dead x)) (if b then None else Some x)
        ≡ (if b then None else Some (left_of dead x))) [
          | true ↦ refl
          | false ↦ refl
        ]

-- where no port dies all stays

as_it_is : {X : Type 0} (g : ℕ → X → Option X) (m : Map X)
    → ((k : ℕ) (x : X) → g k x ≡ Some x)
    → m ≡ alter_all g m
as_it_is g m stay = same_map _ _ (λ q. each q (get m q) ∙ sym (get-alter_all g m q))
  where
    each : (q : ℕ) (o : Option _) → o ≡ option_and_then (g q) o
    each q None = refl
    each q (Some x) = sym (stay q x)

all_stay : {X : Type 0} (f : X → X) → ((x : X) → f x ≡ x) → (xs : List X) → map f xs ≡ xs
all_stay f stay [] = refl
all_stay f stay (x ∷ xs) = λ i. stay x i ∷ all_stay f stay xs i

entry_stays : (e : Entry) → perished_entry [] e ≡ Some e
entry_stays (ReceiveEntry p k i) = refl
entry_stays (SendEntry p k) = refl
entry_stays (OnceEntry p) = refl
entry_stays SetEntry = refl
entry_stays (DeadEntry k) = refl

item_stays : (x : Item) → perished_item [] x ≡ x
item_stays NullItem = refl
item_stays DeadItem = refl
item_stays (RightItem p r) = refl

argument_stays : (a : QueuedArg) → perished_arg [] a ≡ a
argument_stays (QueuedData name size number bytes) = refl
argument_stays (QueuedItems r items) =
    ap (QueuedItems r) (all_stay (perished_item []) item_stays items)

parcel_stays : (m : Parcel) → perished_parcel [] m ≡ m
parcel_stays m = λ i. record m {
  reply = item_stays m.reply i;
  args = all_stay (perished_arg []) argument_stays m.args i;
}

backup_stays : (b : Backup) → perished_backup [] b ≡ b
backup_stays NoBackup = refl
backup_stays DeadBackup = refl
backup_stays (BackupPort b) = refl

port_stays : (p : ℕ) (x : Port) → perished_port [] p x ≡ Some x
port_stays p x = λ i. Some (record x {
  queue = all_stay (perished_parcel []) parcel_stays x.queue i;
  backup = backup_stays x.backup i;
})

space_stays : (t : ℕ) (x : Space) → Some (alter_all (λ n e. perished_entry [] e) x) ≡ Some x
space_stays t x =
    ap Some (sym (as_it_is (λ n e. perished_entry [] e) x (λ n e. entry_stays e)))

none_buried : (s : Store) → s ≡ bury s []
unfolding bury
none_buried s = λ i. record s {
  spaces = as_it_is (λ t x. Some (alter_all (λ n e. perished_entry [] e) x)) s.spaces
      space_stays i;
  ports = as_it_is (perished_port []) s.ports port_stays i;
}

pub bury_none : (s : Store) (dead : List ℕ) → length dead ≡ 0 → s ≡ bury s dead
bury_none s [] none = none_buried s
bury_none s (p ∷ dead) none = absurd (omega arith)
