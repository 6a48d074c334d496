-- What receiving comes to, from what each step of code tells.
use Rattle.std.proofs.Common.{◌≡◌, ℕ, ◌<◌, ◌^◌, ◌+◌, true, false, List, [], ◌∷◌, Option, Some}
use Rattle.std.proofs.Common.{None, Result, Ok, Err, T, refl, sym, ◌∙◌, ap, subst, inl, inr, nat_lt}
use Rattle.std.proofs.Common.{◌≤◌}
use Rattle.std.specs.Prelude.{unwrap_or, is_some, IsOk, IfOk, IfErr, OnErr, IsSome}
use Rattle.std.specs.Option.{option_map}
use Rattle.std.proofs.lemmas.Bool.{cases_eq, lt-ltb, le-ltb}
use Rattle.mrc_base.specs.declared.memory.OrMemory.{OrMemory}
use Rattle.mrc_base.specs.declared.memory.OrMemory.TheVariants.{Fault, Memory}
use Rattle.mrc_model.specs.declared.Entry.{Entry}
use Rattle.mrc_model.specs.declared.Entry.TheVariants.{PortSet as SetEntry}
use Rattle.mrc_model.specs.declared.Code.{Code}
use Rattle.mrc_model.specs.declared.Code.TheVariants.{MachRcvInvalidName, MachRcvTimedOut}
use Rattle.mrc_model.specs.declared.Code.TheVariants.{ProfileNoSpace}
use Rattle.mrc_model.specs.Rising.{is_rising, find_key, right_holds}
use Rattle.mrc_model.specs.Map.{Map, empty, get, insert, len}
use Rattle.mrc_model.specs.Message.{Message, written, written_size}
use Rattle.mrc_model.specs.World.{Space, Parcel, Port, Store, Task, World, space, set_space}
use Rattle.mrc_model.specs.World.{set_port}
use Rattle.mrc_model.specs.Reply.{Reply, Refused, TooLarge, Bytes, Try, ◌>>=◌, ◌>>◌, refuse_if}
use Rattle.mrc_model.specs.Reply.{or_refuse}
use Rattle.mrc_model.specs.Space.{is_over_full}
use Rattle.mrc_model.specs.Target.{with_store}
use Rattle.mrc_model.specs.CallReceive.{Source, source_at, first_ready, ready_member, or_source}
use Rattle.mrc_model.specs.CallReceive.{first_parcel, received, call_receive}
use Rattle.mrc_model.proofs.Maps.{get-empty, get-insert_same, get-insert_other, not_None, find_here}
use Rattle.mrc_model.proofs.Maps.{Each-rest, same_Some}
use Rattle.mrc_model.proofs.Spaces.{space-set_same}
use Rattle.mrc_names.specs.Bounds.{IsBounded}
use Rattle.mrc_ports.specs.Parcels.{carried_size}
use Rattle.mrc_ports.specs.Queues.{after_receipt, received_at, received_from, received_by}
use Rattle.mrc_ports.specs.Tables.{Table, table_of, store_of}
use Rattle.mrc_transit.specs.Giving.{IsNotGiven}
use Rattle.mrc_transit.specs.Receiving.{found_source, IsFirst}
use Rattle.mrc_transit.specs.Receiving.{IsReceiveRefusal, no_space as no_space_for}
use Rattle.mrc_transit.specs.Receiving.{AreHousedAlike}
use Rattle.mrc_transit.proofs.StagingLaws.{put_same}
use Rattle.mrc_transit.proofs.ReceiveSizes.{received_size}

-- where a message comes from

-- the first one, or a later one
first_or_later : (n : ℕ) (o : Option ℕ) (rest : Option Source) (got : Source)
    → or_source n o rest ≡ Some got
    → n < 2 ^ 32
    → (rest ≡ Some got → got.name < 2 ^ 32)
    → got.name < 2 ^ 32
first_or_later n None rest got is here later = later is
first_or_later n (Some p) rest got is here later =
    subst (λ (k : Source). k.name < 2 ^ 32) (same_Some _ got is) here

-- the name of a member is short
first_short_in : (s : Store) (n low : ℕ) (es : List (ℕ × Entry)) (got : Source)
    → T (is_rising low es)
    → ((k : ℕ) (v : Entry) → find_key k es ≡ Some v → k < 2 ^ 32)
    → first_ready s n es ≡ Some got
    → got.name < 2 ^ 32
first_short_in s n low [] got rises all is = absurd (not_None got (sym is))
first_short_in s n low (e ∷ es) got rises all is =
    first_or_later e.0 (ready_member s n e.1) (first_ready s n es) got is
    (all e.0 e.1 (find_here e es))
    (first_short_in s n (e.0 + 1) es got (right_holds _ _ rises)
    (Each-rest (λ k v. k < 2 ^ 32) low e es rises all))

pub first_short : (s : Store) (n : ℕ) (x : Space) (got : Source)
    → IsBounded x
    → first_ready s n x.list ≡ Some got
    → got.name < 2 ^ 32
unfolding get
first_short s n x got b is = first_short_in s n 0 x.list got x.rising b.short is

-- where a set receives from
module _ (s : Store) (t n : ℕ) (x : Space) (e : Entry)
    (there : get s.spaces t ≡ Some x)
    (held : get x n ≡ Some e)
    (is : e ≡ SetEntry) where
  by_set : (o : Option Source)
      → first_ready s n x.list ≡ o
      → source_at s t n (get (space s t) n) ≡ or_refuse o (Refused MachRcvTimedOut)
  by_set o first =
      let at : space s t ≡ x = ap (λ z. unwrap_or z empty) there in
      ap (source_at s t n) (ap (λ y. get y n) at ∙ held ∙ ap (λ k. Some k) is)
      ∙ ap (λ (y : Space). or_refuse (first_ready s n y.list) (Refused MachRcvTimedOut)) at
      ∙ ap (λ z. or_refuse z (Refused MachRcvTimedOut)) first

  pub set_found : (r : Result (ℕ × ℕ) Code)
      → IfOk r (λ found. first_ready s n x.list ≡ Some (found_source found))
      → IfOk r (λ found. source_at s t n (get (space s t) n) ≡ Ok (found_source found))
  unfolding or_refuse
  set_found (Ok found) first = by_set (Some (found_source found)) first
  set_found (Err code) first = tt

  pub set_refused : (r : Result (ℕ × ℕ) Code)
      → IfErr r (λ code. (code ≡ MachRcvTimedOut) × (first_ready s n x.list ≡ None))
      → IfErr r (λ code. source_at s t n (get (space s t) n) ≡ Err (Refused code))
  unfolding or_refuse
  set_refused (Ok found) none = tt
  set_refused (Err code) none =
      by_set None none.1 ∙ ap (λ k. Err (Refused k)) (sym none.0)

-- the messages behind the first one
pub behind : List Parcel → List Parcel
behind [] = []
behind (m ∷ ms) = ms

pub first_waits : (ms : List Parcel) (m : Parcel)
    → Some m ≡ option_map (λ (got : Parcel × List Parcel). got.0) (first_parcel ms)
    → first_parcel ms ≡ Some (m, behind ms)
unfolding behind
first_waits [] m is = absurd (not_None m is)
first_waits (x ∷ ms) m is = ap (λ k. Some (k, ms)) (sym (same_Some m x is))

pub none_waits : (ms : List Parcel)
    → None ≡ option_map (λ (got : Parcel × List Parcel). got.0) (first_parcel ms)
    → first_parcel ms ≡ None
none_waits [] is = refl
none_waits (x ∷ ms) is = absurd (not_None x (sym is))

-- the end of the call, once all is given
finished : World → ℕ → ℕ → Store × Message → Try (World × Reply)
finished w t limit got = do
  refuse_if (nat_lt limit (written_size got.1)) (TooLarge (written_size got.1))
  refuse_if (is_over_full (space got.0 t)) (Refused ProfileNoSpace)
  Ok (with_store w got.0, Bytes (written got.1))

module _ (w : World) (t limit : ℕ) (got : Store × Message) where
  ends_large : nat_lt limit (written_size got.1) ≡ true
      → finished w t limit got ≡ Err (TooLarge (written_size got.1))
  unfolding finished ◌>>◌ refuse_if
  ends_large large = rw large refl

  module _ (fits : nat_lt limit (written_size got.1) ≡ false) where
    ends_full : is_over_full (space got.0 t) ≡ true
        → finished w t limit got ≡ Err (Refused ProfileNoSpace)
    unfolding finished ◌>>◌ refuse_if
    ends_full full = rw (fits, full) refl

    ends_done : is_over_full (space got.0 t) ≡ false
        → finished w t limit got ≡ Ok (with_store w got.0, Bytes (written got.1))
    unfolding finished ◌>>◌ refuse_if
    ends_done room = rw (fits, room) refl

module _ (tasks : Map Task) (s : Store) (t n limit : ℕ) where
  world : World
  world = record { tasks = tasks; store = s }

  call : Try (World × Reply)
  call = call_receive (record { tasks = tasks; store = s }) t n limit

  pub no_space : get s.spaces t ≡ None
      → call_receive (record { tasks = tasks; store = s }) t n limit
      ≡ Err (Refused MachRcvInvalidName)
  unfolding call_receive ◌>>=◌
  no_space none =
      let absent : get (space s t) n ≡ None = ap (λ o. get (unwrap_or o empty) n) none
      ∙ get-empty n in rw absent refl

  pub not_found : (e : Reply)
      → source_at s t n (get (space s t) n) ≡ Err e
      → call_receive (record { tasks = tasks; store = s }) t n limit ≡ Err e
  unfolding call_receive ◌>>=◌
  not_found e is = rw is refl

  module _ (found : ℕ × ℕ)
      (from : source_at s t n (get (space s t) n) ≡ Ok (found_source found)) where
    pub no_port : get s.ports found.1 ≡ None
        → call_receive (record { tasks = tasks; store = s }) t n limit
        ≡ Err (Refused MachRcvInvalidName)
    unfolding call_receive ◌>>=◌ or_refuse
    no_port none = rw (from, none) refl

    module _ (x : Port) (port : get s.ports found.1 ≡ Some x) where
      pub no_message : first_parcel x.queue ≡ None
          → call_receive (record { tasks = tasks; store = s }) t n limit
          ≡ Err (Refused MachRcvTimedOut)
      unfolding call_receive ◌>>=◌ or_refuse
      no_message none = rw (from, port, none) refl

      module _ (m : Parcel) (ms : List Parcel) (first : first_parcel x.queue ≡ Some (m, ms)) where
        -- the store without the message
        left : Store
        left = set_port s found.1 (after_receipt x ms)

        got : Store × Message
        got = received (set_port s found.1 (after_receipt x ms)) t found.0 x.receipts m

        ends : call_receive (record { tasks = tasks; store = s }) t n limit
            ≡ finished (record { tasks = tasks; store = s }) t limit
            (received (set_port s found.1 (after_receipt x ms)) t found.0 x.receipts m)
        unfolding call_receive ◌>>=◌ or_refuse finished
        ends = rw (from, port, first) refl

        size : written_size
            (received (set_port s found.1 (after_receipt x ms)) t found.0 x.receipts m).1
            ≡ carried_size m.args
        size = received_size _ t found.0 x.receipts m

        pub too_large : nat_lt limit (carried_size m.args) ≡ true
            → call_receive (record { tasks = tasks; store = s }) t n limit
            ≡ Err (TooLarge (carried_size m.args))
        too_large large =
            ends ∙ ends_large _ t limit _ (ap (nat_lt limit) size ∙ large)
            ∙ ap (λ k. Err (TooLarge k)) size

        module _ (fits : nat_lt limit (carried_size m.args) ≡ false) where
          pub over_full : is_over_full (space
              (received (set_port s found.1 (after_receipt x ms)) t found.0 x.receipts m).0 t)
              ≡ true
              → call_receive (record { tasks = tasks; store = s }) t n limit
              ≡ Err (Refused ProfileNoSpace)
          over_full over = ends ∙ ends_full _ t limit _ (ap (nat_lt limit) size ∙ fits) over

          pub answered : is_over_full (space
              (received (set_port s found.1 (after_receipt x ms)) t found.0 x.receipts m).0 t)
              ≡ false
              → call_receive (record { tasks = tasks; store = s }) t n limit
              ≡ Ok (
                with_store (record { tasks = tasks; store = s })
                    (received (set_port s found.1 (after_receipt x ms)) t found.0 x.receipts m).0,
                Bytes (written
                    (received (set_port s found.1 (after_receipt x ms)) t found.0 x.receipts m).1),
              )
          answered room = ends ∙ ends_done _ t limit _ (ap (nat_lt limit) size ∙ fits) room

          module _ (old : Space) (there : get s.spaces t ≡ Some old) where
            -- what is given to the space is given to the task
            given_to : received (set_port s found.1 (after_receipt x ms)) t found.0 x.receipts m
                ≡ received (set_space (set_port s found.1 (after_receipt x ms)) t old) t found.0
                x.receipts m
            given_to =
                ap (λ (z : Store). received z t found.0 x.receipts m)
                (sym (put_same (set_port s found.1 (after_receipt x ms)) t old there))

            full : is_over_full (space
                (received (set_space (set_port s found.1 (after_receipt x ms)) t old) t found.0
                x.receipts m).0 t) ≡ true
                → call_receive (record { tasks = tasks; store = s }) t n limit
                ≡ Err (Refused ProfileNoSpace)
            full over =
                over_full (ap (λ (z : Store × Message). is_over_full (space z.0 t)) given_to ∙ over)

            granted : is_over_full (space
                (received (set_space (set_port s found.1 (after_receipt x ms)) t old) t found.0
                x.receipts m).0 t) ≡ false
                → IsOk (call_receive (record { tasks = tasks; store = s }) t n limit)
            granted room =
                subst (λ (k : Try (World × Reply)). IsOk k)
                (sym (answered
                (ap (λ (z : Store × Message). is_over_full (space z.0 t)) given_to ∙ room))) refl

            -- what is told where not all was given
            pub refused_so : (e : OrMemory Code)
                → IsNotGiven e t
                (received (set_space (set_port s found.1 (after_receipt x ms)) t old) t found.0
                x.receipts m).0
                → IsReceiveRefusal (no_space_for e)
                (call_receive (record { tasks = tasks; store = s }) t n limit)
            refused_so (Fault code) over = full over.1
            refused_so Memory room = granted room

            pub done : (y : Space) (bytes : List ℕ)
                → (received (set_space (set_port s found.1 (after_receipt x ms)) t old) t found.0
                x.receipts m).0 ≡ set_space (set_port s found.1 (after_receipt x ms)) t y
                → written (received (set_space (set_port s found.1 (after_receipt x ms)) t old) t
                found.0 x.receipts m).1 ≡ bytes
                → is_over_full y ≡ false
                → call_receive (record { tasks = tasks; store = s }) t n limit
                ≡ Ok (
                  record {
                    tasks = tasks;
                    store = set_space (set_port s found.1 (after_receipt x ms)) t y;
                  },
                  Bytes bytes,
                )
            done y bytes given write room =
                let message : Message =
                (received (set_space (set_port s found.1 (after_receipt x ms)) t old) t found.0
                x.receipts m).1 in
                let whole : received (set_port s found.1 (after_receipt x ms)) t found.0 x.receipts
                m ≡ (set_space (set_port s found.1 (after_receipt x ms)) t y, message) =
                given_to ∙ ap (λ (z : Store). (z, message)) given in
                ends ∙ ap (finished _ t limit) whole
                ∙ ends_done _ t limit _
                (ap (λ (z : Store × Message). nat_lt limit (written_size z.1)) (sym whole)
                ∙ ap (nat_lt limit) size ∙ fits)
                (ap is_over_full
                (space-set_same (set_port s found.1 (after_receipt x ms)) t y) ∙ room)
                ∙ ap (λ (b : List ℕ). Ok (
                  record {
                    tasks = tasks;
                    store = set_space (set_port s found.1 (after_receipt x ms)) t y;
                  },
                  Bytes b,
                )) write

-- the store that is left, once the message is off the queue
pub received_left : (s z v : Store) (t p : ℕ) (y : Space) (x : Port) (m : Parcel)
    (ms : List Parcel) (o : Option Parcel)
    → IsFirst s p x m ms
    → z ≡ set_space s t y
    → received_by z p ≡ (o, v)
    → v ≡ set_space (set_port s p (after_receipt x ms)) t y
received_left s z v t p y x m ms o waits put took =
    ap (λ (r : Option Parcel × Store). r.1) (sym took)
    ∙ ap (λ (k : Store). (received_by k p).1) put
    ∙ ap (λ (q : Option Port). store_of (set_space s t y).spaces
    (received_from (table_of (set_space s t y)) p q).1) waits.live
    ∙ ap (λ (q : Option (Parcel × List Parcel)). store_of (set_space s t y).spaces
    (received_at (table_of (set_space s t y)) p x q).1) waits.first

-- a space that is put where there is one
pub alike_put : (s z : Store) (t : ℕ) (y : Space)
    → IsSome (get s.spaces t)
    → z.spaces ≡ insert s.spaces t y
    → z.next ≡ s.next
    → AreHousedAlike s z
alike_put s z t y there is next = record {
  spaces = λ u. ap (λ (k : Map Space). is_some (get k u)) is ∙ elim (cases_eq u t) [
    | inl same ↦
        ap (λ q. is_some (get (insert s.spaces t y) q)) same
        ∙ ap is_some (get-insert_same s.spaces t y) ∙ sym there
        ∙ ap (λ q. is_some (get s.spaces q)) (sym same)
    | inr other ↦ ap is_some (get-insert_other s.spaces t y u other)
  ];
  next = next;
}

pub alike_same : (s z : Store) → z ≡ s → AreHousedAlike s z
alike_same s z is = record {
  spaces = λ u. ap (λ (k : Store). is_some (get k.spaces u)) is;
  next = ap (λ (k : Store). k.next) is;
}

-- what code tells of each step

-- what is told of an answer that is known
pub told_ok : {A E : Type 0} (P : A → Type 0) (r : Result A E) (a : A) → r ≡ Ok a → IfOk r P → P a
told_ok P r a is holds = subst (λ k. IfOk k P) is holds

pub told_err : {A E : Type 0} (P : E → Type 0) (r : Result A E) (e : E)
    → r ≡ Err e
    → IfErr r P
    → P e
told_err P r e is holds = subst (λ k. IfErr k P) is holds

pub told_on_err : {A E : Type 0} (P : Type 0) (r : Result A E) (e : E) → r ≡ Err e → OnErr r P → P
told_on_err P r e is holds = subst (λ k. OnErr k P) is holds

-- the port of a store, as its table has it
pub port_at : (s : Store) (z : Table) (p : ℕ) (o : Option Port)
    → z ≡ table_of s
    → o ≡ get z.ports p
    → get s.ports p ≡ o
port_at s z p o is at = ap (λ (u : Table). get u.ports p) (sym is) ∙ sym at

-- the first message of a port
pub waits_at : (x : Port) (queue : List Parcel) (m : Parcel)
    → queue ≡ x.queue
    → Some m ≡ option_map (λ (got : Parcel × List Parcel). got.0) (first_parcel queue)
    → first_parcel x.queue ≡ Some (m, behind x.queue)
waits_at x queue m is first =
    first_waits x.queue m (first
    ∙ ap (λ q. option_map (λ (got : Parcel × List Parcel). got.0) (first_parcel q)) is)

pub none_at : (x : Port) (queue : List Parcel)
    → queue ≡ x.queue
    → None ≡ option_map (λ (got : Parcel × List Parcel). got.0) (first_parcel queue)
    → first_parcel x.queue ≡ None
none_at x queue is first =
    none_waits x.queue (first
    ∙ ap (λ q. option_map (λ (got : Parcel × List Parcel). got.0) (first_parcel q)) is)

-- sizes against the limit
pub is_large : (limit k n : ℕ) → k ≡ n → limit < k → nat_lt limit n ≡ true
is_large limit k n is large = ap (nat_lt limit) (sym is) ∙ lt-ltb limit k large

pub is_small : (limit k n : ℕ) → k ≡ n → k ≤ limit → nat_lt limit n ≡ false
is_small limit k n is small = ap (nat_lt limit) (sym is) ∙ le-ltb limit k small

-- a space in its bounds is not over-full
pub has_room : (y : Space) → IsBounded y → is_over_full y ≡ false
has_room y b = le-ltb 4096 (len y) b.few
