-- How large the next message is, and what that says of a receive.
use Rattle.std.proofs.Common.{◌≡◌, ℕ, true, false, List, Option, Some, None, Ok, Err, refl, sym}
use Rattle.std.proofs.Common.{◌∙◌, ap, length, arith, nat_lt, ◌<◌, ◌≤◌}
use Rattle.std.specs.Prelude.{Bool, unwrap_or}
use Rattle.mrc_base.proofs.Steps.{ok_is}
use Rattle.mrc_model.specs.declared.Code.TheVariants.{MachRcvInvalidName, MachRcvTimedOut}
use Rattle.mrc_model.specs.declared.Code.TheVariants.{ProfileNoSpace}
use Rattle.mrc_model.specs.Map.{get, empty}
use Rattle.mrc_model.specs.Message.{Message, written, written_size}
use Rattle.mrc_model.specs.World.{Parcel, Port, Store, World, space, set_port}
use Rattle.mrc_model.specs.Reply.{Reply, Refused, TooLarge, Bytes, Try, ◌>>=◌, or_refuse}
use Rattle.mrc_model.specs.Space.{is_over_full}
use Rattle.mrc_model.specs.Target.{with_store}
use Rattle.mrc_model.specs.CallReceive.{Source, source_at, first_parcel, received, call_receive}
use Rattle.mrc_model.proofs.Maps.{get-empty}
use Rattle.mrc_ports.specs.Parcels.{carried_size}
use Rattle.mrc_ports.specs.Queues.{after_receipt}
use Rattle.mrc_transit.specs.Receiving.{found_source, next_size, IsNext}
use Rattle.mrc_transit.proofs.ReceiveSizes.{received_size}
use Rattle.mrc_transit.proofs.ReceiveCalls.{not_found, no_port, no_message, too_large, over_full}
use Rattle.mrc_transit.proofs.ReceiveCalls.{answered, is_large, is_small}

-- what there is to receive

module _ (s : Store) (t n limit : ℕ) where
  pub next_no_space : get s.spaces t ≡ None
      → next_size s t n limit ≡ Err (Refused MachRcvInvalidName)
  unfolding next_size ◌>>=◌
  next_no_space none =
      let absent : get (space s t) n ≡ None = ap (λ o. get (unwrap_or o empty) n) none
      ∙ get-empty n in rw absent refl

  pub next_not_found : (e : Reply)
      → source_at s t n (get (space s t) n) ≡ Err e
      → next_size s t n limit ≡ Err e
  unfolding next_size ◌>>=◌
  next_not_found e is = rw is refl

  module _ (found : ℕ × ℕ)
      (from : source_at s t n (get (space s t) n) ≡ Ok (found_source found)) where
    pub next_no_port : get s.ports found.1 ≡ None
        → next_size s t n limit ≡ Err (Refused MachRcvInvalidName)
    unfolding next_size ◌>>=◌ or_refuse
    next_no_port none = rw (from, none) refl

    module _ (x : Port) (port : get s.ports found.1 ≡ Some x) where
      pub next_no_message : first_parcel x.queue ≡ None
          → next_size s t n limit ≡ Err (Refused MachRcvTimedOut)
      unfolding next_size ◌>>=◌ or_refuse
      next_no_message none = rw (from, port, none) refl

      module _ (m : Parcel) (ms : List Parcel) (first : first_parcel x.queue ≡ Some (m, ms)) where
        next_large : nat_lt limit (carried_size m.args) ≡ true
            → next_size s t n limit ≡ Ok 0
        unfolding next_size ◌>>=◌ or_refuse
        next_large large = rw (from, port, first, large) refl

        next_small : nat_lt limit (carried_size m.args) ≡ false
            → next_size s t n limit ≡ Ok (carried_size m.args)
        unfolding next_size ◌>>=◌ or_refuse
        next_small fits = rw (from, port, first, fits) refl

-- of a message that waits

module _ (s : Store) (t n limit : ℕ) (found : ℕ × ℕ) (size : ℕ)
    (next : IsNext s t n found size) where
  pub next_over : limit < size → next_size s t n limit ≡ Ok 0
  next_over large =
      next_large s t n limit found next.from next.port next.waits.live next.parcel next.others
      next.waits.first (is_large limit size _ next.sized large)

  pub next_within : size ≤ limit → next_size s t n limit ≡ Ok size
  next_within small =
      next_small s t n limit found next.from next.port next.waits.live next.parcel next.others
      next.waits.first (is_small limit size _ next.sized small)
      ∙ ap (λ k. Ok k) (sym next.sized)

-- what a receive answers, and how large the next message is

data Outcome (call : Try (World × Reply)) (size : Try ℕ) : Type 0 where
  NoMessage : (e : Reply) → call ≡ Err e → size ≡ Err e → Outcome call size
  TooLong : (k : ℕ) → call ≡ Err (TooLarge k) → size ≡ Ok 0 → Outcome call size
  NoSpace : (k : ℕ) → call ≡ Err (Refused ProfileNoSpace) → size ≡ Ok k → Outcome call size
  Answered : (w : World) (bs : List ℕ) → call ≡ Ok (w, Bytes bs) → size ≡ Ok (length bs)
      → Outcome call size

bytes_is : (cs bs : List ℕ) → Bytes cs ≡ Bytes bs → cs ≡ bs
bytes_is cs bs is = cc

-- a message has as many bytes as its size
written_len : (m : Message) → length (written m) ≡ written_size m
written_len m = omega arith

module _ (w : World) (t n limit : ℕ) where
  module _ (found : ℕ × ℕ)
      (from : source_at w.store t n (get (space w.store t) n) ≡ Ok (found_source found)) where
    module _ (x : Port) (port : get w.store.ports found.1 ≡ Some x) where
      module _ (m : Parcel) (ms : List Parcel) (first : first_parcel x.queue ≡ Some (m, ms)) where
        by_room : nat_lt limit (carried_size m.args) ≡ false
            → (over : Bool)
            → is_over_full (space
            (received (set_port w.store found.1 (after_receipt x ms)) t found.0 x.receipts m).0 t)
            ≡ over
            → Outcome (call_receive w t n limit) (next_size w.store t n limit)
        by_room fits true full =
            NoSpace (carried_size m.args)
            (over_full w.tasks w.store t n limit found from x port m ms first fits full)
            (next_small w.store t n limit found from x port m ms first fits)
        by_room fits false room =
            let s : Store = set_port w.store found.1 (after_receipt x ms) in
            let got = received s t found.0 x.receipts m in
            Answered (with_store w got.0) (written got.1)
            (answered w.tasks w.store t n limit found from x port m ms first fits room)
            (next_small w.store t n limit found from x port m ms first fits
            ∙ ap (λ k. Ok k)
            (sym (written_len got.1 ∙ received_size s t found.0 x.receipts m)))

        by_limit : (large : Bool)
            → nat_lt limit (carried_size m.args) ≡ large
            → Outcome (call_receive w t n limit) (next_size w.store t n limit)
        by_limit true large =
            TooLong (carried_size m.args)
            (too_large w.tasks w.store t n limit found from x port m ms first large)
            (next_large w.store t n limit found from x port m ms first large)
        by_limit false fits =
            let s : Store = set_port w.store found.1 (after_receipt x ms) in
            by_room fits
            (is_over_full (space (received s t found.0 x.receipts m).0 t)) refl

      by_message : (o : Option (Parcel × List Parcel))
          → first_parcel x.queue ≡ o
          → Outcome (call_receive w t n limit) (next_size w.store t n limit)
      by_message None none =
          NoMessage (Refused MachRcvTimedOut)
          (no_message w.tasks w.store t n limit found from x port none)
          (next_no_message w.store t n limit found from x port none)
      by_message (Some got) first =
          by_limit got.0 got.1 first (nat_lt limit (carried_size got.0.args)) refl

    by_port : (o : Option Port)
        → get w.store.ports found.1 ≡ o
        → Outcome (call_receive w t n limit) (next_size w.store t n limit)
    by_port None none =
        NoMessage (Refused MachRcvInvalidName)
        (no_port w.tasks w.store t n limit found from none)
        (next_no_port w.store t n limit found from none)
    by_port (Some x) port = by_message x port (first_parcel x.queue) refl

  by_source : (r : Try Source)
      → source_at w.store t n (get (space w.store t) n) ≡ r
      → Outcome (call_receive w t n limit) (next_size w.store t n limit)
  by_source (Err e) is =
      NoMessage e (not_found w.tasks w.store t n limit e is)
      (next_not_found w.store t n limit e is)
  by_source (Ok from) is =
      by_port (from.name, from.port) is (get w.store.ports from.port) refl

  outcome : Outcome (call_receive w t n limit) (next_size w.store t n limit)
  outcome = by_source (source_at w.store t n (get (space w.store t) n)) refl

module _ (call : Try (World × Reply)) (size : Try ℕ) where
  answer_is : Outcome call size
      → (w : World) (bs : List ℕ)
      → call ≡ Ok (w, Bytes bs)
      → size ≡ Ok (length bs)
  answer_is (NoMessage e refused none) w bs is = absurd cc
  answer_is (TooLong k refused zero) w bs is = absurd cc
  answer_is (NoSpace k refused next) w bs is = absurd cc
  answer_is (Answered v cs given next) w bs is =
      let same : ◌≡◌ {A = World × Reply} (v, Bytes cs) (w, Bytes bs) =
      ok_is (v, Bytes cs) (w, Bytes bs) (sym given ∙ is) in
      let told : cs ≡ bs = bytes_is cs bs (ap (λ z. z.1) same) in
      next ∙ ap (λ ds. Ok (length ds)) told

  refusal_is : Outcome call size → (e : Reply) → size ≡ Err e → call ≡ Err e
  refusal_is (NoMessage d refused none) e is = cc
  refusal_is (TooLong k refused next) e is = absurd cc
  refusal_is (NoSpace k refused next) e is = absurd cc
  refusal_is (Answered v cs given next) e is = absurd cc

  time_is : Outcome call size
      → call ≡ Err (Refused MachRcvTimedOut)
      → size ≡ Err (Refused MachRcvTimedOut)
  time_is (NoMessage d refused none) is = cc
  time_is (TooLong k refused next) is = absurd cc
  time_is (NoSpace k refused next) is = absurd cc
  time_is (Answered v cs given next) is = absurd cc

-- the laws

module _ (w : World) (t n limit : ℕ) where
  -- a receive answers as many bytes as the next message has
  pub next_size_is : (w2 : World) (bs : List ℕ)
      → call_receive w t n limit ≡ Ok (w2, Bytes bs)
      → next_size w.store t n limit ≡ Ok (length bs)
  next_size_is w2 bs is =
      answer_is (call_receive w t n limit) (next_size w.store t n limit) (outcome w t n limit)
      w2 bs is

  -- it is refused as the next message is
  pub next_refused : (e : Reply)
      → next_size w.store t n limit ≡ Err e
      → call_receive w t n limit ≡ Err e
  next_refused e is =
      refusal_is (call_receive w t n limit) (next_size w.store t n limit) (outcome w t n limit) e is

  -- and has no message in time only where there is no next one
  pub times_out : call_receive w t n limit ≡ Err (Refused MachRcvTimedOut)
      → next_size w.store t n limit ≡ Err (Refused MachRcvTimedOut)
  times_out is =
      time_is (call_receive w t n limit) (next_size w.store t n limit) (outcome w t n limit) is

-- a message that waits, and is larger than the limit
pub next_too_large : (w : World) (t n limit : ℕ) (found : ℕ × ℕ) (size : ℕ)
    → IsNext w.store t n found size
    → limit < size
    → call_receive w t n limit ≡ Err (TooLarge size)
next_too_large w t n limit found size next large =
    too_large w.tasks w.store t n limit found next.from next.port next.waits.live next.parcel
    next.others next.waits.first (is_large limit size _ next.sized large)
    ∙ ap (λ k. Err (TooLarge k)) (sym next.sized)
