-- What is taken for a lawful message is carried: a message has room for it, whatever names the
-- receiver has for its rights.
use Rattle.std.proofs.Common.{◌≡◌, ℕ, ◌+◌, ◌<◌, ◌^◌, List, [], ◌∷◌, length, map, Ok, Err, refl, sym}
use Rattle.std.proofs.Common.{◌∙◌, ap, subst, arith}
use Rattle.std.specs.List.{AllByRecursion}
use Rattle.std.specs.Result.{result_unwrap_or}
use Rattle.mrc_base.specs.declared.Disp.{Disp}
use Rattle.mrc_base.specs.Disposition.{given, disp_of_number}
use Rattle.mrc_model.specs.declared.Item.{Item}
use Rattle.mrc_model.specs.declared.Code.TheVariants.{MachSendInvalidRight}
use Rattle.mrc_model.specs.Message.{Arg, Data, Ports, Message}
use Rattle.mrc_model.specs.Wiring.{Wiring, Shape}
use Rattle.mrc_model.specs.World.{Store, QueuedArg, QueuedData, QueuedItems}
use Rattle.mrc_model.specs.Reply.{Refused, Try, ◌>>=◌, ◌>>◌, or_refuse}
use Rattle.mrc_model.specs.CallSend.{take_item, admit_item, take_items, take_arg, take_args}
use Rattle.mrc_model.specs.CallSend.{first_sort, rest_of}
use Rattle.mrc_desc.specs.Laws.{OtherArg, OtherArgs}
use Rattle.mrc_desc.specs.Lawful.{AreLawful, HeaderFits}
use Rattle.mrc_desc.proofs.Others.{other_message_lawful}
use Rattle.mrc_ports.specs.Parcels.{unnamed, no_names, AreCarried}
use Rattle.mrc_transit.proofs.ReceiveSizes.{ports_least, ports_most, no_names_len}

-- what a step of two was done by
pub bind_ok : {A B : Type 0} (m : Try A) (f : A → Try B) (b : B)
    → (m >>= f) ≡ Ok b
    → (a : A) × ((m ≡ Ok a) × (f a ≡ Ok b))
unfolding ◌>>=◌
bind_ok (Ok a) f b is = (a, (refl, is))
bind_ok (Err e) f b is = cc

then_ok : {A B : Type 0} (m : Try A) (r : Try B) (b : B) → (m >> r) ≡ Ok b → r ≡ Ok b
unfolding ◌>>◌
then_ok (Ok a) r b is = is
then_ok (Err e) r b is = cc

pub same_ok : {A : Type 0} (a b : A) → ◌≡◌ {A = Try A} (Ok a) (Ok b) → a ≡ b
same_ok a b is = ap (λ r. result_unwrap_or r a) is

-- as many items are taken as there are names
pub items_taken : (W : Wiring) (own t : ℕ) (x : Disp) (sort i : ℕ) (s s2 : Store) (ns : List ℕ)
    (items : List Item)
    → take_items W own t x sort i s ns ≡ Ok (s2, items)
    → length items ≡ length ns
items_taken W own t x sort i s s2 [] items is =
    ap (λ (r : Store × List Item). length r.1) (sym (same_ok (s, []) (s2, items) is))
items_taken W own t x sort i s s2 (n ∷ ns) items is =
    let one = bind_ok (take_item s t n x (Refused MachSendInvalidRight)) _ (s2, items) is in
    let two = then_ok (admit_item W own one.0.0 sort i one.0.1) _ (s2, items) one.1.1 in
    let three = bind_ok (take_items W own t x sort i one.0.0 ns) _ (s2, items) two in
    let rest = items_taken W own t x sort i one.0.0 three.0.0 ns three.0.1 three.1.0 in
    let last : length items ≡ length (one.0.1 ∷ three.0.1) =
    ap (λ (r : Store × List Item). length r.1)
    (sym (same_ok (three.0.0, one.0.1 ∷ three.0.1) (s2, items) three.1.1)) in
    omega (arith, last, rest)

-- names that stand for no right are short
no_names_fit : (items : List Item) → AllByRecursion (λ name. name < 2 ^ 32) (no_names items)
no_names_fit [] = tt
no_names_fit (x ∷ xs) = (omega arith, no_names_fit xs)

-- an argument
arg_taken : (W : Wiring) (own t sort i : ℕ) (s s2 : Store) (a : Arg) (q : QueuedArg)
    → take_arg W own t sort i s a ≡ Ok (s2, q)
    → OtherArg a (unnamed q)
arg_taken W own t sort i s s2 (Data name size number bytes) q is =
    ap (λ (r : Store × QueuedArg). unnamed r.1)
    (sym (same_ok (s, QueuedData name size number bytes) (s2, q) is))
arg_taken W own t sort i s s2 (Ports disp names) q is =
    let bad = Refused MachSendInvalidRight in
    let one = bind_ok (or_refuse (disp_of_number disp) bad) _ (s2, q) is in
    let two = bind_ok (take_items W own t one.0 sort i s names) _ (s2, q) one.1.1 in
    let many = items_taken W own t one.0 sort i s two.0.0 names two.0.1 two.1.0 in
    let same : QueuedItems (given one.0) two.0.1 ≡ q =
    ap (λ (r : Store × QueuedArg). r.1)
    (same_ok (two.0.0, QueuedItems (given one.0) two.0.1) (s2, q) two.1.1) in
    subst (λ k. OtherArg (Ports disp names) (unnamed k)) same (record {
      as_many = no_names_len two.0.1 ∙ many;
      least = ports_least (given one.0);
      most = ports_most (given one.0);
      names_fit = no_names_fit two.0.1;
    })

-- all of them
args_taken : (W : Wiring) (own t i : ℕ) (shapes : List Shape) (s s2 : Store) (args : List Arg)
    (queued : List QueuedArg)
    → take_args W own t i shapes s args ≡ Ok (s2, queued)
    → OtherArgs args (map unnamed queued)
args_taken W own t i shapes s s2 [] queued is =
    subst (λ (r : Store × List QueuedArg). OtherArgs [] (map unnamed r.1))
    (same_ok (s, []) (s2, queued) is) tt
args_taken W own t i shapes s s2 (a ∷ more) queued is =
    let one = bind_ok (take_arg W own t (first_sort shapes) i s a) _ (s2, queued) is in
    let after = take_args W own t (i + 1) (rest_of shapes) one.0.0 more in
    let two = bind_ok after _ (s2, queued) one.1.1 in
    subst (λ (r : Store × List QueuedArg). OtherArgs (a ∷ more) (map unnamed r.1))
    (same_ok (two.0.0, one.0.1 ∷ two.0.1) (s2, queued) two.1.1) (
      arg_taken W own t (first_sort shapes) i s one.0.0 a one.0.1 one.1.0,
      args_taken W own t (i + 1) (rest_of shapes) one.0.0 two.0.0 more two.0.1 two.1.0,
    )

-- a message with these arguments, and nothing else
abbrev with_args : List Arg → Message
with_args args = record {
  remote_disp = 0;
  local_disp = 0;
  remote = 0;
  local = 0;
  seqno = 0;
  id = 0;
  args = args;
}

blank_fits : (args : List Arg) → HeaderFits (with_args args)
blank_fits args = record {
  remote_disp = omega arith;
  local_disp = omega arith;
  remote = omega arith;
  local = omega arith;
  seqno = omega arith;
  id = omega arith;
}

pub taken_carried : (W : Wiring) (own t i : ℕ) (shapes : List Shape) (s s2 : Store) (args : List
    Arg)
    (queued : List QueuedArg)
    → take_args W own t i shapes s args ≡ Ok (s2, queued)
    → AreLawful args
    → AreCarried queued
taken_carried W own t i shapes s s2 args queued is lawful =
    (other_message_lawful (with_args args) (with_args (map unnamed queued))
    (record { header = blank_fits args; args = lawful }) (blank_fits (map unnamed queued))
    (args_taken W own t i shapes s s2 args queued is)).args
