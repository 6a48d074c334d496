-- How large a message is, whatever names its rights get, and that it is lawful.
use Rattle.std.proofs.Common.{◌≡◌, ℕ, ◌≤◌, ◌<◌, ◌+◌, ◌^◌, List, [], ◌∷◌, ◌++◌, length, map, refl}
use Rattle.std.proofs.Common.{sym, ◌∙◌, ap, arith, length-append}
use Rattle.std.specs.List.{flat_map, AllByRecursion}
use Rattle.mrc_base.specs.declared.PortRight.{PortRight}
use Rattle.mrc_base.specs.declared.PortRight.TheVariants.{Send, Receive, SendOnce}
use Rattle.mrc_model.specs.declared.Item.{Item}
use Rattle.mrc_base.specs.declared.Disp.{Disp}
use Rattle.mrc_base.specs.Disposition.{disp_number}
use Rattle.mrc_model.specs.Rights.{given_number, moving}
use Rattle.mrc_model.specs.Message.{Arg, Ports, Message, word, descriptor, arg_bytes}
use Rattle.mrc_model.specs.Message.{written_size}
use Rattle.mrc_model.specs.World.{QueuedArg, QueuedData, QueuedItems, Parcel, Space, Store}
use Rattle.mrc_model.specs.World.{set_space}
use Rattle.mrc_model.specs.Space.{give_item}
use Rattle.mrc_model.specs.CallReceive.{give_items, give_arg, give_args, received}
use Rattle.mrc_desc.specs.Laws.{OtherArg, OtherArgs}
use Rattle.mrc_desc.specs.Lawful.{HeaderFits, IsLawful}
use Rattle.mrc_desc.proofs.Words.{length-words}
use Rattle.mrc_desc.proofs.Others.{other_message_lawful}
use Rattle.mrc_ports.specs.declared.parcel.QueuedArgument.{QueuedArgument}
use Rattle.mrc_ports.specs.declared.parcel.QueuedArgument.TheVariants.{Items as ItemsArgument}
use Rattle.mrc_ports.specs.Parcels.{queued_of, unnamed, no_names, AreCarried, carried_size}
use Rattle.mrc_ports.specs.Tables.{no_store}

-- as many names are given as there are items
pub names_given : (t : ℕ) (s : Store) (items : List Item)
    → length (give_items t s items).1 ≡ length items
names_given t s [] = refl
names_given t s (x ∷ xs) = omega (arith, names_given t (give_item s t x).0 xs)

pub no_names_len : (items : List Item) → length (no_names items) ≡ length items
no_names_len [] = refl
no_names_len (x ∷ xs) = omega (arith, no_names_len xs)

-- port rights are as large under other names
ports_size : (disp : ℕ) (names others : List ℕ)
    → length names ≡ length others
    → length (arg_bytes (Ports disp names)) ≡ length (arg_bytes (Ports disp others))
ports_size disp names others same =
    omega (
      arith,
      length-append (descriptor disp 32 (length names)) (flat_map word names),
      length-append (descriptor disp 32 (length others)) (flat_map word others),
      length-words names,
      length-words others,
      ap (λ (n : ℕ). length (descriptor disp 32 n)) same,
      same,
    )

arg_size : (t : ℕ) (s : Store) (a : QueuedArg)
    → length (arg_bytes (give_arg t s a).1) ≡ length (arg_bytes (unnamed a))
arg_size t s (QueuedData name size number bytes) = refl
arg_size t s (QueuedItems r items) =
    ports_size (given_number r) (give_items t s items).1 (no_names items)
    (names_given t s items ∙ sym (no_names_len items))

args_size : (t : ℕ) (s : Store) (args : List QueuedArg)
    → length (flat_map arg_bytes (give_args t s args).1)
    ≡ length (flat_map arg_bytes (map unnamed args))
args_size t s [] = refl
args_size t s (a ∷ more) =
    let got = give_arg t s a in
    omega (
      arith,
      length-append (arg_bytes got.1) (flat_map arg_bytes (give_args t got.0 more).1),
      length-append (arg_bytes (unnamed a)) (flat_map arg_bytes (map unnamed more)),
      arg_size t s a,
      args_size t got.0 more,
    )

-- the message as received
pub received_size : (s : Store) (t name receipts : ℕ) (m : Parcel)
    → written_size (received s t name receipts m).1 ≡ carried_size m.args
unfolding received
received_size s t name receipts m =
    ap (λ n. 24 + n) (args_size t (give_item s t m.reply).0 m.args)

-- what code was given differs in its names alone
pub ports_least : (r : PortRight) → 16 ≤ given_number r
ports_least Send = omega arith
ports_least Receive = omega arith
ports_least SendOnce = omega arith

pub ports_most : (r : PortRight) → given_number r ≤ 21
ports_most Send = omega arith
ports_most Receive = omega arith
ports_most SendOnce = omega arith

pub other_ports : (t : ℕ) (s s2 : Store) (r : PortRight) (items : List Item) (names : List ℕ)
    → give_items t s items ≡ (s2, names)
    → AllByRecursion (λ name. name < 2 ^ 32) names
    → OtherArg (Ports (given_number r) (no_names items)) (Ports (given_number r) names)
other_ports t s s2 r items names given fit = record {
  as_many =
      ap (λ (got : Store × List ℕ). length got.1) (sym given) ∙ names_given t s items
      ∙ sym (no_names_len items);
  least = ports_least r;
  most = ports_most r;
  names_fit = fit;
}

-- the same from what code tells
pub other_arg : (a : QueuedArgument) (r : PortRight) (items seen : List Item) (names : List ℕ)
    (disp : Disp) (x y : Space)
    → a ≡ ItemsArgument r items
    → disp ≡ moving r
    → seen ≡ items
    → ((s : Store) (t : ℕ) → give_items t (set_space s t x) seen ≡ (set_space s t y, names))
    → AllByRecursion (λ name. name < 2 ^ 32) names
    → OtherArg (unnamed (queued_of a)) (Ports (disp_number disp) names)
other_arg a r items seen names disp x y is moved look given fit =
    rw (is, moved) (other_ports 0 (set_space no_store 0 x) _ r items names
    (ap (give_items 0 (set_space no_store 0 x)) (sym look) ∙ given no_store 0) fit)

-- one argument more
pub others_more : (args others : List Arg) (a b : Arg)
    → OtherArgs args others
    → OtherArg a b
    → OtherArgs (args ++ a ∷ []) (others ++ b ∷ [])
others_more [] [] a b all one = (one, tt)
others_more [] (o ∷ others) a b all one = absurd all
others_more (x ∷ args) [] a b all one = absurd all
others_more (x ∷ args) (o ∷ others) a b all one = (all.0, others_more args others a b all.1 one)

-- one name more
pub fits_more : (names : List ℕ) (name : ℕ)
    → AllByRecursion (λ n. n < 2 ^ 32) names
    → name < 2 ^ 32
    → AllByRecursion (λ n. n < 2 ^ 32) (names ++ name ∷ [])
fits_more [] name all one = (one, tt)
fits_more (n ∷ names) name all one = (all.0, fits_more names name all.1 one)

-- so a message of what was given is lawful
pub received_lawful : (m : Message) (args : List QueuedArg)
    → HeaderFits m
    → AreCarried args
    → OtherArgs (map unnamed args) m.args
    → IsLawful m
received_lawful m args fits carried other =
    other_message_lawful (record m { args = map unnamed args }) m
    (record {
      header = record {
        remote_disp = fits.remote_disp;
        local_disp = fits.local_disp;
        remote = fits.remote;
        local = fits.local;
        seqno = fits.seqno;
        id = fits.id;
      };
      args = carried;
    }) fits other
