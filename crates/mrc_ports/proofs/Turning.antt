-- Messages that turn as the definitions' do.
use Rattle.std.proofs.Common.{◌≡◌, ℕ, Bool, List, [], ◌∷◌, ◌++◌, take, drop, length, map, refl, sym}
use Rattle.std.proofs.Common.{◌∙◌, ap, subst}
use Rattle.mrc_model.specs.World.{Parcel, QueuedArg}
use Rattle.mrc_model.specs.Death.{perished_arg, perished_item, perished_parcel}
use Rattle.mrc_model.specs.declared.Item.{Item}
use Rattle.mrc_model.specs.Rights.{given_number}
use Rattle.mrc_model.specs.Message as message
use Rattle.mrc_desc.specs.Lawful.{AreLawful}
use Rattle.mrc_ports.specs.Parcels.{queued_of, perished_argument, unnamed, no_names, AreCarried}
use Rattle.mrc_ports.specs.declared.parcel.QueuedArgument.{QueuedArgument}
use Rattle.mrc_ports.specs.declared.parcel.QueuedArgument.TheVariants.{Data, Items}

take_all : {X Y : Type 0} (f : X → Y) (xs : List X) (zs : List Y)
    → take (length xs) (map f xs ++ zs) ≡ map f xs
take_all f [] [] = refl
take_all f [] (z ∷ zs) = refl
take_all f (x ∷ xs) zs = ap (λ r. f x ∷ r) (take_all f xs zs)

-- a list that is written through its slice
pub written : {X : Type 0} (f : X → X) (xs ys : List X) (n : ℕ)
    → n ≡ length xs
    → ys ≡ map f xs
    → take n (ys ++ drop (length ys) xs) ≡ map f xs
written f xs ys n e h =
    ap (λ m. take m (ys ++ drop (length ys) xs)) e
    ∙ ap (λ zs. take (length xs) (zs ++ drop (length ys) xs)) h
    ∙ take_all f xs (drop (length ys) xs)

argument_turned : (dead : List ℕ) (a : QueuedArgument)
    → queued_of (perished_argument dead a) ≡ perished_arg dead (queued_of a)
argument_turned dead (Data desc bytes) = refl
argument_turned dead (Items right items) = refl

-- arguments turn as the definitions' do
pub arguments_turned : (dead : List ℕ) (as_they : List QueuedArgument)
    → map queued_of (map (perished_argument dead) as_they)
    ≡ map (perished_arg dead) (map queued_of as_they)
arguments_turned dead [] = refl
arguments_turned dead (a ∷ more) =
    λ i. argument_turned dead a i ∷ arguments_turned dead more i

-- so does a message
pub parcel_turned : (dead : List ℕ) (by_once : Bool) (id : ℕ) (was now : Item)
    (xs ys : List QueuedArgument) (m : Parcel)
    → record { by_once = by_once; id = id; reply = was; args = map queued_of xs } ≡ m
    → now ≡ perished_item dead was
    → ys ≡ map (perished_argument dead) xs
    → record { by_once = by_once; id = id; reply = now; args = map queued_of ys }
    ≡ perished_parcel dead m
parcel_turned dead by_once id was now xs ys m view reply arguments =
    let make : Item → List QueuedArg → Parcel =
    λ r l. record { by_once = by_once; id = id; reply = r; args = l } in
    ap (λ r. make r (map queued_of ys)) reply
    ∙ ap (λ (l : List QueuedArgument). make (perished_item dead was) (map queued_of l)) arguments
    ∙ ap (make (perished_item dead was)) (arguments_turned dead xs)
    ∙ ap (perished_parcel dead) view

-- items that turn dead are as many
as_many_names : (dead : List ℕ) (items : List Item)
    → no_names (map (perished_item dead) items) ≡ no_names items
as_many_names dead [] = refl
as_many_names dead (x ∷ xs) = ap (λ l. 0 ∷ l) (as_many_names dead xs)

unnamed_turned : (dead : List ℕ) (a : QueuedArgument)
    → unnamed (queued_of (perished_argument dead a)) ≡ unnamed (queued_of a)
unnamed_turned dead (Data desc bytes) = refl
unnamed_turned dead (Items right items) =
    ap (message.Ports (given_number right)) (as_many_names dead items)

all_unnamed_turned : (dead : List ℕ) (xs : List QueuedArgument)
    → map unnamed (map queued_of (map (perished_argument dead) xs))
    ≡ map unnamed (map queued_of xs)
all_unnamed_turned dead [] = refl
all_unnamed_turned dead (x ∷ xs) =
    ap (λ a. a ∷ map unnamed (map queued_of (map (perished_argument dead) xs)))
    (unnamed_turned dead x)
    ∙ ap (λ l. unnamed (queued_of x) ∷ l) (all_unnamed_turned dead xs)

-- a message has room for its arguments after rights in it have died
pub carried_turned : (dead : List ℕ) (xs ys : List QueuedArgument)
    → ys ≡ map (perished_argument dead) xs
    → AreCarried (map queued_of xs)
    → AreCarried (map queued_of ys)
carried_turned dead xs ys turned carried =
    subst AreLawful
    (sym (ap (λ (l : List QueuedArgument). map unnamed (map queued_of l)) turned
    ∙ all_unnamed_turned dead xs)) carried
