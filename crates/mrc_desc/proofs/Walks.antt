-- Going over arguments one after the other, as loops do.
use Rattle.std.proofs.Common.{◌≡◌, ◌↔◌, ℕ, zero, suc, ◌+◌, ◌-◌, ◌<◌, ◌≤◌, List, [], ◌∷◌, ◌++◌}
use Rattle.std.proofs.Common.{length, get_or, drop, refl, sym, ap, ◌∙◌, append_assoc, arith}
use Rattle.std.proofs.Common.{Result, Ok, Err, Bool, ◌||◌, inl, inr}
use Rattle.std.specs.List.{flat_map, All, AllByRecursion}
use Rattle.std.proofs.Math.Bool.{or-false, or_assoc}
use Rattle.std.proofs.lemmas.Bool.{cases_Bool, cond-true, cond-false}
use Rattle.std.proofs.lemmas.List.{drop_more, append-nil}
use Rattle.std.proofs.lemmas.List.Elements.{All-from_recursion}
use Rattle.mrc_base.specs.Disposition.{is_port_number}
use Rattle.mrc_model.specs.Message.{Arg, arg_bytes, is_port_arg, any_port_arg}
use Rattle.mrc_desc.specs.declared.argument.Desc.{Desc}
use Rattle.mrc_desc.specs.declared.argument.Argument.{Argument}
use Rattle.mrc_desc.specs.Lawful.{IsLawfulArg}
use Rattle.mrc_desc.specs.declared.fault.ReadFault.{ReadFault}
use Rattle.mrc_base.specs.declared.memory.OrMemory.{OrMemory}
use Rattle.mrc_base.specs.declared.memory.OrMemory.TheVariants.{Fault, Memory}
use Rattle.mrc_base.specs.Reading.{◌>>=◌, Refuses}
use Rattle.mrc_desc.specs.Reading.{arg_at, arg_with, args_at, args_of}
use Rattle.mrc_desc.specs.View.{argument_of, arguments_of}

-- what is left of a list begins with the item at the index
pub item_first : {X : Type 0} (xs : List X) (i : ℕ) (x : X) → i < length xs → x ≡ get_or xs i x
    → drop i xs ≡ x ∷ drop (i + 1) xs
item_first {X} xs i x h e = drop_more xs i x h ∙ ap (λ (y : X). y ∷ drop (i + 1) xs) (sym e)

-- each argument is lawful
pub each_lawful : (args : List Argument) → AllByRecursion IsLawfulArg (arguments_of args)
    → All (λ a. IsLawfulArg (argument_of a)) args
each_lawful args lawful = All-from_recursion (λ a. IsLawfulArg (argument_of a)) args
    (by_recursion args lawful)
  where
    by_recursion : (args : List Argument) → AllByRecursion IsLawfulArg (arguments_of args)
        → AllByRecursion (λ a. IsLawfulArg (argument_of a)) args
    by_recursion [] lawful = tt
    by_recursion (a ∷ args) lawful = (lawful.0, by_recursion args lawful.1)

-- the arguments are lawful and fit into so many bytes
abbrev pub AreLawfulIn : ℕ → List Arg → Type 0
AreLawfulIn room args = AllByRecursion IsLawfulArg args × (length (flat_map arg_bytes args) ≤ room)

-- what was read before, and what is still read
abbrev pub with_front : List Arg → Result (List Arg) ReadFault → Result (List Arg) ReadFault
with_front front read = read >>= λ args. Ok (front ++ args)

regroup : (front : List Arg) (a : Arg) (read : Result (List Arg) ReadFault)
    → with_front front (read >>= λ args. Ok (a ∷ args)) ≡ with_front (front ++ a ∷ []) read
regroup front a (Ok args) = ap (λ (xs : List Arg). Ok xs) (simp append_assoc)
regroup front a (Err f) = refl

-- one argument more was read
goes_on : (front : List Arg) (total steps : ℕ) (bytes : List ℕ) (a : Arg) (after : List ℕ)
    (all : Result (List Arg) ReadFault) → 0 < length bytes → length bytes ≤ suc steps
    → arg_at (total - length bytes) bytes ≡ Ok (a, after)
    → with_front front (args_at total (suc steps) bytes) ≡ all
    → with_front (front ++ a ∷ []) (args_at total steps after) ≡ all
unfolding args_at
goes_on front total steps [] a after all some enough h so_far = absurd (omega arith)
goes_on front total steps (b ∷ bytes) a after all some enough h so_far =
    let one : with_front front (args_at total (suc steps) (b ∷ bytes))
    ≡ with_front (front ++ a ∷ []) (args_at total steps after) =
    rw h (regroup front a (args_at total steps after)) in
    sym one ∙ so_far

-- the first fault of what is left is that of all
ends_with : (fault : ReadFault) (front : List Arg) (total steps : ℕ) (bytes : List ℕ)
    → 0 < length bytes → arg_at (total - length bytes) bytes ≡ Err fault
    → with_front front (args_at total (suc steps) bytes) ≡ Err fault
unfolding args_at
ends_with fault front total steps [] some h = absurd (omega arith)
ends_with fault front total steps (b ∷ bytes) some h = rw h refl

-- an argument was not read
ends : (refusal : OrMemory ReadFault) (front : List Arg) (total steps : ℕ) (bytes : List ℕ)
    (all : Result (List Arg) ReadFault) → 0 < length bytes
    → Refuses refusal (arg_at (total - length bytes) bytes)
    → with_front front (args_at total (suc steps) bytes) ≡ all
    → Refuses refusal all
ends Memory front total steps bytes all some h so_far = tt
ends (Fault fault) front total steps bytes all some h so_far =
    sym so_far ∙ ends_with fault front total steps bytes some h

-- nothing is left
is_done : (front : List Arg) (total steps : ℕ) (bytes : List ℕ) (all : Result (List Arg) ReadFault)
    → length bytes ≡ 0 → with_front front (args_at total steps bytes) ≡ all → all ≡ Ok front
unfolding args_at
is_done front total zero [] all h so_far = sym so_far
    ∙ ap (λ (xs : List Arg). Ok xs) (append-nil front)
is_done front total (suc steps) [] all h so_far = sym so_far
    ∙ ap (λ (xs : List Arg). Ok xs) (append-nil front)
is_done front total steps (b ∷ bytes) all h so_far = absurd (omega arith)

-- what a loop keeps: so many steps are enough for what is left
abbrev pub Continues : (total : ℕ) (front : List Arg) (rest : List ℕ)
    (all : Result (List Arg) ReadFault) → Type 0
Continues total front rest all = (steps : ℕ) × (length rest ≤ steps)
    × (with_front front (args_at total steps rest) ≡ all)

nothing_in_front : (read : Result (List Arg) ReadFault) → with_front [] read ≡ read
nothing_in_front (Ok args) = refl
nothing_in_front (Err f) = refl

pub begins : (bytes rest : List ℕ) → rest ≡ drop 24 bytes
    → Continues (length bytes) [] rest (args_of bytes)
begins bytes rest is = (
  length rest,
  omega arith,
  nothing_in_front (args_at (length bytes) (length rest) rest)
      ∙ ap (λ (x : List ℕ). args_at (length bytes) (length x) x) is,
)

pub goes_on_from : (front : List Arg) (total : ℕ) (bytes : List ℕ) (a : Arg) (after : List ℕ)
    (all : Result (List Arg) ReadFault) → 0 < length bytes → length after < length bytes
    → arg_at (total - length bytes) bytes ≡ Ok (a, after) → Continues total front bytes all
    → Continues total (front ++ a ∷ []) after all
goes_on_from front total bytes a after all some shorter h (zero, enough, so_far) =
    absurd (omega arith)
goes_on_from front total bytes a after all some shorter h (suc steps, enough, so_far) =
    (steps, omega arith, goes_on front total steps bytes a after all some enough h so_far)

pub ends_from : (refusal : OrMemory ReadFault) (front : List Arg) (total : ℕ) (bytes : List ℕ)
    (all : Result (List Arg) ReadFault) → 0 < length bytes
    → Refuses refusal (arg_at (total - length bytes) bytes)
    → Continues total front bytes all
    → Refuses refusal all
ends_from refusal front total bytes all some h (zero, enough, so_far) = absurd (omega arith)
ends_from refusal front total bytes all some h (suc steps, enough, so_far) =
    ends refusal front total steps bytes all some h so_far

pub is_done_from : (front : List Arg) (total : ℕ) (bytes : List ℕ)
    (all : Result (List Arg) ReadFault) → length bytes ≡ 0 → Continues total front bytes all
    → all ≡ Ok front
is_done_from front total bytes all h (steps, enough, so_far) =
    is_done front total steps bytes all h so_far

is_port_with : (desc : Desc) (items : List ℕ)
    → is_port_arg (arg_with desc items) ≡ is_port_number desc.name
is_port_with desc items =
    elim (cases_Bool (is_port_number desc.name)) [
      | inl port ↦ ap is_port_arg (cond-true (is_port_number desc.name) _ _ port) ∙ sym port
      | inr other ↦ ap is_port_arg (cond-false (is_port_number desc.name) _ _ other) ∙ sym other
    ]

any_port_more : (front : List Arg) (a : Arg)
    → any_port_arg (front ++ a ∷ []) ≡ any_port_arg front || is_port_arg a
any_port_more [] a = or-false (is_port_arg a)
any_port_more (f ∷ front) a =
    ap (λ (x : Bool). is_port_arg f || x) (any_port_more front a)
    ∙ sym (or_assoc (is_port_arg f) (any_port_arg front) (is_port_arg a))

-- whether an argument has port rights, with one argument more
pub any_port_after : (front : List Arg) (desc : Desc) (items : List ℕ) (ports port : Bool)
    → any_port_arg front ≡ ports → port ≡ is_port_number desc.name
    → any_port_arg (front ++ arg_with desc items ∷ []) ≡ ports || port
any_port_after front desc items ports port so_far is =
    any_port_more front (arg_with desc items)
    ∙ ap (λ (x : Bool). x || is_port_arg (arg_with desc items)) so_far
    ∙ ap (λ (x : Bool). ports || x) (is_port_with desc items ∙ sym is)
