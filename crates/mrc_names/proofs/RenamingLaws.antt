-- What renaming comes to, exit by exit.
use Rattle.std.proofs.Common.{◌≡◌, ℕ, ◌+◌, ◌<◌, ◌^◌, Bool, true, false, Option, Some, None, Ok}
use Rattle.std.proofs.Common.{Err, refl, sym, ◌∙◌, ap, subst, arith}
use Rattle.std.specs.Option.{is_some}
use Rattle.mrc_model.specs.declared.Entry.{Entry}
use Rattle.mrc_model.specs.declared.Code.TheVariants.{KernInvalidValue, KernNameExists}
use Rattle.mrc_model.specs.Map.{get, insert, remove, len}
use Rattle.mrc_model.specs.World.{Space}
use Rattle.mrc_model.specs.Reply.{Refused, ◌>>=◌, ◌>>◌, or_refuse, refuse_if}
use Rattle.mrc_model.specs.CallRename.{is_used}
use Rattle.mrc_model.specs.Space.{is_set, members_follow}
use Rattle.mrc_model.specs.Target.{is_reserved, bad_name}
use Rattle.mrc_model.proofs.Maps.{at_or_0, len-insert, len-remove, Each-insert}
use Rattle.mrc_names.specs.Bounds.{IsBounded}
use Rattle.mrc_names.specs.Takes.{rename_entry}
use Rattle.mrc_names.proofs.BoundLaws.{bounded_less}

-- a reserved new name is refused
pub no_new_name : (x : Space) (old new : ℕ)
    → is_reserved new ≡ true
    → rename_entry x old new ≡ Err (Refused KernInvalidValue)
unfolding rename_entry ◌>>◌ refuse_if
no_new_name x old new a = rw a refl

-- so is an old name without an entry
pub no_old_name : (x : Space) (old new : ℕ)
    → is_reserved new ≡ false
    → get x old ≡ None
    → rename_entry x old new ≡ Err bad_name
unfolding rename_entry ◌>>=◌ ◌>>◌ refuse_if or_refuse
no_old_name x old new a b = rw (a, b) refl

used_if : (o : Option Entry) → is_used o ≡ is_some o
used_if None = refl
used_if (Some e) = refl

-- so is a new name that is used
pub new_name_used : (x : Space) (old new : ℕ) (e : Entry)
    → is_reserved new ≡ false
    → get x old ≡ Some e
    → is_some (get x new) ≡ true
    → rename_entry x old new ≡ Err (Refused KernNameExists)
unfolding rename_entry ◌>>=◌ ◌>>◌ refuse_if or_refuse
new_name_used x old new e a b used = rw (a, b, used_if (get x new) ∙ used) refl

-- else the entry moves
done : (x : Space) (old new : ℕ) (e : Entry)
    → is_reserved new ≡ false
    → get x old ≡ Some e
    → is_some (get x new) ≡ false
    → rename_entry x old new ≡ Ok (members_follow (is_set e) old new (insert (remove x old) new e))
unfolding rename_entry ◌>>=◌ ◌>>◌ refuse_if or_refuse
done x old new e a b used = rw (a, b, used_if (get x new) ∙ used) refl

-- the whole of a renaming, from what each step of code tells
pub renamed : (x y z : Space) (old new : ℕ) (e : Entry) (b : Bool)
    → is_reserved new ≡ false
    → get x old ≡ Some e
    → is_some (get x new) ≡ false
    → y ≡ insert (remove x old) new e
    → is_set e ≡ b
    → z ≡ members_follow b old new y
    → rename_entry x old new ≡ Ok z
renamed x y z old new e b a at used moved set all =
    done x old new e a at used
    ∙ ap (λ (c : Bool). Ok (members_follow c old new (insert (remove x old) new e))) set
    ∙ ap (λ v. Ok (members_follow b old new v)) (sym moved)
    ∙ ap Ok (sym all)

-- a moved entry keeps the bounds
pub moved_bound : (x y : Space) (old new : ℕ) (e : Entry)
    → IsBounded x
    → new < 2 ^ 32
    → get x old ≡ Some e
    → y ≡ insert (remove x old) new e
    → IsBounded y
moved_bound x y old new e b short at moved =
    let less : len (remove x old) + 1 ≡ len x =
    let taken = len-remove x old in
    let one : at_or_0 (λ q (v : Entry). 1) old (get x old) ≡ 1 = ap (at_or_0 (λ q v. 1) old) at in
    omega arith in
    let few = b.few in
    let grown = len-insert (remove x old) new e in
    let kept : IsBounded (insert (remove x old) new e) = record {
      few = omega arith;
      short =
          Each-insert (λ k v. k < 2 ^ 32) (remove x old) new e (bounded_less x old b).short short;
    } in
    subst IsBounded (sym moved) kept
