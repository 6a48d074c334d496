-- What dropping references and moving members come to, exit by exit.
use Rattle.std.proofs.Common.{◌≡◌, ℕ, true, false, Option, Some, None, Ok, Err, refl, sym, ◌∙◌, ap}
use Rattle.std.proofs.Common.{◌==◌}
use Rattle.std.specs.Prelude.{ℤ}
use Rattle.mrc_base.specs.declared.Right.{Right}
use Rattle.mrc_model.specs.declared.Entry.{Entry}
use Rattle.mrc_model.specs.declared.Code.{Code}
use Rattle.mrc_model.specs.Map.{get, insert}
use Rattle.mrc_model.specs.World.{Space}
use Rattle.mrc_model.specs.Reply.{Refused, ◌>>=◌, ◌>>◌, check, or_refuse}
use Rattle.mrc_model.specs.Space.{is_set}
use Rattle.mrc_model.specs.Target.{bad_name, wrong_right}
use Rattle.mrc_model.specs.CallDeallocate.{Change, drop_one}
use Rattle.mrc_model.specs.CallModRefs.{change_refs}
use Rattle.mrc_names.specs.declared.dropping.Dropped.{Dropped}
use Rattle.mrc_names.specs.Changes.{changed, drop_refs, drop_reference, member_of, in_set}
use Rattle.mrc_names.specs.Changes.{join_set, new_set, move_member}

-- references: the name has no entry
pub refs_no_name : (x : Space) (n : ℕ) (r : Right) (delta : ℤ)
    → get x n ≡ None
    → drop_refs x n r delta ≡ Err bad_name
unfolding drop_refs ◌>>=◌ or_refuse
refs_no_name x n r delta a = rw a refl

-- the change is refused
pub refs_refused : (x : Space) (n : ℕ) (r : Right) (delta : ℤ) (e : Entry) (code : Code)
    → get x n ≡ Some e
    → change_refs e r delta ≡ Err (Refused code)
    → drop_refs x n r delta ≡ Err (Refused code)
unfolding drop_refs ◌>>=◌ or_refuse
refs_refused x n r delta e code a b = rw (a, b) refl

-- the change is made
pub refs_changed : (x y : Space) (n : ℕ) (r : Right) (delta : ℤ) (e : Entry) (c : Change)
    (out : Dropped)
    → get x n ≡ Some e
    → change_refs e r delta ≡ Ok c
    → changed x n c ≡ (y, out)
    → drop_refs x n r delta ≡ Ok (y, out)
unfolding drop_refs ◌>>=◌ or_refuse
refs_changed x y n r delta e c out a b is = rw (a, b) (ap Ok is)

-- one reference: the name has no entry
pub one_no_name : (x : Space) (n : ℕ) → get x n ≡ None → drop_reference x n ≡ Err bad_name
unfolding drop_reference ◌>>=◌ or_refuse
one_no_name x n a = rw a refl

-- there is none to drop
pub one_no_right : (x : Space) (n : ℕ) (e : Entry)
    → get x n ≡ Some e
    → drop_one e ≡ None
    → drop_reference x n ≡ Err wrong_right
unfolding drop_reference ◌>>=◌ or_refuse
one_no_right x n e a b = rw (a, b) refl

-- it is dropped
pub one_changed : (x y : Space) (n : ℕ) (e : Entry) (c : Change) (out : Dropped)
    → get x n ≡ Some e
    → drop_one e ≡ Some c
    → changed x n c ≡ (y, out)
    → drop_reference x n ≡ Ok (y, out)
unfolding drop_reference ◌>>=◌ or_refuse
one_changed x y n e c out a b is = rw (a, b) (ap Ok is)

-- the new set has no entry
pub set_no_name : (x : Space) (n : ℕ) (i : Option ℕ)
    → (n == 0) ≡ false
    → get x n ≡ None
    → new_set x n i ≡ Err bad_name
unfolding join_set ◌>>=◌ ◌>>◌ check or_refuse
set_no_name x n i a b = rw (a, b) refl

-- it is no set
pub set_no_set : (x : Space) (n : ℕ) (i : Option ℕ) (e : Entry)
    → (n == 0) ≡ false
    → get x n ≡ Some e
    → is_set e ≡ false
    → new_set x n i ≡ Err wrong_right
unfolding join_set ◌>>=◌ ◌>>◌ check or_refuse
set_no_set x n i e a b d = rw (a, b, d) refl

-- it is a set
pub set_joined : (x : Space) (n : ℕ) (i : Option ℕ) (e : Entry)
    → (n == 0) ≡ false
    → get x n ≡ Some e
    → is_set e ≡ true
    → new_set x n i ≡ Ok (Some n)
unfolding join_set ◌>>=◌ ◌>>◌ check or_refuse
set_joined x n i e a b d = rw (a, b, d) refl

-- the member has no entry
pub move_no_name : (x : Space) (m n : ℕ) → get x m ≡ None → move_member x m n ≡ Err bad_name
unfolding move_member ◌>>=◌ or_refuse
move_no_name x m n a = rw a refl

-- it is no receive right
pub move_no_right : (x : Space) (m n : ℕ) (e : Entry)
    → get x m ≡ Some e
    → member_of e ≡ None
    → move_member x m n ≡ Err wrong_right
unfolding move_member ◌>>=◌ or_refuse
move_no_right x m n e a b = rw (a, b) refl

-- the new set is refused
pub move_refused : (x : Space) (m n : ℕ) (e : Entry) (i : Option ℕ) (code : Code)
    → get x m ≡ Some e
    → member_of e ≡ Some i
    → new_set x n i ≡ Err (Refused code)
    → move_member x m n ≡ Err (Refused code)
unfolding move_member ◌>>=◌ or_refuse
move_refused x m n e i code a b d = rw (a, b, d) refl

-- the member moves
pub move_done : (inside x y : Space) (k m n : ℕ) (e f : Entry) (i j : Option ℕ)
    → get x m ≡ Some e
    → member_of e ≡ Some i
    → new_set x n i ≡ Ok j
    → f ≡ in_set j e
    → inside ≡ x
    → k ≡ m
    → y ≡ insert inside k f
    → move_member x m n ≡ Ok y
unfolding move_member ◌>>=◌ or_refuse
move_done inside x y k m n e f i j a b d put view key is =
    rw (a, b, d) (ap Ok (sym (is ∙ ap (λ z. insert z k f) view ∙ ap (λ z. insert x z f) key
    ∙ ap (insert x m) put)))
