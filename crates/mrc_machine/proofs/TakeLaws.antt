-- Taking a right from a name of a store is taking it from the task's space.
use Rattle.std.proofs.Common.{◌≡◌, ℕ, ◌+◌, ◌≤◌, Bool, true, false, Option, Some, None, Ok, Err}
use Rattle.std.proofs.Common.{refl, sym, ap, ◌∙◌, arith}
use Rattle.std.proofs.lemmas.Bool.{leb-false, le-ltb}
use Rattle.mrc_base.specs.declared.PortRight.{PortRight}
use Rattle.mrc_base.specs.declared.PortRight.TheVariants.{Send, Receive, SendOnce}
use Rattle.mrc_model.specs.declared.Code.TheVariants.{KernNoSpace}
use Rattle.mrc_model.proofs.Maps.{len-insert}
use Rattle.mrc_base.specs.declared.Disp.{Disp}
use Rattle.mrc_base.specs.Disposition.{given}
use Rattle.mrc_model.specs.declared.Entry.{Entry}
use Rattle.mrc_model.specs.Rights.{is_receive}
use Rattle.mrc_model.specs.Map.{get, len}
use Rattle.mrc_model.specs.World.{Space, Store, space, set_space}
use Rattle.mrc_model.specs.Reply.{Reply, Refused, Try, ◌>>=◌, ◌>>◌, refuse_if, or_refuse}
use Rattle.mrc_model.specs.Space.{Taken, take_from, put_entry, take, restart_if}
use Rattle.mrc_model.specs.Space.{is_full, is_over_full, place, place_at, entry_of, unused}
use Rattle.mrc_model.specs.Space.{new_entry, joined}
use Rattle.mrc_model.specs.Target.{bad_name, wrong_right}
use Rattle.mrc_names.specs.Takes.{take_right, give_right}
use Rattle.mrc_machine.proofs.Trying.{bind_bind, same_Ok, not_Err}

-- the store after a taking
abbrev pub on_taken : Store → ℕ → Disp → Space × ℕ → Try (Store × ℕ)
on_taken s t x got = Ok (restart_if (is_receive (given x)) (set_space s t got.0) got.1, got.1)

pub take_by_space : (s : Store) (t n : ℕ) (x : Disp)
    → take s t n x bad_name wrong_right ≡ (take_right (space s t) n x >>= on_taken s t x)
unfolding take take_right ◌>>=◌
take_by_space s t n x =
    let put : Taken → Try (Space × ℕ) = λ got. Ok (put_entry (space s t) n got.rest, got.port) in
    let parts : Entry → Try (Space × ℕ) = λ e. or_refuse (take_from e x) wrong_right >>= put in
    sym (bind_bind (or_refuse (get (space s t) n) bad_name) parts (on_taken s t x)
    ∙ ap (λ (f : Entry → Try (Store × ℕ)). or_refuse (get (space s t) n) bad_name >>= f)
    (λ i e. bind_bind (or_refuse (take_from e x) wrong_right) put (on_taken s t x) i))

-- the parts of what was given
pub given_parts : (x y : Space) (p n : ℕ) (r : PortRight)
    → give_right x p r ≡ Ok (y, n)
    → (y ≡ (place x p r).space) × (n ≡ (place x p r).name)
unfolding give_right ◌>>◌ refuse_if
given_parts x y p n r is = go (is_over_full (place x p r).space) is
  where
    go : (b : Bool)
        → ◌≡◌ {A = Try (Space × ℕ)} (refuse_if b (Refused KernNoSpace)
        >> Ok ((place x p r).space, (place x p r).name)) (Ok (y, n))
        → (y ≡ (place x p r).space) × (n ≡ (place x p r).name)
    go true e = absurd (not_Err _ _ (sym e))
    go false e = let same = same_Ok _ _ (sym e) in (ap (λ z. z.0) same, ap (λ z. z.1) same)

-- what is given adds one entry at most
place_at_len : (x : Space) (p : ℕ) (r : PortRight) (o : Option (ℕ × Entry))
    → len (place_at x p r o).space ≤ len x + 1
place_at_len x p r None = omega (arith, len-insert x (unused x) (new_entry p r))
place_at_len x p r (Some e) = omega (arith, len-insert x e.0 (joined e.1 r))

place_len : (x : Space) (p : ℕ) (r : PortRight) → len (place x p r).space ≤ len x + 1
place_len x p Send = place_at_len x p Send (entry_of x p)
place_len x p Receive = place_at_len x p Receive (entry_of x p)
place_len x p SendOnce = place_at_len x p SendOnce None

-- a space that is not full takes what it is given
pub not_given : (x : Space) (p : ℕ) (r : PortRight) (e : Reply)
    → is_full x ≡ false
    → give_right x p r ≡ Err e
    → ⊥
unfolding give_right ◌>>◌ refuse_if
not_given x p r e room is =
    let few : is_over_full (place x p r).space ≡ false =
    le-ltb 4096 (len (place x p r).space)
    (omega (arith, place_len x p r, leb-false 4096 (len x) room)) in
    let done : give_right x p r ≡ Ok ((place x p r).space, (place x p r).name) = rw few refl in
    not_Err _ _ (sym done ∙ is)
