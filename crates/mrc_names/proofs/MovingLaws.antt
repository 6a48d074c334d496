-- What moving a right within a space leaves.
use Rattle.std.proofs.Common.{◌≡◌, ℕ, Bool, true, false, Option, Some, None, Ok, Err, inl}
use Rattle.std.proofs.Common.{inr, refl, sym, ◌∙◌, ap, subst, ◌==◌, ◌-◌, nat_lt, if◌then◌else◌}
use Rattle.std.specs.Prelude.{IsOk, IsSome}
use Rattle.std.specs.Result.{result_unwrap_or}
use Rattle.std.proofs.lemmas.Bool.{cases_eq}
use Rattle.mrc_base.specs.declared.PortRight.{PortRight}
use Rattle.mrc_base.specs.declared.PortRight.TheVariants.{Send, Receive, SendOnce}
use Rattle.mrc_base.specs.declared.Disp.{Disp}
use Rattle.mrc_base.specs.declared.Disp.TheVariants.{MoveReceive, MoveSend, MoveSendOnce, CopySend}
use Rattle.mrc_base.specs.declared.Disp.TheVariants.{MakeSend, MakeSendOnce}
use Rattle.mrc_base.specs.Disposition.{given}
use Rattle.mrc_model.specs.declared.Entry.{Entry}
use Rattle.mrc_model.specs.declared.Entry.TheVariants.{Receive as ReceiveEntry, Send as SendEntry}
use Rattle.mrc_model.specs.declared.Entry.TheVariants.{SendOnce as OnceEntry, PortSet as SetEntry}
use Rattle.mrc_model.specs.declared.Entry.TheVariants.{DeadName as DeadEntry}
use Rattle.mrc_model.specs.declared.Code.TheVariants.{KernNoSpace, KernRightExists}
use Rattle.mrc_model.specs.Map.{get, insert}
use Rattle.mrc_model.specs.World.{Space}
use Rattle.mrc_model.specs.Reply.{Try, Reply, Refused, ◌>>=◌, ◌>>◌, check, refuse_if, or_refuse}
use Rattle.mrc_model.specs.Target.{bad_name, wrong_right}
use Rattle.mrc_model.specs.Space.{put_entry, is_full, insert_at, insert_new, insert_joined}
use Rattle.mrc_model.specs.Space.{new_entry, joined, is_other, entry_of, overflows}
use Rattle.mrc_model.specs.Space.{is_entry_of, taken, take_from, Taken}
use Rattle.mrc_model.proofs.Maps.{get-insert_same, get-insert_other, same_Some, not_None}
use Rattle.mrc_map.proofs.SameMaps.{same_map}
use Rattle.mrc_index.specs.Names.{HoldsAlike}
use Rattle.mrc_names.specs.Bounds.{IsBounded}
use Rattle.mrc_names.specs.Takes.{take_right, move_right}
use Rattle.mrc_names.proofs.BoundLaws.{bounded_old, bounded_less}
use Rattle.mrc_model.proofs.Spaces.{put_entry_same, put_entry_other}

-- an entry in the place of what was left
pub put_over : (x : Space) (n m : ℕ) (rest : Option Entry) (e : Entry)
    → m ≡ n
    → insert x n e ≡ insert (put_entry x n rest) m e
put_over x n m rest e same =
    same_map _ _ (λ q. elim (cases_eq q n) [
      | inl here ↦
          ap (get (insert x n e)) here ∙ get-insert_same x n e
          ∙ sym (get-insert_same (put_entry x n rest) n e)
          ∙ ap (get (insert (put_entry x n rest) n e)) (sym here)
      | inr other ↦
          get-insert_other x n e q other ∙ sym (put_entry_other x n q rest other)
          ∙ sym (get-insert_other (put_entry x n rest) n e q other)
    ])
    ∙ ap (λ k. insert (put_entry x n rest) k e) (sym same)

-- what is left stays in bounds
pub bounded_left : (x : Space) (n : ℕ) (rest : Option Entry)
    → IsBounded x
    → IsSome (get x n)
    → IsBounded (put_entry x n rest)
bounded_left x n None b used = bounded_less x n b
bounded_left x n (Some e) b used = bounded_old x n e b used

-- a right that is taken whole comes back alike

no_rest : {A : Type 0} (q p : ℕ) (f : Entry) → Some (taken q (Some f)) ≡ Some (taken p None) → A
no_rest q p f is = absurd (not_None f (ap (λ (t : Taken). t.rest) (same_Some _ _ is)))

same_port : (q p : ℕ) (o : Option Entry) → Some (taken q o) ≡ Some (taken p None) → p ≡ q
same_port q p o is = sym (ap (λ (t : Taken). t.port) (same_Some _ _ is))

by_test : {A : Type 0} (b : Bool) (q p : ℕ) (f : Entry)
    → (if b then Some (taken q (Some f)) else None) ≡ Some (taken p None)
    → A
by_test true q p f is = no_rest q p f is
by_test false q p f is = absurd (not_None (taken p None) (sym is))

never : {A : Type 0} (p : ℕ) → ◌≡◌ {A = Option Taken} None (Some (taken p None)) → A
never p is = absurd (not_None (taken p None) (sym is))

pub alike_new : (e : Entry) (d : Disp) (p : ℕ)
    → take_from e d ≡ Some (taken p None)
    → HoldsAlike e (new_entry p (given d))
alike_new (ReceiveEntry q k i) MoveReceive p is = record {
  held = λ r. ap (λ z. z == r) (same_port q p _ is);
  once = λ r. refl;
}
alike_new (ReceiveEntry q k i) MoveSend p is =
    by_test (nat_lt 0 k) q p (ReceiveEntry q (k - 1) i) is
alike_new (ReceiveEntry q k i) MoveSendOnce p is = never p is
alike_new (ReceiveEntry q k i) CopySend p is = by_test (nat_lt 0 k) q p (ReceiveEntry q k i) is
alike_new (ReceiveEntry q k i) MakeSend p is = no_rest q p (ReceiveEntry q k i) is
alike_new (ReceiveEntry q k i) MakeSendOnce p is = no_rest q p (ReceiveEntry q k i) is
alike_new (SendEntry q k) MoveReceive p is = never p is
alike_new (SendEntry q k) MoveSend p is = record {
  held = λ r. ap (λ z. z == r) (same_port q p _ is);
  once = λ r. refl;
}
alike_new (SendEntry q k) MoveSendOnce p is = never p is
alike_new (SendEntry q k) CopySend p is = no_rest q p (SendEntry q k) is
alike_new (SendEntry q k) MakeSend p is = never p is
alike_new (SendEntry q k) MakeSendOnce p is = never p is
alike_new (OnceEntry q) MoveReceive p is = never p is
alike_new (OnceEntry q) MoveSend p is = never p is
alike_new (OnceEntry q) MoveSendOnce p is = record {
  held = λ r. refl;
  once = λ r. ap (λ z. z == r) (same_port q p _ is);
}
alike_new (OnceEntry q) CopySend p is = never p is
alike_new (OnceEntry q) MakeSend p is = never p is
alike_new (OnceEntry q) MakeSendOnce p is = never p is
alike_new SetEntry d p is = never p is
alike_new (DeadEntry k) d p is = never p is

not_ok : {A B : Type 0} (e : Reply) (y : B) → ◌≡◌ {A = Try B} (Err e) (Ok y) → A
not_ok e y is = cc

-- what is taken, by what is left

abbrev left_at : Space → ℕ → Taken → Try (Space × ℕ)
left_at x n got = Ok (put_entry x n got.rest, got.port)

take_parts : (x : Space) (n : ℕ) (d : Disp) (z : Space) (p : ℕ)
    → take_right x n d ≡ Ok (z, p)
    → (e : Entry) × (t : Taken) × (get x n ≡ Some e) × (take_from e d ≡ Some t)
    × (z ≡ put_entry x n t.rest) × (p ≡ t.port)
unfolding take_right ◌>>=◌ or_refuse
take_parts x n d z p is = go (get x n) refl is
  where
    last : (e : Entry) (o : Option Taken)
        → (or_refuse o wrong_right >>= left_at x n) ≡ Ok (z, p)
        → (t : Taken) × (o ≡ Some t) × (z ≡ put_entry x n t.rest) × (p ≡ t.port)
    last e None done = not_ok _ _ done
    last e (Some t) done = (
      t,
      refl,
      sym (ap (λ (r : Try (Space × ℕ)). (result_unwrap_or r (x, 0)).0) done),
      sym (ap (λ (r : Try (Space × ℕ)). (result_unwrap_or r (x, 0)).1) done),
    )

    go : (o : Option Entry)
        → get x n ≡ o
        → (or_refuse o bad_name >>= λ e. or_refuse (take_from e d) wrong_right >>= left_at x n)
        ≡ Ok (z, p)
        → (e : Entry) × (t : Taken) × (get x n ≡ Some e) × (take_from e d ≡ Some t)
        × (z ≡ put_entry x n t.rest) × (p ≡ t.port)
    go None at done = not_ok _ _ done
    go (Some e) at done =
        let (t, from, left, port) = last e (take_from e d) done in (e, t, at, from, left, port)

-- where nothing is left of a name, its entry was like one for the right
pub alike_at : (x : Space) (n : ℕ) (d : Disp) (z : Space) (p : ℕ)
    → take_right x n d ≡ Ok (z, p)
    → get z n ≡ None
    → (e : Entry) × (get x n ≡ Some e) × HoldsAlike e (new_entry p (given d))
alike_at x n d z p took none =
    let (e, t, at, from, left, port) = take_parts x n d z p took in
    let gone : t.rest ≡ None =
    sym (put_entry_same x n t.rest) ∙ ap (λ y. get y n) (sym left) ∙ none in
    let whole : take_from e d ≡ Some (taken p None) =
    from ∙ (λ i. Some (record { port = sym port i; rest = gone i })) in
    (e, at, alike_new e d p whole)

-- what is put under a name that may have an entry
abbrev pub entry_put : ℕ → PortRight → Option Entry → Entry
entry_put p r None = new_entry p r
entry_put p r (Some e) = joined e r

-- where a right was put there was room for it, and this is under the name then
abbrev IsPut : Space → ℕ → ℕ → PortRight → Option Entry → Space → Type 0
IsPut x n p r o y = (is_full x ≡ false) × (y ≡ insert x n (entry_put p r o))

by_room : (b : Bool) (x z y : Space)
    → (refuse_if b (Refused KernNoSpace) >> Ok z) ≡ Ok y
    → (b ≡ false) × (y ≡ z)
unfolding ◌>>◌ refuse_if
by_room true x z y is = not_ok _ y is
by_room false x z y is = (refl, sym (ap (λ r. result_unwrap_or r x) is))

put_new : (x : Space) (n p : ℕ) (r : PortRight) (o : Option Entry) (y : Space)
    → insert_new x n p r o ≡ Ok y
    → IsPut x n p r o y
put_new x n p r None y is = by_room (is_full x) x _ y is
put_new x n p r (Some e) y is = not_ok _ y is

after_two : (a b c : Bool) (d f : Reply) (x z y : Space)
    → (check a d >> (refuse_if b f >> (refuse_if c (Refused KernNoSpace) >> Ok z))) ≡ Ok y
    → (c ≡ false) × (y ≡ z)
unfolding ◌>>◌ refuse_if check
after_two false b c d f x z y is = not_ok _ y is
after_two true true c d f x z y is = not_ok _ y is
after_two true false c d f x z y is = by_room c x z y is

put_joined : (x : Space) (n p : ℕ) (r : PortRight) (o : Option Entry) (y : Space)
    → insert_joined x n p r o ≡ Ok y
    → IsPut x n p r o y
put_joined x n p r None y is = put_new x n p r None y is
put_joined x n p r (Some e) y is =
    after_two (is_entry_of p e) (overflows e r) (is_full x) _ _ x _ y is

put_known : (b : Bool) (x : Space) (n p : ℕ) (r : PortRight) (y : Space)
    → (refuse_if b (Refused KernRightExists) >> insert_joined x n p r (get x n)) ≡ Ok y
    → IsPut x n p r (get x n) y
unfolding ◌>>◌ refuse_if
put_known true x n p r y is = not_ok _ y is
put_known false x n p r y is = put_joined x n p r (get x n) y is

pub put_at : (x : Space) (n p : ℕ) (r : PortRight) (y : Space)
    → insert_at x n p r ≡ Ok y
    → IsPut x n p r (get x n) y
unfolding insert_at
put_at x n p Send y is = put_known (is_other n (entry_of x p)) x n p Send y is
put_at x n p Receive y is = put_known (is_other n (entry_of x p)) x n p Receive y is
put_at x n p SendOnce y is = put_new x n p SendOnce (get x n) y is

-- moving is a taking and a putting
pub move_is : (x : Space) (from to : ℕ) (d : Disp) (z : Space) (p : ℕ)
    → take_right x from d ≡ Ok (z, p)
    → move_right x from d to ≡ insert_at z to p (given d)
unfolding move_right ◌>>=◌
move_is x from to d z p took = rw took refl

pub move_err : (x : Space) (from to : ℕ) (d : Disp) (e : Reply)
    → take_right x from d ≡ Err e
    → move_right x from d to ≡ Err e
unfolding move_right ◌>>=◌
move_err x from to d e refused = rw refused refl

-- moving, by what is left and what is put
module _ (x z : Space) (from to p : ℕ) (d : Disp)
    (took : take_right x from d ≡ Ok (z, p)) (ok : IsOk (move_right x from d to)) where
  by_insert : move_right x from d to ≡ insert_at z to p (given d)
  by_insert = move_is x from to d z p took

  put_somehow : (y : Space) × (insert_at z to p (given d) ≡ Ok y)
  put_somehow = go (insert_at z to p (given d)) (subst IsOk by_insert ok)
    where
      go : (m : Try Space) → IsOk m → (y : Space) × (m ≡ Ok y)
      go (Ok y) is = (y, refl)
      go (Err e) is = cc

  done : IsPut z to p (given d) (get z to) put_somehow.0
  done = put_at z to p (given d) put_somehow.0 put_somehow.1

  pub move_room : is_full z ≡ false
  move_room = done.0

  pub move_done : (v : Space) (o : Option Entry)
      → get z to ≡ o
      → v ≡ insert z to (entry_put p (given d) o)
      → move_right x from d to ≡ Ok v
  move_done v o at is =
      by_insert ∙ put_somehow.1
      ∙ ap Ok (done.1 ∙ ap (λ k. insert z to (entry_put p (given d) k)) at ∙ sym is)
