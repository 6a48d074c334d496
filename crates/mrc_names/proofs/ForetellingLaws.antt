-- A space once a name has no more than the rest: what it has of a port and of a name.
use Rattle.std.proofs.Common.{◌≡◌, ℕ, true, false, inl, inr}
use Rattle.std.proofs.Common.{Option, Some, None, Ok, Err, refl, sym, ◌∙◌, ap, subst, arith, Result}
use Rattle.std.proofs.Common.{◌==◌, nat_le, if◌then◌else◌}
use Rattle.std.specs.Prelude.{IsSome, ◌&&◌}
use Rattle.std.specs.Result.{result_unwrap_or}
use Rattle.std.specs.Option.{is_some}
use Rattle.std.proofs.lemmas.Bool.{cases_eq, eq-eqb, ne_eqb, lt-leb, true≢false}
use Rattle.mrc_model.specs.declared.Entry.{Entry}
use Rattle.mrc_model.specs.declared.Code.{Code}
use Rattle.mrc_model.specs.Map.{get, remove, len}
use Rattle.mrc_model.specs.World.{Space}
use Rattle.mrc_model.specs.Space.{put_entry, is_full}
use Rattle.mrc_model.proofs.Maps.{if_true, if_false, get-insert}
use Rattle.mrc_model.proofs.Maps.{get-remove_same, get-remove_other}
use Rattle.mrc_model.proofs.Maps.{at_or_0, len-remove}
use Rattle.mrc_model.specs.Reply.{Try, Refused, ◌>>=◌}
use Rattle.mrc_model.specs.Space.{insert_at}
use Rattle.mrc_base.specs.declared.Disp.{Disp}
use Rattle.mrc_base.specs.declared.PortRight.{PortRight}
use Rattle.mrc_base.specs.Disposition.{given}
use Rattle.mrc_names.specs.Bounds.{IsBounded}
use Rattle.mrc_names.specs.Takes.{take_right, move_right}
use Rattle.mrc_names.specs.Refusals.{Foretells}
use Rattle.mrc_names.proofs.BoundLaws.{same_len}

-- a used name counts for one
one_used : (n : ℕ) (o : Option Entry) → IsSome o → at_or_0 (λ q (y : Entry). 1) n o ≡ 1
one_used n None used = absurd (true≢false (sym used))
one_used n (Some e) used = refl

module _ (x : Space) (n : ℕ) (used : IsSome (get x n)) where
  -- the entry of a name
  pub get_left : (m : ℕ) (rest : Option Entry)
      → get (put_entry x n rest) m ≡ (if m == n then rest else get x m)
  get_left m None = elim (cases_eq m n) [
    | inl same ↦
        ap (get (remove x n)) same ∙ get-remove_same x n
        ∙ sym (if_true (m == n) None (get x m) (eq-eqb m n same))
    | inr other ↦
        get-remove_other x n m other ∙ sym (if_false (m == n) None (get x m) (ne_eqb m n other))
  ]
  get_left m (Some f) = get-insert x n f m

  -- whether it is full
  pub full_left : (rest : Option Entry)
      → IsBounded x
      → is_full (put_entry x n rest) ≡ (is_some rest && is_full x)
  full_left None b =
      let less = len-remove x n in
      let one = one_used n (get x n) used in
      let few = b.few in
      lt-leb 4096 (len (remove x n)) (omega arith)
  full_left (Some f) b =
      ap (λ k. nat_le 4096 k) (same_len x n f (get x n) refl used)

-- the space is what was taken leaves
pub left_is : (x y z : Space) (n p q : ℕ) (d : Disp)
    → take_right x n d ≡ Ok (z, q)
    → take_right x n d ≡ Ok (y, p)
    → z ≡ y
left_is x y z n p q d one two =
    ap (λ (r : Try (Space × ℕ)). (result_unwrap_or r (x, 0)).0) (sym one ∙ two)

-- what is told of the space that is left is told of the moving
pub move_told : {U : Type 0} (r : Result U Code) (x z : Space) (n p m : ℕ) (d : Disp)
    (g : PortRight)
    → take_right x n d ≡ Ok (z, p)
    → g ≡ given d
    → Foretells r (insert_at z m p g)
    → Foretells r (move_right x n d m)
unfolding move_right ◌>>=◌
move_told r x z n p m d g one is told =
    rw one (subst (λ k. Foretells r (insert_at z m p k)) is told)

-- nor is anything moved where nothing can be taken
pub move_refused : (x : Space) (n m : ℕ) (d : Disp) (code : Code)
    → take_right x n d ≡ Err (Refused code)
    → move_right x n d m ≡ Err (Refused code)
unfolding move_right ◌>>=◌
move_refused x n m d code refused = rw refused refl
