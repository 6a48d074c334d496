-- Changes of a space keep its bounds.
use Rattle.std.proofs.Common.{◌≡◌, ℕ, ◌+◌, ◌<◌, ◌≤◌, ◌^◌, false, Option, Some, None}
use Rattle.std.proofs.Common.{refl, sym, ◌∙◌, ap, subst, arith}
use Rattle.std.specs.Prelude.{IsSome}
use Rattle.std.proofs.lemmas.Bool.{leb-false}
use Rattle.mrc_model.specs.declared.Entry.{Entry}
use Rattle.mrc_model.specs.Map.{empty, get, insert, remove, alter_all, all_but, len}
use Rattle.mrc_model.specs.World.{Space}
use Rattle.mrc_model.specs.Space.{is_full, entry_of}
use Rattle.mrc_model.proofs.Maps.{at_or_0, get-empty, Each-insert, Each-alter_all, len-insert}
use Rattle.mrc_model.proofs.Maps.{len-alter_all, len-empty, not_None}
use Rattle.mrc_model.proofs.Spaces.{entry_of-some, len_after}
use Rattle.mrc_names.specs.Bounds.{IsBounded}

-- the empty space is in bounds
pub bounded_empty : (x : Space) → x ≡ empty → IsBounded x
bounded_empty x e = record {
  few = omega (arith, len-empty x e);
  short = λ n v at. absurd (not_None v (sym at ∙ ap (λ y. get y n) e ∙ get-empty n));
}

-- a new entry under a short name keeps the bounds of a space that is not full
pub bounded_new : (x : Space) (n : ℕ) (e : Entry)
    → IsBounded x
    → is_full x ≡ false
    → n < 2 ^ 32
    → IsBounded (insert x n e)
bounded_new x n e b room fits = record {
  few = omega (arith, len_after x n e, leb-false 4096 (len x) room);
  short = Each-insert (λ k v. k < 2 ^ 32) x n e b.short fits;
}

-- where the name is used the space keeps its size
pub same_len : (x : Space) (n : ℕ) (e : Entry) (o : Option Entry)
    → get x n ≡ o
    → IsSome o
    → len (insert x n e) ≡ len x
same_len x n e None at used = cc
same_len x n e (Some v) at used =
    let grown = len-insert x n e in
    let one : at_or_0 (λ q y. 1) n (get x n) ≡ 1 = ap (at_or_0 (λ q y. 1) n) at in
    omega arith

-- what stands under a name shows that the name is short
pub short_name : (x : Space) (n : ℕ) (o : Option Entry)
    → IsBounded x
    → get x n ≡ o
    → IsSome o
    → n < 2 ^ 32
short_name x n None b at used = cc
short_name x n (Some v) b at used = b.short n v at

-- so does another entry under a used name
pub bounded_old : (x : Space) (n : ℕ) (e : Entry)
    → IsBounded x
    → IsSome (get x n)
    → IsBounded (insert x n e)
bounded_old x n e b used = record {
  few = let same = same_len x n e (get x n) refl used in let was = b.few in omega arith;
  short = Each-insert (λ k v. k < 2 ^ 32) x n e b.short (short_name x n (get x n) b refl used);
}

-- so do changes of entries
pub bounded_altered : (x : Space) (g : ℕ → Entry → Option Entry)
    → IsBounded x
    → IsBounded (alter_all g x)
bounded_altered x g b = record {
  few = let less = len-alter_all g x in let was = b.few in omega arith;
  short = Each-alter_all (λ k v. k < 2 ^ 32) (λ k v. k < 2 ^ 32) g x (λ k v y at is h. h) b.short;
}

-- so does a removal
pub bounded_less : (x : Space) (n : ℕ) → IsBounded x → IsBounded (remove x n)
bounded_less x n b = bounded_altered x (all_but n) b

-- the name of a port's entry has one
pub found_used : (x : Space) (p : ℕ) (f : ℕ × Entry)
    → entry_of x p ≡ Some f
    → IsSome (get x f.0)
found_used x p f is = subst IsSome (sym (entry_of-some x p f is).0) refl

-- an entry that was found under a name, as code sees it
pub used_at : (inside x : Space) (m n : ℕ) (e : Entry)
    → inside ≡ x
    → m ≡ n
    → get x n ≡ Some e
    → IsSome (get inside m)
used_at inside x m n e view name at =
    subst IsSome (sym (ap (λ y. get y m) view ∙ ap (get x) name ∙ at)) refl
