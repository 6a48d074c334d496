-- Which name a port has, once another has no more than a rest.
use Rattle.std.proofs.Common.{◌≡◌, ℕ, ◌+◌, ◌<◌, ◌≤◌, true, false, List, Option, Some, None}
use Rattle.std.proofs.Common.{refl, sym, ◌∙◌, ap, subst, arith, inl, inr, ◌^◌}
use Rattle.std.specs.Option.{option_map, IfSome, IfNone}
use Rattle.std.proofs.lemmas.Bool.{cases_eq, cases_order, false_from_ne_true}
use Rattle.mrc_model.specs.declared.Entry.{Entry}
use Rattle.mrc_model.specs.Map.{get, insert, remove}
use Rattle.mrc_model.specs.World.{Space}
use Rattle.mrc_model.specs.Space.{entry_of, is_entry_of, put_entry}
use Rattle.mrc_model.proofs.Maps.{get-remove_same, get-remove_other}
use Rattle.mrc_index.specs.Pairs.{has_pair, IsLeast}
use Rattle.mrc_index.specs.Names.{is_held_by, IsIndexed, IsLeastBut}
use Rattle.mrc_index.specs.Undo.{CanPut}
use Rattle.mrc_index.proofs.IndexLaws.{least_entry, no_entry, set_indexed, true_false}

-- the least name of a port's entries is the name of the one that is found
least_name : (y : Space) (p n : ℕ) (o : Option Entry)
    → get y n ≡ o
    → is_held_by p o ≡ true
    → ((m : ℕ) → m < n → is_held_by p (get y m) ≡ false)
    → option_map (λ (e : ℕ × Entry). e.0) (entry_of y p) ≡ Some n
least_name y p n None at is none = true_false false is refl
least_name y p n (Some e) at is none =
    ap (option_map (λ (d : ℕ × Entry). d.0)) (least_entry y p n e at is none)

-- a port's least name, where a space is indexed
pub indexed_name : (y : Space) (ports onces : List (ℕ × ℕ)) (bits : List ℕ) (p n : ℕ)
    → IsIndexed y ports onces bits
    → IsLeast ports p 0 n
    → option_map (λ (e : ℕ × Entry). e.0) (entry_of y p) ≡ Some n
indexed_name y ports onces bits p n i f =
    least_name y p n (get y n) refl (sym (i.held p n) ∙ f.has)
    (λ m l. sym (i.held p m) ∙ f.least m (omega arith) l)

pub indexed_none : (y : Space) (ports onces : List (ℕ × ℕ)) (bits : List ℕ) (p : ℕ)
    → IsIndexed y ports onces bits
    → ((n : ℕ) → 0 ≤ n → has_pair ports p n ≡ false)
    → option_map (λ (e : ℕ × Entry). e.0) (entry_of y p) ≡ None
indexed_none y ports onces bits p i none =
    ap (option_map (λ (d : ℕ × Entry). d.0))
    (no_entry y p (λ m. sym (i.held p m) ∙ none m (omega arith)))

-- the same once an entry has changed that stays its port's
pub changed_indexed : (x : Space) (ports onces : List (ℕ × ℕ)) (bits : List ℕ) (n : ℕ) (e : Entry)
    → IsIndexed x ports onces bits
    → CanPut x n (Some e)
    → IsIndexed (insert x n e) ports onces bits
changed_indexed x ports onces bits n e i can =
    set_indexed x ports onces bits n can.0 e i can.1 can.2

-- the least name but for one is what is found without that one
pub least_but : (x : Space) (p k n : ℕ)
    → IsLeastBut x p k n
    → option_map (λ (e : ℕ × Entry). e.0) (entry_of (remove x k) p) ≡ Some n
least_but x p k n l =
    least_name (remove x k) p n (get (remove x k) n) refl
    (ap (is_held_by p) (get-remove_other x k n l.other) ∙ l.has)
    (λ m h. elim (cases_eq m k) [
      | inl same ↦
          ap (is_held_by p) (ap (get (remove x k)) same ∙ get-remove_same x k)
      | inr apart ↦
          ap (is_held_by p) (get-remove_other x k m apart)
          ∙ false_from_ne_true (is_held_by p (get x m)) (λ t. apart (l.least m h t))
    ])

held_at : (p : ℕ) (o : Option Entry)
    → is_held_by p o ≡ true
    → (e : Entry) × (o ≡ Some e) × (is_entry_of p e ≡ true)
held_at p None h = true_false false h refl
held_at p (Some e) h = (e, refl, h)

pub none_but : (x : Space) (p k : ℕ)
    → ((n : ℕ) (e : Entry) → get x n ≡ Some e → is_entry_of p e ≡ true → n ≡ k)
    → option_map (λ (e : ℕ × Entry). e.0) (entry_of (remove x k) p) ≡ None
none_but x p k none =
    ap (option_map (λ (d : ℕ × Entry). d.0)) (no_entry (remove x k) p (λ m. elim (cases_eq m k) [
      | inl same ↦ ap (is_held_by p) (ap (get (remove x k)) same ∙ get-remove_same x k)
      | inr apart ↦
          ap (is_held_by p) (get-remove_other x k m apart)
          ∙ false_from_ne_true (is_held_by p (get x m)) (λ t.
          let e = held_at p (get x m) t in apart (none m e.0 e.1 e.2))
    ]))

-- what is found without a name, and with a rest of its entry, as code tells it
pub left_none : (x : Space) (p k : ℕ) (rest : Option Entry) (o : Option ℕ)
    → rest ≡ None
    → IfSome o (λ n. IsLeastBut x p k n)
    → IfNone o ((n : ℕ) (e : Entry) → get x n ≡ Some e → is_entry_of p e ≡ true → n ≡ k)
    → o ≡ option_map (λ (e : ℕ × Entry). e.0) (entry_of (put_entry x k rest) p)
left_none x p k rest o is some none =
    go o some none
    ∙ sym (ap (λ r. option_map (λ (e : ℕ × Entry). e.0) (entry_of (put_entry x k r) p)) is)
  where
    go : (o : Option ℕ)
        → IfSome o (λ n. IsLeastBut x p k n)
        → IfNone o ((n : ℕ) (e : Entry) → get x n ≡ Some e → is_entry_of p e ≡ true → n ≡ k)
        → o ≡ option_map (λ (e : ℕ × Entry). e.0) (entry_of (remove x k) p)
    go None some none = sym (none_but x p k none)
    go (Some n) some none = sym (least_but x p k n some)

pub left_some : (x y : Space) (ports onces : List (ℕ × ℕ)) (bits : List ℕ) (q p k : ℕ)
    (rest : Option Entry) (e : Entry) (o : Option ℕ)
    → IsIndexed x ports onces bits
    → x ≡ y
    → q ≡ p
    → CanPut y k rest
    → rest ≡ Some e
    → IfSome o (λ n. IsLeast ports q 0 n)
    → IfNone o ((n : ℕ) → 0 ≤ n → has_pair ports q n ≡ false)
    → o ≡ option_map (λ (e : ℕ × Entry). e.0) (entry_of (put_entry y k rest) p)
left_some x y ports onces bits q p k rest e o i view port can is some none =
    go o some none
    ∙ ap (λ z. option_map (λ (d : ℕ × Entry). d.0) (entry_of (insert z k e) q)) view
    ∙ ap (λ z. option_map (λ (d : ℕ × Entry). d.0) (entry_of (insert y k e) z)) port
    ∙ sym (ap (λ r. option_map (λ (d : ℕ × Entry). d.0) (entry_of (put_entry y k r) p)) is)
  where
    after : IsIndexed (insert x k e) ports onces bits
    after =
        changed_indexed x ports onces bits k e i
        (subst (λ z. CanPut z k (Some e)) (sym view) (subst (CanPut y k) is can))

    go : (o : Option ℕ)
        → IfSome o (λ n. IsLeast ports q 0 n)
        → IfNone o ((n : ℕ) → 0 ≤ n → has_pair ports q n ≡ false)
        → o ≡ option_map (λ (d : ℕ × Entry). d.0) (entry_of (insert x k e) q)
    go None some none = sym (indexed_none (insert x k e) ports onces bits q after none)
    go (Some n) some none = sym (indexed_name (insert x k e) ports onces bits q n after some)

-- the port has no name but this one
abbrev pub OnlyName : Space → ℕ → ℕ → Type 0
OnlyName x p k = (n : ℕ) (e : Entry) → get x n ≡ Some e → is_entry_of p e ≡ true → n ≡ k

pub only_as : (x y : Space) (q p k : ℕ) → x ≡ y → q ≡ p → OnlyName x q k → OnlyName y p k
only_as x y q p k v w h = subst (λ z. OnlyName z p k) v (subst (λ z. OnlyName x z k) w h)

-- a pair tells an entry of the port
has_of : (x : Space) (ports onces : List (ℕ × ℕ)) (bits : List ℕ) (p n : ℕ) (e : Entry)
    → IsIndexed x ports onces bits
    → get x n ≡ Some e
    → is_entry_of p e ≡ true
    → has_pair ports p n ≡ true
has_of x ports onces bits p n e i at is = i.held p n ∙ ap (is_held_by p) at ∙ is

pub none_other : (x : Space) (ports onces : List (ℕ × ℕ)) (bits : List ℕ) (p k : ℕ)
    → IsIndexed x ports onces bits
    → ((n : ℕ) → 0 ≤ n → has_pair ports p n ≡ false)
    → OnlyName x p k
none_other x ports onces bits p k i none n e at is =
    true_false (has_pair ports p n) (has_of x ports onces bits p n e i at is) (none n (omega arith))

-- nor has it one where the least is this one, and none is above
pub none_later : (x : Space) (ports onces : List (ℕ × ℕ)) (bits : List ℕ) (p k f : ℕ)
    → IsIndexed x ports onces bits
    → IsLeast ports p 0 f
    → f ≡ k
    → ((n : ℕ) → k + 1 ≤ n → has_pair ports p n ≡ false)
    → OnlyName x p k
none_later x ports onces bits p k f i least same none n e at is = elim (cases_order n k) [
  | inl here ↦ here
  | inr (inl less) ↦
      true_false (has_pair ports p n) (has_of x ports onces bits p n e i at is)
      (least.least n (omega arith) (omega arith))
  | inr (inr more) ↦
      true_false (has_pair ports p n) (has_of x ports onces bits p n e i at is)
      (none n (omega arith))
]

-- so it is where this one is the last name of 32 bits
pub none_short : (x : Space) (ports onces : List (ℕ × ℕ)) (bits : List ℕ) (p k f : ℕ)
    → IsIndexed x ports onces bits
    → IsLeast ports p 0 f
    → f ≡ k
    → k ≡ 4294967295
    → OnlyName x p k
none_short x ports onces bits p k f i least same last n e at is = elim (cases_order n k) [
  | inl here ↦ here
  | inr (inl less) ↦
      true_false (has_pair ports p n) (has_of x ports onces bits p n e i at is)
      (least.least n (omega arith) (omega arith))
  | inr (inr more) ↦ let small : n < 2 ^ 32 = i.short n e at in absurd (omega arith)
]

-- what follows from what holds where there is none
pub if_none : (o : Option ℕ) (A B : Type 0) → (A → B) → IfNone o A → IfNone o B
if_none None A B f h = f h
if_none (Some n) A B f h = tt
