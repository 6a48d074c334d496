-- Undoing changes of a space, one after the other.
use Rattle.std.proofs.Common.{◌≡◌, ℕ, List, [], ◌∷◌, ◌++◌}
use Rattle.std.proofs.Common.{Option, Some, None, refl, sym, ◌∙◌, ap, subst, inl, inr}
use Rattle.std.proofs.lemmas.Bool.{cases_eq}
use Rattle.mrc_base.specs.declared.PortRight.{PortRight}
use Rattle.mrc_base.specs.declared.PortRight.TheVariants.{Send, Receive, SendOnce}
use Rattle.mrc_model.specs.declared.Entry.{Entry}
use Rattle.mrc_model.specs.declared.Entry.TheVariants.{Receive as ReceiveEntry, Send as SendEntry}
use Rattle.mrc_model.specs.declared.Entry.TheVariants.{SendOnce as OnceEntry, PortSet as SetEntry}
use Rattle.mrc_model.specs.declared.Entry.TheVariants.{DeadName as DeadEntry}
use Rattle.mrc_model.specs.Map.{get, insert, remove}
use Rattle.mrc_model.specs.World.{Space}
use Rattle.mrc_model.specs.Space.{put_entry, joined}
use Rattle.mrc_model.proofs.Maps.{get-insert_same, get-insert_other, get-remove_same, not_None}
use Rattle.mrc_model.proofs.Maps.{get-remove_other}
use Rattle.mrc_map.proofs.SameMaps.{same_map, remove-insert}
use Rattle.mrc_map.proofs.EntryLaws.{not_some}
use Rattle.std.specs.Prelude.{IsSome}
use Rattle.mrc_index.specs.Names.{HoldsAlike}
use Rattle.mrc_index.specs.Undo.{CanPut, CanUndo, undone}

-- what was put under an unused name goes again
pub took_back : (x : Space) (n : ℕ) (e : Entry) → get x n ≡ None → remove (insert x n e) n ≡ x
took_back x n e none = same_map _ _ (λ q. elim (cases_eq q n) [
  | inl same ↦
      ap (get (remove (insert x n e) n)) same ∙ get-remove_same (insert x n e) n ∙ sym none
      ∙ ap (get x) (sym same)
  | inr apart ↦
      get-remove_other (insert x n e) n q apart ∙ get-insert_other x n e q apart
])

-- what was put in the place of an entry goes again
pub put_again : (x : Space) (n : ℕ) (d e : Entry)
    → get x n ≡ Some e
    → insert (insert x n d) n e ≡ x
put_again x n d e at = same_map _ _ (λ q. elim (cases_eq q n) [
  | inl same ↦
      ap (get (insert (insert x n d) n e)) same ∙ get-insert_same (insert x n d) n e ∙ sym at
      ∙ ap (get x) (sym same)
  | inr apart ↦
      get-insert_other (insert x n d) n e q apart ∙ get-insert_other x n d q apart
])

pub joined_alike : (e : Entry) (r : PortRight) → HoldsAlike e (joined e r)
joined_alike (ReceiveEntry p k i) Send = record { held = λ q. refl; once = λ q. refl }
joined_alike (ReceiveEntry p k i) Receive = record { held = λ q. refl; once = λ q. refl }
joined_alike (ReceiveEntry p k i) SendOnce = record { held = λ q. refl; once = λ q. refl }
joined_alike (SendEntry p k) Send = record { held = λ q. refl; once = λ q. refl }
joined_alike (SendEntry p k) Receive = record { held = λ q. refl; once = λ q. refl }
joined_alike (SendEntry p k) SendOnce = record { held = λ q. refl; once = λ q. refl }
joined_alike (OnceEntry p) r = record { held = λ q. refl; once = λ q. refl }
joined_alike SetEntry r = record { held = λ q. refl; once = λ q. refl }
joined_alike (DeadEntry k) r = record { held = λ q. refl; once = λ q. refl }

pub alike_back : (d e : Entry) → HoldsAlike d e → HoldsAlike e d
alike_back d e h = record { held = λ p. sym (h.held p); once = λ p. sym (h.once p) }

-- an entry under a new name, the old one gone
pub renamed : (x y z : Space) (old new : ℕ) (e : Entry)
    → get x old ≡ Some e
    → get x new ≡ None
    → y ≡ insert x new e
    → z ≡ remove y old
    → z ≡ insert (remove x old) new e
renamed x y z old new e at none put gone =
    gone ∙ ap (λ m. remove m old) put
    ∙ remove-insert x old new e (λ s. not_None e (sym at ∙ ap (get x) s ∙ none))

-- the change at the end is undone first
pub undone_end : (xs : List (ℕ × Option Entry)) (s : ℕ × Option Entry) (x : Space)
    → undone (xs ++ s ∷ []) x ≡ undone xs (put_entry x s.0 s.1)
undone_end [] s x = refl
undone_end (t ∷ xs) s x = ap (λ y. put_entry y t.0 t.1) (undone_end xs s x)

pub can_end : (xs : List (ℕ × Option Entry)) (s : ℕ × Option Entry) (x : Space)
    → CanUndo (xs ++ s ∷ []) x
    → CanPut x s.0 s.1 × CanUndo xs (put_entry x s.0 s.1)
can_end [] s x c = (c.0, tt)
can_end (t ∷ xs) s x c =
    let rest = can_end xs s x c.1 in
    (rest.0, (subst (λ y. CanPut y t.0 t.1) (undone_end xs s x) c.0, rest.1))

pub can_push : (xs : List (ℕ × Option Entry)) (s : ℕ × Option Entry) (x : Space)
    → CanPut x s.0 s.1
    → CanUndo xs (put_entry x s.0 s.1)
    → CanUndo (xs ++ s ∷ []) x
can_push [] s x here rest = (here, tt)
can_push (t ∷ xs) s x here rest =
    (subst (λ y. CanPut y t.0 t.1) (sym (undone_end xs s x)) rest.0, can_push xs s x here rest.1)

-- a step of undoing
pub step_can : (ys xs : List (ℕ × Option Entry)) (s : ℕ × Option Entry) (x : Space)
    → ys ≡ xs ++ s ∷ []
    → CanUndo ys x
    → CanPut x s.0 s.1
step_can ys xs s x e c = (can_end xs s x (subst (λ z. CanUndo z x) e c)).0

pub step_rest : (ys xs : List (ℕ × Option Entry)) (s : ℕ × Option Entry) (x y : Space)
    → ys ≡ xs ++ s ∷ []
    → CanUndo ys x
    → y ≡ put_entry x s.0 s.1
    → CanUndo xs y
step_rest ys xs s x y e c is =
    subst (CanUndo xs) (sym is) (can_end xs s x (subst (λ z. CanUndo z x) e c)).1

pub step_same : (ys xs : List (ℕ × Option Entry)) (s : ℕ × Option Entry) (x y : Space)
    → ys ≡ xs ++ s ∷ []
    → y ≡ put_entry x s.0 s.1
    → undone xs y ≡ undone ys x
step_same ys xs s x y e is =
    ap (undone xs) is ∙ sym (undone_end xs s x) ∙ ap (λ z. undone z x) (sym e)

-- a step of giving
pub give_can : (xs : List (ℕ × Option Entry)) (s : ℕ × Option Entry) (x y : Space)
    → CanUndo xs x
    → put_entry y s.0 s.1 ≡ x
    → CanPut y s.0 s.1
    → CanUndo (xs ++ s ∷ []) y
give_can xs s x y c back ready = can_push xs s y ready (subst (CanUndo xs) (sym back) c)

pub give_back : (xs : List (ℕ × Option Entry)) (s : ℕ × Option Entry) (x y z : Space)
    → undone xs x ≡ z
    → put_entry y s.0 s.1 ≡ x
    → undone (xs ++ s ∷ []) y ≡ z
give_back xs s x y z same back = undone_end xs s y ∙ ap (undone xs) back ∙ same

-- a right may come under an unused name before it goes from another
apart_names : (x : Space) (n m : ℕ) → IsSome (get x n) → get x m ≡ None → n ≡ m → ⊥
apart_names x n m some none same =
    not_some (get x n) (ap (get x) same ∙ none) some

pub commutes : (x : Space) (n m : ℕ) (rest : Option Entry) (e : Entry)
    → IsSome (get x n)
    → get x m ≡ None
    → put_entry (insert x m e) n rest ≡ insert (put_entry x n rest) m e
commutes x n m None e some none = remove-insert x n m e (apart_names x n m some none)
commutes x n m (Some f) e some none = same_map _ _ (λ q. elim (cases_eq q m) [
  | inl here ↦
      ap (get (insert (insert x m e) n f)) here
      ∙ get-insert_other (insert x m e) n f m (λ s. apart_names x n m some none (sym s))
      ∙ get-insert_same x m e ∙ sym (get-insert_same (insert x n f) m e)
      ∙ ap (get (insert (insert x n f) m e)) (sym here)
  | inr off ↦ elim (cases_eq q n) [
    | inl there ↦
        ap (get (insert (insert x m e) n f)) there ∙ get-insert_same (insert x m e) n f
        ∙ sym (get-insert_same x n f) ∙ ap (get (insert x n f)) (sym there)
        ∙ sym (get-insert_other (insert x n f) m e q off)
    | inr far ↦
        get-insert_other (insert x m e) n f q far ∙ get-insert_other x m e q off
        ∙ sym (get-insert_other x n f q far) ∙ sym (get-insert_other (insert x n f) m e q off)
  ]
])

-- and can still go there
pub still_can : (x : Space) (n m : ℕ) (rest : Option Entry) (e : Entry)
    → IsSome (get x n)
    → get x m ≡ None
    → CanPut x n rest
    → CanPut (insert x m e) n rest
still_can x n m None e some none can = tt
still_can x n m (Some f) e some none can =
    (can.0, get-insert_other x m e n (apart_names x n m some none) ∙ can.1, can.2)
