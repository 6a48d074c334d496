-- The filter answers by what is met.
use Rattle.std.proofs.Common.{◌≡◌, ℕ, Bool, true, false, List, [], ◌∷◌, Option, Some, None}
use Rattle.std.proofs.Common.{Result, Ok, Err, refl, ap, subst, sym, ◌∙◌, arith}
use Rattle.std.specs.Prelude.{find, if◌then◌else◌}
use Rattle.std.proofs.lemmas.Bool.{eq-eqb, eqb-true}
use Rattle.mrc_model.specs.declared.Denied.{Denied}
use Rattle.mrc_model.specs.declared.Denied.TheVariants.{NoSuchId, WrongShape, WrongDisposition}
use Rattle.mrc_model.specs.declared.Denied.TheVariants.{ReplySlot, NotAdmitted, NotDestroyed}
use Rattle.mrc_model.specs.declared.Denied.TheVariants.{NotTaken, NotGiven, NotSent, NotForReply}
use Rattle.mrc_model.specs.IsIn.{IsIn, here, later}
use Rattle.mrc_model.specs.Message.{Message}
use Rattle.mrc_model.specs.Wiring.{Wiring, Form, form_id, forms}
use Rattle.mrc_model.specs.Filter.{expected, fits_reply, first_difference, judge, judge_found}
use Rattle.mrc_model.specs.Filter.{judge_form}
use Rattle.mrc_wiring.specs.Finding.{has_id}
use Rattle.mrc_filter.specs.Meeting.{AreMet, IsFirst, HasForm, IsAnswer, DifferInShape}
use Rattle.mrc_filter.specs.Meeting.{DifferInDisposition}
use Rattle.mrc_filter.proofs.Shapes.{chosen, not_chosen}
use Rattle.mrc_filter.proofs.Differing.{Told, told, met_none, shape_found, disposition_found}

-- ---- the form that has the id

passes_none : {X : Type 0} (p : X → Bool) (xs : List X) (x : X) → IsIn x xs → find p xs ≡ None
    → p x ≡ true → ⊥
passes_none p [] x at e f = elim at [ ]
passes_none p (y ∷ xs) x here e f =
    let some : Some y ≡ None = sym (chosen (p y) (Some y) (find p xs) (sym f)) ∙ e in cc
passes_none p (y ∷ xs) x (later at) e f = rest (p y) refl (λ g. passes_none p xs x at g f)
  where
    rest : (b : Bool) → p y ≡ b → (find p xs ≡ None → ⊥) → ⊥
    rest true g none =
        let some : Some y ≡ None = sym (chosen (p y) (Some y) (find p xs) (sym g)) ∙ e in cc
    rest false g none = none (sym (not_chosen (p y) (Some y) (find p xs) (sym g)) ∙ e)

none_passes : {X : Type 0} (p : X → Bool) (xs : List X) → ((x : X) → IsIn x xs → p x ≡ true → ⊥)
    → find p xs ≡ None
none_passes p [] none = refl
none_passes p (y ∷ xs) none =
    first (p y) refl (none_passes p xs (λ x at. none x (later at)))
  where
    first : (b : Bool) → p y ≡ b → find p xs ≡ None → (if b then Some y else find p xs) ≡ None
    first true g rest = absurd (none y here g)
    first false g rest = rest

-- ---- by what is found and by the first difference

by_reply : (W : Wiring) (c : ℕ) (m : Message) (f : Form) (b : Bool)
    → HasForm W c m f
    → AreMet (expected f m.args) m.args
    → fits_reply f m.local_disp ≡ b
    → IsAnswer W c m (if b then Ok f else Err ReplySlot)
by_reply W c m f true has met e = (has, met, e)
by_reply W c m f false has met e = (f, has, met, e)

by_difference : (W : Wiring) (c : ℕ) (m : Message) (f : Form) (o : Option Denied)
    → HasForm W c m f
    → Told 0 (expected f m.args) m.args o
    → IsAnswer W c m (judge_form f m o)
by_difference W c m f None has met =
    by_reply W c m f (fits_reply f m.local_disp) has met refl
by_difference W c m f (Some (WrongShape n)) has (i, e, first) =
    let same : i ≡ n = omega arith in
    (f, has, subst (IsFirst DifferInShape (expected f m.args) m.args) same first)
by_difference W c m f (Some (WrongDisposition n)) has (i, e, first) =
    let same : i ≡ n = omega arith in
    (f, has, subst (IsFirst DifferInDisposition (expected f m.args) m.args) same first)
by_difference W c m f (Some NoSuchId) has t = absurd t
by_difference W c m f (Some ReplySlot) has t = absurd t
by_difference W c m f (Some (NotAdmitted n)) has t = absurd t
by_difference W c m f (Some NotDestroyed) has t = absurd t
by_difference W c m f (Some NotTaken) has t = absurd t
by_difference W c m f (Some NotGiven) has t = absurd t
by_difference W c m f (Some (NotSent n)) has t = absurd t
by_difference W c m f (Some NotForReply) has t = absurd t

by_form : (W : Wiring) (c : ℕ) (m : Message) (o : Option Form)
    → find (has_id m.id) (forms W c) ≡ o
    → IsAnswer W c m (judge_found m o)
by_form W c m None e = λ f at same.
    passes_none (has_id m.id) (forms W c) f at e (eq-eqb (form_id f) m.id same)
by_form W c m (Some f) e =
    by_difference W c m f (first_difference 0 (expected f m.args) m.args) e
    (told 0 (expected f m.args) m.args)

judge_is : (W : Wiring) (c : ℕ) (m : Message) (o : Option Form)
    → find (has_id m.id) (forms W c) ≡ o
    → judge W c m ≡ judge_found m o
unfolding judge
judge_is W c m o e = ap (judge_found m) e

-- where the form of this id is found
pub judged_by : (W : Wiring) (c id : ℕ) (m : Message) (o : Option Form)
    → id ≡ m.id
    → o ≡ find (has_id id) (forms W c)
    → judge W c m ≡ judge_found m o
judged_by W c id m o same e =
    judge_is W c m o (ap (λ n. find (has_id n) (forms W c)) (sym same) ∙ sym e)

pub answered : (W : Wiring) (c : ℕ) (m : Message) → IsAnswer W c m (judge W c m)
answered W c m =
    subst (IsAnswer W c m) (sym (judge_is W c m (find (has_id m.id) (forms W c)) refl))
    (by_form W c m (find (has_id m.id) (forms W c)) refl)

-- ---- and the other way round

judged : (W : Wiring) (c : ℕ) (m : Message) (f : Form) (o : Option Denied)
    → HasForm W c m f
    → first_difference 0 (expected f m.args) m.args ≡ o
    → judge W c m ≡ judge_form f m o
judged W c m f o has e = judge_is W c m (Some f) has ∙ ap (judge_form f m) e

pub answers : (W : Wiring) (c : ℕ) (m : Message) (answer : Result Form Denied)
    → IsAnswer W c m answer → judge W c m ≡ answer
answers W c m (Ok f) is =
    judged W c m f None is.0 (met_none 0 (expected f m.args) m.args is.1)
    ∙ chosen (fits_reply f m.local_disp) _ _ (sym is.2)
answers W c m (Err NoSuchId) is =
    judge_is W c m None (none_passes (has_id m.id) (forms W c)
    (λ f at e. is f at (eqb-true (form_id f) m.id e)))
answers W c m (Err (WrongShape i)) (f, has, first) =
    judged W c m f (Some (WrongShape i)) has (shape_found i (expected f m.args) m.args first)
answers W c m (Err (WrongDisposition i)) (f, has, first) =
    judged W c m f (Some (WrongDisposition i)) has
    (disposition_found i (expected f m.args) m.args first)
answers W c m (Err ReplySlot) (f, has, met, e) =
    judged W c m f None has (met_none 0 (expected f m.args) m.args met)
    ∙ not_chosen (fits_reply f m.local_disp) _ _ (sym e)
answers W c m (Err (NotAdmitted i)) is = absurd is
answers W c m (Err NotDestroyed) is = absurd is
answers W c m (Err NotTaken) is = absurd is
answers W c m (Err NotGiven) is = absurd is
answers W c m (Err (NotSent i)) is = absurd is
answers W c m (Err NotForReply) is = absurd is
