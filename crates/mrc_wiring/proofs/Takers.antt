-- A slot that takes a right is one of a form of the label.
use Rattle.std.proofs.Common.{◌≡◌, ℕ, true, [], ◌∷◌, Some, refl, ap}
use Rattle.std.proofs.Common.{◌∙◌, rules, ◌==◌}
use Rattle.std.proofs.lemmas.Bool.{and_parts, and_from, eqb-true}
use Rattle.std.proofs.lemmas.Bool.{eq-eqb}
use Rattle.mrc_base.specs.declared.Disp.{Disp}
use Rattle.mrc_base.specs.declared.Disp.TheVariants.{MoveReceive, MoveSend, MoveSendOnce, CopySend}
use Rattle.mrc_base.specs.declared.Disp.TheVariants.{MakeSend, MakeSendOnce}
use Rattle.mrc_base.specs.Disposition.{disp_number, disp_of_number}
use Rattle.mrc_base.specs.declared.PortRight.{PortRight}
use Rattle.mrc_base.specs.declared.PortRight.TheVariants.{Send, Receive, SendOnce}
use Rattle.mrc_model.specs.IsIn.{IsIn}
use Rattle.mrc_model.specs.Wiring.{Wiring, Shape, Form, form_shapes, forms, admits, type_numbers}
use Rattle.mrc_model.proofs.Members.{in_any, any_in}
use Rattle.mrc_model.specs.Rights.{same_right}
use Rattle.mrc_wiring.specs.Slots.{is_type_of, shape_takes, form_takes, takes}

-- equal rights are the same
pub same_right_is : (r q : PortRight) → same_right r q ≡ true → r ≡ q
same_right_is Send Send e = refl
same_right_is Receive Receive e = refl
same_right_is SendOnce SendOnce e = refl
same_right_is Send Receive e = cc
same_right_is Send SendOnce e = cc
same_right_is Receive Send e = cc
same_right_is Receive SendOnce e = cc
same_right_is SendOnce Send e = cc
same_right_is SendOnce Receive e = cc

number_of_disp : (n : ℕ) (x : Disp) → disp_of_number n ≡ Some x → n ≡ disp_number x
number_of_disp n x e = search rules

disp_of_its_number : (x : Disp) → disp_of_number (disp_number x) ≡ Some x
disp_of_its_number MoveReceive = refl
disp_of_its_number MoveSend = refl
disp_of_its_number MoveSendOnce = refl
disp_of_its_number CopySend = refl
disp_of_its_number MakeSend = refl
disp_of_its_number MakeSendOnce = refl

-- a slot of a form that class d's label has, of disposition x, whose type admits class c
pub record IsTaker (W : Wiring) (d : ℕ) (x : Disp) (c : ℕ) : Type 0 where
  pub form : Form
  pub slot : Shape
  pub labelled : IsIn form (forms W d)
  pub among : IsIn slot (form_shapes form)
  pub number : ℕ
  pub typed : IsIn number (type_numbers slot.types)
  pub disposition : disp_of_number number ≡ Some x
  pub admitted : admits W slot.sort c ≡ true

pub taken : (W : Wiring) (d : ℕ) (x : Disp) (c : ℕ) → IsTaker W d x c → takes W d x c ≡ true
unfolding takes
taken W d x c t =
    let number : is_type_of t.slot (disp_number x) ≡ true =
    in_any (λ m. m == disp_number x) t.number (type_numbers t.slot.types) t.typed
    (eq-eqb t.number (disp_number x) (number_of_disp t.number x t.disposition)) in
    let one : shape_takes W x c t.slot ≡ true = and_from (is_type_of t.slot (disp_number x))
    (admits W t.slot.sort c) number t.admitted in
    in_any (form_takes W x c) t.form (forms W d) t.labelled
    (in_any (shape_takes W x c) t.slot (form_shapes t.form) t.among one)

pub taker : (W : Wiring) (d : ℕ) (x : Disp) (c : ℕ) → takes W d x c ≡ true → IsTaker W d x c
unfolding takes
taker W d x c e =
    let form = any_in (form_takes W x c) (forms W d) e in
    let slot = any_in (shape_takes W x c) (form_shapes form.0) form.2 in
    let parts = and_parts (is_type_of slot.0 (disp_number x)) (admits W slot.0.sort c) slot.2 in
    let number = any_in (λ m. m == disp_number x) (type_numbers slot.0.types) parts.0 in
    record {
      form = form.0;
      slot = slot.0;
      labelled = form.1;
      among = slot.1;
      number = number.0;
      typed = number.1;
      disposition = ap disp_of_number (eqb-true number.0 (disp_number x) number.2)
          ∙ disp_of_its_number x;
      admitted = parts.1;
    }
