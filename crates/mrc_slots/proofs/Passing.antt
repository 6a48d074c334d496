-- What passes by slots, and which reply rights can come.
use Rattle.std.proofs.Common.{◌≡◌, ℕ, Bool, true, false, refl, ap, sym, ◌∙◌, inl, inr}
use Rattle.std.specs.Prelude.{◌||◌, ◌&&◌, nat_lt, flat_map, if◌then◌else◌}
use Rattle.std.specs.List.{list_any}
use Rattle.std.proofs.lemmas.Bool.{or_cases, or_right, and_parts, false≢true}
use Rattle.std.proofs.Math.Bool.{and-false}
use Rattle.mrc_base.specs.declared.PortRight.{PortRight}
use Rattle.mrc_base.specs.declared.PortRight.TheVariants.{Send, Receive, SendOnce}
use Rattle.mrc_base.specs.declared.Disp.{Disp}
use Rattle.mrc_base.specs.declared.Disp.TheVariants.{MoveReceive, MoveSend, MoveSendOnce, CopySend}
use Rattle.mrc_base.specs.declared.Disp.TheVariants.{MakeSend, MakeSendOnce}
use Rattle.mrc_base.specs.Disposition.{needed, given}
use Rattle.mrc_model.specs.Wiring.{Wiring, classes, label, forms, item_forms, admits}
use Rattle.mrc_model.specs.Wiring.{accepts_replier, accepts_routine, has_routine, is_answered}
use Rattle.mrc_wiring.specs.Slots.{takes, form_takes}
use Rattle.mrc_wiring.proofs.Takers.{taker}
use Rattle.mrc_slots.specs.Passing.{passes}

-- what a slot takes passes
pub by_slot : (W : Wiring) (d c : ℕ) (x : Disp) → takes W d x c ≡ true
    → passes W d c (needed x) (given x) ≡ true
by_slot W d c MoveReceive h = rw h refl
by_slot W d c MoveSend h = rw h refl
by_slot W d c MoveSendOnce h = rw h refl
by_slot W d c CopySend h = rw h (or_right (takes W d MoveSend c) true refl)
by_slot W d c MakeSend h = rw h refl
by_slot W d c MakeSendOnce h = rw h refl

-- what passes does so by one of them

or_nothing : (b : Bool) → (b || false) ≡ true → b ≡ true
or_nothing true e = refl
or_nothing false e = e

pub passed_by : (W : Wiring) (d c : ℕ) (held give : PortRight) → passes W d c held give ≡ true
    → (x : Disp) × ((needed x ≡ held) × ((given x ≡ give) × (takes W d x c ≡ true)))
passed_by W d c Send Send h = elim (or_cases (takes W d MoveSend c) _ h) [
  | inl there ↦ (MoveSend, (refl, (refl, there)))
  | inr more ↦ (CopySend, (refl, (refl, or_nothing (takes W d CopySend c) more)))
]
passed_by W d c Send Receive h = absurd (false≢true h)
passed_by W d c Send SendOnce h = absurd (false≢true h)
passed_by W d c Receive Send h = (MakeSend, (refl, (refl, or_nothing (takes W d MakeSend c) h)))
passed_by W d c Receive Receive h =
    (MoveReceive, (refl, (refl, or_nothing (takes W d MoveReceive c) h)))
passed_by W d c Receive SendOnce h = (MakeSendOnce, (refl, (refl, h)))
passed_by W d c SendOnce Send h = absurd (false≢true h)
passed_by W d c SendOnce Receive h = absurd (false≢true h)
passed_by W d c SendOnce SendOnce h =
    (MoveSendOnce, (refl, (refl, or_nothing (takes W d MoveSendOnce c) h)))

-- what a class takes depends on its label alone

same_label_takes : (W : Wiring) (d e : ℕ) → label W d ≡ label W e → (x : Disp) (c : ℕ)
    → takes W d x c ≡ takes W e x c
unfolding takes forms
same_label_takes W d e same x c =
    ap (λ items. list_any (form_takes W x c) (flat_map (item_forms W) items)) same

pub same_label_passes : (W : Wiring) (d e c : ℕ) (held give : PortRight)
    → label W d ≡ label W e → passes W d c held give ≡ passes W e c held give
same_label_passes W d e c held give same =
    let move_receive = same_label_takes W d e same MoveReceive c in
    let move_send = same_label_takes W d e same MoveSend c in
    let move_once = same_label_takes W d e same MoveSendOnce c in
    let copy_send = same_label_takes W d e same CopySend c in
    let make_send = same_label_takes W d e same MakeSend c in
    let make_once = same_label_takes W d e same MakeSendOnce c in
    cc

pub same_label_replier : (W : Wiring) (d e : ℕ) → label W d ≡ label W e → (c : ℕ)
    → accepts_replier W d c ≡ accepts_replier W e c
unfolding accepts_replier accepts_routine
same_label_replier W d e same c =
    ap (λ items. if W.replies_fit then list_any (is_answered W c) items
    else list_any (has_routine W) items) same

-- what is taken is a class

takes_class : (W : Wiring) (d : ℕ) (x : Disp) (c : ℕ) → takes W d x c ≡ true
    → nat_lt c (classes W) ≡ true
unfolding admits
takes_class W d x c e =
    let t = taker W d x c e in
    (and_parts (nat_lt c (classes W)) _ t.admitted).0

pub takes_below : (W : Wiring) (d : ℕ) (x : Disp) (c : ℕ)
    → takes W d x c ≡ (nat_lt c (classes W) && takes W d x c)
takes_below W d x c = go (takes W d x c) refl
  where
    go : (b : Bool) → takes W d x c ≡ b → takes W d x c ≡ (nat_lt c (classes W) && takes W d x c)
    go true e = e ∙ sym (rw (takes_class W d x c e, e) refl)
    go false e = e ∙ sym (rw e (and-false (nat_lt c (classes W))))
