-- What a slot admits, and what a sender may send, does not change by takings; one name of an
-- argument, and a reply right, from what code tells.
use Rattle.std.proofs.Common.{◌≡◌, ℕ, List, [], ◌∷◌, Option, Some, None, Ok, Err, inl, inr, refl}
use Rattle.std.proofs.Common.{sym, ◌∙◌, ap, true, false}
use Rattle.std.specs.Option.{option_map}
use Rattle.std.proofs.lemmas.Bool.{cases_eq}
use Rattle.mrc_base.specs.declared.Disp.{Disp}
use Rattle.mrc_base.specs.declared.PortRight.{PortRight}
use Rattle.mrc_model.specs.declared.Item.{Item}
use Rattle.mrc_model.specs.declared.Item.TheVariants.{Null as NullItem, Dead as DeadItem}
use Rattle.mrc_model.specs.declared.Item.TheVariants.{Right as RightItem}
use Rattle.mrc_model.specs.declared.Code.TheVariants.{MachSendInvalidRight}
use Rattle.mrc_model.specs.declared.Denied.TheVariants.{NotAdmitted, NotSent, ReplySlot}
use Rattle.mrc_model.specs.declared.Denied.TheVariants.{NotForReply}
use Rattle.mrc_model.specs.declared.Verb.{Verb}
use Rattle.mrc_model.specs.declared.Verb.TheVariants.{Sends, Replies}
use Rattle.mrc_model.specs.Map.{get}
use Rattle.mrc_model.specs.Wiring.{Wiring, admits, may, fits_at}
use Rattle.mrc_model.specs.World.{Port, Store, class_of}
use Rattle.mrc_model.specs.Reply.{Reply, Refused, DeniedBy, Try, ◌>>=◌, ◌>>◌, check, or_refuse}
use Rattle.mrc_model.specs.Space.{restart, restart_port}
use Rattle.mrc_model.specs.Trust.{may_item}
use Rattle.mrc_model.specs.CallSend.{take_item, admit_item, fits_item}
use Rattle.mrc_model.proofs.Maps.{get-insert_same, get-insert_other}
use Rattle.mrc_transit.specs.Staging.{Taking, restart_each, staged}
use Rattle.mrc_transit.specs.Sending.{take_admitted, judge_reply}

-- the class of a port
abbrev class_at : Option Port → Option ℕ
class_at o = option_map (λ (x : Port). x.class) o

-- it stays where receipts become 0
restart_class_at : (s : Store) (q p : ℕ) (o : Option Port)
    → get s.ports q ≡ o
    → class_of (restart_port s q o) p ≡ class_of s p
restart_class_at s q p None at = refl
restart_class_at s q p (Some x) at = elim (cases_eq p q) [
  | inl same ↦
      ap (λ k. class_at (get (restart_port s q (Some x)).ports k)) same
      ∙ ap class_at (get-insert_same s.ports q (record x { receipts = 0 }))
      ∙ sym (ap class_at at) ∙ ap (λ k. class_at (get s.ports k)) (sym same)
  | inr other ↦ ap class_at (get-insert_other s.ports q (record x { receipts = 0 }) p other)
]

each_class : (ps : List ℕ) (s : Store) (p : ℕ) → class_of (restart_each s ps) p ≡ class_of s p
unfolding restart
each_class [] s p = refl
each_class (q ∷ ps) s p =
    each_class ps (restart s q) p ∙ restart_class_at s q p (get s.ports q) refl

class_staged : (s : Store) (t p : ℕ) (g : Taking) → class_of (staged s t g) p ≡ class_of s p
unfolding staged
class_staged s t p g = each_class g.moved (record s { spaces = _ }) p

-- a slot and its sender look at the right and the class alone
admit_class : Wiring → ℕ → ℕ → ℕ → PortRight → Option ℕ → Try (Unit {0})
admit_class W own sort i r o =
    or_refuse o (Refused MachSendInvalidRight)
    >>= λ c. check (admits W sort c) (DeniedBy (NotAdmitted i))
    >> check (may W Sends own r c) (DeniedBy (NotSent i))

admit_by : (W : Wiring) (own sort i : ℕ) (r : PortRight) (o : Option Port)
    → (or_refuse o (Refused MachSendInvalidRight)
    >>= λ x. check (admits W sort x.class) (DeniedBy (NotAdmitted i))
    >> check (may W Sends own r x.class) (DeniedBy (NotSent i)))
    ≡ admit_class W own sort i r (class_at o)
unfolding admit_class ◌>>=◌ or_refuse
admit_by W own sort i r None = refl
admit_by W own sort i r (Some x) = refl

pub admit_staged : (W : Wiring) (own : ℕ) (s : Store) (t sort i : ℕ) (g : Taking) (item : Item)
    → admit_item W own (staged s t g) sort i item ≡ admit_item W own s sort i item
admit_staged W own s t sort i g NullItem = refl
admit_staged W own s t sort i g DeadItem = refl
admit_staged W own s t sort i g (RightItem p r) =
    admit_by W own sort i r (get (staged s t g).ports p)
    ∙ ap (admit_class W own sort i r) (class_staged s t p g)
    ∙ sym (admit_by W own sort i r (get s.ports p))

-- what code tells of a live right

module _ (W : Wiring) (own : ℕ) (s : Store) (sort i p : ℕ) (item : Item) (r : PortRight)
    (is : item ≡ RightItem p r) where
  pub admit_absent : get s.ports p ≡ None
      → admit_item W own s sort i item ≡ Err (Refused MachSendInvalidRight)
  unfolding ◌>>=◌ or_refuse
  admit_absent none = rw (is, none) refl

  module _ (x : Port) (at : get s.ports p ≡ Some x) where
    pub admit_denied : admits W sort x.class ≡ false
        → admit_item W own s sort i item ≡ Err (DeniedBy (NotAdmitted i))
    unfolding ◌>>=◌ ◌>>◌ or_refuse check
    admit_denied fails = rw (is, at, fails) refl

    module _ (holds : admits W sort x.class ≡ true) where
      pub admit_unsent : may W Sends own r x.class ≡ false
          → admit_item W own s sort i item ≡ Err (DeniedBy (NotSent i))
      unfolding ◌>>=◌ ◌>>◌ or_refuse check
      admit_unsent limited = rw (is, at, holds, limited) refl

      pub admit_found : may W Sends own r x.class ≡ true
          → admit_item W own s sort i item ≡ Ok tt
      unfolding ◌>>=◌ ◌>>◌ or_refuse check
      admit_found sent = rw (is, at, holds, sent) refl

-- one name

module _ (W : Wiring) (own : ℕ) (s : Store) (t n : ℕ) (d : Disp) (sort i : ℕ) (g h : Taking)
    (item : Item)
    (took : take_item (staged s t g) t n d (Refused MachSendInvalidRight)
    ≡ Ok (staged s t h, item)) where
  pub admitted : admit_item W own s sort i item ≡ Ok tt
      → take_admitted W own t d sort i (staged s t g) n ≡ Ok (staged s t h, item)
  unfolding take_admitted ◌>>=◌ ◌>>◌
  admitted ok = rw (took, admit_staged W own s t sort i h item, ok) refl

  pub not_admitted : (e : Reply)
      → admit_item W own s sort i item ≡ Err e
      → take_admitted W own t d sort i (staged s t g) n ≡ Err e
  unfolding take_admitted ◌>>=◌ ◌>>◌
  not_admitted e fails = rw (took, admit_staged W own s t sort i h item, fails) refl

-- a port that code looks up

pub may_absent : (W : Wiring) (s : Store) (v : Verb) (own p : ℕ) (item : Item) (r : PortRight)
    → item ≡ RightItem p r
    → get s.ports p ≡ None
    → may_item W s v own item ≡ true
may_absent W s v own p item r is none = rw (is, none) refl

pub may_found : (W : Wiring) (s : Store) (v : Verb) (own p : ℕ) (item : Item) (r : PortRight)
    (x : Port)
    → item ≡ RightItem p r
    → get s.ports p ≡ Some x
    → may_item W s v own item ≡ may W v own r x.class
may_found W s v own p item r x is at = rw (is, at) refl

pub fits_absent : (W : Wiring) (s : Store) (d id p : ℕ) (item : Item) (r : PortRight)
    → item ≡ RightItem p r
    → get s.ports p ≡ None
    → fits_item W s d id item ≡ true
fits_absent W s d id p item r is none = rw (is, none) refl

pub fits_found : (W : Wiring) (s : Store) (d id p : ℕ) (item : Item) (r : PortRight) (x : Port)
    → item ≡ RightItem p r
    → get s.ports p ≡ Some x
    → fits_item W s d id item ≡ fits_at W d id x.class
fits_found W s d id p item r x is at = rw (is, at) refl

-- a reply right

module _ (W : Wiring) (s : Store) (own d id : ℕ) (item : Item) where
  pub reply_unfit : fits_item W s d id item ≡ false
      → judge_reply W s own d id item ≡ Err (DeniedBy ReplySlot)
  unfolding judge_reply ◌>>◌ check
  reply_unfit fails = rw fails refl

  module _ (fits : fits_item W s d id item ≡ true) where
    pub reply_unnamed : may_item W s Replies own item ≡ false
        → judge_reply W s own d id item ≡ Err (DeniedBy NotForReply)
    unfolding judge_reply ◌>>◌ check
    reply_unnamed limited = rw (fits, limited) refl

    pub reply_named : may_item W s Replies own item ≡ true
        → judge_reply W s own d id item ≡ Ok tt
    unfolding judge_reply ◌>>◌ check
    reply_named named = rw (fits, named) refl
