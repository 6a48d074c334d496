-- Lists of rights: how often a receive right is among them, and facts of each of them.
use Rattle.std.proofs.Common.{List, None, Option, Some, [], ap, arith, refl, sym, ℕ, ◌++◌, ◌+◌, ◌∙◌}
use Rattle.std.proofs.Common.{◌∷◌, ◌≡◌}
use Rattle.std.proofs.lemmas.Bool.{ne_eqb}
use Rattle.std.specs.List.{AllByRecursion}
use Rattle.mrc_base.specs.declared.Fact.TheVariants.{Carry, Hold}
use Rattle.mrc_base.specs.declared.PortRight.{PortRight}
use Rattle.mrc_base.specs.declared.PortRight.TheVariants.{Receive, Send, SendOnce}
use Rattle.mrc_model.proofs.Maps.{not_None}
use Rattle.mrc_model.specs.Covers.{IsBackup, Known, KnownAt}
use Rattle.mrc_model.specs.IsIn.{IsIn, here, later}
use Rattle.mrc_model.specs.Rules.{FactSet}
use Rattle.mrc_model.specs.Step.{step}
use Rattle.mrc_model.specs.World.{Held, Port, Space, entry_rights, queue_rights, receives}
use Rattle.mrc_model.specs.World.{space_receives}
use Rattle.mrc_model.specs.declared.Backup.{Backup}
use Rattle.mrc_model.specs.declared.Entry.{Entry}

-- the rights that tasks of class t may hold
abbrev pub MayHold : FactSet → ℕ → ℕ → PortRight → Type 0
MayHold G t c r = G (Hold t c r)

-- the rights that messages on ports of class d may carry
abbrev pub MayCarry : FactSet → ℕ → ℕ → PortRight → Type 0
MayCarry G d c r = G (Carry d c r)

-- how often p's receive right is in an entry
abbrev pub entry_receives : ℕ → ℕ → Entry → ℕ
entry_receives p n e = receives p (entry_rights e)

-- how often it is in a space
abbrev pub each_receives : ℕ → ℕ → Space → ℕ
each_receives p t x = space_receives p x

-- how often it is on the queue of a port
abbrev pub queue_receives : ℕ → ℕ → Port → ℕ
queue_receives p q x = receives p (queue_rights x.queue)

-- one right on a port
abbrev pub right_on : ℕ → PortRight → Held
right_on p r = record { port = p; right = r }

-- the receive rights of two lists
pub receives-append : (p : ℕ) (hs gs : List Held)
    → receives p (hs ++ gs) ≡ receives p hs + receives p gs
receives-append p [] gs = omega arith
receives-append p (h ∷ hs) gs = let rest = receives-append p hs gs in omega arith

-- the next lemma, on the list itself
all_along : (F : ℕ → PortRight → Type 0) (k l : ℕ → Option ℕ) (hs : List Held)
    → ((p : ℕ) → l p ≡ k p)
    → AllByRecursion (KnownAt k F) hs → AllByRecursion (KnownAt l F) hs
all_along F k l [] same h = tt
all_along F k l (x ∷ xs) same h = ((h.0.0, same x.port ∙ h.0.1, h.0.2), all_along F k l xs same h.1)

-- rights stay known where the classes of ports stay
pub Known-along : {k l : ℕ → Option ℕ} {F : ℕ → PortRight → Type 0} {hs : List Held}
    → ((p : ℕ) → l p ≡ k p)
    → Known k F hs → Known l F hs
Known-along {k} {l} {F} {hs} same h = record { all = all_along F k l hs same h.all }

-- the next lemma, on the list itself
all_more : (F G : ℕ → PortRight → Type 0) (k : ℕ → Option ℕ) (hs : List Held)
    → ((c : ℕ) (r : PortRight) → F c r → G c r) → AllByRecursion (KnownAt k F) hs
    → AllByRecursion (KnownAt k G) hs
all_more F G k [] step h = tt
all_more F G k (x ∷ xs) step h = ((h.0.0, h.0.1, step _ _ h.0.2), all_more F G k xs step h.1)

-- rights are known for weaker facts
pub Known-more : {k : ℕ → Option ℕ} {F G : ℕ → PortRight → Type 0} {hs : List Held}
    → ((c : ℕ) (r : PortRight) → F c r → G c r) → Known k F hs → Known k G hs
Known-more {k} {F} {G} {hs} step h = record { all = all_more F G k hs step h.all }

-- the next lemma, on the list itself
all_append : (P : Held → Type 0) (hs gs : List Held) → AllByRecursion P hs → AllByRecursion P gs
    → AllByRecursion P (hs ++ gs)
all_append P [] gs a b = b
all_append P (x ∷ xs) gs a b = (a.0, all_append P xs gs a.1 b)

-- rights of two lists that are known
pub Known-append : {k : ℕ → Option ℕ} {F : ℕ → PortRight → Type 0} {hs gs : List Held}
    → Known k F hs → Known k F gs
    → Known k F (hs ++ gs)
Known-append {k} {F} {hs} {gs} a b = record { all = all_append _ hs gs a.all b.all }

-- the next lemma, on the list itself
all_first : (P : Held → Type 0) (hs gs : List Held) → AllByRecursion P (hs ++ gs)
    → AllByRecursion P hs
all_first P [] gs h = tt
all_first P (x ∷ xs) gs h = (h.0, all_first P xs gs h.1)

-- the same for the second list
all_second : (P : Held → Type 0) (hs gs : List Held) → AllByRecursion P (hs ++ gs)
    → AllByRecursion P gs
all_second P [] gs h = h
all_second P (x ∷ xs) gs h = all_second P xs gs h.1

-- of two lists of known rights, the first
pub Known-first : {k : ℕ → Option ℕ} {F : ℕ → PortRight → Type 0} (hs gs : List Held)
    → Known k F (hs ++ gs)
    → Known k F hs
Known-first hs gs h = record { all = all_first _ hs gs h.all }

-- of two lists of known rights, the second
pub Known-second : {k : ℕ → Option ℕ} {F : ℕ → PortRight → Type 0} (hs gs : List Held)
    → Known k F (hs ++ gs)
    → Known k F gs
Known-second hs gs h = record { all = all_second _ hs gs h.all }

-- a request stays known where the classes of ports stay
pub IsBackup-along : {k l : ℕ → Option ℕ} {F : ℕ → Type 0} {b : Backup} → ((p : ℕ) → l p ≡ k p)
    → IsBackup k F b
    → IsBackup l F b
IsBackup-along same h = record { live = λ q e. let r = h.live q e in (r.0, same q ∙ r.1, r.2) }

-- rights stay known where ports are added
pub Known-grow : {k l : ℕ → Option ℕ} {F : ℕ → PortRight → Type 0} {hs : List Held}
    → ((p c : ℕ) → k p ≡ Some c → l p ≡ Some c) → Known k F hs → Known l F hs
Known-grow {k} {l} {F} {hs} more h = record { all = go hs h.all }
  where
    go : (gs : List Held) → AllByRecursion (KnownAt k F) gs → AllByRecursion (KnownAt l F) gs
    go [] a = tt
    go (x ∷ xs) a = ((a.0.0, more _ _ a.0.1, a.0.2), go xs a.1)

-- a port that is not live is nowhere
pub unknown_right : (p : ℕ) (q : ℕ) (r : PortRight) → (q ≡ p → ⊥)
    → receives p (right_on q r ∷ []) ≡ 0
unknown_right p q Receive n = rw (ne_eqb q p n)
unknown_right p q Send n = refl
unknown_right p q SendOnce n = refl

-- known rights have no receive right of a port that is not live
pub receives-unknown : (k : ℕ → Option ℕ) (F : ℕ → PortRight → Type 0) (p : ℕ) (hs : List Held)
    → k p ≡ None
    → AllByRecursion (KnownAt k F) hs → receives p hs ≡ 0
receives-unknown k F p [] none h = refl
receives-unknown k F p (x ∷ xs) none h =
    let a = receives-unknown k F p xs none h.1 in
    let b = unknown_right p x.port x.right (λ z. not_None h.0.0 (sym h.0.1 ∙ ap k z ∙ none)) in
    omega arith

-- each of a list of known rights is known
pub known_in : (k : ℕ → Option ℕ) (P : ℕ → PortRight → Type 0) (h : Held) (hs : List Held)
    → IsIn h hs
    → AllByRecursion (KnownAt k P) hs → KnownAt k P h
known_in k P h hs (here) all = all.0
known_in k P h hs (later {xs = xs} i) all = known_in k P h xs i all.1
