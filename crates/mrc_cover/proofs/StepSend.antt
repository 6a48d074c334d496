-- send keeps a world well formed and covered. New are the rights that the message carries, on the
-- queue of its destination. The sender may hold a right to send there and what each disposition
-- needs, is trusted to send each, and the filter has found a form that the message fits: so the
-- facts of slots come by K4, and that of the reply right by K5.
use Rattle.std.proofs.Common.{Bool, Err, List, None, Ok, Option, Some, [], ap, false, if◌then◌else◌}
use Rattle.std.proofs.Common.{inl, inr, refl, subst, sym, true, ℕ, ◌++◌, ◌==◌, ◌||◌, ◌∙◌, ◌∷◌, ◌≡◌}
use Rattle.std.proofs.Common.{◌⊎◌}
use Rattle.std.proofs.Math.Nat.{le_trans}
use Rattle.std.proofs.lemmas.Bool.{eqb-true, or_cases}
use Rattle.mrc_base.specs.Disposition.{given, needed, disp_of_number}
use Rattle.mrc_base.specs.declared.Disp.{Disp}
use Rattle.mrc_base.specs.declared.Disp.TheVariants.{CopySend, MakeSend, MakeSendOnce, MoveReceive}
use Rattle.mrc_base.specs.declared.Disp.TheVariants.{MoveSend, MoveSendOnce}
use Rattle.mrc_base.specs.declared.Fact.TheVariants.{Carry, Hold}
use Rattle.mrc_base.specs.declared.PortRight.{PortRight}
use Rattle.mrc_base.specs.declared.PortRight.TheVariants.{Receive, Send, SendOnce}
use Rattle.mrc_model.proofs.Maps.{not_None, same_Some}
use Rattle.mrc_model.proofs.Tries.{Gives, bind, bind_, checked, found, gives_err, gives_ok}
use Rattle.mrc_model.proofs.Tries.{not_refused}
use Rattle.mrc_model.specs.CallSend.{call_send, fits_item, fits_port, not_receive, take_reply_by}
use Rattle.mrc_model.specs.Death.{append}
use Rattle.mrc_model.specs.Filter.{fits_once, fits_reply, fits_request}
use Rattle.mrc_model.specs.IsIn.{IsIn}
use Rattle.mrc_model.specs.Map.{get}
use Rattle.mrc_model.specs.Message.{Message}
use Rattle.mrc_model.specs.Reply.{Reply}
use Rattle.mrc_model.specs.Rights.{is_once}
use Rattle.mrc_model.specs.Rules.{CanSendBy, FactSet, by_once, by_send}
use Rattle.mrc_model.specs.Wiring.{Form, OfReply, OfRequest, RequestForm, Wiring, form_shapes}
use Rattle.mrc_model.specs.Trust.{may_item}
use Rattle.mrc_model.specs.Wiring.{fits_at, forms, brings_reply, brings_reply_kind, may}
use Rattle.mrc_model.specs.World.{Held, Parcel, Store, World, class_of, item_rights, receives}
use Rattle.mrc_model.specs.World.{task_class}
use Rattle.mrc_model.specs.declared.Item.{Item}
use Rattle.mrc_model.specs.declared.Item.TheVariants.{Dead as DeadItem, Null as NullItem}
use Rattle.mrc_model.specs.declared.Item.TheVariants.{Right as RightItem}
use Rattle.mrc_model.specs.declared.Verb.TheVariants.{Replies}
use Rattle.mrc_model.specs.declared.RequestKind.{RequestKind}
use Rattle.mrc_model.specs.declared.RequestKind.TheVariants.{Routine, Simple, Replied}
use Rattle.mrc_cover.proofs.Carrying.{IsCarried, carries_nothing, carries_then, carries_weaker}
use Rattle.mrc_cover.proofs.Carrying.{take_args_carry, take_item_carries}
use Rattle.mrc_cover.proofs.Judging.{judge_says, replier_accepted, routine_accepted}
use Rattle.mrc_cover.proofs.Kept.{IsAlive, Keeps, Kept, keeps_with}
use Rattle.mrc_cover.proofs.Obeyed.{Obeys, obeys}
use Rattle.mrc_cover.proofs.Queueing.{append_leaves}
use Rattle.mrc_cover.proofs.Rights.{MayCarry, right_on}
use Rattle.mrc_cover.proofs.Sound.{SoundWith, changes_then, exchange_hand, leaves_then}
use Rattle.mrc_cover.proofs.Stores.{live_class}
use Rattle.mrc_cover.proofs.Taking.{take_leaves}
use Rattle.mrc_cover.proofs.Trusting.{item_is_trusted}

-- who sends by this disposition has a right to send
sender : (W : Wiring) (G : FactSet) → Obeys W G → (t d : ℕ) (x : Disp) → not_receive x ≡ true
    → G (Hold t d (needed x))
    → (r : PortRight) × CanSendBy r × G (Hold t d r)
sender W G o t d MoveReceive e g = cc
sender W G o t d MoveSend e g = (Send, by_send, g)
sender W G o t d MoveSendOnce e g = (SendOnce, by_once, g)
sender W G o t d CopySend e g = (Send, by_send, g)
sender W G o t d MakeSend e g = (Send, by_send, o.sends g)
sender W G o t d MakeSendOnce e g = (Send, by_send, o.sends g)

-- no receive right is taken by the disposition of the destination
not_moved : (x : Disp) (p q : ℕ) → not_receive x ≡ true → receives q (right_on p (given x) ∷ []) ≡ 0
not_moved MoveReceive p q e = cc
not_moved MoveSend p q e = refl
not_moved MoveSendOnce p q e = refl
not_moved CopySend p q e = refl
not_moved MakeSend p q e = refl
not_moved MakeSendOnce p q e = refl

-- so the hand is as good as empty
not_moved_back : (x : Disp) (p q : ℕ) → not_receive x ≡ true
    → receives q [] ≡ receives q (right_on p (given x) ∷ [])
not_moved_back x p q e = sym (not_moved x p q e)

-- a form admits a reply right only as a send-once right, of a request that may bring one
reply_once : (f : Form) (n : ℕ) (x : Disp) → fits_reply f n ≡ true → disp_of_number n ≡ Some x
    → (r : RequestForm) × (f ≡ OfRequest r) × (brings_reply r ≡ true) × (given x ≡ SendOnce)
    × ((needed x ≡ SendOnce) ⊎ (needed x ≡ Receive))
reply_once (OfRequest r) n x fit is =
    let (routine, gives, needs) = by_kind r.kind fit in (r, refl, routine, gives, needs)
  where
    by_once : fits_once n ≡ true
        → (given x ≡ SendOnce) × ((needed x ≡ SendOnce) ⊎ (needed x ≡ Receive))
    by_once fit = elim (or_cases (n == 0) (n == 18 || n == 21) fit) [
      | inl z ↦ absurd (not_None x (sym is ∙ ap disp_of_number (eqb-true n 0 z)))
      | inr z ↦ elim (or_cases (n == 18) (n == 21) z) [
        | inl a ↦
            let same : MoveSendOnce ≡ x = same_Some MoveSendOnce x
            (sym (ap disp_of_number (eqb-true n 18 a)) ∙ is) in
            (ap given (sym same), inl (ap needed (sym same)))
        | inr a ↦
            let same : MakeSendOnce ≡ x = same_Some MakeSendOnce x
            (sym (ap disp_of_number (eqb-true n 21 a)) ∙ is) in
            (ap given (sym same), inr (ap needed (sym same)))
      ]
    ]

    by_kind : (k : RequestKind) → fits_request k n ≡ true
        → (brings_reply_kind k ≡ true) × (given x ≡ SendOnce) ×
        ((needed x ≡ SendOnce) ⊎ (needed x ≡ Receive))
    by_kind Routine fit = let (gives, needs) = by_once fit in (refl, gives, needs)
    by_kind Replied fit = let (gives, needs) = by_once fit in (refl, gives, needs)
    by_kind Simple fit = absurd (not_None x (sym is ∙ ap disp_of_number (eqb-true n 0 fit)))
reply_once (OfReply r) n x fit is =
    absurd (not_None x (sym is ∙ ap disp_of_number (eqb-true n 0 fit)))

module _ (W : Wiring) (G : FactSet) (obeys : Obeys W G) (task : ℕ → ℕ) (A : ℕ → Type 0) where
  -- the reply right is a send-once right that the sender has
  reply_fact : (t d id : ℕ) (f : Form) (n : ℕ) (x : Disp)
      → (r : PortRight) × CanSendBy r × G (Hold t d r)
      → IsIn f (forms W d) → fits_reply f n ≡ true → disp_of_number n ≡ Some x
      → (c : ℕ) (q : PortRight)
      → G (Hold t c (needed x)) × (q ≡ given x) → fits_at W d id c ≡ true
      → may W Replies t q c ≡ true → G (Carry d c q)
  reply_fact t d id f n x (r, by, g) form fit is c q (h, same) port trusted =
      let (request, kind, routine, once, from) = reply_once f n x fit is in
      let accepts = replier_accepted W d id c (routine_accepted W d request
      (subst (λ v. IsIn v (forms W d)) kind form) routine) port in
      let holds : G (Hold t c SendOnce) = elim from [
        | inl e ↦ subst (λ v. G (Hold t c v)) e h
        | inr e ↦ obeys.onces (subst (λ v. G (Hold t c v)) e h)
      ] in
      let sent : may W Replies t SendOnce c ≡ true =
      subst (λ v. may W Replies t v c ≡ true) (same ∙ once) trusted in
      subst (λ v. G (Carry d c v)) (sym once ∙ sym same) (obeys.reply by accepts sent g holds)

  -- what may be carried to class d as a reply right, where it fits the request with this id, and
  -- the sender may have replies there
  abbrev IfReplied : ℕ → ℕ → ℕ → ℕ → PortRight → Type 0
  IfReplied t d id c q =
      fits_at W d id c ≡ true → may W Replies (task t) q c ≡ true → G (Carry d c q)

  -- the reply right
  take_reply_carries : (s : Store) (hand : List Held) (t d id n : ℕ) (f : Form) (name : ℕ)
      (e : Reply)
      → (r : PortRight) × CanSendBy r × G (Hold (task t) d r) → IsIn f (forms W d)
      → fits_reply f n ≡ true → A t
      → SoundWith W G task s hand
      → Gives
      (λ (r : Store × Item). IsCarried W G task A s hand (item_rights r.1) (IfReplied t d id) r.0)
      (take_reply_by s t name (disp_of_number n) e)
  take_reply_carries s hand t d id n f name e sender form fit mine sound =
      by_disp (disp_of_number n) refl
    where
      by_gone : (b : Bool)
          → Gives (λ (r : Store × Item). IsCarried W G task A s hand (item_rights r.1)
          (IfReplied t d id) r.0)
          (if b then Ok (s, DeadItem) else Err e)
      by_gone true = gives_ok (carries_nothing W G task A s hand (IfReplied t d id) sound)
      by_gone false = gives_err _ _

      by_null : (b : Bool)
          → Gives (λ (r : Store × Item). IsCarried W G task A s hand (item_rights r.1)
          (IfReplied t d id) r.0)
          (if b then Ok (s, NullItem) else if name == 0xffffffff then Ok (s, DeadItem) else Err e)
      by_null true = gives_ok (carries_nothing W G task A s hand (IfReplied t d id) sound)
      by_null false = by_gone (name == 0xffffffff)

      by_disp : (o : Option Disp) → disp_of_number n ≡ o
          → Gives (λ (r : Store × Item). IsCarried W G task A s hand (item_rights r.1)
          (IfReplied t d id) r.0)
          (take_reply_by s t name o e)
      by_disp None is = by_null (name == 0)
      by_disp (Some x) is = record {
        holds = λ r z.
            carries_weaker W G task A (reply_fact (task t) d id f n x sender form fit is)
            ((take_item_carries W G task A obeys s hand t name x e mine sound).holds r z);
      }

  -- a reply right that fits and that the guard lets through
  reply_is_trusted : (s r z : Store) (hand : List Held) (t d id : ℕ) (item : Item)
      → ((p : ℕ) → class_of z p ≡ class_of s p) → fits_item W s d id item ≡ true
      → may_item W s Replies (task t) item ≡ true
      → IsCarried W G task A r hand (item_rights item) (IfReplied t d id) z
      → IsCarried W G task A r hand (item_rights item) (MayCarry G d) z
  reply_is_trusted s r z hand t d id NullItem same fits passed c =
      record { leaves = c.leaves; known = record { all = tt }; small = c.small }
  reply_is_trusted s r z hand t d id DeadItem same fits passed c =
      record { leaves = c.leaves; known = record { all = tt }; small = c.small }
  reply_is_trusted s r z hand t d id (RightItem p q) same fits passed c =
      let h = c.known.all.0 in
      let class = sym (same p) ∙ h.1 in
      let port : fits_at W d id h.0 ≡ true = subst (λ o. fits_port W d id o ≡ true) class fits in
      let trusted = item_is_trusted W G s Replies (task t) p h.0 q class passed in
      record {
        leaves = c.leaves;
        known = record { all = ((h.0, h.1, h.2 port trusted), tt) };
        small = c.small;
      }

module _ (W : Wiring) (G : FactSet) where
  -- the rights that a message carries: its reply right (K5), and those of its slots (K4)
  pub send_keeps : Obeys W G → (w : World) (t : ℕ) (m : Message) → IsAlive w t → Kept W G w
      → Keeps W G (call_send W w t m)
  unfolding call_send
  send_keeps obeys w t m alive kept =
      let τ = task_class w in
      let A = IsAlive w in
      bind _ _ (found (disp_of_number m.remote_disp) _) (λ x is.
      bind_ _ _ (checked (not_receive x) _) (λ _ plain.
      bind _ _ (take_leaves W G τ A obeys w.store [] t m.remote x _ _ alive kept.sound) (λ got h.
      bind _ _ (found (get got.0.ports got.1) _) (λ dest live.
      bind _ _ (judge_says W dest.class m) (λ form j.
      let class : class_of got.0 got.1 ≡ Some dest.class = live_class got.0 got.1 dest live in
      let same : h.had.0 ≡ dest.class = same_Some _ _ (sym h.had.1 ∙ class) in
      let by = sender W G obeys (τ t) dest.class x plain (rw same at h.had.2) in
      let s1 : SoundWith W G τ got.0 [] = exchange_hand
      (λ q. not_moved_back x got.1 q plain) h.leaves.sound in
      bind _ _ (take_reply_carries W G obeys τ A got.0 [] t dest.class m.id m.local_disp form
      m.local _
      by j.form j.reply alive s1) (λ r l.
      bind_ _ _ (checked (fits_item W w.store dest.class m.id r.1) _) (λ _ fits.
      bind_ _ _ (checked (may_item W w.store Replies (τ t) r.1) _) (λ _ passed.
      let k = reply_is_trusted W G obeys τ A w.store got.0 r.0 [] t dest.class m.id r.1
      (λ p. l.leaves.changes.classes p ∙ h.leaves.changes.classes p) fits passed l in
      bind _ _ (take_args_carry W G τ A obeys r.0 (item_rights r.1
      ++ []) t 0 (form_shapes form) m.args (MayCarry G dest.class) j.fit
      (λ v i n y u e c a m g. obeys.slot {n = n} {f = form} {s = v} {x = y} by.1 j.form i u e a m
      by.2 g) alive
      k.leaves.sound) (λ b l.
      bind_ _ _ (not_refused _ _) (λ _ _.
      let all = carries_then W G τ A k l in
      let parcel : Parcel =
      record { by_once = is_once (given x); id = m.id; reply = r.1; args = b.1 } in
      let end = append_leaves W G τ A b.0 [] got.1 dest.class parcel
      (all.leaves.changes.classes got.1 ∙ class) all.leaves.sound all.known in
      gives_ok (keeps_with W G w (append b.0 got.1 parcel) kept
      (leaves_then (changes_then h.leaves.changes all.leaves.changes) end.0)
      (λ u. rw (end.1 u) (le_trans (all.small u) (le_trans (h.small u) (kept.few u)))))))))))))))
