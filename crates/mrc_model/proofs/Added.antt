-- What version 3 adds turns calls away and takes instances of rules away, and nothing else.
use Rattle.std.proofs.Common.{◌≡◌, ◌⊎◌, ℕ, ◌+◌, inl, inr, Bool, true, false, List, [], ◌∷◌}
use Rattle.std.proofs.Common.{Option, Some, None, Ok, Err, refl, sym, ◌∙◌, ap, subst, ◌==◌, ◌||◌}
use Rattle.std.proofs.Common.{if◌then◌else◌}
use Rattle.std.specs.List.{list_any}
use Rattle.std.proofs.lemmas.Bool.{and_parts, both_ways, or_right}
use Rattle.mrc_base.specs.declared.PortRight.{PortRight}
use Rattle.mrc_base.specs.declared.Disp.{Disp}
use Rattle.mrc_base.specs.Disposition.{given}
use Rattle.mrc_base.specs.declared.Fact.{Fact}
use Rattle.mrc_base.specs.declared.Fact.TheVariants.{Hold}
use Rattle.mrc_model.specs.declared.Verb.{Verb}
use Rattle.mrc_model.specs.declared.Verb.TheVariants.{Takes, Gives, Replies}
use Rattle.mrc_model.specs.declared.Item.{Item}
use Rattle.mrc_model.specs.declared.Item.TheVariants.{Null as NullItem, Dead as DeadItem}
use Rattle.mrc_model.specs.declared.Item.TheVariants.{Right as RightItem}
use Rattle.mrc_model.specs.declared.LabelItem.{LabelItem}
use Rattle.mrc_model.specs.declared.LabelItem.TheVariants.{Request as RequestOf, Reply as ReplyOf}
use Rattle.mrc_model.specs.declared.LabelItem.TheVariants.{Destroyed}
use Rattle.mrc_model.specs.declared.FirstLine.{FirstLine}
use Rattle.mrc_model.specs.declared.FirstLine.TheVariants.{Task as TaskLine, Port as PortLine}
use Rattle.mrc_model.specs.declared.FirstLine.TheVariants.{Hold as HoldLine}
use Rattle.mrc_model.specs.Map.{get}
use Rattle.mrc_model.specs.Message.{Message, Arg, Data, Ports}
use Rattle.mrc_model.specs.Wiring.{Wiring, Shape, interface, is_limited, brings_reply, has_routine}
use Rattle.mrc_model.specs.Wiring.{is_answered}
use Rattle.mrc_model.specs.Wiring.{label, forms, admits, may}
use Rattle.mrc_model.specs.Wiring.{accepts_destroyed, accepts_routine, accepts_reply}
use Rattle.mrc_model.specs.Wiring.{accepts_replier, fits_at}
use Rattle.mrc_model.specs.Filter.{judge}
use Rattle.mrc_model.specs.World.{Store, World, class_of, task_class}
use Rattle.mrc_model.specs.Reply.{Reply, Call, DeadTask, Try, ◌>>=◌, ◌>>◌, check, SendMessage}
use Rattle.mrc_model.specs.Reply.{InsertRight, ExtractRight, RequestNotification}
use Rattle.mrc_model.specs.Target.{is_alive}
use Rattle.mrc_model.specs.Trust.{may_with, may_item, may_on}
use Rattle.mrc_model.specs.CallSend.{fits_port, fits_item, admit_item, take_items, take_arg}
use Rattle.mrc_model.specs.CallSend.{take_args, call_send}
use Rattle.mrc_model.specs.CallAllocate.{call_allocate}
use Rattle.mrc_model.specs.CallInsertRight.{call_insert_right, call_extract_right}
use Rattle.mrc_model.specs.CallRequestNotification.{backup_item, call_request_notification}
use Rattle.mrc_model.specs.Step.{try_call, concluded, step}
use Rattle.mrc_model.specs.First.{First, add_line, add_lines, world_of, first}
use Rattle.mrc_model.specs.Breach.{Holds, also, itself}
use Rattle.mrc_model.specs.Rules.{Rule, k1, k2, k3_send, k3_once, k4, k5, k6, k7_up, k7_down, k8}
use Rattle.mrc_model.proofs.Members.{any_more}
use Rattle.mrc_model.specs.Rules.{k9, k10, Has, Closed}
use Rattle.mrc_model.specs.Additions.{plain, IsTurnedAway, not_fitting, not_taken, not_given}
use Rattle.mrc_model.specs.Additions.{not_sent, not_for_reply, AdditionsOnlyRefuse}
use Rattle.mrc_model.specs.Additions.{AdditionsKeepYes, LimitedCountsAlone}

-- the first step is turned away by what version 3 adds, or it is the second
record Guards {A : Type 0} (r z : Try A) : Type 0 where
  pub is : ((e : Reply) × (r ≡ Err e) × IsTurnedAway e) ⊎ (r ≡ z)

guards_same : {A : Type 0} (r : Try A) → Guards r r
guards_same r = record { is = inr refl }

guards_bind : {A B : Type 0} (m n : Try A) (f g : A → Try B) → Guards m n
    → ((a : A) → Guards (f a) (g a)) → Guards (m >>= f) (n >>= g)
unfolding ◌>>=◌
guards_bind {A = A} m n f g first next = elim first.is [
  | inl refused ↦ record {
    is = inl (refused.0, ap (λ v. v >>= f) refused.1, refused.2);
  }
  | inr is ↦ subst (λ v. Guards (m >>= f) (v >>= g)) is (go m)
]
  where
    go : (v : Try A) → Guards (v >>= f) (v >>= g)
    go (Ok a) = next a
    go (Err e) = guards_same (Err e)

guards_next : {A B : Type 0} (m n : Try A) (r z : Try B) → Guards m n → Guards r z
    → Guards (m >> r) (n >> z)
unfolding ◌>>◌
guards_next {A = A} m n r z first next = elim first.is [
  | inl refused ↦ record {
    is = inl (refused.0, ap (λ v. v >> r) refused.1, refused.2);
  }
  | inr is ↦ subst (λ v. Guards (m >> r) (v >> z)) is (go m)
]
  where
    go : (v : Try A) → Guards (v >> r) (v >> z)
    go (Ok a) = next
    go (Err e) = guards_same (Err e)

guards_check : (b c : Bool) (e : Reply) → IsTurnedAway e → c ≡ true
    → Guards (check b e) (check c e)
unfolding check
guards_check true c e away all = record { is = inr (ap (λ v. check v e) (sym all)) }
guards_check false c e away all = record { is = inl (e, refl, away) }

module _ (W : Wiring) where
  -- without it all is let through

  pub all_may : (v : Verb) (t : ℕ) (r : PortRight) (c : ℕ) → may (plain W) v t r c ≡ true
  unfolding may
  all_may v t r c = refl

  all_with : (v : Verb) (t : ℕ) (r : PortRight) (o : Option ℕ)
      → may_with (plain W) v t r o ≡ true
  all_with v t r None = refl
  all_with v t r (Some c) = all_may v t r c

  pub all_items : (s : Store) (v : Verb) (t : ℕ) (item : Item)
      → may_item (plain W) s v t item ≡ true
  all_items s v t NullItem = refl
  all_items s v t DeadItem = refl
  all_items s v t (RightItem p r) = all_with v t r (class_of s p)

  pub all_on : (w : World) (v : Verb) (t u : ℕ) (item : Item)
      → may_on (plain W) w v t u item ≡ true
  all_on w v t u item =
      or_right (task_class w t == task_class w u) _ (all_items w.store v (task_class w t) item)

  all_fit_at : (d id : ℕ) (o : Option ℕ) → fits_port (plain W) d id o ≡ true
  unfolding fits_at
  all_fit_at d id None = refl
  all_fit_at d id (Some c) = refl

  pub all_fit : (s : Store) (d id : ℕ) (item : Item) → fits_item (plain W) s d id item ≡ true
  all_fit s d id NullItem = refl
  all_fit s d id DeadItem = refl
  all_fit s d id (RightItem p r) = all_fit_at d id (class_of s p)

  -- sending

  judged : (c : ℕ) (m : Message) → judge W c m ≡ judge (plain W) c m
  unfolding judge forms
  judged c m = refl

  admit_guards : (own : ℕ) (s : Store) (sort i : ℕ) (item : Item)
      → Guards (admit_item W own s sort i item) (admit_item (plain W) own s sort i item)
  unfolding admits
  admit_guards own s sort i NullItem = guards_same _
  admit_guards own s sort i DeadItem = guards_same _
  admit_guards own s sort i (RightItem p r) =
      guards_bind _ _ _ _ (guards_same _) (λ x.
      guards_next _ _ _ _ (guards_same _)
      (guards_check _ _ _ (not_sent i) (all_may _ own r x.class)))

  items_guards : (own t : ℕ) (x : Disp) (sort i : ℕ) (s : Store) (ns : List ℕ)
      → Guards (take_items W own t x sort i s ns) (take_items (plain W) own t x sort i s ns)
  items_guards own t x sort i s [] = guards_same _
  items_guards own t x sort i s (n ∷ ns) =
      guards_bind _ _ _ _ (guards_same _) (λ a.
      guards_next _ _ _ _ (admit_guards own a.0 sort i a.1)
      (guards_bind _ _ _ _ (items_guards own t x sort i a.0 ns) (λ b. guards_same _)))

  arg_guards : (own t sort i : ℕ) (s : Store) (a : Arg)
      → Guards (take_arg W own t sort i s a) (take_arg (plain W) own t sort i s a)
  arg_guards own t sort i s (Data name size number bytes) = guards_same _
  arg_guards own t sort i s (Ports disp names) =
      guards_bind _ _ _ _ (guards_same _) (λ x.
      guards_bind _ _ _ _ (items_guards own t x sort i s names) (λ b. guards_same _))

  args_guard : (own t i : ℕ) (ss : List Shape) (s : Store) (xs : List Arg)
      → Guards (take_args W own t i ss s xs) (take_args (plain W) own t i ss s xs)
  args_guard own t i ss s [] = guards_same _
  args_guard own t i ss s (a ∷ more) =
      guards_bind _ _ _ _ (arg_guards own t _ i s a) (λ b.
      guards_bind _ _ _ _ (args_guard own t (i + 1) _ b.0 more) (λ c. guards_same _))

  module _ (w : World) (t : ℕ) where
    call_guards : (call : Call)
        → Guards (try_call W w t call) (try_call (plain W) w t call)
    unfolding call_send call_allocate call_insert_right call_extract_right
        call_request_notification judge forms accepts_destroyed
    call_guards (SendMessage m) =
        guards_bind _ _ _ _ (guards_same _) (λ x.
        guards_next _ _ _ _ (guards_same _)
        (guards_bind _ _ _ _ (guards_same _) (λ got.
        guards_bind _ _ _ _ (guards_same _) (λ dest.
        guards_bind _ _ _ _ (guards_same _) (λ form.
        guards_bind _ _ _ _ (guards_same _) (λ reply.
        guards_next _ _ _ _
        (guards_check _ _ _ not_fitting (all_fit w.store dest.class m.id reply.1))
        (guards_next _ _ _ _ (guards_check _ _ _ not_for_reply
        (all_items w.store Replies (task_class w t) reply.1))
        (guards_bind _ _ _ _ (args_guard _ t 0 _ reply.0 m.args) (λ args.
        guards_same _)))))))))
    call_guards (InsertRight task name right x) =
        guards_bind _ _ _ _ (guards_same _) (λ u.
        guards_next _ _ _ _ (guards_same _)
        (guards_next _ _ _ _ (guards_same _)
        (guards_bind _ _ _ _ (guards_same _) (λ got.
        guards_next _ _ _ _ (guards_check _ _ _ not_given
        (all_on w Gives t u (RightItem got.1 (given x)))) (guards_same _)))))
    call_guards (ExtractRight task name x) =
        guards_bind _ _ _ _ (guards_same _) (λ u.
        guards_bind _ _ _ _ (guards_same _) (λ got.
        guards_next _ _ _ _ (guards_check _ _ _ not_taken
        (all_on w Takes t u (RightItem got.1 (given x)))) (guards_same _)))
    call_guards (RequestNotification task name id sync notify x) =
        guards_bind _ _ _ _ (guards_same _) (λ u.
        guards_next _ _ _ _ (guards_same _)
        (guards_bind _ _ _ _ (guards_same _) (λ e.
        guards_bind _ _ _ _ (guards_same _) (λ p.
        guards_bind _ _ _ _ (guards_same _) (λ b.
        guards_next _ _ _ _ (guards_check _ _ _ not_given (all_on w Gives t u (backup_item b.1)))
        (guards_bind _ _ _ _ (guards_same _) (λ y.
        guards_next _ _ _ _
        (guards_check _ _ _ not_taken (all_on w Takes t u (backup_item y.backup)))
        (guards_same _))))))))
    call_guards call = guards_same _

    abbrev Told : World × Reply → World × Reply → Type 0
    Told r z = (r.0 ≡ w) × IsTurnedAway r.1 ⊎ (r ≡ z)

    step_guards : (call : Call) → Told (step W w t call) (step (plain W) w t call)
    unfolding step
    step_guards call = go (is_alive (get w.tasks t))
      where
        told : (r z : Try (World × Reply)) → Guards r z → Told (concluded w r) (concluded w z)
        told r z guards = elim guards.is [
          | inl refused ↦ inl
              (subst (λ v. ((concluded w v).0 ≡ w) × IsTurnedAway (concluded w v).1)
              (sym refused.1) (refl, refused.2))
          | inr is ↦ inr (ap (concluded w) is)
        ]

        go : (b : Bool) → Told (concluded w (if b then try_call W w t call else Err DeadTask))
            (concluded w (if b then try_call (plain W) w t call else Err DeadTask))
        go true = told _ _ (call_guards call)
        go false = inr refl

-- each call
pub additions_refuse : AdditionsOnlyRefuse
additions_refuse W w t call = step_guards W w t call

-- a class at which a reply right can come accepts a routine

any_routine : (W : Wiring) (c : ℕ) (x : LabelItem) → is_answered W c x ≡ true
    → has_routine W x ≡ true
any_routine W c (RequestOf s) e =
    (and_parts (list_any brings_reply (interface W s).requests) (accepts_reply W c s) e).0
any_routine W c (ReplyOf s) e = cc
any_routine W c Destroyed e = cc

pub routine_if_replier : (W : Wiring) (d c : ℕ) → accepts_replier W d c ≡ true
    → accepts_routine W d ≡ true
unfolding accepts_replier accepts_routine
routine_if_replier W d c = go W.replies_fit
  where
    go : (b : Bool)
        → (if b then list_any (is_answered W c) (label W d)
        else list_any (has_routine W) (label W d))
        ≡ true
        → list_any (has_routine W) (label W d) ≡ true
    go true e = any_more (is_answered W c) (has_routine W) (label W d) (any_routine W c) e
    go false e = e

-- the first state

pub bind_same : {A B : Type 0} (m : Try A) (f g : A → Try B) → ((a : A) → f a ≡ g a)
    → (m >>= f) ≡ (m >>= g)
unfolding ◌>>=◌
bind_same (Ok a) f g same = same a
bind_same (Err e) f g same = refl

module _ (W : Wiring) where
  line_same : (f : First) (l : FirstLine) → add_line W f l ≡ add_line (plain W) f l
  line_same f TaskLine = refl
  line_same f (PortLine t) = refl
  line_same f (HoldLine t p r) = refl

  lines_same : (ls : List FirstLine) (f : First) → add_lines W f ls ≡ add_lines (plain W) f ls
  lines_same [] f = refl
  lines_same (l ∷ ls) f =
      bind_same (add_line W f l) _ _ (λ g. lines_same ls g)
      ∙ ap (λ v. v >>= λ g. add_lines (plain W) g ls) (line_same f l)

  first_same : first W ≡ first (plain W)
  unfolding first
  first_same = ap world_of (lines_same W.lines _)

  -- each instance of a rule is one without it
  rule_without : (k : ℕ) (ps : List Fact) (f : Fact) → Rule W k ps f → Rule (plain W) k ps f
  unfolding forms admits accepts_destroyed accepts_routine accepts_reply accepts_replier
  rule_without k ps f (k1 t p {c} {r} holds is) =
      subst (λ w. Rule (plain W) 1 [] (Hold (task_class w t) c r)) (sym first_same)
      (k1 t p (subst (λ w. Holds w t p r) first_same holds)
      (subst (λ w. class_of w.store p ≡ Some c) first_same is))
  rule_without k ps f (k2 kind is) = k2 kind is
  rule_without k ps f (k3_send) = k3_send
  rule_without k ps f (k3_once) = k3_once
  rule_without k ps f (k4 {n = n} {f = g} {s = s} {x = x} can form slot among is fits trusted) =
      k4 {n = n} {f = g} {s = s} {x = x} can form slot among is fits (all_may W _ _ _ _)
  rule_without k ps f (k5 {d = d} {c = c} can replier trusted) =
      k5 can (routine_if_replier W d c replier) (all_may W _ _ _ _)
  rule_without k ps f (k6) = k6
  rule_without k ps f (k7_up {u = u} trusted) = k7_up {u = u} (all_may W _ _ _ _)
  rule_without k ps f (k7_down {t = t} trusted) = k7_down {t = t} (all_may W _ _ _ _)
  rule_without k ps f (k8 {t = t} accepts) = k8 {t = t} accepts
  rule_without k ps f (k9) = k9
  rule_without k ps f (k10 {c = c}) = k10 {c = c}

-- what is closed without it is closed with it
pub additions_keep_closed : (W : Wiring) (set : Fact → Bool) → Closed (plain W) (Has set)
    → Closed W (Has set)
additions_keep_closed W set closed k ps f rule known range =
    closed k ps f (rule_without W k ps f rule) known range

-- so a yes stays one
pub additions_keep_yes : AdditionsKeepYes
additions_keep_yes W policy set says = record {
  closed = additions_keep_closed W set says.closed;
  allowed = says.allowed;
}

-- a task that is limited in what it takes reaches none
pub limited_alone : LimitedCountsAlone
limited_alone W w t u limited (itself) = refl
limited_alone W w t u limited (also {u = v} before reaches) =
    let same = limited_alone W w t v limited before in
    absurd (both_ways (is_limited W Takes (task_class w v)) reaches.4
    (ap (λ n. is_limited W Takes (task_class w n)) same ∙ limited))
