-- A space with one more right.
use Rattle.std.proofs.Common.{Bool, List, None, Option, Some, [], ap, arith, false, if◌then◌else◌}
use Rattle.std.proofs.Common.{inl, inr, nat_lt, refl, subst, sym, true, ℕ, ◌+◌, ◌==◌, ◌∙◌, ◌∷◌, ◌≡◌}
use Rattle.std.proofs.Common.{◌≤◌}
use Rattle.std.proofs.lemmas.Bool.{both_ways, eq-eqb, eqb-true, leb-false, not-false}
use Rattle.mrc_base.specs.declared.PortRight.{PortRight}
use Rattle.mrc_base.specs.declared.PortRight.TheVariants.{Receive, Send, SendOnce}
use Rattle.mrc_model.proofs.Maps.{at_most-total, at_or_0, find_cases, len-insert, not_None}
use Rattle.mrc_model.proofs.Maps.{origin-insert, total-insert}
use Rattle.mrc_model.proofs.Spaces.{entry_of-some, get-unused, len_after}
use Rattle.mrc_model.proofs.Tries.{Gives, bind_, checked, gives_err, gives_ok, not_refused}
use Rattle.mrc_model.specs.Covers.{HasOneName, Known, KnownAt}
use Rattle.mrc_model.specs.Map.{get, insert, len}
use Rattle.mrc_model.specs.Rising.{find_key}
use Rattle.mrc_model.specs.Space.{entry_of, first_entry, insert_at, insert_joined, insert_new}
use Rattle.mrc_model.specs.Space.{is_entry_of, is_full, is_other, joined, new_entry, one_more}
use Rattle.mrc_model.specs.Space.{overflows, place, place_at, unused}
use Rattle.mrc_model.specs.World.{Space, entry_rights, if_sends, receives, space_receives}
use Rattle.mrc_model.specs.declared.Entry.{Entry}
use Rattle.mrc_model.specs.declared.Entry.TheVariants.{DeadName as DeadEntry, SendOnce as OnceEntry}
use Rattle.mrc_model.specs.declared.Entry.TheVariants.{Receive as ReceiveEntry, Send as SendEntry}
use Rattle.mrc_model.specs.declared.Entry.TheVariants.{PortSet as SetEntry}
use Rattle.mrc_cover.proofs.Entries.{receives-if_sends}
use Rattle.mrc_cover.proofs.Rights.{Known-append, Known-first, entry_receives, right_on}
use Rattle.mrc_cover.proofs.Taking.{one_name_if_traced}

-- where the search finds none there is none
none_found : (p : ℕ) (es : List (ℕ × Entry)) → first_entry p es ≡ None → (n : ℕ) (e : Entry)
    → find_key n es ≡ Some e
    → is_entry_of p e ≡ true → ⊥
none_found p [] none n e is here = not_None e (sym is)
none_found p (f ∷ es) none n e is here =
    let go : (b : Bool) → is_entry_of p f.1 ≡ b → (if b then Some f else first_entry p es) ≡ None
    → ⊥ = elim [
      | true ↦ λ t z. not_None f z
      | false ↦ λ t z. elim (find_cases f es n e is) [
        | inl h ↦ both_ways (is_entry_of p f.1) t (rw (sym h.1) at here)
        | inr h ↦ none_found p es z n e h here
      ]
    ] in
    go (is_entry_of p f.1) refl none

-- where no entry is told the port has none
pub entry_of-none : (x : Space) (p : ℕ) → entry_of x p ≡ None → (n : ℕ) (e : Entry)
    → get x n ≡ Some e
    → is_entry_of p e ≡ true → ⊥
unfolding entry_of get
entry_of-none x p none n e is here = none_found p x.list none n e is here

-- a space with one more right
pub record HasGained (k : ℕ → Option ℕ) (F : ℕ → PortRight
    → Type 0) (x y : Space) (p : ℕ) (r : PortRight) : Type 0 where
  pub count : (q : ℕ) → space_receives q y ≡ space_receives q x + receives q (right_on p r ∷ [])
  pub known : ((n : ℕ) (e : Entry) → get x n ≡ Some e → Known k F (entry_rights e))
      → KnownAt k F (right_on p r)
      → (n : ℕ) (e : Entry) → get y n ≡ Some e → Known k F (entry_rights e)
  pub one_name : HasOneName x → HasOneName y
  pub size : len y ≤ len x + 1

-- a new entry shows one right
rights-new_entry : (p : ℕ) (r : PortRight) → entry_rights (new_entry p r) ≡ right_on p r ∷ []
rights-new_entry p Send = refl
rights-new_entry p Receive = refl
rights-new_entry p SendOnce = refl

-- only a send-once right makes an entry that is no port entry
new_is_port : (p q : ℕ) (r : PortRight) → is_entry_of q (new_entry p r) ≡ true
    → (p ≡ q) × (r ≡ SendOnce → ⊥)
new_is_port p q Send e = (eqb-true p q e, λ z. cc)
new_is_port p q Receive e = (eqb-true p q e, λ z. cc)
new_is_port p q SendOnce e = cc

-- one receive right is not none
one_is_not_none : (p : ℕ) → receives p (right_on p Receive ∷ []) ≡ 0 → ⊥
one_is_not_none p z =
    let a : receives p (right_on p Receive ∷ []) ≡ 1 = rw (eq-eqb p p refl) in absurd (omega arith)

-- what is at most 0 is 0
zero_below : (a : ℕ) {b : ℕ} → a ≤ b → b ≡ 0 → a ≡ 0
zero_below a h z = omega arith

module _ (k : ℕ → Option ℕ) (F : ℕ → PortRight → Type 0) where
  -- a right under a name of its own
  pub insert_new_gains : (x : Space) (n p : ℕ) (r : PortRight) → get x n ≡ None
      → ((r ≡ SendOnce → ⊥) → (m : ℕ) (e : Entry) → get x m ≡ Some e → is_entry_of p e ≡ true → ⊥)
      → HasGained k F x (insert x n (new_entry p r)) p r
  unfolding space_receives
  insert_new_gains x n p r free alone = record {
    count = λ q.
        let a = total-insert (entry_receives q) x n (new_entry p r) in
        let b = ap (at_or_0 (entry_receives q) n) free in
        let c = ap (receives q) (rights-new_entry p r) in omega arith;
    known = λ old here m e is. elim (origin-insert x n (new_entry p r) m e is) [
      | inl h ↦
          let one : Known k F (right_on p r ∷ []) = record { all = (here, tt) } in
          rw h.1 at (subst (Known k F) (sym (rights-new_entry p r)) one)
      | inr h ↦ old m e h.1
    ];
    one_name = λ one i j q e f a b c d. elim (origin-insert x n (new_entry p r) i e a) [
      | inl g ↦ elim (origin-insert x n (new_entry p r) j f b) [
        | inl h ↦ g.0 ∙ sym h.0
        | inr h ↦ let new = new_is_port p q r (rw (sym g.1) at c) in absurd
            (alone new.1 j f h.1 (rw (sym new.0) at d))
      ]
      | inr g ↦ elim (origin-insert x n (new_entry p r) j f b) [
        | inl h ↦ let new = new_is_port p q r (rw (sym h.1) at d) in absurd
            (alone new.1 i e g.1 (rw (sym new.0) at c))
        | inr h ↦ one i j q e f g.1 h.1 c d
      ]
    ];
    size = len_after x n (new_entry p r);
  }

  -- a send right, as often as it is shown
  known_send : (p n : ℕ) → KnownAt k F (right_on p Send) → Known k F (if_sends n p)
  known_send p n h =
      elim (nat_lt 0 n) as (λ b. Known k F (if b then right_on p Send ∷ [] else [])) [
        | true ↦ record { all = (h, tt) }
        | false ↦ record { all = tt }
      ]

  -- a right joins its port's entry
  record Joins (p : ℕ) (e : Entry) (r : PortRight) : Type 0 where
    pub count : (q : ℕ) → (r ≡ Receive → receives p (entry_rights e) ≡ 0)
        → receives q (entry_rights (joined e r)) ≡ receives q (entry_rights e) + receives q
        (right_on p r ∷ [])
    pub known : Known k F (entry_rights e) → KnownAt k F (right_on p r)
        → Known k F (entry_rights (joined e r))
    pub names : (q : ℕ) → is_entry_of q (joined e r) ≡ is_entry_of q e

  -- at a receive entry
  receive_joins : (p n : ℕ) (i : Option ℕ) (r : PortRight) → Joins p (ReceiveEntry p n i) r
  receive_joins p n i Send = record {
    count =
        λ q lone. let a = receives-if_sends q n p in let b = receives-if_sends q
        (one_more n) p in omega arith;
    known =
        λ old here. Known-append (Known-first (right_on p Receive ∷ []) (if_sends n p) old)
        (known_send p (one_more n) here);
    names = λ q. refl;
  }
  receive_joins p n i Receive = record {
    count = λ q lone. let none = lone refl in absurd (one_is_not_none p (omega arith));
    known = λ old here. old;
    names = λ q. refl;
  }
  receive_joins p n i SendOnce =
      record { count = λ q lone. omega arith; known = λ old here. old; names = λ q. refl }

  -- at a send entry
  send_joins : (p n : ℕ) (r : PortRight) → Joins p (SendEntry p n) r
  send_joins p n Send =
      record { count = λ q lone. omega arith; known = λ old here. old; names = λ q. refl }
  send_joins p n Receive = record {
    count = λ q lone. let a = receives-if_sends q n p in omega arith;
    known = λ old here.
        let one : Known k F (right_on p Receive ∷ []) = record { all = (here, tt) } in
        Known-append one (known_send p n old.all.0);
    names = λ q. refl;
  }
  send_joins p n SendOnce =
      record { count = λ q lone. omega arith; known = λ old here. old; names = λ q. refl }

  -- at the port's entry, whichever it is
  joins : (p : ℕ) (e : Entry) (r : PortRight) → is_entry_of p e ≡ true → Joins p e r
  joins p (ReceiveEntry q n i) r is =
      subst (λ v. Joins v (ReceiveEntry q n i) r) (eqb-true q p is) (receive_joins q n i r)
  joins p (SendEntry q n) r is =
      subst (λ v. Joins v (SendEntry q n) r) (eqb-true q p is) (send_joins q n r)
  joins p (OnceEntry q) r is = absurd (both_ways false refl is)
  joins p SetEntry r is = absurd (both_ways false refl is)
  joins p (DeadEntry n) r is = absurd (both_ways false refl is)

  -- a right that joins its port's entry
  pub insert_joined_gains : (x : Space) (n p : ℕ) (r : PortRight) (e : Entry) → get x n ≡ Some e
      → is_entry_of p e ≡ true → (r ≡ Receive → space_receives p x ≡ 0)
      → HasGained k F x (insert x n (joined e r)) p r
  unfolding space_receives
  insert_joined_gains x n p r e is its lone =
      let most = at_most-total (entry_receives p) x n e is in
      let here = joins p e r its in
      let none : r ≡ Receive → receives p (entry_rights e) ≡ 0 = λ z. let l = lone z in
      zero_below (receives p (entry_rights e)) most l in
      record {
        count = λ q.
            let a = total-insert (entry_receives q) x n (joined e r) in
            let b = ap (at_or_0 (entry_receives q) n) is in
            let c = here.count q none in
            omega arith;
        known = λ old new j f at. elim (origin-insert x n (joined e r) j f at) [
          | inl h ↦ rw h.1 at (here.known (old n e is) new)
          | inr h ↦ old j f h.1
        ];
        one_name = λ one. one_name_if_traced x (insert x n (joined e r)) one
            (λ j f q at g. elim (origin-insert x n (joined e r) j f at) [
              | inl h ↦ (e, ap (get x) h.0 ∙ is, sym (here.names q) ∙ ap (is_entry_of q) h.1 ∙ g)
              | inr h ↦ (f, h.1, g)
            ]);
        size = len_after x n (joined e r);
      }

  -- the next lemma, by the port's entry
  place_at_gains : (x : Space) (p : ℕ) (r : PortRight) (o : Option (ℕ × Entry)) → entry_of x p ≡ o
      → (r ≡ Receive → space_receives p x ≡ 0) → HasGained k F x (place_at x p r o).space p r
  place_at_gains x p r None is lone = insert_new_gains x (unused x) p r (get-unused x)
      (λ z m e at here. entry_of-none x p is m e at here)
  place_at_gains x p r (Some e) is lone =
      let f = entry_of-some x p e is in insert_joined_gains x e.0 p r e.1 f.0 f.1 lone

  -- a right under the name that it belongs to
  pub place_gains : (x : Space) (p : ℕ) (r : PortRight) → (r ≡ Receive → space_receives p x ≡ 0)
      → HasGained k F x (place x p r).space p r
  place_gains x p Send lone = place_at_gains x p Send (entry_of x p) refl lone
  place_gains x p Receive lone = place_at_gains x p Receive (entry_of x p) refl lone
  place_gains x p SendOnce lone =
      insert_new_gains x (unused x) p SendOnce (get-unused x) (λ z m e at here. z refl)

  -- a right more, within the room for names
  pub record IsInserted (x : Space) (p : ℕ) (r : PortRight) (y : Space) : Type 0 where
    pub gained : HasGained k F x y p r
    pub room : len x ≤ 4096 → len y ≤ 4096

-- no more names than there is room for
pub insert_len : (x : Space) (n : ℕ) (e f : Entry) → get x n ≡ Some f → len (insert x n e) ≡ len x
insert_len x n e f is =
    let a = len-insert x n e in let b = ap (at_or_0 (λ q y. 1) n) is in omega arith

-- a space that is not full has room for a name
pub room_if_not_full : (x : Space) → is_full x ≡ false → len x + 1 ≤ 4096
room_if_not_full x e = let a = leb-false 4096 (len x) e in omega arith

-- where the name is free and the port is known by no other, it is known by none
none_other : (x : Space) (n p m : ℕ) (e : Entry) → get x n ≡ None
    → is_other n (entry_of x p) ≡ false
    → get x m ≡ Some e → is_entry_of p e ≡ true → ⊥
none_other x n p m e free other at here =
    let go : (o : Option (ℕ × Entry)) → entry_of x p ≡ o → is_other n o ≡ false → ⊥ = elim [
      | None ↦ λ is z. entry_of-none x p is m e at here
      | Some f ↦ λ is z.
          let same : f.0 ≡ n = eqb-true f.0 n (not-false (f.0 == n) z) in
          not_None f.1 (sym (entry_of-some x p f is).0 ∙ ap (get x) same ∙ free)
    ] in
    go (entry_of x p) refl other

module _ (k : ℕ → Option ℕ) (F : ℕ → PortRight → Type 0) where
  -- under an unused name of the caller's choice
  insert_new_gives : (x : Space) (n p : ℕ) (r : PortRight) (o : Option Entry) → get x n ≡ o
      → ((r ≡ SendOnce → ⊥) → (m : ℕ) (e : Entry) → get x m ≡ Some e → is_entry_of p e ≡ true → ⊥)
      → Gives (IsInserted k F x p r) (insert_new x n p r o)
  insert_new_gives x n p r (Some e) is alone = gives_err _ _
  insert_new_gives x n p r None is alone = bind_ _ _ (not_refused (is_full x) _) (λ _ room.
      let ok = insert_new_gains k F x n p r is alone in
      gives_ok record {
        gained = ok;
        room = λ few. let a = room_if_not_full x room in let b =
            ok.size in omega arith;
      })

  -- under the name of the port's entry
  insert_joined_gives : (x : Space) (n p : ℕ) (r : PortRight) (o : Option Entry) → get x n ≡ o
      → is_other n (entry_of x p) ≡ false → (r ≡ Receive → space_receives p x ≡ 0)
      → Gives (IsInserted k F x p r) (insert_joined x n p r o)
  insert_joined_gives x n p r None is other lone = insert_new_gives x n p r None is
      (λ z m e at here. none_other x n p m e is other at here)
  insert_joined_gives x n p r (Some e) is other lone = bind_ _ _ (checked (is_entry_of p e) _)
      (λ _ yes. bind_ _ _ (not_refused (overflows e r) _)
      (λ _ _. bind_ _ _ (not_refused (is_full x) _) (λ _ _.
      gives_ok record {
        gained = insert_joined_gains k F x n p r e is yes lone;
        room = λ few. rw (insert_len x n (joined e r) e is) few;
      })))

  -- a right under a name of the caller's choice
  pub insert_at_gains : (x : Space) (n p : ℕ) (r : PortRight)
      → (r ≡ Receive → space_receives p x ≡ 0)
      → Gives (IsInserted k F x p r) (insert_at x n p r)
  unfolding insert_at
  insert_at_gains x n p Send lone = bind_ _ _ (not_refused (is_other n (entry_of x p)) _)
      (λ _ other. insert_joined_gives x n p Send (get x n) refl other lone)
  insert_at_gains x n p Receive lone = bind_ _ _ (not_refused (is_other n (entry_of x p)) _)
      (λ _ other. insert_joined_gives x n p Receive (get x n) refl other lone)
  insert_at_gains x n p SendOnce lone =
      insert_new_gives x n p SendOnce (get x n) refl (λ z m e at here. z refl)
