-- Lists of rights, the walk along links, and the step from one followed port to the next.
use Rattle.std.proofs.Common.{◌≡◌, ℕ, zero, suc, ◌+◌, ◌-◌, ◌<◌, ◌≤◌, ◌⊎◌, inl, inr, Bool, true}
use Rattle.std.proofs.Common.{false, not, List, [], ◌∷◌, ◌++◌, length, take, get_or, refl, sym, ◌∙◌}
use Rattle.std.proofs.Common.{ap, subst, arith, ◌==◌, ◌||◌, ◌&&◌, if◌then◌else◌, Some, eq-eqb}
use Rattle.std.proofs.Common.{T}
use Rattle.std.proofs.lemmas.Bool.{or_left, or_right}
use Rattle.std.proofs.lemmas.Bool.{and_parts, both_ways, or_cases, eqb-true}
use Rattle.std.specs.Cmp.{both_ways as same_tests}
use Rattle.std.proofs.lemmas.Option.{slice_get-get_or}
use Rattle.std.specs.List.{slice_get}
use Rattle.mrc_model.specs.declared.Backup.{Backup}
use Rattle.mrc_model.specs.declared.Backup.TheVariants.{Absent as NoBackup, Dead as DeadBackup}
use Rattle.mrc_model.specs.declared.Backup.TheVariants.{Port as BackupPort}
use Rattle.mrc_model.specs.Rising.{find_key, is_rising, right_holds}
use Rattle.mrc_model.specs.Map.{Map, get, keys}
use Rattle.mrc_model.specs.World.{Port, Store, Held, queue_rights}
use Rattle.mrc_model.specs.Death.{has, has_receive, queued_on, queued_rights, is_lost, backup_of}
use Rattle.mrc_model.specs.Death.{Doomed, is_kernel_of, dies, dying}
use Rattle.mrc_model.proofs.Maps.{find_cases, find_later, find_here}
use Rattle.mrc_model.proofs.Dying.{any_append, length_filter, dying_within}
use Rattle.mrc_model.proofs.Dying.{queued_more}
use Rattle.std.proofs.lemmas.Bool.{and_from}
use Rattle.mrc_death.specs.Losing.{is_losing}
use Rattle.mrc_death.specs.Heads.{head_at}
use Rattle.mrc_death.specs.declared.search.Link.{Link}
use Rattle.mrc_death.specs.declared.search.Search.{Search}
use Rattle.mrc_death.specs.Search.{Linked, here, there, unseen, Goes, Kept, Step, Going}
use Rattle.mrc_death.specs.Search.{one_held}
use Rattle.mrc_death.proofs.Keeping.{then_step, no_step, has_push}

-- after all links from here on, at this backup, the ports that waited are found; a is the search
-- before
pub record Walk (s : Store) (d : Doomed) (backup : ℕ) (a z : Search) (at : ℕ) : Type 0 where
  pub step : Step s d [] a z
  pub links : z.links.items ≡ a.links.items
  pub heads : z.heads ≡ a.heads
  pub within : at ≤ length a.links.items
  pub left : (p : ℕ) → Linked a.links.items backup (head_at a.heads backup) p → (has z.dead.items p
      ≡ true) ⊎ Linked a.links.items backup at p

part : (hs : List Held) (i : ℕ) (h : Held) (p : ℕ)
    → i < length hs
    → h ≡ get_or hs i h
    → has_receive p (one_held h) ≡ true
    → has_receive p hs ≡ true
part [] i h p within is r = absurd (omega arith)
part (g ∷ gs) zero h p within is r =
    any_append p (one_held g) gs
    ∙ or_left (has_receive p (one_held g)) (has_receive p gs)
    (ap (λ x. has_receive p (one_held x)) (sym is) ∙ r)
part (g ∷ gs) (suc i) h p within is r =
    any_append p (one_held g) gs
    ∙ or_right (has_receive p (one_held g)) (has_receive p gs) (part gs i h p (omega arith) is r)

-- what is queued on one more port
queued_push : (p : ℕ) (dead : List ℕ) (x low : ℕ) (es : List (ℕ × Port)) → T (is_rising low es)
    → has_receive p (queued_on (dead ++ x ∷ []) es) ≡ true → (has_receive p (queued_on dead es)
    ≡ true) ⊎ ((v : Port) × (find_key x es ≡ Some v) × (has_receive p (queue_rights v.queue)
    ≡ true))
queued_push p dead x low [] r h = cc
queued_push p dead x low (e ∷ es) r h = go (queued_push p dead x (e.0 + 1) es (right_holds _ _ r))
    (has
    dead e.0) (x == e.0) refl refl (subst (λ b. has_receive p ((if b then queue_rights e.1.queue
    else []) ++ queued_on (dead ++ x ∷ []) es) ≡ true) (has_push dead x e.0) h)
  where
    later : ((has_receive p (queued_on (dead ++ x ∷ []) es) ≡ true)
        → (has_receive p (queued_on dead es) ≡ true) ⊎ ((v : Port) × (find_key x es ≡ Some v)
        × (has_receive p (queue_rights v.queue) ≡ true))) → (b : Bool)
        → has_receive p (queued_on (dead ++ x ∷ []) es) ≡ true
        → (has_receive p ((if b then queue_rights e.1.queue else []) ++ queued_on dead es) ≡ true)
        ⊎ ((v : Port) × (find_key x (e ∷ es) ≡ Some v) × (has_receive p (queue_rights v.queue)
        ≡ true))
    later ih b h = elim (ih h) [
      | inl l ↦ inl (any_append p (if b then queue_rights e.1.queue else []) (queued_on dead es)
          ∙ or_right (has_receive p (if b then queue_rights e.1.queue else [])) (has_receive p
          (queued_on dead es)) l)
      | inr q ↦ inr (q.0, find_later low e es x q.0 r q.1, q.2)
    ]

    go : ((has_receive p (queued_on (dead ++ x ∷ []) es) ≡ true)
        → (has_receive p (queued_on dead es) ≡ true) ⊎ ((v : Port) × (find_key x es ≡ Some v)
        × (has_receive p (queue_rights v.queue) ≡ true))) → (b t : Bool) → has dead e.0 ≡ b
        → (x == e.0) ≡ t → has_receive p ((if b || t then queue_rights e.1.queue else []) ++
        queued_on (dead ++ x ∷ []) es) ≡ true → (has_receive p ((if has dead e.0 then queue_rights
        e.1.queue else []) ++ queued_on dead es) ≡ true) ⊎ ((v : Port) × (find_key x (e ∷ es)
        ≡ Some v) × (has_receive p (queue_rights v.queue) ≡ true))
    go ih true t i j z = subst (λ b. (has_receive p ((if b then queue_rights e.1.queue else []) ++
        queued_on dead es) ≡ true) ⊎ ((v : Port) × (find_key x (e ∷ es) ≡ Some v)
        × (has_receive p (queue_rights v.queue) ≡ true))) (sym i) (elim (or_cases (has_receive p
        (queue_rights e.1.queue)) (has_receive p (queued_on (dead ++ x ∷ []) es)) (sym (any_append
        p (queue_rights e.1.queue) (queued_on (dead ++ x ∷ []) es)) ∙ z)) [
          | inl l ↦ inl (any_append p (queue_rights e.1.queue) (queued_on dead es)
              ∙ or_left (has_receive p (queue_rights e.1.queue)) (has_receive p (queued_on dead
              es)) l)
          | inr q ↦ later ih true q
        ])
    go ih false true i j z = elim (or_cases (has_receive p (queue_rights e.1.queue)) (has_receive p
        (queued_on (dead ++ x ∷ []) es)) (sym (any_append p (queue_rights e.1.queue) (queued_on
        (dead ++ x ∷ []) es)) ∙ z)) [
          | inl l ↦ inr (
            e.1,
            subst (λ k. find_key k (e ∷ es)
                ≡ Some e.1) (sym (eqb-true x e.0 j)) (find_here e es),
            l,
          )
          | inr q ↦ later ih (has dead e.0) q
        ]
    go ih false false i j z = later ih (has dead e.0) z

-- what is queued on a port of the list
queued_in : (p : ℕ) (dead : List ℕ) (x : ℕ) (v : Port) (es : List (ℕ × Port)) → has dead x ≡ true
    → find_key x es ≡ Some v → has_receive p (queue_rights v.queue) ≡ true
    → has_receive p (queued_on dead es) ≡ true
queued_in p dead x v [] i f h = cc
queued_in p dead x v (e ∷ es) i f h = any_append p (if has dead e.0 then queue_rights e.1.queue
    else []) (queued_on dead es) ∙ elim (find_cases e es x v f) [
      | inl l ↦ or_left (has_receive p (if has dead e.0 then queue_rights e.1.queue else []))
          (has_receive p (queued_on dead es)) (ap (λ b. has_receive p (if b then queue_rights
          e.1.queue
          else [])) (ap (has dead) (sym l.0) ∙ i) ∙ ap (λ (y : Port). has_receive p (queue_rights
          y.queue)) l.1 ∙ h)
      | inr r ↦ or_right (has_receive p (if has dead e.0 then queue_rights e.1.queue else []))
          (has_receive p (queued_on dead es)) (queued_in p dead x v es i r h)
    ]

queued_none : (p : ℕ) (es : List (ℕ × Port)) → has_receive p (queued_on [] es) ≡ true → false ≡ true
queued_none p [] h = h
queued_none p (e ∷ es) h = queued_none p es h

take_next : {X : Type 0} (l : List X) (j : ℕ) (x : X) → j < length l → x ≡ get_or l j x
    → take (suc j) l ≡ take j l ++ x ∷ []
take_next [] j x h e = absurd (omega arith)
take_next (y ∷ ys) zero x h e = ap (λ z. z ∷ []) (sym e)
take_next (y ∷ ys) (suc j) x h e = ap (λ r. y ∷ r) (take_next ys j x (omega arith) e)

pub take_whole : {X : Type 0} (l : List X) (n : ℕ) → length l ≤ n → take n l ≡ l
take_whole [] zero h = refl
take_whole [] (suc n) h = refl
take_whole (y ∷ ys) zero h = absurd (omega arith)
take_whole (y ∷ ys) (suc n) h = ap (λ r. y ∷ r) (take_whole ys n (omega arith))

pub has_item : (l : List ℕ) (j x : ℕ) → j < length l → x ≡ get_or l j x → has l x ≡ true
has_item [] j x h e = absurd (omega arith)
has_item (y ∷ ys) zero x h e = or_left (y == x) (has ys x) (eq-eqb y x (sym e))
has_item (y ∷ ys) (suc j) x h e = or_right (y == x) (has ys x) (has_item ys j x (omega arith) e)

same_value : (v w : Port) → Some v ≡ Some w → v ≡ w
same_value v w e = cc

found_value : (m : Map Port) (x : ℕ) (v w : Port) → get m x ≡ Some v → find_key x m.list ≡ Some w
    → v ≡ w
unfolding get
found_value m x v w e f = same_value v w (sym e ∙ f)

module _ (s : Store) (d : Doomed) where
  pub goes_part : (hs : List Held) (i : ℕ) (h : Held)
      → Goes s d hs
      → i < length hs
      → h ≡ get_or hs i h
      → Goes s d (one_held h)
  goes_part hs i h goes within is = record {
    at = λ p r. goes.at p (part hs i h p within is r);
  }

  -- one right more
  pub step_on : (hs : List Held) (i : ℕ) (h : Held) (a b c : Search)
      → i < length hs
      → h ≡ get_or hs i h
      → Step s d (take i hs) a b
      → Step s d (one_held h) b c
      → Step s d (take (i + 1) hs) a c
  step_on hs i h a b c within is one two =
      let next : suc i ≡ i + 1 = omega arith in
      subst (λ rs. Step s d rs a c)
      (sym (take_next hs i h within is) ∙ ap (λ n. take n hs) next)
      (then_step s d (take i hs) (one_held h) a b c one two)

  pub walk_begun : (backup : ℕ) (a : Search) (at : ℕ) → at ≡ head_at a.heads backup → Kept s d a
      → Walk s d backup a a at
  walk_begun backup a at e k = record {
    step = no_step s d a k;
    links = refl;
    heads = refl;
    within
        = subst (λ n. n ≤ length a.links.items) (sym e) (k.heads backup);
    left = λ p l. inr (subst (λ
        n. Linked a.links.items backup n p) (sym e) l);
  }

  pub link_at : (backup : ℕ) (a z : Search) (at : ℕ) (e : Link) → Walk s d backup a z at → 0 < at
      → e ≡ get_or z.links.items (at - 1) e → slice_get z.links.items (at - 1) ≡ Some e
  link_at backup a z at e walk h is =
      let w = walk.within in
      let l : length z.links.items ≡ length a.links.items = ap length walk.links in
      slice_get-get_or z.links.items (at - 1) e (omega arith) ∙ ap Some (sym is)

  pub walk_on : (backup : ℕ) (a z w : Search) (at k : ℕ) (e : Link) → Walk s d backup a z at → at
      ≡ k + 1 → slice_get z.links.items k ≡ Some e → Step s d [] z w → (e.backup ≡ backup
      → has w.dead.items e.port ≡ true) → w.links.items ≡ z.links.items → w.heads ≡ z.heads
      → Walk s d backup a w e.before
  walk_on backup a z w at k e walk at_is item step woken links heads = record {
    step = then_step s d [] [] a z w walk.step step;
    links = links ∙ walk.links;
    heads = heads ∙ walk.heads;
    within = let b = (walk.step.kept.links k e item).0 in let i = walk.within in omega arith;
    left = λ p l. elim (walk.left p l) [ inl f ↦ inl (step.dead p f) | inr r ↦ on p r ];
  }
    where
      same : (n : ℕ) (f : Link) → at ≡ n + 1 → slice_get a.links.items n ≡ Some f → f ≡ e
      same n f i g =
          let j : n ≡ k = omega arith in
          some_same f e (sym g ∙ ap (slice_get a.links.items) j
          ∙ ap (λ xs. slice_get xs k) (sym walk.links) ∙ item)
        where
          some_same : (x y : Link) → Some x ≡ Some y → x ≡ y
          some_same x y q = cc

      on : (p : ℕ) → Linked a.links.items backup at p → (has w.dead.items p ≡ true)
          ⊎ Linked a.links.items backup e.before p
      on p (here n f i g b q) = let j = same n f i g in inl (subst (λ x. has w.dead.items x
          ≡ true) (ap (λ (x : Link). x.port) (sym j)
          ∙ q) (woken (ap (λ (x : Link). x.backup) (sym j) ∙ b)))
      on p (there n f i g b rest) = inr (subst (λ (x : Link). Linked a.links.items backup x.before
          p) (same n f i g) rest)

  pub walk_done : (backup : ℕ) (a z : Search) (at : ℕ) → Walk s d backup a z at → at ≤ 0 → (p : ℕ)
      → Linked z.links.items backup (head_at z.heads backup) p → has z.dead.items p ≡ true
  walk_done backup a z at walk h p l = elim (walk.left p (subst (λ n. Linked a.links.items backup n
      p) (ap (λ x. head_at x backup) walk.heads) (subst (λ xs. Linked xs backup (head_at z.heads
      backup) p) walk.links l))) [ inl f ↦ f | inr r ↦ none r ]
    where
      none : Linked a.links.items backup at p → has z.dead.items p ≡ true
      none (here n f i g b q) = absurd (omega arith)
      none (there n f i g b rest) = absurd (omega arith)

  -- the rights of a queue go, where its port is found
  pub queue_goes : (z : Search) (x : ℕ) (v : Port) → Kept s d z → has z.dead.items x ≡ true
      → get s.ports x ≡ Some v → Goes s d (queue_rights v.queue)
  unfolding get
  queue_goes z x v k f e = record {
    at = λ p r. any_append p d.rights (queued_rights s (dying s d))
        ∙ or_right (has_receive p d.rights) (has_receive p (queued_rights s (dying s d))) (queued_in
        p (dying s d) x v s.ports.list (k.sound x f) e r);
  }

  pub rights_go : Goes s d d.rights
  rights_go = record {
    at = λ p r. any_append p d.rights (queued_rights s (dying s d))
        ∙ or_left (has_receive p d.rights) (has_receive p (queued_rights s (dying s d))) r;
  }

  pub followed : (a y z : Search) (x : ℕ) (v : Port) → Going s d a → a.done < length a.dead.items
      → x ≡ get_or a.dead.items a.done x → get s.ports x ≡ Some v
      → Step s d (queue_rights v.queue) a y → Step s d [] y z → ((p : ℕ)
      → Linked z.links.items x (head_at z.heads x) p → has z.dead.items p ≡ true)
      → Going s d (record z { done = z.done + 1 })
  followed a y z x v g more x_is v_is queue walk woken = record {
    kept = record {
      same = step.kept.same;
      sound = step.kept.sound;
      loses = step.kept.loses;
      lost = λ p h l. lost p h (backup_of (get s.ports p)) refl l;
      waits = step.kept.waits;
      links = step.kept.links;
      heads = step.kept.heads;
      few = step.kept.few;
      done = let e = step.done in let l = step.longer in omega arith;
    };
    received = record {
      at = λ p live h. elim (or_cases (has_receive p d.rights) (has_receive p (queued_rights s
          (take (z.done + 1) z.dead.items))) (sym (any_append p d.rights (queued_rights s (take
          (z.done + 1) z.dead.items))) ∙ h)) [
            | inl l ↦ step.gone p (g.received.at p live (any_append p d.rights (queued_rights s
                (take
                a.done a.dead.items)) ∙ or_left (has_receive p d.rights) (has_receive p
                (queued_rights
                s (take a.done a.dead.items))) l))
            | inr r ↦ elim (queued_push p (take a.done a.dead.items) x 0 s.ports.list s.ports.rising
                (ap (λ xs. has_receive p (queued_rights s xs)) (sym front) ∙ r)) [
                  | inl l ↦ step.gone p (g.received.at p live (any_append p d.rights (queued_rights
                      s (take
                      a.done a.dead.items)) ∙ or_right (has_receive p d.rights) (has_receive p
                      (queued_rights s (take a.done a.dead.items))) l))
                  | inr q ↦ walk.gone p (queue.all p live
                      (ap (λ (w : Port). has_receive p (queue_rights w.queue)) (value q.0 q.1)
                      ∙ q.2))
                ]
          ];
    };
    kernel = λ p live k. step.dead p (g.kernel p live k);
  }
    where
      step : Step s d (queue_rights v.queue ++ []) a z
      step = then_step s d (queue_rights v.queue) [] a y z queue walk

      value : (w : Port) → find_key x s.ports.list ≡ Some w → v ≡ w
      value w e = found_value s.ports x v w v_is e

      front : take (z.done + 1) z.dead.items ≡ take a.done a.dead.items ++ x ∷ []
      front =
          let e = step.done in
          let n : z.done + 1 ≡ suc a.done = omega arith in
          ap (λ m. take m z.dead.items) n ∙ step.prefix (suc a.done) (omega arith)
          ∙ take_next a.dead.items a.done x more x_is

      back : take z.done z.dead.items ≡ take a.done a.dead.items
      back = ap (λ m. take m z.dead.items) step.done ∙ step.prefix a.done (omega arith)

      lost : (p : ℕ) → has z.gone p ≡ true → (b : Backup) → backup_of (get s.ports p) ≡ b
          → is_lost (take (z.done + 1) z.dead.items) (backup_of (get s.ports p)) ≡ true
          → has z.dead.items p ≡ true
      lost p h NoBackup e l = step.kept.lost p h (ap (is_lost (take z.done z.dead.items)) e)
      lost p h DeadBackup e l = step.kept.lost p h (ap (is_lost (take z.done z.dead.items)) e)
      lost p h (BackupPort b) e l = elim (or_cases (has (take a.done a.dead.items) b) (x == b) (sym
          (ap (λ xs. has xs b) front ∙ has_push (take a.done a.dead.items) x b)
          ∙ (ap (is_lost (take (z.done + 1) z.dead.items)) (sym e) ∙ l))) [
            | inl i ↦ step.kept.lost p h (ap (is_lost (take z.done z.dead.items)) e
                ∙ (ap (λ xs. has xs b) back ∙ i))
            | inr j ↦ elim (step.kept.waits p b h e) [
              | inl f ↦ f
              | inr r ↦ woken p (subst (λ n. Linked
                  z.links.items n (head_at z.heads n) p) (sym (eqb-true x b j)) r)
            ]
          ]

  pub empty_kept : (z : Search) → z.dead.items ≡ [] → z.done ≡ 0 → z.seen ≡ [] → z.gone ≡ []
      → z.heads ≡ [] → z.links.items ≡ [] → Kept s d z
  empty_kept z dead done seen gone heads links = record {
    same = λ p. ap (λ xs. has xs p) (seen ∙ sym dead);
    sound = λ p h. absurd (none p (ap (λ xs. has xs p) (sym dead) ∙ h));
    loses = λ p h. absurd (none p (ap (λ xs. has xs p) (sym gone) ∙ h));
    lost = λ p h l. absurd (none p (ap (λ xs. has xs p) (sym gone) ∙ h));
    waits = λ p b h e. absurd (none p (ap (λ xs. has xs p) (sym gone) ∙ h));
    links = λ k e h. absurd (no_link k e (ap (λ xs. slice_get xs k) (sym links) ∙ h));
    heads = λ b. subst (λ n. n ≤ length z.links.items) (sym (ap (λ x. head_at x b) heads)) (omega
        arith);
    few = subst (λ xs. length (unseen s xs) + length xs ≤ length (keys s.ports)) (sym dead) (let l
        = length_filter (λ q. not (has [] q)) (keys s.ports) in omega arith);
    done = subst (λ n. n ≤ length z.dead.items) (sym done) (omega arith);
  }
    where
      none : (p : ℕ) → has [] p ≡ true → ⊥
      none p h = both_ways false refl h

      no_link : (k : ℕ) (e : Link) → slice_get [] k ≡ Some e → ⊥
      no_link k e h = cc

  pub begun : (a y z : Search) → a.done ≡ 0 → Step s d [] a y → ((p : ℕ) → has (keys s.ports) p
      ≡ true → is_kernel_of d.kernel p ≡ true → has y.dead.items p ≡ true)
      → Step s d d.rights y z → Going s d z
  begun a y z done one kernel two = record {
    kept = two.kept;
    received = record {
      at = λ p live h. elim (or_cases (has_receive p d.rights) (has_receive p (queued_rights s
          (take z.done z.dead.items))) (sym (any_append p d.rights (queued_rights s (take z.done
          z.dead.items))) ∙ h)) [
            | inl l ↦ two.all p live l
            | inr r ↦ absurd (both_ways false refl (queued_none p s.ports.list (ap (λ xs.
                has_receive p
                (queued_rights s xs)) (sym nothing) ∙ r)))
          ];
    };
    kernel = λ p live k. two.dead p (kernel p live k);
  }
    where
      nothing : take z.done z.dead.items ≡ []
      nothing = ap (λ n. take n z.dead.items) (two.done ∙ one.done ∙ done) ∙ zero_take z.dead.items
        where
          zero_take : (l : List ℕ) → take 0 l ≡ []
          zero_take [] = refl
          zero_take (y ∷ ys) = refl

  pub finished : (z : Search) → Going s d z → length z.dead.items ≤ z.done → (p : ℕ)
      → has z.dead.items p ≡ has (dying s d) p
  finished z g all p = same_tests (has z.dead.items p) (has (dying s d) p) (g.kept.sound p)
      (dying_within s d z.dead.items closed p)
    where
      closed : (q : ℕ) → has (keys s.ports) q ≡ true → dies s d z.dead.items q ≡ true
          → has z.dead.items q ≡ true
      closed q live h = elim (or_cases (is_kernel_of d.kernel q) (has_receive q (d.rights ++
          queued_rights s z.dead.items) && is_lost z.dead.items (backup_of (get s.ports q))) h) [
            | inl k ↦ g.kernel q live k
            | inr r ↦
                let both = and_parts (has_receive q (d.rights ++ queued_rights s z.dead.items))
                (is_lost z.dead.items (backup_of (get s.ports q))) r in
                let whole = take_whole z.dead.items z.done all in
                g.kept.lost q (g.received.at q live (ap (λ xs. has_receive q (d.rights ++
                queued_rights
                s xs)) whole ∙ both.0)) (ap (λ xs. is_lost xs (backup_of (get s.ports q))) whole
                ∙ both.1)
          ]

  -- at the end those are marked that lose their receive rights
  pub finished_lost : (z : Search)
      → Going s d z
      → length z.dead.items ≤ z.done
      → (p : ℕ)
      → has z.gone p ≡ is_losing s d p
  finished_lost z g all p =
      same_tests (has z.gone p) (is_losing s d p)
      (λ h. and_from (has (keys s.ports) p)
      (has_receive p (d.rights ++ queued_rights s (dying s d))) (g.kept.loses p h).live
      (g.kept.loses p h).goes)
      (λ h. back (and_parts (has (keys s.ports) p)
      (has_receive p (d.rights ++ queued_rights s (dying s d))) h))
    where
      within : (q : ℕ) → has (dying s d) q ≡ true → has z.dead.items q ≡ true
      within q h = finished z g all q ∙ h

      more : has_receive p (d.rights ++ queued_rights s (dying s d)) ≡ true
          → has_receive p (d.rights ++ queued_rights s z.dead.items) ≡ true
      more h =
          any_append p d.rights (queued_rights s z.dead.items)
          ∙ elim (or_cases (has_receive p d.rights) (has_receive p (queued_rights s (dying s d)))
          (sym (any_append p d.rights (queued_rights s (dying s d))) ∙ h)) [
            | inl l ↦ or_left (has_receive p d.rights)
                (has_receive p (queued_rights s z.dead.items)) l
            | inr r ↦ or_right (has_receive p d.rights)
                (has_receive p (queued_rights s z.dead.items))
                (queued_more p (dying s d) z.dead.items s.ports.list within r)
          ]

      back : (has (keys s.ports) p ≡ true)
          × (has_receive p (d.rights ++ queued_rights s (dying s d)) ≡ true)
          → has z.gone p ≡ true
      back both =
          g.received.at p both.0
          (ap (λ xs. has_receive p (d.rights ++ queued_rights s xs))
          (take_whole z.dead.items z.done all) ∙ more both.1)
