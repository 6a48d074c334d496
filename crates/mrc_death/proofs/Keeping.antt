-- Each move of the search keeps what it keeps.
use Rattle.std.proofs.Common.{◌≡◌, ℕ, zero, suc, ◌+◌, ◌≤◌, ◌⊎◌, inl, inr, Bool, true, false, not}
use Rattle.std.proofs.Common.{List, [], ◌∷◌, ◌++◌, length, take, refl, sym, ◌∙◌, ap, subst, arith}
use Rattle.std.proofs.Common.{◌==◌, ◌||◌, if◌then◌else◌, Option, Some, None, eq-eqb, map}
use Rattle.std.proofs.Common.{option_map}
use Rattle.std.specs.Option.{is_some}
use Rattle.std.proofs.lemmas.Bool.{or_left, or_right}
use Rattle.std.proofs.lemmas.Bool.{both_ways, or_cases, eqb-true, ne_eqb, cases_eq}
use Rattle.std.proofs.lemmas.List.{take-append-le}
use Rattle.std.specs.List.{slice_get}
use Rattle.mrc_model.specs.declared.Backup.TheVariants.{Port as BackupPort}
use Rattle.mrc_model.specs.Map.{Map, get, len, keys}
use Rattle.mrc_model.specs.Rising.{find_key}
use Rattle.mrc_model.proofs.Maps.{not_None, find_cases, if_true, if_false}
use Rattle.mrc_model.specs.World.{Store, Held, Port}
use Rattle.mrc_model.specs.Death.{has, has_receive, is_lost, backup_of, Doomed, is_kernel_of, dies}
use Rattle.mrc_model.specs.Death.{rounds, dying}
use Rattle.mrc_model.proofs.Dying.{any_append, has-filter, more_or_same}
use Rattle.mrc_model.proofs.Dying.{dying_closed}
use Rattle.mrc_death.specs.Heads.{head_at}
use Rattle.mrc_death.specs.declared.search.Link.{Link}
use Rattle.mrc_death.specs.declared.search.Search.{Search}
use Rattle.mrc_death.specs.Search.{Linked, here, there, Loses, unseen, Kept, Step, Settled, is_dead}
use Rattle.mrc_death.specs.Search.{is_waiting, receive_of}

pub has_push : (xs : List ℕ) (p q : ℕ) → has (xs ++ p ∷ []) q ≡ (has xs q || p == q)
has_push [] p q = elim (p == q) as (λ b. (b || false) ≡ b) [ true ↦ refl | false ↦ refl ]
has_push (x ∷ xs) p q = elim (x == q) as (λ b. (b || has (xs ++ p ∷ []) q)
    ≡ ((b || has xs q) || p == q)) [ true ↦ refl | false ↦ has_push xs p q ]

or_turn : (a b c : Bool) → c ≡ b → (a || b) ≡ (c || a)
or_turn true true c e = rw e
or_turn true false c e = rw e
or_turn false true c e = rw e
or_turn false false c e = rw e

get_more : {X : Type 0} (xs ys : List X) (k : ℕ) (e : X) → slice_get xs k ≡ Some e
    → slice_get (xs ++ ys) k ≡ Some e
get_more [] ys k e h = cc
get_more (x ∷ xs) ys zero e h = h
get_more (x ∷ xs) ys (suc k) e h = get_more xs ys k e h

get_last : {X : Type 0} (xs : List X) (x : X) → slice_get (xs ++ x ∷ []) (length xs) ≡ Some x
get_last [] x = refl
get_last (y ∷ xs) x = get_last xs x

get_pushed : {X : Type 0} (xs : List X) (x e : X) (k : ℕ) → slice_get (xs ++ x ∷ []) k ≡ Some e
    → (slice_get xs k ≡ Some e) ⊎ ((k ≡ length xs) × (x ≡ e))
get_pushed [] x e zero h = inr (refl, cc)
get_pushed [] x e (suc k) h = cc
get_pushed (y ∷ xs) x e zero h = inl h
get_pushed (y ∷ xs) x e (suc k) h = elim (get_pushed xs x e k h) [
  | inl l ↦ inl l
  | inr r ↦ inr (
    ap
        suc r.0,
    r.1,
  )
]

linked_more : (links more : List Link) (b h p : ℕ) → Linked links b h p
    → Linked (links ++ more) b h p
linked_more links more b h p (here k e i at is to) = here k e i (get_more links more k e at) is to
linked_more links more b h p (there k e i at is rest) = there k e i (get_more links more k e at) is
    (linked_more links more b e.before p rest)

length_push : {X : Type 0} (xs : List X) (x : X) → length (xs ++ x ∷ []) ≡ length xs + 1
length_push [] x = refl
length_push (y ∷ xs) x = let r = length_push xs x in omega arith

pub has_take : (n : ℕ) (xs : List ℕ) (p : ℕ) → has (take n xs) p ≡ true → has xs p ≡ true
has_take zero [] p h = cc
has_take zero (x ∷ xs) p h = cc
has_take (suc n) [] p h = cc
has_take (suc n) (x ∷ xs) p h = elim (or_cases (x == p) (has (take n xs) p) h) [
  | inl l ↦ or_left (x
      == p) (has xs p) l
  | inr r ↦ or_right (x == p) (has xs p) (has_take n xs p r)
]

same_port : (b c : ℕ) → BackupPort b ≡ BackupPort c → b ≡ c
same_port b c e = cc

pub self_receive : (p : ℕ) → has_receive p (receive_of p) ≡ true
self_receive p = rw (eq-eqb p p refl) refl

own_receive : (p q : ℕ) → has_receive q (receive_of p) ≡ true → (p == q) ≡ true
own_receive p q h = elim (or_cases (p == q) false h) [ inl e ↦ e | inr r ↦ cc ]

pub live_not_absent : {X : Type 0} (m : Map X) (p : ℕ) → get m p ≡ None → has (keys m) p ≡ true → ⊥
unfolding get keys
live_not_absent {X} m p n h = go m.list n h
  where
    go : (es : List (ℕ × X)) → find_key p es ≡ None → has (map (λ e. e.0) es) p ≡ true → ⊥
    go [] n h = cc
    go (e ∷ es) n h = elim (cases_eq p e.0) [
      | inl y ↦ not_None e.1 (sym (if_true (p == e.0) (Some e.1) (find_key p es) (eq-eqb p e.0 y))
          ∙ n)
      | inr o ↦ go es (sym (if_false (p == e.0) (Some e.1) (find_key p es) (ne_eqb p e.0 o))
          ∙ n) (elim (or_cases (e.0 == p) (has (map (λ e. e.0) es) p) h) [
            | inl l ↦ absurd (o (sym
                (eqb-true e.0 p l)))
            | inr r ↦ r
          ])
    ]

pub present_live : {X : Type 0} (m : Map X) (p : ℕ) (x : X) → get m p ≡ Some x → has (keys m) p
    ≡ true
unfolding get keys
present_live {X} m p x h = go m.list h
  where
    go : (es : List (ℕ × X)) → find_key p es ≡ Some x → has (map (λ e. e.0) es) p ≡ true
    go [] h = cc
    go (e ∷ es) h = elim (find_cases e es p x h) [
      | inl l ↦ or_left (e.0 == p) (has (map (λ e. e.0) es) p) (eq-eqb e.0 p (sym l.0))
      | inr r ↦ or_right (e.0 == p) (has (map (λ e. e.0) es) p) (go es r)
    ]

pub mapped_none : {X Y : Type 0} {o : Option Y} (f : X → Y) (r : Option X) → option_map f r ≡ o
    → is_some r ≡ false → o ≡ None
mapped_none f None e h = sym e
mapped_none f (Some x) e h = absurd (both_ways true h refl)

mapped_some : {X Y : Type 0} {o : Option Y} (f : X → Y) (r : Option X) → option_map f r ≡ o
    → is_some r ≡ true → (y : Y) × (o ≡ Some y)
mapped_some f None e h = absurd (both_ways false refl h)
mapped_some f (Some x) e h = (f x, sym e)

module _ (s : Store) (d : Doomed) where
  -- what dies is live
  pub dying_live : (p : ℕ) → has (dying s d) p ≡ true → has (keys s.ports) p ≡ true
  unfolding dying
  dying_live p h = live (len s.ports) h
    where
      live : (n : ℕ) → has (rounds n s d) p ≡ true → has (keys s.ports) p ≡ true
      live zero z = cc
      live (suc n) z = (has-filter (dies s d (rounds n s d)) (keys s.ports) p z).1

  -- a marked port whose backup does not save it dies
  pub loses_dies : (p : ℕ) → Loses s d p → is_lost (dying s d) (backup_of (get s.ports p)) ≡ true
      → has (dying s d) p ≡ true
  loses_dies p l e = dying_closed s d p l.live (or_right (is_kernel_of d.kernel p) _ (rw (
    l.goes,
    e,
  ) refl))

  unseen_fewer : (dead : List ℕ) (p : ℕ) → has (keys s.ports) p ≡ true → has dead p ≡ false
      → length (unseen s (dead ++ p ∷ [])) + 1 ≤ length (unseen s dead)
  unseen_fewer dead p live out = elim (more_or_same (λ q. not (has (dead ++ p ∷ []) q)) (λ q. not
      (has dead q)) (keys s.ports) within) [
        | inl l ↦ omega arith
        | inr r ↦ absurd (both_ways (not (has (dead ++ p ∷ []) p)) (ap not (has_push dead p p
            ∙ or_right (has dead p) (p == p) (eq-eqb p p refl))) (r.1 p live (ap not out)))
      ]
    where
      within : (q : ℕ) → not (has (dead ++ p ∷ []) q) ≡ true → not (has dead q) ≡ true
      within q h = go (has dead q) refl
        where
          go : (b : Bool) → has dead q ≡ b → not b ≡ true
          go true e = absurd (both_ways (not (has (dead ++ p ∷ []) q)) (ap not (has_push dead p q
              ∙ or_left (has dead q) (p == q) e)) h)
          go false e = refl

  pub no_step : (z : Search) → Kept s d z → Step s d [] z z
  no_step z k = record {
    kept = k;
    gone = λ p h. h;
    dead = λ p h. h;
    all = λ p l h. cc;
    done =
        refl;
    longer = omega arith;
    prefix = λ n l. refl;
  }

  pub then_step : (xs ys : List Held) (a b c : Search) → Step s d xs a b → Step s d ys b c
      → Step s d (xs ++ ys) a c
  then_step xs ys a b c u v = record {
    kept = v.kept;
    gone = λ p h. v.gone p (u.gone p h);
    dead = λ p h. v.dead p (u.dead p h);
    all = λ p l h. elim (or_cases (has_receive p xs) (has_receive p ys) (sym (any_append p xs ys)
        ∙ h)) [ inl i ↦ v.gone p (u.all p l i) | inr j ↦ v.all p l j ];
    done = v.done ∙ u.done;
    longer = let x = u.longer in let y = v.longer in omega arith;
    prefix = λ n l. v.prefix n (let x = u.longer in omega arith) ∙ u.prefix n l;
  }

  pub killed : (a b : Search) (port : ℕ) → Kept s d a → has (dying s d) port ≡ true
      → has a.seen port ≡ false → b.dead.items ≡ a.dead.items ++ port ∷ [] → ((q : ℕ)
      → has b.seen q ≡ (port == q || has a.seen q)) → b.gone ≡ a.gone → b.heads ≡ a.heads
      → b.links.items ≡ a.links.items → b.done ≡ a.done → Step s d [] a b
  killed a b port k dies out dead seen gone heads links done =
      let more : (q : ℕ) → has a.dead.items q ≡ true → has b.dead.items q
      ≡ true = λ q h. ap (λ xs. has xs q) dead ∙ has_push a.dead.items port q
      ∙ or_left (has a.dead.items q) (port == q) h in
      let followed : take b.done b.dead.items ≡ take a.done a.dead.items = ap (λ n. take n
      b.dead.items) done ∙ ap (take a.done) dead
      ∙ take-append-le a.done a.dead.items (port ∷ []) k.done in
      record {
        kept = record {
          same = λ q. seen q ∙ sym (ap (λ xs. has xs q) dead ∙ has_push a.dead.items port q
              ∙ or_turn (has a.dead.items q) (port == q) (port == q) refl
              ∙ ap (λ b. port == q || b) (sym (k.same q)));
          sound = λ q h. elim (or_cases (has a.dead.items q) (port == q) (sym (ap (λ xs. has xs q)
              dead ∙ has_push a.dead.items port q) ∙ h)) [
                | inl l ↦ k.sound q l
                | inr r ↦ ap (has
                    (dying s d)) (sym (eqb-true port q r)) ∙ dies
              ];
          loses = λ q h. k.loses q (ap (λ xs. has xs q) (sym gone) ∙ h);
          lost = λ q h l. more q (k.lost q (ap (λ xs. has xs q) (sym gone)
              ∙ h) (ap (λ xs. is_lost xs (backup_of (get s.ports q))) (sym followed) ∙ l));
          waits = λ q c h e. elim (k.waits q c (ap (λ xs. has xs q) (sym gone) ∙ h) e) [
            | inl l ↦ inl (more q l)
            | inr r ↦ inr (subst (λ n. Linked b.links.items c n q) (ap (λ x. head_at x c) (sym
                heads)) (subst (λ xs. Linked xs c (head_at a.heads c) q) (sym links) r))
          ];
          links = λ n e h. k.links n e (ap (λ xs. slice_get xs n) (sym links) ∙ h);
          heads = λ c. subst (λ n. head_at b.heads c ≤ n) (ap length (sym links)) (subst (λ n. n ≤
              length a.links.items) (ap (λ x. head_at x c) (sym heads)) (k.heads c));
          few =
              let f = unseen_fewer a.dead.items port (dying_live port dies) (sym (k.same port)
              ∙ out) in
              let g = k.few in
              let l = length_push a.dead.items port in
              subst (λ xs. length (unseen s xs) + length xs ≤ length (keys s.ports)) (sym dead)
              (omega arith);
          done = subst (λ n. n ≤ length b.dead.items) (sym done) (subst (λ xs. a.done ≤ length xs)
              (sym dead) (let g = k.done in let l = length_push a.dead.items port in omega arith));
        };
        gone = λ q h. ap (λ xs. has xs q) gone ∙ h;
        dead = more;
        all = λ p l h. cc;
        done = done;
        longer = subst (λ xs. length a.dead.items ≤ length xs) (sym dead) (let l = length_push
            a.dead.items port in omega arith);
        prefix = λ n l. ap (take n) dead ∙ take-append-le n a.dead.items (port ∷ []) l;
      }

  -- the port waits at the head of its backup's list
  pub waited : (a b : Search) (port backup : ℕ) (e : Link) → Kept s d a → Loses s d port
      → backup_of (get s.ports port) ≡ BackupPort backup → e.port ≡ port → e.backup ≡ backup
      → e.before ≡ head_at a.heads backup → b.links.items ≡ a.links.items ++ e ∷ [] → ((q : ℕ)
      → head_at b.heads q ≡ (if backup == q then length b.links.items else head_at a.heads q))
      → b.gone ≡ a.gone → b.seen ≡ a.seen → b.dead.items ≡ a.dead.items → b.done ≡ a.done
      → Step s d [] a b × Linked b.links.items backup (head_at b.heads backup) port
  waited a b port backup e k loses is e_port e_backup e_before links heads gone seen dead done =
      let len : length b.links.items ≡ length a.links.items + 1 = ap length links
      ∙ length_push a.links.items e in
      let last : slice_get b.links.items (length a.links.items)
      ≡ Some e = ap (λ xs. slice_get xs (length a.links.items)) links
      ∙ get_last a.links.items e in
      let own : head_at b.heads backup ≡ length a.links.items + 1 = heads backup
      ∙ ap (λ t. if t then length b.links.items else head_at a.heads backup)
      (eq-eqb backup backup refl)
      ∙ len in
      let followed : take b.done b.dead.items ≡ take a.done a.dead.items = ap (λ n. take n
      b.dead.items) done ∙ ap (take a.done) dead in
      let still : (q c : ℕ) → Linked a.links.items c (head_at a.heads c) q
      → Linked b.links.items c (head_at b.heads c) q = λ q c l.
      let l2 : Linked b.links.items c (head_at a.heads c) q = subst (λ xs. Linked xs c (head_at
      a.heads c) q) (sym links) (linked_more a.links.items (e ∷ []) c (head_at a.heads c) q l)
      in
      elim (cases_eq backup c) [
        | inl y ↦ there (length a.links.items) e (ap (head_at b.heads) (sym y)
            ∙ own) last (e_backup ∙ y) (subst (λ n. Linked b.links.items c n q) (sym (e_before
            ∙ ap (head_at a.heads) y)) l2)
        | inr n ↦ subst (λ n. Linked b.links.items c n q) (sym (heads c
            ∙ ap (λ t. if t then length b.links.items else head_at a.heads c) (ne_eqb backup c n)))
            l2
      ] in (
        record {
          kept = record {
            same = λ q. ap (λ xs. has xs q) seen ∙ k.same q ∙ ap (λ xs. has xs q) (sym dead);
            sound = λ q h. k.sound q (ap (λ xs. has xs q) (sym dead) ∙ h);
            loses = λ q h. k.loses q (ap (λ xs. has xs q) (sym gone) ∙ h);
            lost = λ q h l. ap (λ xs. has xs q) dead ∙ k.lost q (ap (λ xs. has xs q) (sym gone)
                ∙ h) (ap (λ xs. is_lost xs (backup_of (get s.ports q))) (sym followed) ∙ l);
            waits = λ q c h e. elim (k.waits q c (ap (λ xs. has xs q) (sym gone) ∙ h) e) [
              | inl l ↦ inl (ap (λ xs. has xs q) dead ∙ l)
              | inr r ↦ inr (still q c r)
            ];
            links = λ n f h. elim (get_pushed a.links.items e f n (ap (λ xs. slice_get xs n) (sym
                links) ∙ h)) [
                  | inl l ↦ k.links n f l
                  | inr r ↦ (
                    at_end n f r.0 r.1,
                    subst (Loses s d) (sym (ap (λ (x : Link). x.port) (sym
                        r.1) ∙ e_port)) loses,
                    ap (λ q. backup_of (get s.ports q)) (ap (λ (x : Link).
                        x.port) (sym r.1) ∙ e_port) ∙ is ∙ ap BackupPort (sym (ap (λ (x : Link).
                        x.backup) (sym r.1) ∙ e_backup)),
                  )
                ];
            heads = λ c. heads_at c;
            few = subst (λ xs. length (unseen s xs) + length xs ≤ length (keys s.ports)) (sym dead)
                k.few;
            done = subst (λ n. n ≤ length b.dead.items) (sym done) (subst (λ xs. a.done ≤ length
                xs) (sym dead) k.done);
          };
          gone = λ q h. ap (λ xs. has xs q) gone ∙ h;
          dead = λ q h. ap (λ xs. has xs q) dead ∙ h;
          all = λ p l h. cc;
          done = done;
          longer = subst (λ xs. length a.dead.items ≤ length xs) (sym dead) (omega arith);
          prefix = λ n l. ap (take n) dead;
        },
        here (length a.links.items) e own last e_backup e_port,
      )
    where
      at_end : (n : ℕ) (f : Link) → n ≡ length a.links.items → e ≡ f → f.before ≤ n
      at_end n f i j = let h = k.heads backup in subst (λ m. f.before ≤ m) (sym i) (subst (λ m. m ≤
          length a.links.items) (sym (ap (λ (x : Link). x.before) (sym j) ∙ e_before)) h)

      heads_at : (c : ℕ) → head_at b.heads c ≤ length b.links.items
      heads_at c =
          let l : length b.links.items ≡ length a.links.items + 1 = ap length links
          ∙ length_push a.links.items e in
          let h = k.heads c in
          elim (cases_eq backup c) [
            | inl y ↦ let z = heads c ∙ ap (λ t. if t then length b.links.items else head_at
                a.heads c) (eq-eqb backup c y) in omega arith
            | inr n ↦ let z = heads c ∙ ap (λ t. if t then length b.links.items else head_at
                a.heads c) (ne_eqb backup c n) in omega arith
          ]

  -- what was there already
  pub killed_before : (a : Search) (seen : List ℕ) (port : ℕ) → Kept s d a → has a.seen port ≡ true
      → ((q : ℕ) → has seen q ≡ (port == q || has a.seen q))
      → Step s d [] a (record a { seen = seen })
  killed_before a seen port k known new = record {
    kept = record {
      same = λ q. new q ∙ go q (port == q) refl;
      sound = k.sound;
      loses = k.loses;
      lost = k.lost;
      waits = k.waits;
      links = k.links;
      heads = k.heads;
      few = k.few;
      done = k.done;
    };
    gone = λ p h. h;
    dead = λ p h. h;
    all = λ p l h. cc;
    done = refl;
    longer = omega arith;
    prefix = λ n l. refl;
  }
    where
      go : (q : ℕ) (b : Bool) → (port == q) ≡ b → (b || has a.seen q) ≡ has a.dead.items q
      go q true e = sym (ap (has a.dead.items) (sym (eqb-true port q e)) ∙ (sym (k.same port)
          ∙ known))
      go q false e = k.same q

  -- a port that is found or waits may be marked
  pub marked : (a : Search) (gone : List ℕ) (port : ℕ) → Kept s d a → Loses s d port
      → Settled s a port → ((q : ℕ) → has gone q ≡ (port == q || has a.gone q))
      → Step s d (receive_of port) a (record a { gone = gone })
  marked a gone port k loses settled new = record {
    kept = record {
      same = k.same;
      sound = k.sound;
      loses = λ q h. elim (cases q h) [ inl e ↦ subst (Loses s d) e loses | inr r ↦ k.loses q r ];
      lost = λ q h l. elim (cases q h) [
        | inl e ↦ subst (λ x. has a.dead.items x
            ≡ true) e (lost settled (ap (λ x. is_lost (take a.done a.dead.items) (backup_of (get
            s.ports x))) e ∙ l))
        | inr r ↦ k.lost q r l
      ];
      waits = λ q c h b. elim (cases q h) [
        | inl e ↦ subst (λ x. (has a.dead.items x ≡ true)
            ⊎ Linked a.links.items c (head_at a.heads c) x) e (waits settled c (ap (λ x. backup_of
            (get s.ports x)) e ∙ b))
        | inr r ↦ k.waits q c r b
      ];
      links = k.links;
      heads = k.heads;
      few = k.few;
      done = k.done;
    };
    gone = λ q h. new q ∙ or_right (port == q) (has a.gone q) h;
    dead = λ q h. h;
    all = λ q l h. new q ∙ or_left (port == q) (has a.gone q) (own_receive port q h);
    done = refl;
    longer = omega arith;
    prefix = λ n l. refl;
  }
    where
      cases : (q : ℕ) → has gone q ≡ true → (port ≡ q) ⊎ (has a.gone q ≡ true)
      cases q h = elim (or_cases (port == q) (has a.gone q) (sym (new q)
          ∙ h)) [ inl e ↦ inl (eqb-true port q e) | inr r ↦ inr r ]

      lost : Settled s a port → is_lost (take a.done a.dead.items) (backup_of (get s.ports port))
          ≡ true → has a.dead.items port ≡ true
      lost (is_dead e) h = e
      lost (is_waiting b is out link) h = absurd (both_ways (has a.dead.items b) out (has_take
          a.done a.dead.items b (ap (is_lost (take a.done a.dead.items)) (sym is) ∙ h)))

      waits : Settled s a port → (c : ℕ) → backup_of (get s.ports port) ≡ BackupPort c
          → (has a.dead.items port ≡ true) ⊎ Linked a.links.items c (head_at a.heads c) port
      waits (is_dead e) c is = inl e
      waits (is_waiting b it out link) c is = inr (subst (λ x. Linked a.links.items x (head_at
          a.heads x) port) (same_port b c (sym it ∙ is)) link)

  -- what is marked already need not be marked again
  pub marked_before : (z : Search) (port : ℕ) → Kept s d z → has z.gone port ≡ true
      → Step s d (receive_of port) z z
  marked_before z port k known = record {
    kept = k;
    gone = λ p h. h;
    dead = λ p h. h;
    all = λ q l
        h. ap (has z.gone) (sym (eqb-true port q (own_receive port q h)))
        ∙ known;
    done = refl;
    longer = omega arith;
    prefix = λ n l. refl;
  }

  -- nor what is not live
  pub not_live : (z : Search) (port : ℕ) → Kept s d z → get s.ports port ≡ None
      → Step s d (receive_of port) z z
  not_live z port k out = record {
    kept = k;
    gone = λ p h. h;
    dead = λ p h. h;
    all = λ q l h.
        absurd (live_not_absent s.ports port out (ap (has (keys s.ports)) (eqb-true port q
        (own_receive port q h)) ∙ l));
    done = refl;
    longer = omega arith;
    prefix = λ n l. refl;
  }

  -- the kernel port dies, where it is live
  pub kernel_dies : {X : Type 0} (p : ℕ) (f : X → Port) (r : Option X) → option_map f r
      ≡ get s.ports p → is_some r ≡ true → d.kernel ≡ Some p → has (dying s d) p ≡ true
  kernel_dies p f r e h k =
      let m = mapped_some f r e h in
      dying_closed s d p (present_live s.ports p m.0 m.1) (or_left (is_kernel_of d.kernel p) _ (ap
      (λ o. is_kernel_of o p) k ∙ eq-eqb p p refl))
