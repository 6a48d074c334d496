-- The dying set is closed, and each port in it has lost its receive right or its task.
use Rattle.std.proofs.Common.{◌≡◌, ℕ, zero, suc, ◌<◌, ◌≤◌, ◌⊎◌, inl, inr, Bool, true, false, List}
use Rattle.std.proofs.Common.{[], ◌∷◌, ◌++◌, map, length, refl, sym, ◌∙◌, ap, arith, ◌==◌, ◌||◌}
use Rattle.std.proofs.Common.{◌&&◌, if◌then◌else◌}
use Rattle.std.specs.List.{filter}
use Rattle.std.proofs.lemmas.Bool.{and_parts, and_from, both_ways, or_cases, or_left, or_right}
use Rattle.std.proofs.lemmas.Bool.{eqb-true}
use Rattle.mrc_model.specs.Map.{get, len, keys}
use Rattle.mrc_model.specs.declared.Backup.{Backup}
use Rattle.mrc_model.specs.declared.Backup.TheVariants.{Absent as NoBackup, Dead as DeadBackup}
use Rattle.mrc_model.specs.declared.Backup.TheVariants.{Port as BackupPort}
use Rattle.mrc_model.specs.World.{Port, Store, Held, queue_rights}
use Rattle.mrc_model.specs.Death.{has, is_receive_of, has_receive, queued_on, queued_rights}
use Rattle.mrc_model.specs.Death.{is_lost, backup_of, Doomed, is_kernel_of, dies, rounds, dying}

pub any_append : (p : ℕ) (xs ys : List Held)
    → has_receive p (xs ++ ys) ≡ (has_receive p xs || has_receive p ys)
any_append p [] ys = refl
any_append p (x ∷ xs) ys =
    elim (is_receive_of p x) as (λ b. (b || has_receive p (xs ++ ys))
    ≡ ((b || has_receive p xs) || has_receive p ys)) [ true ↦ refl | false ↦ any_append p xs ys ]

-- a set that has what another has
abbrev pub Within : List ℕ → List ℕ → Type 0
Within xs ys = (p : ℕ) → has xs p ≡ true → has ys p ≡ true

pub queued_more : (p : ℕ) (xs ys : List ℕ) (es : List (ℕ × Port)) → Within xs ys
    → has_receive p (queued_on xs es) ≡ true → has_receive p (queued_on ys es) ≡ true
queued_more p xs ys [] w h = h
queued_more p xs ys (e ∷ es) w h =
    let go : (b c : Bool) → (has xs e.0 ≡ b) → (has ys e.0 ≡ c)
    → has_receive p ((if b then queue_rights e.1.queue else []) ++ queued_on xs es) ≡ true
    → has_receive p ((if c then queue_rights e.1.queue else [])
    ++ queued_on ys es) ≡ true = elim [
      | true ↦ elim [
        | true ↦ λ i j z. any_append p (queue_rights e.1.queue) (queued_on ys es) ∙ elim (or_cases
            (has_receive p (queue_rights e.1.queue)) (has_receive p (queued_on xs es))
            (sym (any_append p (queue_rights e.1.queue) (queued_on xs es)) ∙ z)) [
              | inl l ↦ or_left (has_receive p (queue_rights e.1.queue))
                  (has_receive p (queued_on ys es)) l
              | inr r ↦ or_right (has_receive p (queue_rights e.1.queue))
                  (has_receive p (queued_on ys es)) (queued_more p xs ys es w r)
            ]
        | false ↦ λ i j z. absurd (both_ways (has ys e.0) j (w e.0 i))
      ]
      | false ↦ elim [
        | true ↦ λ i j z. any_append p (queue_rights e.1.queue) (queued_on ys es) ∙ or_right
            (has_receive p (queue_rights e.1.queue)) (has_receive p (queued_on ys es))
            (queued_more p xs ys es w z)
        | false ↦ λ i j z. queued_more p xs ys es w z
      ]
    ] in
    go (has xs e.0) (has ys e.0) refl refl h

pub lost_more : (xs ys : List ℕ) (b : Backup) → Within xs ys → is_lost xs b ≡ true → is_lost ys b ≡ true
lost_more xs ys NoBackup w h = refl
lost_more xs ys DeadBackup w h = refl
lost_more xs ys (BackupPort q) w h = w q h

pub dies_more : (s : Store) (d : Doomed) (xs ys : List ℕ) (p : ℕ) → Within xs ys → dies s d xs p ≡ true
    → dies s d ys p ≡ true
dies_more s d xs ys p w h =
    elim (or_cases (is_kernel_of d.kernel p)
    (has_receive p (d.rights ++ queued_rights s xs) && is_lost xs (backup_of (get s.ports p))) h) [
      | inl k ↦ or_left (is_kernel_of d.kernel p) (has_receive p (d.rights
          ++ queued_rights s ys) && is_lost ys (backup_of (get s.ports p))) k
      | inr r ↦
          let (a, b) = and_parts (has_receive p (d.rights
          ++ queued_rights s xs)) (is_lost xs (backup_of (get s.ports p))) r in
          or_right (is_kernel_of d.kernel p) (has_receive p (d.rights ++ queued_rights s ys)
          && is_lost ys (backup_of (get s.ports p))) (and_from
          (has_receive p (d.rights ++ queued_rights s ys)) (is_lost ys (backup_of (get s.ports p)))
          (any_append p d.rights (queued_rights s ys) ∙ elim (or_cases (has_receive p d.rights)
          (has_receive p (queued_rights s xs))
          (sym (any_append p d.rights (queued_rights s xs)) ∙ a)) [
            | inl l ↦ or_left (has_receive p d.rights) (has_receive p (queued_rights s ys)) l
            | inr q ↦ or_right (has_receive p d.rights) (has_receive p (queued_rights s ys))
                (queued_more p xs ys s.ports.list w q)
          ])
          (lost_more xs ys (backup_of (get s.ports p)) w b))
    ]

pub has-filter : (t : ℕ → Bool) (ks : List ℕ) (p : ℕ) → has (filter t ks) p ≡ true
    → (t p ≡ true) × (has ks p ≡ true)
has-filter t [] p h = cc
has-filter t (k ∷ ks) p h =
    let go : (b : Bool) → t k ≡ b → has (if b then k ∷ filter t ks else filter t ks) p ≡ true
    → (t p ≡ true) × (has (k ∷ ks) p ≡ true) = elim [
      | true ↦ λ e z. elim (or_cases (k == p) (has (filter t ks) p) z) [
        | inl l ↦ (ap t (sym (eqb-true k p l)) ∙ e, or_left (k == p) (has ks p) l)
        | inr r ↦ let f = has-filter t ks p r in (f.0, or_right (k == p) (has ks p) f.1)
      ]
      | false ↦ λ e z. let f = has-filter t ks p z in (f.0, or_right (k == p) (has ks p) f.1)
    ] in
    go (t k) refl h

pub filter-has : (t : ℕ → Bool) (ks : List ℕ) (p : ℕ) → t p ≡ true → has ks p ≡ true
    → has (filter t ks) p ≡ true
filter-has t [] p a h = cc
filter-has t (k ∷ ks) p a h =
    let go : (b : Bool) → t k ≡ b
    → has (if b then k ∷ filter t ks else filter t ks) p ≡ true = elim [
      | true ↦ λ e. elim (or_cases (k == p) (has ks p) h) [
        | inl l ↦ or_left (k == p)
            (has (filter t ks) p) l
        | inr r ↦ or_right (k == p) (has (filter t ks) p)
            (filter-has t ks p a r)
      ]
      | false ↦ λ e. elim (or_cases (k == p) (has ks p) h) [
        | inl l ↦ absurd
            (both_ways (t k) e (ap t (eqb-true k p l) ∙ a))
        | inr r ↦ filter-has t ks p a r
      ]
    ] in
    go (t k) refl

pub length_filter : (t : ℕ → Bool) (ks : List ℕ) → length (filter t ks) ≤ length ks
length_filter t [] = omega arith
length_filter t (k ∷ ks) =
    let r = length_filter t ks in elim (t k) as (λ b. length
    (if b then k ∷ filter t ks else filter t ks) ≤ suc
    (length ks)) [ true ↦ omega arith | false ↦ omega arith ]

-- of two tests, one within the other, the second passes more, or no other
pub more_or_same : (t u : ℕ → Bool) (ks : List ℕ) → ((p : ℕ) → t p ≡ true → u p ≡ true)
    → (length (filter t ks) < length (filter u ks)) ⊎ ((length (filter t ks) ≡ length (filter u ks))
    × ((p : ℕ) → has ks p ≡ true → u p ≡ true → t p ≡ true))
more_or_same t u [] w = inr (refl, λ p h. cc)
more_or_same t u (k ∷ ks) w =
    let go : (a b : Bool) → t k ≡ a → u k ≡ b → (length (if a then k ∷ filter t ks
    else filter t ks) < length (if b then k ∷ filter u ks else filter u ks)) ⊎ ((length
    (if a then k ∷ filter t ks else filter t ks) ≡ length
    (if b then k ∷ filter u ks else filter u ks)) × ((p : ℕ) → has (k ∷ ks) p ≡ true → u p
    ≡ true → t p ≡ true)) = elim [
      | true ↦ elim [
        | true ↦ λ i j. elim (more_or_same t u ks w) [
          | inl l ↦ inl (omega arith)
          | inr r ↦ inr (
            ap suc r.0,
            λ p h z. elim (or_cases (k == p) (has ks p) h) [
              | inl e ↦ ap t
                  (sym (eqb-true k p e)) ∙ i
              | inr q ↦ r.1 p q z
            ],
          )
        ]
        | false ↦ λ i j. absurd (both_ways (u k) j (w k i))
      ]
      | false ↦ elim [
        | true ↦ λ i j. elim (more_or_same t u ks w) [
          | inl l ↦ inl
              (omega arith)
          | inr r ↦ let q = r.0 in inl (omega arith)
        ]
        | false ↦ λ i j. elim (more_or_same t u ks w) [
          | inl l ↦ inl l
          | inr r ↦ inr (
            r.0,
            λ p h z. elim (or_cases (k == p) (has ks p) h) [
              | inl e ↦ absurd
                  (both_ways (u k) j (ap u (eqb-true k p e) ∙ z))
              | inr q ↦ r.1 p q z
            ],
          )
        ]
      ]
    ] in
    go (t k) (u k) refl refl

module _ (s : Store) (d : Doomed) where
  ks : List ℕ
  ks = keys s.ports

  chain : (n : ℕ) → Within (rounds n s d) (rounds (suc n) s d)
  chain zero p h = cc
  chain (suc n) p h =
      let f = has-filter (dies s d (rounds n s d)) (keys s.ports) p h in filter-has
      (dies s d (rounds (suc n) s d)) (keys s.ports) p
      (dies_more s d (rounds n s d) (rounds (suc n) s d) p (chain n) f.0) f.1

  abbrev pub IsStable : ℕ → Type 0
  IsStable n = Within (rounds (suc n) s d) (rounds n s d)

  still : (n : ℕ) → IsStable n → IsStable (suc n)
  still n st p h =
      let f = has-filter (dies s d (rounds (suc n) s d)) (keys s.ports) p h in filter-has
      (dies s d (rounds n s d)) (keys s.ports) p
      (dies_more s d (rounds (suc n) s d) (rounds n s d) p st f.0) f.1

  grown_or_stable : (n : ℕ) → (n ≤ length (rounds n s d)) ⊎ IsStable n
  grown_or_stable zero = inl (omega arith)
  grown_or_stable (suc n) = elim (grown_or_stable n) [
    | inr st ↦ inr (still n st)
    | inl l ↦ before n l
  ]
    where
      before : (n : ℕ) → n ≤ length (rounds n s d)
          → (suc n ≤ length (rounds (suc n) s d)) ⊎ IsStable (suc n)
      before zero l = elim (more_or_same (λ p. false) (dies s d []) (keys s.ports) (λ p e. cc)) [
        | inl m ↦ inl (omega arith)
        | inr e ↦ inr (still zero (λ p h. let f = has-filter (dies s d [])
            (keys s.ports) p h in absurd (both_ways false refl (e.1 p f.1 f.0))))
      ]
      before (suc n) l =
          elim (more_or_same (dies s d (rounds n s d)) (dies s d (rounds (suc n) s d))
          (keys s.ports) (λ p e. dies_more s d (rounds n s d) (rounds (suc n) s d) p (chain n) e)) [
            | inl m ↦ inl (omega arith)
            | inr e ↦ inr (still (suc n) (λ p h. let f = has-filter (dies s d (rounds (suc n) s d))
                (keys s.ports) p h in filter-has (dies s d (rounds n s d)) (keys s.ports) p
                (e.1 p f.1 f.0) f.1))
          ]

  all_or_stable : (n : ℕ) → (t : ℕ → Bool)
      → length (keys s.ports) ≤ length (filter t (keys s.ports)) → (p : ℕ)
      → has (keys s.ports) p ≡ true → t p ≡ true
  all_or_stable n t l p h = elim (more_or_same t (λ q. true) (keys s.ports) (λ q e. refl)) [
    | inl m ↦ let a = length_filter (λ q. true) (keys s.ports) in absurd (omega arith)
    | inr e ↦ e.1 p h refl
  ]

  len_keys : len s.ports ≡ length (keys s.ports)
  unfolding len keys
  len_keys = length_map s.ports.list
    where
      length_map : (es : List (ℕ × Port)) → length es ≡ length (map (λ e. e.0) es)
      length_map [] = refl
      length_map (e ∷ es) = ap suc (length_map es)

  stable_at_last : IsStable (len s.ports)
  stable_at_last p h = elim (grown_or_stable (len s.ports)) [
    | inr st ↦ st p h
    | inl l ↦ last (len s.ports) len_keys l p h
  ]
    where
      last : (n : ℕ) → n ≡ length (keys s.ports) → n ≤ length (rounds n s d)
          → Within (rounds (suc n) s d) (rounds n s d)
      last zero e l p h =
          let f = has-filter (dies s d []) (keys s.ports) p h in absurd
          (both_ways false refl (empty_keys (keys s.ports) (sym e) p f.1))
        where
          empty_keys : (ks : List ℕ) → length ks ≡ 0 → (p : ℕ) → has ks p ≡ true → false ≡ true
          empty_keys [] e p h = h
          empty_keys (k ∷ ks) e p h = absurd (omega arith)
      last (suc n) e l p h =
          let f = has-filter (dies s d (rounds (suc n) s d)) (keys s.ports) p h in
          filter-has (dies s d (rounds n s d)) (keys s.ports) p
          (all_or_stable n (dies s d (rounds n s d)) (omega arith) p f.1) f.1

  -- each live port that dies is in the set
  pub dying_closed : (p : ℕ) → has (keys s.ports) p ≡ true → dies s d (dying s d) p ≡ true
      → has (dying s d) p ≡ true
  unfolding dying
  dying_closed p live h =
      stable_at_last p (filter-has (dies s d (rounds (len s.ports) s d)) (keys s.ports) p h live)

  -- and the set has no other
  pub dying_why : (p : ℕ) → has (dying s d) p ≡ true → (is_kernel_of d.kernel p
      ≡ true) ⊎ ((dead : List ℕ) × (has_receive p (d.rights ++ queued_rights s dead) ≡ true))
  unfolding dying
  dying_why p h = why (len s.ports) h
    where
      why : (n : ℕ) → has (rounds n s d) p ≡ true → (is_kernel_of d.kernel p
          ≡ true) ⊎ ((dead : List ℕ) × (has_receive p (d.rights ++ queued_rights s dead) ≡ true))
      why zero z = cc
      why (suc n) z =
          let f = has-filter (dies s d (rounds n s d)) (keys s.ports) p z in
          elim (or_cases (is_kernel_of d.kernel p) (has_receive p
          (d.rights ++ queued_rights s (rounds n s d)) && is_lost (rounds n s d)
          (backup_of (get s.ports p))) f.0) [
            | inl k ↦ inl k
            | inr r ↦ inr (
              rounds n s d,
              (and_parts
                  (has_receive p (d.rights ++ queued_rights s (rounds n s d)))
                  (is_lost (rounds n s d) (backup_of (get s.ports p))) r).0,
            )
          ]

  -- and it is within each other set that has each port that dies
  pub dying_within : (other : List ℕ)
      → ((p : ℕ) → has (keys s.ports) p ≡ true → dies s d other p ≡ true → has other p ≡ true)
      → Within (dying s d) other
  unfolding dying
  dying_within other closed = within (len s.ports)
    where
      within : (n : ℕ) → Within (rounds n s d) other
      within zero p h = cc
      within (suc n) p h =
          let f = has-filter (dies s d (rounds n s d)) (keys s.ports) p h in closed p f.1
          (dies_more s d (rounds n s d) other p (within n) f.0)
