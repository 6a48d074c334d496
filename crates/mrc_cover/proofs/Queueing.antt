-- A message at the end of a queue.
use Rattle.std.proofs.Common.{List, None, Option, Some, [], ap, arith, inl, inr, refl, sym, ℕ, ◌++◌}
use Rattle.std.proofs.Common.{◌+◌, ◌∙◌, ◌∷◌, ◌≡◌}
use Rattle.std.proofs.lemmas.Bool.{cases_eq}
use Rattle.std.specs.Option.{option_map}
use Rattle.mrc_base.specs.declared.PortRight.{PortRight}
use Rattle.mrc_model.proofs.Maps.{get-insert_other, get-insert_same, not_None, same_Some}
use Rattle.mrc_model.specs.Covers.{Known}
use Rattle.mrc_model.specs.Death.{append, append_to}
use Rattle.mrc_model.specs.Map.{get}
use Rattle.mrc_model.specs.Rules.{FactSet}
use Rattle.mrc_model.specs.Wiring.{Wiring}
use Rattle.mrc_model.specs.World.{Held, Parcel, Port, Store, class_of, parcel_rights, queue_rights}
use Rattle.mrc_model.specs.World.{receives, space}
use Rattle.mrc_model.specs.declared.Backup.{Backup}
use Rattle.mrc_cover.proofs.Rights.{Known-append, Known-first, Known-second, MayCarry}
use Rattle.mrc_cover.proofs.Rights.{receives-append}
use Rattle.mrc_cover.proofs.Sound.{Leaves, SoundWith, set_port_changes, set_port_sound}

-- the backup of a live port
abbrev pub backup_at : Store → ℕ → Option Backup
backup_at s p = option_map (λ (x : Port). x.backup) (get s.ports p)

-- the receive rights of a longer queue
queue_rights-append : (q : ℕ) (ms : List Parcel) (m : Parcel)
    → receives q (queue_rights (ms
    ++ m ∷ [])) ≡ receives q (queue_rights ms) + receives q (parcel_rights m)
queue_rights-append q [] m = let a = receives-append q (parcel_rights m) [] in omega arith
queue_rights-append q (x ∷ ms) m =
    let a = receives-append q (parcel_rights x) (queue_rights (ms ++ m ∷ [])) in
    let b = receives-append q (parcel_rights x)
    (queue_rights ms) in let c = queue_rights-append q ms m in omega arith

-- the rights of a longer queue are known
queue_known : (k : ℕ → Option ℕ) (F : ℕ → PortRight → Type 0) (ms : List Parcel) (m : Parcel)
    → Known k F (queue_rights ms) → Known k F (parcel_rights m)
    → Known k F (queue_rights (ms ++ m ∷ []))
queue_known k F [] m a b = Known-append b a
queue_known k F (x ∷ ms) m a b = Known-append (Known-first (parcel_rights x) (queue_rights ms) a)
    (queue_known k F ms m (Known-second (parcel_rights x) (queue_rights ms) a) b)

module _ (W : Wiring) (G : FactSet) (task : ℕ → ℕ) (A : ℕ → Type 0) where
  -- a message from the hand to a queue
  pub append_leaves : (s : Store) (hand : List Held) (d c : ℕ) (m : Parcel) → class_of s d ≡ Some c
      → SoundWith W G task s (parcel_rights m ++ hand)
      → Known (class_of s) (MayCarry G c) (parcel_rights m)
      → Leaves W G task A s hand (append s d m) × ((t : ℕ) → space (append s d m) t ≡ space s t)
  unfolding append
  append_leaves s hand d c m class sound known =
      let go : (o : Option Port) → get s.ports d ≡ o → option_map (λ (x : Port). x.class) o ≡ Some c
      → Leaves W G task A s hand (append_to s d m o) × ((t : ℕ)
      → space (append_to s d m o) t ≡ space s t) = elim [
        | None ↦ λ e z. absurd (not_None c (sym z))
        | Some x ↦ λ e z.
            let y : Port = record x { queue = x.queue ++ m ∷ [] } in
            let same : c ≡ x.class = same_Some c x.class (sym z) in (
              record {
                sound = set_port_sound W G task s (parcel_rights m ++ hand) hand d x y sound e refl
                    (λ q.
                    let a = queue_rights-append q x.queue m in
                    let b = receives-append q (parcel_rights m) hand in omega arith)
                    (queue_known (class_of s) (MayCarry G x.class) x.queue m
                    (sound.covers.carried d x e) (rw same at known))
                    (sound.covers.backups d x e);
                changes = set_port_changes s d x y e refl;
              },
              λ t. refl,
            )
      ] in
      go (get s.ports d) refl class

-- a message at the end of a queue changes no backup and no space
pub append_backup : (s : Store) (d : ℕ) (m : Parcel) (q : ℕ)
    → backup_at (append s d m) q ≡ backup_at s q
unfolding append
append_backup s d m q =
    let go : (o : Option Port) → get s.ports d ≡ o
    → backup_at (append_to s d m o) q ≡ backup_at s q = elim [
      | None ↦ λ e. refl
      | Some x ↦ λ e. elim (cases_eq q d) [
        | inl z ↦ rw z (ap (option_map (λ (x : Port). x.backup))
            (get-insert_same s.ports d (record x { queue = x.queue ++ m ∷ [] }))
            ∙ sym (ap (option_map (λ (x : Port). x.backup)) e))
        | inr n ↦ ap (option_map (λ (x : Port). x.backup))
            (get-insert_other s.ports d (record x { queue = x.queue ++ m ∷ [] }) q n)
      ]
    ] in
    go (get s.ports d) refl
