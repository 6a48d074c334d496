-- set_qlimit keeps a world well formed and covered: no right is new.
use Rattle.std.proofs.Common.{[], nat_lt, refl, ℕ}
use Rattle.mrc_model.proofs.KeptCalls.{same_entry}
use Rattle.mrc_model.proofs.Tries.{bind, bind_, found, gives_ok, not_refused}
use Rattle.mrc_model.specs.CallRequestNotification.{received_port}
use Rattle.mrc_model.specs.CallSetQlimit.{call_set_qlimit}
use Rattle.mrc_model.specs.Map.{get}
use Rattle.mrc_model.specs.Rules.{FactSet}
use Rattle.mrc_model.specs.Wiring.{Wiring}
use Rattle.mrc_model.specs.World.{Port, World, set_port, task_class}
use Rattle.mrc_cover.proofs.Kept.{Keeps, Kept, keeps_with, target_is}
use Rattle.mrc_cover.proofs.Sound.{set_port_changes, set_port_sound}

module _ (W : Wiring) (G : FactSet) where
  -- only the limit of one port changes
  pub set_qlimit_keeps : (w : World) (t task name limit : ℕ) → Kept W G w
      → Keeps W G (call_set_qlimit w t task name limit)
  unfolding call_set_qlimit
  set_qlimit_keeps w t task name limit kept =
      bind _ _ (target_is W G w t task _ kept) (λ u is.
      bind_ _ _ (not_refused (nat_lt 16 limit) _) (λ _ _.
      bind _ _ (same_entry w u name) (λ e at.
      bind _ _ (found (received_port e) _) (λ p got.
      bind _ _ (found (get w.store.ports p) _) (λ y live.
      let z : Port = record y { limit = limit } in
      gives_ok (keeps_with W G w (set_port w.store p z) kept record {
        sound =
            set_port_sound W G (task_class w) w.store [] [] p y z kept.sound live refl (λ q. refl)
            (kept.sound.covers.carried p y live) (kept.sound.covers.backups p y live);
        changes = set_port_changes w.store p y z live refl;
      } kept.few))))))
