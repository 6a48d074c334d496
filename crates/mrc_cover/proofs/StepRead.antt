-- get_refs, type and names change nothing.
use Rattle.std.proofs.Common.{ℕ}
use Rattle.mrc_base.specs.declared.Right.{Right}
use Rattle.mrc_model.proofs.KeptCalls.{same_entry}
use Rattle.mrc_model.proofs.Tries.{bind, gives_ok}
use Rattle.mrc_model.specs.CallNames.{call_get_refs, call_names, call_type}
use Rattle.mrc_model.specs.Rules.{FactSet}
use Rattle.mrc_model.specs.Wiring.{Wiring}
use Rattle.mrc_model.specs.World.{World}
use Rattle.mrc_cover.proofs.Kept.{Keeps, Kept, target_is}

module _ (W : Wiring) (G : FactSet) where
  -- get_refs
  pub get_refs_keeps : (w : World) (t task name : ℕ) (right : Right) → Kept W G w
      → Keeps W G (call_get_refs w t task name right)
  unfolding call_get_refs
  get_refs_keeps w t task name right kept = bind _ _ (target_is W G w t task _ kept)
      (λ u is. bind _ _ (same_entry w u name) (λ e at. gives_ok kept))

  -- type
  pub type_keeps : (w : World) (t task name : ℕ) → Kept W G w
      → Keeps W G (call_type w t task name)
  unfolding call_type
  type_keeps w t task name kept = bind _ _ (target_is W G w t task _ kept)
      (λ u is. bind _ _ (same_entry w u name) (λ e at. gives_ok kept))

  -- names
  pub names_keeps : (w : World) (t task : ℕ) → Kept W G w
      → Keeps W G (call_names w t task)
  unfolding call_names
  names_keeps w t task kept = bind _ _ (target_is W G w t task _ kept) (λ u is. gives_ok kept)
