-- move_member keeps a world well formed and covered: no right is new.
use Rattle.std.proofs.Common.{Option, Some, [], refl, ℕ, ◌≡◌}
use Rattle.std.proofs.Math.Nat.{le_trans}
use Rattle.mrc_model.proofs.KeptCalls.{same_entry}
use Rattle.mrc_model.proofs.Tries.{bind, gives_err, gives_ok}
use Rattle.mrc_model.specs.CallMoveMember.{call_move_member, move_entry}
use Rattle.mrc_model.specs.Map.{get}
use Rattle.mrc_model.specs.Rules.{FactSet}
use Rattle.mrc_model.specs.Wiring.{Wiring}
use Rattle.mrc_model.specs.World.{World, class_of, space, task_class}
use Rattle.mrc_model.specs.declared.Entry.{Entry}
use Rattle.mrc_model.specs.declared.Entry.TheVariants.{DeadName as DeadEntry, SendOnce as OnceEntry}
use Rattle.mrc_model.specs.declared.Entry.TheVariants.{Receive as ReceiveEntry, Send as SendEntry}
use Rattle.mrc_model.specs.declared.Entry.TheVariants.{PortSet as SetEntry}
use Rattle.mrc_cover.proofs.Entries.{receive_is_left}
use Rattle.mrc_cover.proofs.Kept.{IsAlive, Keeps, Kept, keeps_with, target_is}
use Rattle.mrc_cover.proofs.Rights.{MayHold}
use Rattle.mrc_cover.proofs.Taking.{put_entry_adds_no_name, put_entry_leaves}

module _ (W : Wiring) (G : FactSet) where
  -- the entry of a receive right keeps its rights in another set, or in none
  move_entry_keeps : (w : World) (u member n : ℕ) (e : Entry) → IsAlive w u
      → get (space w.store u) member ≡ Some e
      → Kept W G w → Keeps W G (move_entry w u member n e)
  move_entry_keeps w u member n
      (ReceiveEntry p k i) alive at kept =
      bind {Q = λ (j : Option ℕ). Unit {0}} _ _ record { holds = λ j h. tt } (λ j _.
      let part = receive_is_left (class_of w.store) (MayHold G (task_class w u)) p k k i j
      (λ z. z) in
      gives_ok (keeps_with W G w _ kept
      (put_entry_leaves W G (task_class w) (IsAlive w) w.store [] [] u member (ReceiveEntry p k i)
      (Some (ReceiveEntry p k j)) alive kept.sound at part (λ q. refl))
      (λ v. le_trans (put_entry_adds_no_name w.store u member (ReceiveEntry p k i)
      (Some (ReceiveEntry p k j)) at v) (kept.few v))))
  move_entry_keeps w u member n (SendEntry p k) alive at kept = gives_err _ _
  move_entry_keeps w u member n (OnceEntry p) alive at kept = gives_err _ _
  move_entry_keeps w u member n SetEntry alive at kept = gives_err _ _
  move_entry_keeps w u member n (DeadEntry k) alive at kept = gives_err _ _

  -- move_member
  pub move_member_keeps : (w : World) (t task member n : ℕ) → Kept W G w
      → Keeps W G (call_move_member w t task member n)
  unfolding call_move_member
  move_member_keeps w t task member n kept = bind _ _ (target_is W G w t task _ kept)
      (λ u is. bind _ _ (same_entry w u member)
      (λ e at. move_entry_keeps w u member n e is.alive at kept))
