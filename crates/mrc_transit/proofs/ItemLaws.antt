-- What a message carries for a name, from what each step of code tells.
use Rattle.std.proofs.Common.{◌≡◌, ℕ, Option, Some, None, Ok, Err, refl, sym}
use Rattle.std.proofs.Common.{◌∙◌, ap}
use Rattle.std.proofs.lemmas.Bool.{eq-eqb, ne_eqb}
use Rattle.mrc_base.specs.declared.PortRight.{PortRight}
use Rattle.mrc_base.specs.declared.Disp.{Disp}
use Rattle.mrc_base.specs.Disposition.{given}
use Rattle.mrc_model.specs.declared.Entry.{Entry}
use Rattle.mrc_model.specs.declared.Item.TheVariants.{Null as NullItem, Dead as DeadItem}
use Rattle.mrc_model.specs.declared.Item.TheVariants.{Right as RightItem}
use Rattle.mrc_model.specs.Map.{get, insert}
use Rattle.mrc_model.specs.World.{Space, Store, space, set_space, port_dead}
use Rattle.mrc_model.specs.Reply.{Reply, ◌>>=◌}
use Rattle.mrc_model.specs.Space.{take, put_entry}
use Rattle.mrc_model.specs.CallSend.{dead_taken, take_item, take_named}
use Rattle.mrc_names.specs.Leaving.{patched}
use Rattle.mrc_names.proofs.LeavingLaws.{patched_more}
use Rattle.mrc_transit.specs.Staging.{Taking, Scratch, staged, taken_of}
use Rattle.mrc_transit.proofs.StagingLaws.{space_staged, set_staged}

-- MACH_PORT_NULL
pub item_null : (s : Store) (t n : ℕ) (d : Disp) (e : Reply)
    → n ≡ 0
    → take_item s t n d e ≡ Ok (s, NullItem)
unfolding take_item
item_null s t n d e is = rw (eq-eqb n 0 is) refl

-- MACH_PORT_DEAD
pub item_dead : (s : Store) (t n : ℕ) (d : Disp) (e : Reply)
    → (n ≡ 0 → ⊥)
    → n ≡ port_dead
    → take_item s t n d e ≡ Ok (s, DeadItem)
unfolding take_item
item_dead s t n d e other is = rw (ne_eqb n 0 other, eq-eqb n port_dead is) refl

item_named : (s : Store) (t n : ℕ) (d : Disp) (e : Reply)
    → (n ≡ 0 → ⊥)
    → (n ≡ port_dead → ⊥)
    → take_item s t n d e ≡ take_named s t n d e (dead_taken (get (space s t) n) d)
unfolding take_item
item_named s t n d e null dead = rw (ne_eqb n 0 null, ne_eqb n port_dead dead) refl

module _ (s : Store) (t n : ℕ) (d : Disp) (g : Taking)
    (null : n ≡ 0 → ⊥)
    (dead : n ≡ port_dead → ⊥) where
  named : (e : Reply) (o : Option (Option Entry))
      → dead_taken (get g.space n) d ≡ o
      → take_item (staged s t g) t n d e ≡ take_named (staged s t g) t n d e o
  named e o is =
      item_named (staged s t g) t n d e null dead
      ∙ ap (λ x. take_named (staged s t g) t n d e (dead_taken (get x n) d)) (space_staged s t g)
      ∙ ap (take_named (staged s t g) t n d e) is

  -- a dead right
  pub item_of_dead : (e : Reply) (h : Taking) (rest : Option Entry)
      → dead_taken (get g.space n) d ≡ Some rest
      → h ≡ record g { space = put_entry g.space n rest }
      → take_item (staged s t g) t n d e ≡ Ok (staged s t h, DeadItem)
  item_of_dead e h rest is left =
      named e (Some rest) is
      ∙ ap (λ x. Ok (set_space (staged s t g) t (put_entry x n rest), DeadItem))
      (space_staged s t g)
      ∙ ap (λ z. Ok (z, DeadItem))
      (set_staged s t g (put_entry g.space n rest) ∙ ap (staged s t) (sym left))

  module _ (none : dead_taken (get g.space n) d ≡ None) where
    pub item_of_live : (e : Reply) (h : Taking) (p : ℕ) (r : PortRight)
        → take (staged s t g) t n d e e ≡ Ok (staged s t h, p)
        → r ≡ given d
        → take_item (staged s t g) t n d e ≡ Ok (staged s t h, RightItem p r)
    unfolding ◌>>=◌
    item_of_live e h p r took right =
        named e None none ∙ rw took (ap (λ q. Ok (staged s t h, RightItem p q)) (sym right))

    pub item_refused : (e : Reply)
        → take (staged s t g) t n d e e ≡ Err e
        → take_item (staged s t g) t n d e ≡ Err e
    unfolding ◌>>=◌
    item_refused e refused = named e None none ∙ rw refused refl

-- what the scratch has after a dead right
pub dead_left : (x : Space) (old new : Scratch) (n : ℕ) (rest : Option Entry)
    → new ≡ record old { rests = insert old.rests n rest }
    → taken_of x new ≡ record {
      space = put_entry (patched x old.rests) n rest;
      moved = old.moved;
    }
dead_left x old new n rest left =
    ap (taken_of x) left
    ∙ ap (λ (y : Space). record { space = y; moved = old.moved }) (patched_more x old.rests n rest)
