-- The store after what a task has given: how a taking changes it.
use Rattle.std.proofs.Common.{◌≡◌, ℕ, List, [], ◌∷◌, ◌++◌, Option, Some, None}
use Rattle.std.proofs.Common.{Ok, Err, refl, sym, ◌∙◌, ap, subst, inl, inr, ◌+◌, ◌≤◌, length, arith}
use Rattle.std.proofs.Common.{length-append}
use Rattle.std.specs.Prelude.{unwrap_or}
use Rattle.std.proofs.lemmas.Bool.{cases_eq}
use Rattle.mrc_base.specs.declared.PortRight.{PortRight}
use Rattle.mrc_base.specs.declared.PortRight.TheVariants.{Send, Receive, SendOnce}
use Rattle.mrc_base.specs.declared.Disp.{Disp}
use Rattle.mrc_base.specs.Disposition.{given}
use Rattle.mrc_model.specs.declared.Entry.{Entry}
use Rattle.mrc_model.specs.declared.Item.{Item}
use Rattle.mrc_model.specs.Rights.{is_receive}
use Rattle.mrc_model.specs.Map.{Map, empty, get, insert}
use Rattle.mrc_model.specs.World.{Space, Port, Store, space, set_space}
use Rattle.mrc_model.specs.Reply.{Reply, Try, ◌>>=◌, or_refuse}
use Rattle.mrc_model.specs.Space.{Taken, take_from, put_entry, take, restart, restart_port}
use Rattle.mrc_model.specs.Space.{restart_if}
use Rattle.mrc_model.specs.Target.{bad_name, wrong_right}
use Rattle.mrc_model.proofs.Maps.{get-insert_same, get-insert_other, len-insert, len-empty}
use Rattle.mrc_map.proofs.SameMaps.{same_map}
use Rattle.mrc_names.specs.Leaving.{patched, HasRest, AreRests}
use Rattle.mrc_names.specs.Takes.{take_right}
use Rattle.mrc_names.proofs.LeavingLaws.{patched_more, rests_more}
use Rattle.mrc_ports.proofs.TableLaws.{insert_twice}
use Rattle.mrc_transit.specs.Staging.{Taking, Scratch, no_scratch, restart_each, staged, taken_of}
use Rattle.mrc_transit.specs.Staging.{moved_by, limit_of_taken, HasRoom, Spends}

-- a space that is put where it stands already
pub put_same : (s : Store) (t : ℕ) (x : Space) → get s.spaces t ≡ Some x → set_space s t x ≡ s
put_same s t x at =
    ap (λ (m : Map Space). record s { spaces = m })
    (same_map (insert s.spaces t x) s.spaces (λ q. elim (cases_eq q t) [
      | inl same ↦
          ap (get (insert s.spaces t x)) same ∙ get-insert_same s.spaces t x ∙ sym at
          ∙ ap (get s.spaces) (sym same)
      | inr other ↦ get-insert_other s.spaces t x q other
    ]))

-- a space is put before or after a port's receipts become 0
restart_set_at : (s : Store) (t p : ℕ) (x : Space) (o : Option Port)
    → restart_port (set_space s t x) p o ≡ set_space (restart_port s p o) t x
restart_set_at s t p x None = refl
restart_set_at s t p x (Some y) = refl

restart_set : (s : Store) (t p : ℕ) (x : Space)
    → restart (set_space s t x) p ≡ set_space (restart s p) t x
unfolding restart
restart_set s t p x = restart_set_at s t p x (get s.ports p)

each_set : (ps : List ℕ) (s : Store) (t : ℕ) (x : Space)
    → restart_each (set_space s t x) ps ≡ set_space (restart_each s ps) t x
each_set [] s t x = refl
each_set (p ∷ ps) s t x =
    ap (λ z. restart_each z ps) (restart_set s t p x) ∙ each_set ps (restart s p) t x

-- one port more
each_more : (ps : List ℕ) (s : Store) (p : ℕ)
    → restart_each s (ps ++ p ∷ []) ≡ restart (restart_each s ps) p
each_more [] s p = refl
each_more (q ∷ ps) s p = each_more ps (restart s q) p

-- the sender's space
pub space_staged : (s : Store) (t : ℕ) (g : Taking) → space (staged s t g) t ≡ g.space
unfolding staged
space_staged s t g =
    ap (λ z. space z t) (each_set g.moved s t g.space)
    ∙ ap (λ o. unwrap_or o empty) (get-insert_same (restart_each s g.moved).spaces t g.space)

-- another one in its place
pub set_staged : (s : Store) (t : ℕ) (g : Taking) (y : Space)
    → set_space (staged s t g) t y ≡ staged s t (record g { space = y })
unfolding staged
set_staged s t g y =
    let r = restart_each s g.moved in
    ap (λ z. set_space z t y) (each_set g.moved s t g.space)
    ∙ ap (λ (m : Map Space). record r { spaces = m }) (insert_twice r.spaces t g.space y)
    ∙ sym (each_set g.moved s t y)

-- a right that is given
pub note_staged : (s : Store) (t p : ℕ) (g : Taking) (r : PortRight)
    → restart_if (is_receive r) (staged s t g) p
    ≡ staged s t (record g { moved = moved_by r g.moved p })
unfolding staged
note_staged s t p g Send = refl
note_staged s t p g Receive = sym (each_more g.moved (set_space s t g.space) p)
note_staged s t p g SendOnce = refl

-- taking from a store by taking from a space

-- what is left after the taking
abbrev after_take : Store → ℕ → Disp → Space × ℕ → Store × ℕ
after_take s t d got = (restart_if (is_receive (given d)) (set_space s t got.0) got.1, got.1)

-- a step by its answer, where each refusal is this one
abbrev by_answer : {A B : Type 0} → (A → B) → Reply → Try A → Try B
by_answer f e (Ok a) = Ok (f a)
by_answer f e (Err d) = Err e

take_by_right : (s : Store) (t n : ℕ) (d : Disp) (e : Reply)
    → take s t n d e e ≡ by_answer (after_take s t d) e (take_right (space s t) n d)
unfolding take take_right ◌>>=◌ or_refuse
take_by_right s t n d e = go (get (space s t) n)
  where
    last : (h : Entry) (o : Option Taken)
        → (or_refuse o e >>= λ got. Ok (
          restart_if (is_receive (given d))
              (set_space s t (put_entry (space s t) n got.rest)) got.port,
          got.port,
        ))
        ≡ by_answer (after_take s t d) e
        (or_refuse o wrong_right >>= λ got. Ok (put_entry (space s t) n got.rest, got.port))
    last h None = refl
    last h (Some got) = refl

    go : (o : Option Entry)
        → (or_refuse o e >>= λ h. or_refuse (take_from h d) e
        >>= λ got. Ok (
          restart_if (is_receive (given d))
              (set_space s t (put_entry (space s t) n got.rest)) got.port,
          got.port,
        ))
        ≡ by_answer (after_take s t d) e
        (or_refuse o bad_name >>= λ h. or_refuse (take_from h d) wrong_right
        >>= λ got. Ok (put_entry (space s t) n got.rest, got.port))
    go None = refl
    go (Some h) = last h (take_from h d)

module _ (s : Store) (t n : ℕ) (d : Disp) (g : Taking) where
  take_at : (e : Reply) (m : Try (Space × ℕ))
      → take_right g.space n d ≡ m
      → take (staged s t g) t n d e e ≡ by_answer (after_take (staged s t g) t d) e m
  take_at e m is =
      take_by_right (staged s t g) t n d e
      ∙ ap (λ x. by_answer (after_take (staged s t g) t d) e (take_right x n d))
      (space_staged s t g)
      ∙ ap (by_answer (after_take (staged s t g) t d) e) is

  pub staged_taken : (e : Reply) (y : Space) (p : ℕ) (r : PortRight) (h : Taking)
      → take_right g.space n d ≡ Ok (y, p)
      → r ≡ given d
      → h ≡ record g { space = y; moved = moved_by r g.moved p }
      → take (staged s t g) t n d e e ≡ Ok (staged s t h, p)
  staged_taken e y p r h is right left =
      take_at e (Ok (y, p)) is
      ∙ ap (λ z. Ok (restart_if (is_receive (given d)) z p, p)) (set_staged s t g y)
      ∙ ap (λ z. Ok (z, p)) (note_staged s t p (record g { space = y }) (given d)
      ∙ ap (λ q. staged s t (record g { space = y; moved = moved_by q g.moved p })) (sym right)
      ∙ ap (staged s t) (sym left))

  pub staged_refused : (e d' : Reply)
      → take_right g.space n d ≡ Err d'
      → take (staged s t g) t n d e e ≡ Err e
  staged_refused e d' is = take_at e (Err d') is

-- the same for what the scratch has of a space

-- a right that a name gives
pub right_taken : (s : Store) (t n : ℕ) (d : Disp) (e : Reply) (x : Space) (old new : Scratch)
    (p : ℕ) (r : PortRight) (rest : Option Entry)
    → take_right (patched x old.rests) n d ≡ Ok (put_entry (patched x old.rests) n rest, p)
    → r ≡ given d
    → new ≡ record old { rests = insert old.rests n rest; moved = moved_by r old.moved p }
    → take (staged s t (taken_of x old)) t n d e e ≡ Ok (staged s t (taken_of x new), p)
right_taken s t n d e x old new p r rest is right left =
    staged_taken s t n d (taken_of x old) e (put_entry (patched x old.rests) n rest) p r
    (taken_of x new) is right
    (ap (taken_of x) left
    ∙ ap (λ (y : Space). record { space = y; moved = moved_by r old.moved p })
    (patched_more x old.rests n rest))

-- the name has what may be left of it
pub rests_kept : (x : Space) (old new : Scratch) (n : ℕ) (rest : Option Entry)
    → HasRest (patched x old.rests) n rest
    → new.rests ≡ insert old.rests n rest
    → AreRests x old.rests
    → AreRests x new.rests
rests_kept x old new n rest has left rests =
    subst (AreRests x) (sym left) (rests_more x old.rests n rest rests has)

-- room

moved_more : (r : PortRight) (ps : List ℕ) (p : ℕ) → length (moved_by r ps p) ≤ length ps + 1
moved_more Send ps p = omega arith
moved_more Receive ps p = omega (arith, length-append ps (p ∷ []))
moved_more SendOnce ps p = omega arith

-- no name is spent
pub spent_none : (old new : Scratch) → new ≡ old → Spends 1 old new
spent_none old new same n room =
    subst (HasRoom n) (sym same) record {
      rests = omega (arith, room.rests);
      moved = omega (arith, room.moved);
      items = omega (arith, room.items);
    }

-- one is
pub spent_rest : (old new : Scratch) (n : ℕ) (rest : Option Entry)
    → new ≡ record old { rests = insert old.rests n rest }
    → Spends 1 old new
spent_rest old new n rest left k room =
    subst (HasRoom k) (sym left) record {
      rests = omega (arith, room.rests, len-insert old.rests n rest);
      moved = omega (arith, room.moved);
      items = omega (arith, room.items);
    }

-- with its port
pub spent_one : (old new : Scratch) (n p : ℕ) (r : PortRight) (rest : Option Entry)
    → new ≡ record old { rests = insert old.rests n rest; moved = moved_by r old.moved p }
    → Spends 1 old new
spent_one old new n p r rest left k room =
    subst (HasRoom k) (sym left) record {
      rests = omega (arith, room.rests, len-insert old.rests n rest);
      moved = omega (arith, room.moved, moved_more r old.moved p);
      items = omega (arith, room.items);
    }

-- and an item that it carries
pub spent_item : (names : ℕ) (old mid new : Scratch) (item : Item)
    → HasRoom (names + 1) old
    → HasRoom names mid
    → mid.items ≡ old.items
    → new ≡ record mid { items = mid.items ++ item ∷ [] }
    → HasRoom names new
spent_item names old mid new item before room same left =
    subst (HasRoom names) (sym left) record {
      rests = room.rests;
      moved = room.moved;
      items = omega (
        arith,
        before.items,
        ap (λ (xs : List Item). length xs) same,
        length-append mid.items (item ∷ []),
      );
    }

-- where there is room for more there is room for fewer
pub fewer : (many few : ℕ) (scratch : Scratch) → few ≤ many → HasRoom many scratch
    → HasRoom few scratch
fewer many few scratch less room = record {
  rests = omega (arith, room.rests);
  moved = omega (arith, room.moved);
  items = omega (arith, room.items);
}

-- at the beginning there is room for all
pub room_first : (scratch : Scratch) (n : ℕ) → scratch ≡ no_scratch → n ≤ limit_of_taken
    → HasRoom n scratch
room_first scratch n blank less =
    subst (HasRoom n) (sym blank) record {
      rests = omega (arith, len-empty {X = Option Entry} empty refl);
      moved = omega arith;
      items = omega arith;
    }

-- and after the two names of the header for the others
pub room_later : (first second third : Scratch) (n : ℕ) → first ≡ no_scratch
    → n + 2 ≤ limit_of_taken
    → Spends 1 first second
    → Spends 1 second third
    → HasRoom n third
room_later first second third n blank less one two =
    two n (one (n + 1) (room_first first (n + 1 + 1) blank (omega arith)))
