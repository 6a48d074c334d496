-- What the lines of a wiring come to, from what each step of code tells.
use Rattle.std.proofs.Common.{◌≡◌, ℕ, ◌+◌, ◌<◌, ◌≤◌, Bool, true, false, Option, Some, None, Ok, Err}
use Rattle.std.proofs.Common.{inl, inr, refl, sym, ◌∙◌, ap, subst, arith}
use Rattle.std.specs.Prelude.{IsSome, is_some, unwrap_or, nat_lt, IsOk}
use Rattle.std.specs.Prelude.{if◌then◌else◌}
use Rattle.std.proofs.lemmas.Bool.{lt-ltb, le-ltb, cases_eq}
use Rattle.mrc_base.specs.Limits.{limit_of_tasks, limit_of_wired_ports}
use Rattle.mrc_base.specs.declared.memory.OrMemory.{OrMemory}
use Rattle.mrc_base.specs.declared.memory.OrMemory.TheVariants.{Fault, Memory}
use Rattle.mrc_model.specs.declared.Code.{Code}
use Rattle.mrc_names.specs.Refusals.{IsRefusal}
use Rattle.mrc_base.specs.declared.PortRight.{PortRight}
use Rattle.mrc_base.specs.declared.PortRight.TheVariants.{Send, Receive, SendOnce}
use Rattle.mrc_model.specs.declared.Entry.TheVariants.{Receive as ReceiveEntry}
use Rattle.mrc_model.specs.declared.FirstLine.TheVariants.{Task as TaskLine, Port as PortLine}
use Rattle.mrc_model.specs.declared.FirstLine.TheVariants.{Hold as HoldLine}
use Rattle.mrc_model.specs.declared.Code.TheVariants.{KernInvalidTask, KernInvalidName, KernNoSpace}
use Rattle.mrc_model.specs.Rights.{is_receive}
use Rattle.mrc_model.specs.Map.{Map, empty, get, insert, len, next_key}
use Rattle.mrc_model.specs.Wiring.{Wiring}
use Rattle.mrc_model.specs.World.{Space, Port, Store, World, space}
use Rattle.mrc_model.specs.Reply.{Refused, Try, ◌>>=◌, ◌>>◌, check, refuse_if, or_refuse}
use Rattle.mrc_model.specs.Space.{is_full, is_over_full, unused, place, give_item}
use Rattle.mrc_model.specs.Target.{with_store, with_space}
use Rattle.mrc_model.specs.CallAllocate.{new_port, birth}
use Rattle.mrc_model.specs.CallCreateTask.{limit_of_task_numbers}
use Rattle.mrc_model.specs.CallCreateTask as made
use Rattle.std.proofs.Common.{List, ◌∷◌, length, drop, suc}
use Rattle.std.proofs.Math.Seq.{drop-cons}
use Rattle.std.specs.List.{slice_index_or}
use Rattle.mrc_model.specs.declared.FirstLine.{FirstLine}
use Rattle.mrc_model.specs.First.{First, add_line, add_lines, no_world}
use Rattle.mrc_model.proofs.Maps.{get-insert_same, len-insert, len-empty, next_key-empty}
use Rattle.mrc_model.proofs.Maps.{next_key-insert}
use Rattle.mrc_model.proofs.Spaces.{space-set_same}
use Rattle.mrc_map.specs.Entries.{below}
use Rattle.mrc_names.specs.Takes.{give_right}
use Rattle.mrc_names.proofs.GivingLaws.{over_full}
use Rattle.mrc_machine.specs.Starts.{IsStart, with_right}
use Rattle.mrc_machine.proofs.HousingLaws.{kept_there}
use Rattle.mrc_machine.proofs.DropLaws.{no_some}
use Rattle.mrc_machine.proofs.Trying.{same_Ok, not_Err, ok_bind, err_bind, ok_goes}

-- the world with the next task of a wiring, whose kernel port is new, and of this class
abbrev pub with_task : World → ℕ → ℕ → World
with_task w t class = made.with_task w t t class

-- before the first line
pub start_none : (w : World) → w ≡ no_world → IsStart record { world = w; tasks = 0; ports = 0 }
start_none w is = record {
  tasks = λ t low. absurd (omega arith);
  next = next_key-empty w.tasks (ap (λ (z : World). z.tasks) is);
  births = ap (λ (z : World). z.store.next) is;
  few = omega (arith, len-empty w.store.ports (ap (λ (z : World). z.store.ports) is));
  few_tasks = omega arith;
  few_ports = omega arith;
}

-- the next task has the number of the next task line
pub start_next : (f : First) (t : ℕ) → IsStart f → f.tasks < limit_of_tasks → t ≡ f.tasks
    → below limit_of_task_numbers (next_key f.world.tasks) ≡ Some t
start_next f t h low number =
    let few : nat_lt f.tasks limit_of_task_numbers ≡ true =
    lt-ltb f.tasks limit_of_task_numbers (omega arith) in
    ap (below limit_of_task_numbers) h.next
    ∙ ap (λ b. if b then Some f.tasks else None) few ∙ ap Some (sym number)

-- one entry more at most
len_after : {X : Type 0} (m : Map X) (k : ℕ) (x : X) → len (insert m k x) ≤ len m + 1
len_after m k x = omega (arith, len-insert m k x)

-- task lines

module _ (W : Wiring) (f : First) where
  pub task_refused : W.tasks ≤ f.tasks → add_line W f TaskLine ≡ Err (Refused KernInvalidTask)
  unfolding ◌>>◌ check
  task_refused high = rw (le-ltb f.tasks W.tasks high) refl

  pub task_added : (z : World) (t class : ℕ)
      → f.tasks < W.tasks
      → t ≡ f.tasks
      → class ≡ W.ports + f.tasks
      → z ≡ with_task f.world t class
      → add_line W f TaskLine ≡ Ok record { world = z; tasks = f.tasks + 1; ports = f.ports }
  unfolding ◌>>◌ check
  task_added z t class low number class_is is =
      let whole : z ≡ with_task f.world f.tasks (W.ports + f.tasks) =
      is ∙ ap (λ u. with_task f.world u class) number
      ∙ ap (with_task f.world f.tasks) class_is in
      rw (lt-ltb f.tasks W.tasks low)
      (ap (λ (v : World). Ok record { world = v; tasks = f.tasks + 1; ports = f.ports })
      (sym whole))

  pub start_task : (z : World) (t class : ℕ)
      → IsStart f
      → f.tasks < limit_of_tasks
      → t ≡ f.tasks
      → z ≡ with_task f.world t class
      → IsStart record { world = z; tasks = f.tasks + 1; ports = f.ports }
  start_task z t class h low number is =
      subst (λ (v : World). IsStart record { world = v; tasks = f.tasks + 1; ports = f.ports })
      (ap (λ u. with_task f.world u class) (sym number) ∙ sym is) record {
        tasks = λ u below. elim (cases_eq u f.tasks) [
          | inl same ↦ subst (λ o. IsSome o)
              (sym (ap (get (with_task f.world f.tasks class).tasks) same
              ∙ get-insert_same f.world.tasks f.tasks _)) refl
          | inr apart ↦ kept_there f.world.tasks f.tasks u _ (h.tasks u (omega arith))
        ];
        next = ap (λ k. next_key (insert f.world.tasks k
            record { alive = true; kernel = f.world.store.next; class = f.tasks })) (sym h.next)
            ∙ next_key-insert f.world.tasks _ ∙ ap (λ n. n + 1) h.next;
        births = omega (arith, h.births);
        few = omega (
          arith,
          h.few,
          len_after f.world.store.ports f.world.store.next
              (new_port class),
        );
        few_tasks = omega arith;
        few_ports = h.few_ports;
      }

-- port lines

-- a port that is born makes a full space too large, and no other
born_full : (s : Store) (t c : ℕ) → is_over_full (space (birth s t c) t) ≡ is_full (space s t)
born_full s t c =
    let x = space s t in
    let e = ReceiveEntry s.next 0 None in
    ap (λ o. is_over_full (unwrap_or o empty)) (get-insert_same s.spaces t (insert x (unused x) e))
    ∙ over_full x e

module _ (W : Wiring) (f : First) (t : ℕ) where
  pub port_no_task : f.tasks ≤ t → add_line W f (PortLine t) ≡ Err (Refused KernInvalidTask)
  unfolding ◌>>◌ check
  port_no_task high = rw (le-ltb t f.tasks high) refl

  module _ (low : t < f.tasks) where
    pub port_beyond : W.ports ≤ f.ports
        → add_line W f (PortLine t) ≡ Err (Refused KernInvalidName)
    unfolding ◌>>◌ check
    port_beyond high = rw (lt-ltb t f.tasks low, le-ltb f.ports W.ports high) refl

    module _ (within : f.ports < W.ports) where
      pub port_full : is_full (space f.world.store t) ≡ true
          → add_line W f (PortLine t) ≡ Err (Refused KernNoSpace)
      unfolding ◌>>◌ check refuse_if
      port_full full =
          rw (
            lt-ltb t f.tasks low,
            lt-ltb f.ports W.ports within,
            born_full f.world.store t f.ports,
            full,
          ) refl

      pub port_added : (z : World)
          → is_full (space f.world.store t) ≡ false
          → z ≡ with_store f.world (birth f.world.store t f.ports)
          → add_line W f (PortLine t) ≡ Ok record {
            world = z;
            tasks = f.tasks;
            ports = f.ports +
                1;
          }
      unfolding ◌>>◌ check refuse_if
      port_added z room is =
          rw (
            lt-ltb t f.tasks low,
            lt-ltb f.ports W.ports within,
            born_full f.world.store t f.ports,
            room,
          )
          (ap (λ (v : World). Ok record { world = v; tasks = f.tasks; ports = f.ports + 1 })
          (sym is))

pub start_port : (f : First) (z : World) (t c : ℕ)
    → IsStart f
    → f.ports < limit_of_wired_ports
    → z ≡ with_store f.world (birth f.world.store t c)
    → IsStart record { world = z; tasks = f.tasks; ports = f.ports + 1 }
start_port f z t c h low is =
    subst (λ (v : World). IsStart record { world = v; tasks = f.tasks; ports = f.ports + 1 })
    (sym is) record {
      tasks = h.tasks;
      next = h.next;
      births = omega (arith, h.births);
      few = omega (arith, h.few, len_after f.world.store.ports f.world.store.next (new_port c));
      few_tasks = h.few_tasks;
      few_ports = omega arith;
    }

-- hold lines

-- what is answered for a state that has this world
abbrev pub on_world : First → World → Try First
on_world f w = Ok (record f { world = w })

module _ (W : Wiring) (f : First) (t p : ℕ) (r : PortRight) where
  pub hold_receive : r ≡ Receive → add_line W f (HoldLine t p r) ≡ Err (Refused KernInvalidName)
  unfolding ◌>>◌ refuse_if
  hold_receive is = rw is refl

  not_receive : (r ≡ Receive → ⊥) → is_receive r ≡ false
  not_receive other = go r other
    where
      go : (q : PortRight) → (q ≡ Receive → ⊥) → is_receive q ≡ false
      go Send n = refl
      go Receive n = absurd (n refl)
      go SendOnce n = refl

  module _ (other : r ≡ Receive → ⊥) where
    pub hold_no_task : f.tasks ≤ t → add_line W f (HoldLine t p r) ≡ Err (Refused KernInvalidTask)
    unfolding ◌>>◌ check refuse_if
    hold_no_task high = rw (not_receive other, le-ltb t f.tasks high) refl

    module _ (low : t < f.tasks) where
      pub hold_no_port : is_some (get f.world.store.ports p) ≡ false
          → add_line W f (HoldLine t p r) ≡ Err (Refused KernInvalidName)
      unfolding ◌>>=◌ ◌>>◌ check refuse_if or_refuse
      hold_no_port none =
          rw (
            not_receive other,
            lt-ltb t f.tasks low,
            no_some
                (get f.world.store.ports p) none,
          ) refl

      hold_by : (x : Port)
          → get f.world.store.ports p ≡ Some x
          → add_line W f (HoldLine t p r) ≡ (with_right f.world t p r >>= on_world f)
      unfolding with_right give_right give_item ◌>>=◌ ◌>>◌ check refuse_if or_refuse
      hold_by x at =
          let y = place (space f.world.store t) p r in
          let go : Bool → Try First = λ b.
          refuse_if b (Refused KernNoSpace) >> on_world f (with_space f.world t y.space) in
          let by : Bool → Try First = λ b.
          ((refuse_if b (Refused KernNoSpace) >> Ok (y.space, y.name))
          >>= λ (got : Space × ℕ). Ok (with_space f.world t got.0)) >>= on_world f in
          let same : (b : Bool) → go b ≡ by b = elim [ true ↦ refl | false ↦ refl ] in
          rw (not_receive other, lt-ltb t f.tasks low, at)
          (ap go (ap is_over_full (space-set_same f.world.store t y.space)) ∙ same
          (is_over_full y.space))

      pub hold_given : is_some (get f.world.store.ports p) ≡ true
          → add_line W f (HoldLine t p r) ≡ (with_right f.world t p r >>= on_world f)
      hold_given there = go (get f.world.store.ports p) refl there
        where
          go : (o : Option Port)
              → get f.world.store.ports p ≡ o
              → is_some o ≡ true
              → add_line W f (HoldLine t p r) ≡ (with_right f.world t p r >>= on_world f)
          go None at has = cc
          go (Some x) at has = hold_by x at

-- a right that is given changes one space alone
given_space : (w z : World) (t p : ℕ) (r : PortRight)
    → with_right w t p r ≡ Ok z
    → z ≡ with_space w t (place (space w.store t) p r).space
unfolding with_right give_right ◌>>=◌ ◌>>◌ refuse_if
given_space w z t p r is = go (is_over_full (place (space w.store t) p r).space) is
  where
    go : (b : Bool)
        → ◌≡◌ {A = Try World} ((refuse_if b (Refused KernNoSpace)
        >> Ok ((place (space w.store t) p r).space, (place (space w.store t) p r).name))
        >>= λ (got : Space × ℕ). Ok (with_space w t got.0)) (Ok z)
        → z ≡ with_space w t (place (space w.store t) p r).space
    go true e = absurd (not_Err _ _ (sym e))
    go false e = same_Ok _ _ (sym e)

pub start_hold : (f : First) (z : World) (t p : ℕ) (r : PortRight)
    → IsStart f
    → with_right f.world t p r ≡ Ok z
    → IsStart (record f { world = z })
start_hold f z t p r h is =
    subst (λ (v : World). IsStart record { world = v; tasks = f.tasks; ports = f.ports })
    (sym (given_space f.world z t p r is)) record {
      tasks = h.tasks;
      next = h.next;
      births = h.births;
      few = h.few;
      few_tasks = h.few_tasks;
      few_ports = h.few_ports;
    }

-- a right that is given, from what code tells
module _ (w : World) (t p : ℕ) (r : PortRight) (x : Space) (copy : x ≡ space w.store t) where
  given_by_space : with_right w t p r
      ≡ (give_right x p r >>= λ (got : Space × ℕ). Ok (with_space w t got.0))
  unfolding with_right
  given_by_space = ap (λ y. give_right y p r >>= λ (got : Space × ℕ). Ok (with_space w t got.0))
      (sym copy)

  pub right_refused : (e : OrMemory Code)
      → IsRefusal e (give_right x p r)
      → IsRefusal e (with_right w t p r)
  right_refused (Fault code) refused = given_by_space ∙ err_bind _ _ (Refused code) refused
  right_refused Memory refused =
      subst IsOk (sym given_by_space) (ok_goes _ _ (λ got. refl) refused)

  pub right_given : (y : Space) (n : ℕ) (z : World)
      → give_right x p r ≡ Ok (y, n)
      → z ≡ with_space w t y
      → with_right w t p r ≡ Ok z
  right_given y n z given is = given_by_space ∙ ok_bind _ (y, n) _ given ∙ ap Ok (sym is)

-- the lines from one on are that one and those behind it
pub next_lines : (W : Wiring) (f : First) (ls : List FirstLine) (i : ℕ) (l : FirstLine)
    → i < length ls
    → l ≡ slice_index_or ls i l
    → add_lines W f (drop i ls) ≡ (add_line W f l >>= λ g. add_lines W g (drop (i + 1) ls))
next_lines W f ls i l inside at =
    let next : suc i ≡ i + 1 = omega arith in
    ap (add_lines W f) (drop-cons ls i l inside
    ∙ ap (λ n. slice_index_or ls i l ∷ drop n ls) next
    ∙ ap (λ x. x ∷ drop (i + 1) ls) (sym at))
