-- The lines of a wiring, one after the other.
use Rattle.std.proofs.Common.{Bool, Err, List, Ok, Some, [], ap, arith, false, if◌then◌else◌, inl}
use Rattle.std.proofs.Common.{inr, nat_le, nat_lt, refl, sym, true, ℕ, ◌+◌, ◌<◌, ◌∙◌, ◌∷◌, ◌≡◌}
use Rattle.std.proofs.lemmas.Bool.{and_left, cases_eq, lt-leb, ltb-false, ltb-true}
use Rattle.std.specs.Option.{option_map, unwrap_or}
use Rattle.std.specs.Result.{is_ok}
use Rattle.mrc_base.specs.declared.PortRight.{PortRight}
use Rattle.mrc_base.specs.declared.PortRight.TheVariants.{Receive, Send, SendOnce}
use Rattle.mrc_model.proofs.Maps.{get-empty, len-empty, not_None}
use Rattle.mrc_model.proofs.Tries.{Gives, bind, bind_, checked, found, gives_ok, not_refused}
use Rattle.mrc_model.specs.CallAllocate.{birth}
use Rattle.mrc_model.specs.First.{First, add_line, add_lines, built, first, is_sound, no_world}
use Rattle.mrc_model.specs.First.{world_of}
use Rattle.mrc_model.specs.Map.{empty, get}
use Rattle.mrc_model.specs.Reply.{Try}
use Rattle.mrc_model.specs.Rights.{is_receive}
use Rattle.mrc_model.specs.Rules.{FactSet}
use Rattle.mrc_model.specs.Space.{give_item, is_over_full}
use Rattle.mrc_model.specs.Target.{with_store}
use Rattle.mrc_model.specs.Wiring.{Wiring}
use Rattle.mrc_model.specs.World.{Port, Store, class_of, receives, space, task_class}
use Rattle.mrc_model.specs.declared.Entry.{Entry}
use Rattle.mrc_model.specs.declared.FirstLine.{FirstLine}
use Rattle.mrc_model.specs.declared.FirstLine.TheVariants.{Hold as HoldLine, Port as PortLine}
use Rattle.mrc_model.specs.declared.FirstLine.TheVariants.{Task as TaskLine}
use Rattle.mrc_model.specs.declared.Item.TheVariants.{Right as RightItem}
use Rattle.mrc_cover.proofs.Births.{birth_keeps}
use Rattle.mrc_cover.proofs.FirstTask.{Any, IsBegun, IsIdle, any_closed, idle_new, task_line}
use Rattle.mrc_cover.proofs.Giving.{give_right_leaves}
use Rattle.mrc_cover.proofs.Kept.{IsAlive, Kept, keeps_with}
use Rattle.mrc_cover.proofs.Obeyed.{Obeys, Ranged, obeys}
use Rattle.mrc_cover.proofs.Rights.{right_on}
use Rattle.mrc_cover.proofs.Sound.{exchange_hand}
use Rattle.mrc_cover.proofs.Stores.{is_kernel_class, live_class}
use Rattle.mrc_cover.proofs.WellFormed.{class_of_alive}

module _ (W : Wiring) where
  -- all facts over the wiring's tasks and classes
  G : FactSet
  G = Ranged W Any

  -- they obey the rules
  o : Obeys W (Ranged W Any)
  o = obeys W Any (any_closed W)

  -- a wired port's class is no kernel port's
  wired_not_kernel : (c : ℕ) → c < W.ports → is_kernel_class W c ≡ false
  wired_not_kernel c l =
      and_left (nat_le W.ports c) (nat_lt c (W.ports + W.tasks)) (lt-leb W.ports c l)

  -- a port line
  port_line : (f : First) (t : ℕ) → IsBegun W f → t < f.tasks → f.ports < W.ports
      → is_over_full (space (birth f.world.store t f.ports) t) ≡ false
      → IsBegun W record {
        tasks = f.tasks;
        ports = f.ports + 1;
        world = with_store f.world
            (birth f.world.store t f.ports);
      }
  port_line f t b known below room =
      let alive = b.alive t known in
      let its : task_class f.world t < W.tasks = class_of_alive W Any f.world b.kept.tasks t alive
      in
      let plain = wired_not_kernel f.ports below in
      record {
        kept = birth_keeps W (Ranged W Any) f.world t f.ports (record { of = alive }) (omega arith)
            (ap (λ (v : Bool). if v then 0 else 1) plain) plain ((its, omega arith), tt)
            (ltb-false 4096 _ room) b.kept;
        idle = λ q x is. idle_new f.world.store f.world.store.next f.ports q x b.idle is;
        alive = b.alive;
        fresh = b.fresh;
      }

  -- a right that is given leaves ports idle
  give_idle : (s : Store) (t p : ℕ) (r : PortRight) → IsIdle s
      → IsIdle (give_item s t (RightItem p r)).0
  unfolding give_item
  give_idle s t p r idle = idle

  -- no receive right is given by a hold line
  not_moved : (r : PortRight) (p q : ℕ) → is_receive r ≡ false
      → receives q (right_on p r ∷ []) ≡ receives q []
  not_moved Send p q e = refl
  not_moved SendOnce p q e = refl
  not_moved Receive p q e = cc

  -- a hold line
  hold_line : (f : First) (t p : ℕ) (r : PortRight) (x : Port) → IsBegun W f → is_receive r ≡ false
      → t < f.tasks
      → is_over_full (space (give_item f.world.store t (RightItem p r)).0 t) ≡ false
      → get f.world.store.ports p ≡ Some x
      → IsBegun W
      (record f { world = with_store f.world (give_item f.world.store t (RightItem p r)).0 })
  hold_line f t p r x b plain known room live =
      let s = f.world.store in
      let alive = b.alive t known in
      let its = class_of_alive W Any f.world b.kept.tasks t alive in
      let class : class_of s p ≡ Some x.class = live_class s p x live in
      let range = (b.kept.sound.numbers p x.class class).1 in
      let gained = give_right_leaves W (Ranged W Any) (task_class f.world)
      (IsAlive f.world) s [] t p r
      (record { of = alive }) (exchange_hand (λ q. not_moved r p q plain) b.kept.sound)
      (x.class, class, ((its, range), tt)) in
      record {
        kept =
            keeps_with W (Ranged W Any) f.world (give_item s t (RightItem p r)).0 b.kept gained.0
            (λ u. elim (cases_eq u t) [
              | inl e ↦ rw e (ltb-false 4096 _ room)
              | inr n ↦ rw (gained.2 u n) (b.kept.few u)
            ]);
        idle = give_idle s t p r b.idle;
        alive = b.alive;
        fresh = b.fresh;
      }

  -- each kind of line
  add_line_begins : (f : First) (l : FirstLine) → IsBegun W f → Gives (IsBegun W) (add_line W f l)
  add_line_begins f TaskLine b = bind_ _ _ (checked (nat_lt f.tasks W.tasks) _)
      (λ _ l. gives_ok (task_line W f b (ltb-true f.tasks W.tasks l)))
  add_line_begins f (PortLine t) b =
      bind_ _ _ (checked (nat_lt t f.tasks) _) (λ _ l.
      bind_ _ _ (checked (nat_lt f.ports W.ports) _) (λ _ m.
      bind_ _ _ (not_refused (is_over_full (space (birth f.world.store t f.ports) t)) _) (λ _ room.
      gives_ok (port_line f t b (ltb-true t f.tasks l) (ltb-true f.ports W.ports m) room))))
  add_line_begins f (HoldLine t p r) b =
      bind_ _ _ (not_refused (is_receive r) _) (λ _ plain.
      bind_ _ _ (checked (nat_lt t f.tasks) _) (λ _ l.
      bind _ _ (found (get f.world.store.ports p) _) (λ x live.
      bind_ _ _
      (not_refused (is_over_full (space (give_item f.world.store t (RightItem p r)).0 t)) _)
      (λ _ room.
      gives_ok (hold_line f t p r x b plain (ltb-true t f.tasks l) room live)))))

  -- all lines
  add_lines_begin : (ls : List FirstLine) (f : First) → IsBegun W f
      → Gives (IsBegun W) (add_lines W f ls)
  add_lines_begin [] f b = gives_ok b
  add_lines_begin (l ∷ ls) f b = bind _ _ (add_line_begins f l b) (λ g h. add_lines_begin ls g h)

  -- at the very first no port is live
  no_port : (p c : ℕ) → class_of no_world.store p ≡ Some c → ⊥
  no_port p c e = not_None c (sym e ∙ ap (option_map (λ (x : Port). x.class)) (get-empty p))

  -- each space is empty
  no_space : (t : ℕ) → space no_world.store t ≡ empty
  no_space t = ap (λ o. unwrap_or o empty) (get-empty t)

  -- there is no entry
  no_entry : (t n : ℕ) (e : Entry) → get (space no_world.store t) n ≡ Some e → ⊥
  no_entry t n e is = not_None e (sym is ∙ ap (λ x. get x n) (no_space t) ∙ get-empty n)

  -- before the first line
  begun : IsBegun W record { world = no_world; tasks = 0; ports = 0 }
  begun = record {
    kept = record {
      sound = record {
        receive_once = λ p c e. absurd (no_port p c e);
        numbers = λ p c e. absurd (no_port p c e);
        covers = record {
          held = λ t n e is. absurd (no_entry t n e is);
          carried = λ q x is. absurd (not_None x (sym is ∙ get-empty q));
          backups = λ q x is. absurd (not_None x (sym is ∙ get-empty q));
        };
        one_name = λ t n m p e f a. absurd (no_entry t n e a);
      };
      few = λ t. let a = len-empty (space no_world.store t) (no_space t) in omega arith;
      tasks = record {
        class = λ t x e. absurd (not_None x (sym e ∙ get-empty t));
        below = λ t x e. absurd (not_None x (sym e ∙ get-empty t));
        kernel = λ t x e. absurd (not_None x (sym e ∙ get-empty t));
        own = λ t u x y e. absurd (not_None x (sym e ∙ get-empty t));
        only = λ p c e. absurd (no_port p c e);
        gone = λ t n e. ap (λ x. get x n) (no_space t) ∙ get-empty n;
      };
      kernels = λ t x e. absurd (not_None x (sym e ∙ get-empty t));
    };
    idle = λ p x is. absurd (not_None x (sym is ∙ get-empty p));
    alive = λ t l. absurd (omega arith);
    fresh = λ t l. get-empty t;
  }

  -- a wiring of which no line is refused has a first state
  world_ok : (r : Try First) → built W ≡ r → is_ok r ≡ true
      → (f : First) × IsBegun W f × (world_of r ≡ f.world)
  world_ok (Ok f) e ok = (
    f,
    (add_lines_begin W.lines
        record { world = no_world; tasks = 0; ports = 0 } begun).holds f e,
    refl,
  )
  world_ok (Err x) e ok = cc

  -- the first state is kept, and idle
  pub first_keeps : is_sound W ≡ true → Kept W (Ranged W Any) (first W) × IsIdle (first W).store
  unfolding first
  first_keeps ok = let (f, b, e) = world_ok (built W) refl ok in (rw e b.kept, rw e b.idle)
