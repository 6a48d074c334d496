-- The first state of a wiring has all its tasks.
use Rattle.std.proofs.Common.{◌≡◌, ℕ, ◌+◌, ◌<◌, List, [], ◌∷◌, Ok, Err, inl, inr, refl, sym, ◌∙◌}
use Rattle.std.proofs.Common.{ap, subst, arith}
use Rattle.std.specs.Prelude.{IsSome, IsTrue, is_ok}
use Rattle.std.proofs.lemmas.Bool.{cases_eq}
use Rattle.mrc_model.specs.declared.FirstLine.{FirstLine}
use Rattle.mrc_model.specs.declared.FirstLine.TheVariants.{Task as TaskLine, Port as PortLine}
use Rattle.mrc_model.specs.declared.FirstLine.TheVariants.{Hold as HoldLine}
use Rattle.mrc_model.specs.First.{First, no_world, add_line, add_lines, built, world_of, first}
use Rattle.mrc_model.specs.Map.{get, insert}
use Rattle.mrc_model.specs.Reply.{Try}
use Rattle.mrc_model.specs.Wiring.{Wiring}
use Rattle.mrc_model.specs.World.{Task}
use Rattle.mrc_model.proofs.Maps.{get-insert_same, get-insert_other}
use Rattle.mrc_model.proofs.Tries.{Gives, gives_ok, bind, past, past_}
use Rattle.mrc_wiring.specs.Table.{Table, IsTable, wiring_of, task_lines}
use Rattle.mrc_wiring.proofs.Sound.{table_is_sound}

-- each number below that of the task lines so far is a task's
record HasTasks (f : First) : Type 0 where
  pub of : (t : ℕ) → t < f.tasks → IsSome (get f.world.tasks t)

-- so it is after these lines more, of which each task line has made one
record IsAfter (f : First) (ls : List FirstLine) (g : First) : Type 0 where
  pub has : HasTasks g
  pub count : g.tasks ≡ f.tasks + task_lines ls

front_lines : (l : FirstLine) (ls : List FirstLine)
    → task_lines (l ∷ ls) ≡ task_lines (l ∷ []) + task_lines ls
front_lines TaskLine ls = omega arith
front_lines (PortLine t) ls = omega arith
front_lines (HoldLine t p r) ls = omega arith

-- one task more
one_more : (f : First) (x : Task) → HasTasks f → (u : ℕ) → u < f.tasks + 1
    → IsSome (get (insert f.world.tasks f.tasks x) u)
one_more f x h u low = elim (cases_eq u f.tasks) [
  | inl same ↦ subst (λ o. IsSome o)
      (sym (ap (get (insert f.world.tasks f.tasks x)) same
      ∙ get-insert_same f.world.tasks f.tasks x)) refl
  | inr apart ↦
      let before : u < f.tasks = omega arith in
      subst (λ o. IsSome o) (sym (get-insert_other f.world.tasks f.tasks x u apart))
      (h.of u before)
]

line_after : (W : Wiring) (f : First) (l : FirstLine) → HasTasks f
    → Gives (IsAfter f (l ∷ [])) (add_line W f l)
line_after W f TaskLine h =
    past_ _ _ (gives_ok (record {
      has = record { of = λ u low. one_more f _ h u low };
      count = omega arith;
    }))
line_after W f (PortLine t) h =
    past_ _ _ (past_ _ _ (past_ _ _
    (gives_ok (record { has = record { of = λ u low. h.of u low }; count = omega arith }))))
line_after W f (HoldLine t p r) h =
    past_ _ _ (past_ _ _ (past _ _ (λ x. past_ _ _
    (gives_ok (record { has = record { of = λ u low. h.of u low }; count = omega arith })))))

lines_after : (W : Wiring) (ls : List FirstLine) (f : First) → HasTasks f
    → Gives (IsAfter f ls) (add_lines W f ls)
lines_after W [] f h = gives_ok (record { has = h; count = omega arith })
lines_after W (l ∷ ls) f h =
    bind _ _ (line_after W f l h) (λ g one.
    let rest = lines_after W ls g one.has in
    record {
      holds = λ end is.
          let after = rest.holds end is in
          let front = front_lines l ls in
          let first_count = one.count in
          let rest_count = after.count in
          record { has = after.has; count = omega arith };
    })

-- before the first line
start : First
start = record { world = no_world; tasks = 0; ports = 0 }

no_task : HasTasks start
unfolding start
no_task = record { of = λ t low. absurd (omega arith) }

-- all tasks of the wiring
pub all_tasks : (table : Table) → IsTable table → (t : ℕ) → t < (wiring_of table).tasks
    → IsSome (get (first (wiring_of table)).tasks t)
unfolding first start
all_tasks table is t low =
    go (built (wiring_of table)) (lines_after (wiring_of table) table.lines start no_task)
    (table_is_sound table is)
  where
    go : (r : Try First) → Gives (IsAfter start table.lines) r → IsTrue (is_ok r)
        → IsSome (get (world_of r).tasks t)
    go (Ok f) gives sound =
        let after = gives.holds f refl in
        let lines = is.tasks in
        let count = after.count in
        after.has.of t (omega arith)
    go (Err e) gives sound = cc
