use Rattle.std.proofs.Common.{sym, ap, ◌∙◌}
use Rattle.std.specs.Prelude.{◌||◌}
use Rattle.std.proofs.lemmas.Bool.{eq-eqb, ne_eqb}
use Rattle.mrc_model.specs.Map.{get}
use Rattle.mrc_model.specs.World.{Space, space}
use Rattle.mrc_model.specs.Reply.{Refused}
use Rattle.mrc_model.specs.CallSend.{dead_taken, is_dead_taken}
use Rattle.mrc_wiring.specs.Table.{wiring_of}
use Rattle.mrc_names.specs.Takes.{take_right, taken_port}
use Rattle.mrc_cover.proofs.Stores.{unborn}
use Rattle.mrc_machine.proofs.RequestLaws.{backup_none, backup_dead, backup_untaken, backup_gone}
use Rattle.mrc_machine.proofs.RequestLaws.{backup_denied, backup_is, dead_at}
use Rattle.mrc_machine.proofs.state.State.named_backup.Goals.{then-name-eq4294967295-via-then-name-eq4294967295, then-name-eq4294967295-via-else-name-eq4294967295+then-gives_dead}
use Rattle.mrc_machine.proofs.state.State.named_backup.Goals as goal

pub returns-then-name-eq0-clause-ok : goal.returns-then-name-eq0-clause-ok
returns-then-name-eq0-clause-ok c = backup_none _ _ _ _ _ c.if-name-eq0.true

pub returns-then-name-eq4294967295-clause-refused :
    goal.returns-then-name-eq4294967295-clause-refused
returns-then-name-eq4294967295-clause-refused c =
    backup_dead (wiring_of c.args.wired.now) c.args.self.now.store c.args.task c.args.name c.args.disp c.if-name-eq0.false
    (elim c.then-name-eq4294967295.branch [
      | then-name-eq4294967295-via-then-name-eq4294967295 w ↦
          ap (λ b. b || is_dead_taken (dead_taken (get (space c.args.self.now.store c.args.task)
          c.args.name) c.args.disp)) (eq-eqb c.args.name 4294967295 w.if-name-eq4294967295.true)
      | then-name-eq4294967295-via-else-name-eq4294967295+then-gives_dead w ↦
          ap (λ b. b || is_dead_taken (dead_taken (get (space c.args.self.now.store c.args.task)
          c.args.name) c.args.disp)) (ne_eqb c.args.name 4294967295 w.if-name-eq4294967295.false)
          ∙ dead_at c.args.self.now.store c.args.task c.args.name c.args.disp w.space.ensures _ w.get.ensures _
          w.gives_dead.ensures ∙ w.if-gives_dead.true
    ])

pub returns-in-Err-clause-refused : goal.returns-in-Err-clause-refused
returns-in-Err-clause-refused c =
    backup_untaken (wiring_of c.args.wired.now) c.args.self.now.store c.args.task c.args.name c.args.disp c.if-name-eq0.false
    (ap (λ b. b || is_dead_taken (dead_taken (get (space c.args.self.now.store c.args.task)
    c.args.name) c.args.disp)) (ne_eqb c.args.name 4294967295 c.if-name-eq4294967295.false)
    ∙ dead_at c.args.self.now.store c.args.task c.args.name c.args.disp c.space.ensures _ c.get.ensures _ c.gives_dead.ensures
    ∙ c.if-gives_dead.false) (Refused c.in-Err.code)
    (ap (λ (x : Space). take_right x c.args.name c.args.disp) (sym c.space-2.ensures)
    ∙ c.in-Err.ensures.refused)

pub returns-in_default-clause-refused : goal.returns-in_default-clause-refused
returns-in_default-clause-refused c =
    backup_gone (wiring_of c.args.wired.now) c.args.self.now.store c.args.task c.args.name c.args.disp c.if-name-eq0.false
    (ap (λ b. b || is_dead_taken (dead_taken (get (space c.args.self.now.store c.args.task)
    c.args.name) c.args.disp)) (ne_eqb c.args.name 4294967295 c.if-name-eq4294967295.false)
    ∙ dead_at c.args.self.now.store c.args.task c.args.name c.args.disp c.space.ensures _ c.get.ensures _ c.gives_dead.ensures
    ∙ c.if-gives_dead.false)
    c.in-Ok.port
    (ap (λ (x : Space). taken_port x c.args.name c.args.disp) (sym c.space-2.ensures)
    ∙ c.in-Ok.ensures.found)
    (unborn c.args.self.now.store c.in-Ok.port (sym c.class_of.ensures ∙ c.in_default.is))

pub returns-then-not-accepts_destroyed-clause-refused :
    goal.returns-then-not-accepts_destroyed-clause-refused
returns-then-not-accepts_destroyed-clause-refused c =
    backup_denied (wiring_of c.args.wired.now) c.args.self.now.store c.args.task c.args.name c.args.disp c.if-name-eq0.false
    (ap (λ b. b || is_dead_taken (dead_taken (get (space c.args.self.now.store c.args.task)
    c.args.name) c.args.disp)) (ne_eqb c.args.name 4294967295 c.if-name-eq4294967295.false)
    ∙ dead_at c.args.self.now.store c.args.task c.args.name c.args.disp c.space.ensures _ c.get.ensures _ c.gives_dead.ensures
    ∙ c.if-gives_dead.false)
    c.in-Ok.port
    (ap (λ (x : Space). taken_port x c.args.name c.args.disp) (sym c.space-2.ensures)
    ∙ c.in-Ok.ensures.found)
    c.in-Some.class c.accepts_destroyed.result (sym c.class_of.ensures ∙ c.in-Some.is)
    c.accepts_destroyed.ensures c.if-not-accepts_destroyed.true

pub returns-clause-ok : goal.returns-clause-ok
returns-clause-ok c =
    backup_is (wiring_of c.args.wired.now) c.args.self.now.store c.args.task c.args.name c.args.disp c.if-name-eq0.false
    (ap (λ b. b || is_dead_taken (dead_taken (get (space c.args.self.now.store c.args.task)
    c.args.name) c.args.disp)) (ne_eqb c.args.name 4294967295 c.if-name-eq4294967295.false)
    ∙ dead_at c.args.self.now.store c.args.task c.args.name c.args.disp c.space.ensures _ c.get.ensures _ c.gives_dead.ensures
    ∙ c.if-gives_dead.false)
    c.in-Ok.port
    (ap (λ (x : Space). taken_port x c.args.name c.args.disp) (sym c.space-2.ensures)
    ∙ c.in-Ok.ensures.found)
    c.in-Some.class c.accepts_destroyed.result (sym c.class_of.ensures ∙ c.in-Some.is)
    c.accepts_destroyed.ensures c.if-not-accepts_destroyed.false
