use Rattle.std.proofs.Common.{◌≡◌, Some, None, sym, ap, subst, ◌∙◌, refl, arith, ◌+◌}
use Rattle.std.proofs.lemmas.Result.{err_from_is_err_and}
use Rattle.mrc_model.specs.Map.{get}
use Rattle.mrc_model.specs.CallSend.{dead_taken}
use Rattle.mrc_names.specs.Leaving.{patched, HasRest}
use Rattle.mrc_transit.specs.Staging.{Scratch, staged, taken_of}
use Rattle.mrc_transit.proofs.StagingLaws.{rests_kept, spent_none, spent_rest}
use Rattle.mrc_transit.proofs.ItemLaws.{item_null, item_dead, item_of_dead, item_of_live}
use Rattle.mrc_transit.proofs.ItemLaws.{item_refused, dead_left}
use Rattle.mrc_transit.proofs.scratch.Scratch.take_item.Goals as goal

pub returns-then-name-eq0-clause-taken : goal.returns-then-name-eq0-clause-taken
returns-then-name-eq0-clause-taken c = λ s t e.
    item_null (staged s t (taken_of c.args.space.now c.args.self.now)) t c.args.name c.args.disp e
    c.if-name-eq0.true

pub returns-then-name-eq0-clause-room : goal.returns-then-name-eq0-clause-room
returns-then-name-eq0-clause-room c = spent_none c.args.self.now c.args.self.now refl

pub returns-then-name-eq4294967295-clause-taken : goal.returns-then-name-eq4294967295-clause-taken
returns-then-name-eq4294967295-clause-taken c = λ s t e.
    item_dead (staged s t (taken_of c.args.space.now c.args.self.now)) t c.args.name c.args.disp e
    c.if-name-eq0.false c.if-name-eq4294967295.true

pub returns-then-name-eq4294967295-clause-room : goal.returns-then-name-eq4294967295-clause-room
returns-then-name-eq4294967295-clause-room c = spent_none c.args.self.now c.args.self.now refl

pub leave-requires : goal.leave-requires
leave-requires c = omega (arith, c.requires.rests)

pub returns-in-Some-clause-taken : goal.returns-in-Some-clause-taken
returns-in-Some-clause-taken c = λ s t e.
    item_of_dead s t c.args.name c.args.disp (taken_of c.args.space.now c.args.self.now)
    c.if-name-eq0.false c.if-name-eq4294967295.false e
    (taken_of c.args.space.now c.leave.new.self) c.in-Some.rest
    (subst (λ (k : Scratch). dead_taken (get (patched c.args.space.now k.rests) c.args.name)
    c.args.disp ≡ Some c.in-Some.rest) c.self.view_is
    (sym c.dead_parting.ensures.taken ∙ c.in-Some.is))
    (dead_left c.args.space.now c.args.self.now c.leave.new.self c.args.name c.in-Some.rest
    c.leave.ensures)

pub returns-in-Some-clause-rests : goal.returns-in-Some-clause-rests
returns-in-Some-clause-rests c =
    rests_kept c.args.space.now c.args.self.now c.leave.new.self c.args.name c.in-Some.rest
    (subst (λ (k : Scratch). HasRest (patched c.args.space.now k.rests) c.args.name
    c.in-Some.rest) c.self.view_is c.in-Some.ensures.rest)
    (ap (λ (k : Scratch). k.rests) c.leave.ensures)

pub returns-in-Some-clause-room : goal.returns-in-Some-clause-room
returns-in-Some-clause-room c =
    spent_rest c.args.self.now c.leave.new.self c.args.name c.in-Some.rest c.leave.ensures

pub returns-in_err-port-clause-refused : goal.returns-in_err-port-clause-refused
returns-in_err-port-clause-refused c =
    let p = err_from_is_err_and c.from_residual.result c.from_residual.ensures.1 in
    rw p.1 (λ s t e. item_refused s t c.args.name c.args.disp
    (taken_of c.args.space.now c.args.self.now) c.if-name-eq0.false c.if-name-eq4294967295.false
    (subst (λ (k : Scratch). dead_taken (get (patched c.args.space.now k.rests) c.args.name)
    c.args.disp ≡ None) c.self.view_is (sym c.dead_parting.ensures.taken ∙ c.in_default.is))
    e (c.in_err-port.ensures.refused s t e))

pub returns-clause-taken : goal.returns-clause-taken
returns-clause-taken c = λ s t e.
    item_of_live s t c.args.name c.args.disp (taken_of c.args.space.now c.args.self.now)
    c.if-name-eq0.false c.if-name-eq4294967295.false
    (subst (λ (k : Scratch). dead_taken (get (patched c.args.space.now k.rests) c.args.name)
    c.args.disp ≡ None) c.self.view_is (sym c.dead_parting.ensures.taken ∙ c.in_default.is))
    e (taken_of c.args.space.now c.take.new.self) c.in_ok-port.port c.give.result
    (c.in_ok-port.ensures.taken s t e) c.give.ensures
