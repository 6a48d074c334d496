use Rattle.std.proofs.Common.{◌≡◌, Ok, sym, ap, subst, ◌∙◌, refl, arith, ◌+◌}
use Rattle.mrc_model.specs.Map.{insert, len}
use Rattle.mrc_model.specs.Space.{put_entry}
use Rattle.mrc_names.specs.Leaving.{patched, HasRest}
use Rattle.mrc_names.specs.Takes.{take_right}
use Rattle.mrc_transit.specs.Staging.{Scratch, taken_of}
use Rattle.mrc_transit.proofs.StagingLaws.{staged_refused, right_taken, rests_kept, spent_none}
use Rattle.mrc_transit.proofs.StagingLaws.{spent_one}
use Rattle.mrc_transit.proofs.scratch.Scratch.take.Goals as goal

pub note-requires : goal.note-requires
note-requires c = omega (arith, c.requires.moved)

pub leave-requires : goal.leave-requires
leave-requires c =
    omega (arith, c.requires.rests, ap (λ (k : Scratch). len k.rests) c.note.ensures)

pub returns-in-Err-clause-refused : goal.returns-in-Err-clause-refused
returns-in-Err-clause-refused c = λ s t e.
    staged_refused s t c.args.name c.args.disp (taken_of c.args.space.now c.args.self.now) e _
    (ap (λ (k : Scratch). take_right (patched c.args.space.now k.rests) c.args.name c.args.disp)
    (sym c.self.view_is) ∙ c.in-Err.ensures.refused)

pub returns-in-Err-clause-room : goal.returns-in-Err-clause-room
returns-in-Err-clause-room c = spent_none c.args.self.now c.args.self.now refl

pub returns-clause-taken : goal.returns-clause-taken
returns-clause-taken c = λ s t e.
    right_taken s t c.args.name c.args.disp e c.args.space.now c.args.self.now c.leave.new.self
    c.in-Ok.taken.0 c.give.result c.in-Ok.taken.1
    (subst (λ (k : Scratch). take_right (patched c.args.space.now k.rests) c.args.name c.args.disp
    ≡ Ok (
      put_entry (patched c.args.space.now k.rests) c.args.name c.in-Ok.taken.1,
      c.in-Ok.taken.0,
    )) c.self.view_is c.in-Ok.ensures.found)
    c.give.ensures
    (c.leave.ensures ∙ ap (λ (k : Scratch). record k {
      rests = insert k.rests c.args.name
          c.in-Ok.taken.1;
    }) c.note.ensures)

pub returns-clause-rests : goal.returns-clause-rests
returns-clause-rests c =
    rests_kept c.args.space.now c.args.self.now c.leave.new.self c.args.name c.in-Ok.taken.1
    (subst (λ (k : Scratch). HasRest (patched c.args.space.now k.rests) c.args.name
    c.in-Ok.taken.1) c.self.view_is c.in-Ok.ensures.rest)
    (ap (λ (k : Scratch). k.rests) (c.leave.ensures ∙ ap (λ (k : Scratch). record k {
      rests = insert k.rests c.args.name c.in-Ok.taken.1;
    }) c.note.ensures))

pub returns-clause-room : goal.returns-clause-room
returns-clause-room c =
    spent_one c.args.self.now c.leave.new.self c.args.name c.in-Ok.taken.0 c.give.result
    c.in-Ok.taken.1
    (c.leave.ensures ∙ ap (λ (k : Scratch). record k {
      rests = insert k.rests c.args.name
          c.in-Ok.taken.1;
    }) c.note.ensures)
