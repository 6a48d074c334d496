use Rattle.std.proofs.Common.{◌≡◌, Err, ◌∙◌, rules}
use Rattle.mrc_model.specs.Filter.{judge}
use Rattle.mrc_wiring.specs.Table.{wiring_of}
use Rattle.mrc_filter.proofs.Answering.{judged_by}
use Rattle.mrc_filter.proofs.judging.judge.Goals as goal

-- no form of the class has the id
pub returns-in_default : goal.returns-in_default
returns-in_default c = record {
  exact =
      judged_by (wiring_of c.args.wired.now) c.args.class c.header-id.result.id c.args.message.now
      _ c.header-id.ensures.id c.in_default.ensures.exact;
}

-- an argument differs, or the reply port's disposition does not fit
pub returns-in_err-meet : goal.returns-in_err-meet
returns-in_err-meet c =
    let W = wiring_of c.args.wired.now in
    let told : judge W c.args.class c.args.message.now ≡ Err c.in_err-meet.field-0.0 =
    judged_by W c.args.class c.header-id.result.id c.args.message.now _ c.header-id.ensures.id
    c.in-Some.ensures.exact ∙ c.in_err-meet.ensures in
    search rules

pub returns : goal.returns
returns c =
    let W = wiring_of c.args.wired.now in
    record {
      exact = (
        c.in-Some.ensures.placed,
        judged_by W c.args.class c.header-id.result.id c.args.message.now _ c.header-id.ensures.id
            c.in-Some.ensures.exact ∙ c.in_ok-meet.ensures,
        c.header-id.ensures.id,
      );
    }
