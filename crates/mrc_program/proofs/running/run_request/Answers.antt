use Rattle.std.proofs.Common.{◌∙◌, List, Option, ℕ, ap, inl, inr, subst, sym}
use Rattle.std.proofs.KnownBytes.{Appends-nil}
use Rattle.std.specs.Io.KnownBytes.{Appends}
use Rattle.mrc_answer.specs.Answers.{IsAnswered}
use Rattle.mrc_command.specs.declared.command.Command.{Command}
use Rattle.mrc_command.specs.Meaning.{asked_format}
use Rattle.mrc_program.proofs.ChangeLaws.{has_out_of, seen_format}
use Rattle.mrc_program.proofs.running.run_request.Goals as goal

pub returns-in-Ok-clause-whole : goal.returns-in-Ok-clause-whole
returns-in-Ok-clause-whole g c not_two words means =
    let told = c.write_answer-status.ensures.whole not_two in
    record {
      answered = c.in-Ok.answered;
      text = told.text;
      replied = record {
        request = c.args.request;
        means = means;
        right = subst (λ (command : Command). IsAnswered (g.F.Folder.held c.args.folder.now)
            (g.F.Folder.held c.answer_shown.new.folder) command c.in-Ok.answered)
            c.seen-command.ensures c.in-Ok.ensures.right;
        printed = λ is. told.printed (c.asked_of-asked.ensures
            ∙ ap asked_format c.seen-command.ensures
            ∙ seen_format c.args.watched.out c.args.request.command ∙ is);
      };
      status_is = elim c.write_answer-status.ensures.status [
        | inl same ↦ sym same
        | inr two ↦ absurd (not_two two)
      ];
      out = told.out;
      errors = told.errors;
      notices = told.notices;
      err = λ off. subst (λ (old : Option (List ℕ)). Appends old
          (g.E.Write.contents c.write_answer-status.new.err) told.errors)
          (c.in-Ok.ensures.silent (c.counts-counts.ensures ∙ off)) told.err;
    }

pub returns-in-Ok-clause-front : goal.returns-in-Ok-clause-front
returns-in-Ok-clause-front g c = elim c.write_answer-status.ensures.front [
  | inl none ↦ inl none
  | inr part ↦ inr (λ words means. record {
    answered = c.in-Ok.answered;
    text = part.text;
    replied = record {
      request = c.args.request;
      means = means;
      right = subst (λ (command : Command). IsAnswered (g.F.Folder.held c.args.folder.now)
          (g.F.Folder.held c.answer_shown.new.folder) command c.in-Ok.answered)
          c.seen-command.ensures c.in-Ok.ensures.right;
      printed = λ is. part.printed (c.asked_of-asked.ensures
          ∙ ap asked_format c.seen-command.ensures
          ∙ seen_format c.args.watched.out c.args.request.command ∙ is);
    };
    count = part.count;
    front = part.front;
  })
]

pub returns-in-Ok-clause-kept : goal.returns-in-Ok-clause-kept
returns-in-Ok-clause-kept g c = elim c.in-Ok.ensures.kept [
  | inl may ↦ inr (λ words means.
      let right = subst (λ (command : Command). IsAnswered (g.F.Folder.held c.args.folder.now)
      (g.F.Folder.held c.answer_shown.new.folder) command c.in-Ok.answered)
      c.seen-command.ensures c.in-Ok.ensures.right in
      record {
        request = c.args.request;
        means = means;
        has_out = has_out_of c.args.watched.out (g.F.Folder.held c.args.folder.now)
            (g.F.Folder.held c.answer_shown.new.folder) c.args.request.command c.in-Ok.answered
            right may;
        answered = c.in-Ok.answered;
        right = right;
        may = may;
      })
  | inr same ↦ inl same
]

pub returns-in-Err-clause-front : goal.returns-in-Err-clause-front
returns-in-Err-clause-front g c = inl (Appends-nil (g.O.Write.contents c.args.out.now))
