use Rattle.std.proofs.Common.{◌≡◌, ◌<◌, ◌+◌, ◌∙◌, sym, ap, subst, map, take, List, ℕ, Bor, Vec}
use Rattle.std.proofs.Common.{Global}
use Rattle.std.proofs.Common.{length, arith}
use Rattle.std.specs.List.{AllZip}
use Rattle.std.proofs.lemmas.Result.{err_from_is_err_and}
use Rattle.mrc_answer.specs.MigTexts.{IsMigTextOf, IsNoMig}
use Rattle.mrc_answer.specs.declared.answers.MigText.{MigText}
use Rattle.mrc_answer.proofs.MigLaws.{named_more, text_more, first_no_text, first_of}
use Rattle.mrc_answer.proofs.mig_texts.mig_texts_of.Goals as goal

pub returns-in_err-mig_text-clause-first : goal.returns-in_err-mig_text-clause-first
returns-in_err-mig_text-clause-first c =
    let p = err_from_is_err_and c.from_residual.result c.from_residual.ensures.1 in
    let less : c.loop-place.place < length c.args.files.now = omega arith in
    let fewer : c.loop-place.place < length c.args.texts.now = omega arith in
    let text = c.as_slice.ensures.value
    ∙ ap (λ (text : Vec ℕ Global). text.items) c.index-texts-place.is in
    rw (p.1, p.2) (first_of c.args.received _ _ _ c.as_slice.result.now
    c.in_err-mig_text.field-0.0
    (λ named is none. first_no_text c.args.received c.args.files.now c.args.texts.now
    c.loop-place.mig_texts.items c.loop-place.place _ c.index-texts-place.result named less fewer
    c.loop-place.invariant.named c.loop-place.invariant.are is
    (subst (IsNoMig c.args.received) text none)) c.in_err-mig_text.ensures.file
    c.in_err-mig_text.ensures.none)

pub loop-place-preserved : goal.loop-place-preserved
loop-place-preserved c =
    let less : c.loop-place.place < length c.args.files.now = omega arith in
    let fewer : c.loop-place.place < length c.args.texts.now = omega arith in
    let text = c.as_slice.ensures.value
    ∙ ap (λ (text : Vec ℕ Global). text.items) c.index-texts-place.is in
    record {
      named = subst (λ (xs : List MigText). map (λ (mig_text : MigText). mig_text.file.now) xs
          ≡ map (λ (file : Bor (List ℕ)). file.now)
          (take (c.loop-place.place + 1) c.args.files.now))
          (sym c.in_ok-push.ensures.items)
          (named_more c.args.files.now c.loop-place.mig_texts.items c.loop-place.place _
          c.in_ok-mig_text.mig_text
          less c.loop-place.invariant.named c.in_ok-mig_text.ensures.named);
      are = subst (λ (xs : List MigText). AllZip (IsMigTextOf c.args.received)
          (map (λ (text : Vec ℕ Global). text.items)
          (take (c.loop-place.place + 1) c.args.texts.now)) xs) (sym c.in_ok-push.ensures.items)
          (text_more c.args.received c.args.texts.now c.loop-place.mig_texts.items c.loop-place.place
          c.index-texts-place.result c.in_ok-mig_text.mig_text fewer c.loop-place.invariant.are
          (subst (λ (text : List ℕ). IsMigTextOf c.args.received text c.in_ok-mig_text.mig_text) text
          c.in_ok-mig_text.ensures.is));
    }
