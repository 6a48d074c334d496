-- Reading an expression and spelling one are the same.
use Rattle.std.proofs.Common.{[], map, refl, sym, ap, ◌∙◌}
use Rattle.std.proofs.lemmas.Option.{same_Some}
use Rattle.mrc_mig_tokens.specs.Sums.{Reading, nothing_read, value_of, sum_at}
use Rattle.mrc_mig_tokens.specs.SumGrammar.{ReadIsSpelled, SpelledIsRead, SpelledHasOneValue}
use Rattle.mrc_mig_tokens.specs.SumGrammar.{symbol_of}
use Rattle.mrc_mig_tokens.proofs.SumRuns.{wanting, behind, parted, value_after_run, value_at_stop}
use Rattle.mrc_mig_tokens.proofs.SumsRead.{reads}
use Rattle.mrc_mig_tokens.proofs.SumsSpelled.{spelled}

pub read_is_spelled : ReadIsSpelled
unfolding sum_at
read_is_spelled tokens n rest e =
    let p = parted tokens (wanting [] nothing_read) n rest e in
    record {
      written = p.written;
      splits = p.splits;
      spells = spelled (map symbol_of p.written) p.last n p.ran p.whole;
      stops = p.stops;
    }

pub spelled_is_read : SpelledIsRead
unfolding sum_at
spelled_is_read tokens n rest b =
    let (sum, valued, ran) = reads b.spells [] in
    ap (λ t. sum_at t) b.splits
    ∙ value_after_run b.written rest (wanting [] nothing_read) (behind [] sum) ran
    ∙ value_at_stop (behind [] sum) n rest
    (record { wants = refl; alone = refl; value = valued }) b.stops

pub spelled_has_one_value : SpelledHasOneValue
spelled_has_one_value symbols m n d e =
    let (sum, valued, ran) = reads d [] in
    let (other, worth, came) = reads e [] in
    let same = same_Some (behind [] sum) (behind [] other) (sym ran ∙ came) in
    sym valued ∙ ap (λ (u : Reading). value_of u.sum) same ∙ worth
