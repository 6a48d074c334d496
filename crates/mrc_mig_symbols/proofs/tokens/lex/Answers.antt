use Rattle.std.proofs.Common.{Ok}
use Rattle.std.specs.Prelude.{All}
use Rattle.mrc_base.proofs.Steps.{gives_ok, gives_same}
use Rattle.mrc_mig_lex.specs.Tokens.{IsSliceOf, AreInOrder}
use Rattle.mrc_mig_lex.specs.Lexing.{tokens_of}
use Rattle.mrc_mig_lex.specs.Parts.{HasTokens}
use Rattle.mrc_mig_lex.proofs.SpanLaws.{slices_of, order_of}
use Rattle.mrc_mig_lex.proofs.PartLaws.{has_tokens, only_tokens}
use Rattle.mrc_mig_symbols.proofs.tokens.lex.Goals as goal

pub returns-clause-found : goal.returns-clause-found
returns-clause-found c =
    let text = c.args.text.now in
    gives_ok (HasTokens text) (λ tokens. tokens) c.tokens_of.result (tokens_of text)
    (has_tokens text)
    c.tokens_of.ensures

pub returns-clause-only : goal.returns-clause-only
returns-clause-only c = λ tokens has.
    let text = c.args.text.now in
    gives_same (λ found. found) c.tokens_of.result (tokens_of text) (Ok tokens)
    (only_tokens text tokens has)
    c.tokens_of.ensures

pub returns-clause-slices : goal.returns-clause-slices
returns-clause-slices c =
    let text = c.args.text.now in
    gives_ok (All (IsSliceOf text)) (λ tokens. tokens) c.tokens_of.result (tokens_of text)
    (slices_of text)
    c.tokens_of.ensures

pub returns-clause-in_order : goal.returns-clause-in_order
returns-clause-in_order c =
    let text = c.args.text.now in
    gives_ok AreInOrder (λ tokens. tokens) c.tokens_of.result (tokens_of text)
    (order_of text)
    c.tokens_of.ensures
