use Rattle.std.proofs.Common.{◌≡◌, Ok, Err, ◌∙◌, ap}
use Rattle.mrc_mig_lex.specs.Lexing.{tokens_of}
use Rattle.mrc_mig_symbols.proofs.MarkLemmas.{token_again}
use Rattle.mrc_mig_symbols.proofs.tokens.Tokens.token.Goals as goal

pub returns-in-Ok : goal.returns-in-Ok
returns-in-Ok c =
    let read : tokens_of c.self.inside.text.now ≡ Ok c.args.self.now =
    c.self.invariant.read ∙ ap Ok c.self.view_is in
    let again = token_again c.self.inside.text.now c.args.self.now c.args.number c.in_ok-mark.mark
    (Ok c.in-Ok.token) read c.in_ok-mark.ensures c.in-Ok.ensures.exact in
    cc

pub returns-in-Err : goal.returns-in-Err
returns-in-Err c =
    let read : tokens_of c.self.inside.text.now ≡ Ok c.args.self.now =
    c.self.invariant.read ∙ ap Ok c.self.view_is in
    let again = token_again c.self.inside.text.now c.args.self.now c.args.number c.in_ok-mark.mark
    (Err c.in-Err.field-0) read c.in_ok-mark.ensures c.in-Err.ensures.exact in
    cc
