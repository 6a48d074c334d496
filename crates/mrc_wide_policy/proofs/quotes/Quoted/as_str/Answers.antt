-- What the library's test for UTF-8 says.
use Rattle.std.proofs.Common.{◌≡◌, ◌∙◌, ap, sym, cond, Bool, Some, None, List, ℕ}
use Rattle.std.specs.Str.{is_utf8}
use Rattle.std.proofs.lemmas.Bool.{false_from_ne_true}
use Rattle.std.proofs.lemmas.Str.{IsUtf8-from_is_utf8, is_utf8-from_IsUtf8}
use Rattle.mrc_wide_policy.specs.Quotes.{as_text}
use Rattle.mrc_wide_policy.proofs.quotes.Quoted.as_str.Goals as goal

tested : (bytes own : List ℕ) (b : Bool)
    → bytes ≡ own
    → is_utf8 bytes ≡ b
    → cond b (Some own) None ≡ as_text own
tested bytes own b is test =
    ap (λ (c : Bool). cond c (Some own) None) (sym test ∙ ap is_utf8 is)

pub returns-in-Ok : goal.returns-in-Ok
returns-in-Ok c =
    let is = c.as_bytes.ensures.exact in
    let text = c.in-Ok.ensures.cases.0 in
    ap (λ (t : List ℕ). Some t) (text ∙ is)
    ∙ tested c.as_bytes.result.now c.args.self.now _ is
    (is_utf8-from_IsUtf8 c.as_bytes.result.now c.in-Ok.ensures.cases.1)

pub returns-in-Err : goal.returns-in-Err
returns-in-Err c =
    tested c.as_bytes.result.now c.args.self.now _ c.as_bytes.ensures.exact
    (false_from_ne_true (is_utf8 c.as_bytes.result.now)
    (λ e. c.in-Err.ensures.cases.0 (IsUtf8-from_is_utf8 c.as_bytes.result.now e)))
