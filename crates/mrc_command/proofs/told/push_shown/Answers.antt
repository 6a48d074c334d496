use Rattle.std.proofs.Common.{◌+◌, ◌++◌, ◌∙◌, ap, arith, string_bytes, string_len}
use Rattle.std.proofs.lemmas.Iterator.{YieldsList-from_chars}
use Rattle.std.proofs.lemmas.Iterator.Consumers.{YieldsList-turn, YieldsList-end}
use Rattle.std.specs.Prelude.{length}
use Rattle.std.specs.Str.{chars}
use Rattle.mrc_command.proofs.Escapes.{all_shown, bytes_grow, len_grows, next_fits}
use Rattle.mrc_command.proofs.told.push_shown.Goals as goal

pub loop-c-preserved : goal.loop-c-preserved
loop-c-preserved c =
    let turn = YieldsList-turn (YieldsList-from_chars c.args.name.now c.utf8.name cc)
    c.loop-c.yielded _ c.loop-c.yielded_by _ _ c.in-Some.c c.in-Some.is c.next.ensures.steps in (
      bytes_grow _ _ _ (chars c.args.name.now) c.loop-c.yielded c.in-Some.c turn
          c.loop-c.invariant.0 c.in_ok-push_char.ensures.ok,
      len_grows _ _ _ (chars c.args.name.now) c.loop-c.yielded c.in-Some.c turn
          c.loop-c.invariant.1 c.in_ok-push_char.ensures.len,
      omega (arith, c.loop-c.invariant.2, c.push_char.ensures.room),
    )

pub returns-in_err-push_char-clause-succeeds : goal.returns-in_err-push_char-clause-succeeds
returns-in_err-push_char-clause-succeeds c = λ fits.
    let turn = YieldsList-turn (YieldsList-from_chars c.args.name.now c.utf8.name cc)
    c.loop-c.yielded _ c.loop-c.yielded_by _ _ c.in-Some.c c.in-Some.is c.next.ensures.steps in
    let no = c.in_err-push_char.ensures.succeeds
    (next_fits _ _ _ _ (chars c.args.name.now) c.loop-c.yielded c.in-Some.c turn
    c.loop-c.invariant.1 fits c.loop-c.invariant.2) in
    cc

pub returns-clause-ok : goal.returns-clause-ok
returns-clause-ok c =
    let end = YieldsList-end (YieldsList-from_chars c.args.name.now c.utf8.name cc)
    c.loop-c.yielded _ c.loop-c.yielded_by _ _ c.in-None.is c.next.ensures.steps in
    c.loop-c.invariant.0 ∙ ap (λ x. string_bytes c.args.text.now ++ x)
    (all_shown (chars c.args.name.now) c.loop-c.yielded end.1)

pub returns-clause-len : goal.returns-clause-len
returns-clause-len c =
    let end = YieldsList-end (YieldsList-from_chars c.args.name.now c.utf8.name cc)
    c.loop-c.yielded _ c.loop-c.yielded_by _ _ c.in-None.is c.next.ensures.steps in
    c.loop-c.invariant.1 ∙ ap (λ x. string_len c.args.text.now + length x)
    (all_shown (chars c.args.name.now) c.loop-c.yielded end.1)
