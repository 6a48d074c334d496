use Rattle.std.proofs.Common.{string_bytes, sym, ◌∙◌}
use Rattle.mrc_print.proofs.SilenceLaws.{names_so, none_told, texts_so, three_if, three_so}
use Rattle.mrc_print.proofs.notices.notices_text.Goals as goal

pub returns : goal.returns
returns c =
    let inside = c.notices.inside in
    let dropped = string_bytes c.in_ok-dropped.dropped in
    let notification = string_bytes c.in_ok-notification.notification in
    let empty = string_bytes c.in_ok-empty.empty in
    let named = string_bytes c.in_ok-named.named in
    let trusted = string_bytes c.in_ok-trusted.trusted in
    let besides = string_bytes c.in_ok-named-2.named in
    record {
      told = none_told _ c.args.answered.now.reply.notices dropped notification empty named trusted
          besides c.joined-2.result c.notices.view_is
          (names_so c.as_slice-left_out.result.now inside.left_out.items dropped
          c.as_slice-left_out.ensures.value c.in_ok-dropped.ensures.left_out)
          (λ none. sym c.as_slice.ensures.value ∙ c.in_ok-dropped.ensures.cut none)
          c.in_ok-notification.ensures c.in_ok-empty.ensures c.in_ok-named.ensures.plain
          c.in_ok-named.ensures.leaky c.in_ok-named.ensures.dead c.in_ok-named.ensures.expects
          c.in_ok-named.ensures.idle c.in_ok-named.ensures.unjudged
          (texts_so c.as_slice-2.result.now inside.trusted.items trusted
          c.as_slice-2.ensures.value c.in_ok-trusted.ensures)
          (three_so besides c.as_str.result.now c.as_str-2.result.now c.as_str-3.result.now empty
          named trusted c.in_ok-named-2.ensures c.as_str.ensures.value c.as_str-2.ensures.value
          c.as_str-3.ensures.value)
          (three_if c.as_str-4.result.now c.as_str-5.result.now c.as_str-6.result.now dropped
          notification besides c.joined-2.result c.joined-2.ensures c.as_str-4.ensures.value
          c.as_str-5.ensures.value c.as_str-6.ensures.value);
    }
