-- The last line feed, if there is one.
use Rattle.std.proofs.Common.{◌∙◌, arith}
use Rattle.mrc_place.proofs.LineLemmas.{no_feed, feed_before}
use Rattle.mrc_place.proofs.lines.after_feed.Goals as goal

pub returns-in-Some : goal.returns-in-Some
returns-in-Some c =
    let parts = c.in-Some.ensures.cases in
    parts.4 ∙ feed_before c.args.text.now parts.0 parts.1 parts.2 parts.5 (omega (arith, parts.7))

pub returns-in-None : goal.returns-in-None
returns-in-None c = no_feed c.args.text.now c.in-None.ensures.cases
