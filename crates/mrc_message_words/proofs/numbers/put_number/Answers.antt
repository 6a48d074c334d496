use Rattle.std.proofs.Common.{refl}
use Rattle.mrc_message_words.proofs.Counting.{put_step}
use Rattle.mrc_message_words.proofs.numbers.put_number.Goals as goal

pub loop-preserved : goal.loop-preserved
loop-preserved c =
    rw c.in_ok-push.ensures.items
    (put_step c.loop.out.items _ c.args.width c.loop.counter c.loop.rest _ c.loop-test.true
    refl c.loop.invariant)
