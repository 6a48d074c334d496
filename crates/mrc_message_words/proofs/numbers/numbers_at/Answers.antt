use Rattle.std.proofs.Common.{take, ◌≡◌, ◌<◌, ◌*◌, ◌^◌, ◌++◌, ◌∷◌, [], ℕ, length, arith, sym, ap, ◌∙◌, length-append, subst, List}
use Rattle.std.proofs.lemmas.List.{take-append-drop}
use Rattle.mrc_message_words.specs.Values.{number_bytes}
use Rattle.mrc_message_words.proofs.Counting.{all_more, item_step, left_step}
use Rattle.mrc_message_words.proofs.numbers.numbers_at.Goals as goal

pub loop-preserved : goal.loop-preserved
loop-preserved c =
    let e = c.in_ok-push.ensures.items in
    let width : length c.split_at.result.0.now ≡ c.args.width = c.split_at.ensures.front_len in
    let back : number_bytes c.args.width c.number_at.result ≡ c.split_at.result.0.now =
    ap (λ n. number_bytes n c.number_at.result) (sym width) ∙ c.number_at.ensures.back in
    let fits : c.number_at.result < 2 ^ (8 * c.args.width) =
    subst (λ (n : ℕ). c.number_at.result < 2 ^ (8 * n)) width c.number_at.ensures.fits in
    let parts : c.split_at.result.0.now ++ c.split_at.result.1.now ≡ c.loop.rest.now =
    ap (λ (xs : List ℕ). xs ++ c.split_at.result.1.now) c.split_at.ensures.front
    ∙ ap (λ (xs : List ℕ). take c.args.width c.loop.rest.now ++ xs) c.split_at.ensures.back
    ∙ take-append-drop c.args.width c.loop.rest.now in
    record {
      count = rw e (omega (arith, length-append c.loop.numbers.items (c.number_at.result ∷ []), c.loop.invariant.count));
      back = rw e
          (item_step c.args.bytes.now c.split_at.result.0.now c.split_at.result.1.now c.loop.rest.now
          c.loop.numbers.items c.args.width c.number_at.result c.loop.invariant.back parts back);
      left = left_step c.args.count c.loop.counter c.args.width (length c.loop.rest.now)
          (length c.split_at.result.1.now) c.loop-test.true c.loop.invariant.left
          c.split_at.ensures.back_len;
      fits = rw e (all_more (λ (number : ℕ). number < 2 ^ (8 * c.args.width)) c.loop.numbers.items c.number_at.result c.loop.invariant.fits fits);
    }
