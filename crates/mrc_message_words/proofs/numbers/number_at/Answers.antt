use Rattle.std.proofs.Common.{◌<◌, ◌-◌, length, arith, rules}
use Rattle.mrc_message_words.proofs.Counting.{has_room, read_step, read_bits}
use Rattle.mrc_message_words.proofs.numbers.number_at.Goals as goal

pub overflow_mul-number : goal.overflow_mul-number
overflow_mul-number c =
    let room = has_room _ c.loop-place.number (omega arith) c.loop-place.invariant.fits in
    omega arith

pub overflow_add-number : goal.overflow_add-number
overflow_add-number c =
    let room = has_room _ c.loop-place.number (omega arith) c.loop-place.invariant.fits in
    let byte = c.type_inv.bytes (c.loop-place.place - 1) in
    omega (arith, c.from.ensures)

pub loop-place-preserved : goal.loop-place-preserved
loop-place-preserved c =
    let byte : c.from.result < 256 = omega (arith, c.from.ensures, c.type_inv.bytes (c.loop-place.place - 1)) in
    record {
      within = omega arith;
      back = read_step c.args.bytes.now c.loop-place.place c.loop-place.number c.from.result
          (omega arith) c.loop-place.invariant.within (search rules) byte
          c.loop-place.invariant.back;
      fits = read_bits (length c.args.bytes.now) c.loop-place.place c.loop-place.number c.from.result
          (omega arith) c.loop-place.invariant.within byte c.loop-place.invariant.fits;
    }
