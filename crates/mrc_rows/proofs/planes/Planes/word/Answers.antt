use Rattle.mrc_rows.proofs.Groups.{three_words}
use Rattle.mrc_rows.proofs.planes.Planes.word.Goals as goal

pub returns : goal.returns
returns c = λ i low.
    rw (c.word_at.ensures.value, c.word_at-2.ensures.value, c.word_at-3.ensures.value)
    (three_words c.args.self.now c.args.k i low)
