use Rattle.mrc_desc.proofs.Descriptors.{sized}
use Rattle.mrc_desc.proofs.argument.Desc.argument_size.Goals as goal

pub returns : goal.returns
returns c = λ a lawful is.
    sized c.args.self a lawful is _ _ _ c.data_len-len.ensures c.written_size.ensures
    c.padding_len.ensures
