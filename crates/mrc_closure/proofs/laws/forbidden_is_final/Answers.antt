use Rattle.mrc_closure.proofs.laws.forbidden_is_final.Goals as goal

-- each fact of the least set is in each closed one
pub returns : goal.returns
returns c = λ W policy least set line is among held yes.
    yes.allowed line among (is.least _ held set yes.closed)
