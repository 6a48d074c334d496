use Rattle.mrc_answer.proofs.graph.found_of.Goals as goal

pub returns-in-Some : goal.returns-in-Some
returns-in-Some c = rw c.in-Some.is (c.chain_found.ensures c.args.texts.now.certificate)
