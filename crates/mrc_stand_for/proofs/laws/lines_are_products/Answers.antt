-- Proved of the definitions.
use Rattle.mrc_stand_for.proofs.ProductLemmas.{births_are_of_each_task, replies_are_of_each_task}
use Rattle.mrc_stand_for.proofs.ProductLemmas.{kinds_count_up, onces_are_products}
use Rattle.mrc_stand_for.proofs.ProductLemmas.{admits_are_products, trusts_are_products}
use Rattle.mrc_stand_for.proofs.ProductLemmas.{nones_are_products}
use Rattle.mrc_stand_for.proofs.laws.lines_are_products.Goals as goal

pub returns : goal.returns
returns c = record {
  births = births_are_of_each_task;
  replies = replies_are_of_each_task;
  kinds = kinds_count_up;
  onces = onces_are_products;
  admits = admits_are_products;
  trusts = trusts_are_products;
  nones = nones_are_products;
}
