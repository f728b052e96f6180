use Rattle.ct_ore.proofs.ProductsWithin.{product_within}
use Rattle.ct_ore.proofs.laws.products_are_within_measures.Goals as goal

pub returns : goal.returns
returns c = record {
  count = λ a p q. (product_within a p q).few;
  norm = λ a p q. (product_within a p q).small;
  degree = λ a p q. (product_within a p q).degrees;
  order = λ a p q. (product_within a p q).orders;
}
