-- What is around a type, from the inside out.
use Rattle.std.proofs.Common.{◌≡◌, List, [], ◌∷◌, ◌++◌, refl, ap}
use Rattle.mrc_mig_types.specs.declared.layers.Layer.{Layer}
use Rattle.mrc_mig_types.specs.declared.meaning.Meaning.{Meaning}
use Rattle.mrc_mig_types.specs.Meanings.{layer_of, within}

-- the innermost is the last
pub innermost : (around : List Layer) (layer : Layer) (found : Meaning)
    → within (around ++ layer ∷ []) found ≡ within around (layer_of layer found)
innermost [] layer found = refl
innermost (first ∷ around) layer found = ap (layer_of first) (innermost around layer found)
