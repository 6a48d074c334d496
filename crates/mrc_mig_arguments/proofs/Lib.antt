pub mod CountLemmas
pub mod OptionPhrases
pub mod ArgumentPhrases
