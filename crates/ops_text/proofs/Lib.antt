pub mod NamesLemmas
pub mod NumeralLemmas
pub mod FilesLemmas
pub mod OutputLemmas
