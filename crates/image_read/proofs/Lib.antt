mod LoggedImageLemmas
pub mod ImageCountsLemmas
pub mod PartsLemmas
pub mod FilesLemmas
pub mod CountsLemmas
pub mod LawsLemmas
