pub mod JobsLemmas
mod AnswersLemmas
