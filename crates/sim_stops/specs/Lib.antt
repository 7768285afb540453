pub mod CrashChoices
pub mod Promised
pub mod Runs
pub mod Tried
pub mod WantedFiles
