mod FileLemmas
mod StoredLemmas
mod SideLemmas
