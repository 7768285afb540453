pub mod LookupFound
