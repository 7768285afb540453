mod Sides
mod Stages
mod ChangesLemmas
