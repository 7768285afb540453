mod Connections
mod Crossing
