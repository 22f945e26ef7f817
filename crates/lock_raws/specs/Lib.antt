pub mod Downgrades
