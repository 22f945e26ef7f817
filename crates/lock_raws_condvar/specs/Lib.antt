pub mod Condvars
