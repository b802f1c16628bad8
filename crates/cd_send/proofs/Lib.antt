pub mod Stays
pub mod WholeReads
