pub mod RowsLaw
