pub mod Laws
pub mod KeptTables
pub mod Sample
