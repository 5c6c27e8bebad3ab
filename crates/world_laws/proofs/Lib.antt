pub mod SitesOf
pub mod RowsFit
pub mod Spots
pub mod Valued
