pub mod WidthMaps
