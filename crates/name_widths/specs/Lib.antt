pub mod DeclaredWidths
