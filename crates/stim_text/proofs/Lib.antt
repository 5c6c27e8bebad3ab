mod LineLemmas
mod FieldLemmas
mod Widths
mod RowLemmas
mod RowLists
