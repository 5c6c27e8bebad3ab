-- How texts are read as conditions.
use Rattle.std.specs.Prelude.{ℕ, List}
use Rattle.gen_tree.specs.Tree.{Expr}
use Rattle.cond_lang.specs.Reading.{Reads, IsFirstPlace}

-- a text is a condition: this expression, whose tokens have these offsets; or it is none, from this offset on
pub data Reading : Type 0 where
  Condition : (expr : Expr) → (offsets : List ℕ) → Reading
  NoCondition : (offset : ℕ) → Reading

-- a text is read so
abbrev pub IsReading : List ℕ → Reading → Type 0
IsReading text (Condition e offsets) = Reads text e offsets
IsReading text (NoCondition offset) = IsFirstPlace text offset

-- the reading of each text
abbrev pub Reader : Type 0
Reader = List ℕ → Reading

abbrev pub IsReader : Reader → Type 0
IsReader read = (text : List ℕ) → IsReading text (read text)
