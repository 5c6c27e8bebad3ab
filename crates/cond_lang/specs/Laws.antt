-- Laws of conditions.
use Rattle.std.specs.Prelude.{◌≡◌, ℕ, List, [], Some, Ok, Err, get_or}
use Rattle.list_core.specs.Lists.{EachOf}
use Rattle.gen_token.specs.Words.{Tok}
use Rattle.gen_tree.specs.declared.Dialect.TheVariants as dialect
use Rattle.gen_tree.specs.Grammar.{SpellsExpr}
use Rattle.gen_tree.specs.Tree.{Expr}
use Rattle.cond_lang.specs.Names.{Name}
use Rattle.cond_lang.specs.Meaning.{tree_of, leaves}
use Rattle.cond_lang.specs.Judged.{Scope, shown, misfit, status_width, judged}
use Rattle.cond_lang.specs.Reading.{Reads, IsPlace}
use Rattle.cond_lang.specs.Typed.{HasWidth, parts_from, IsFirstMisfit, IsSpelledAt}

-- a text is read as one expression at most, with one list of offsets; and where it is read there is no place at which it stops
pub record HasOneAnswer (text : List ℕ) : Type 0 where
  pub one_reading : (first second : Expr) (offsets others : List ℕ) → Reads text first offsets → Reads text second others → (first ≡ second) × (offsets ≡ others)
  pub no_place : (e : Expr) (offsets : List ℕ) (offset : ℕ) → Reads text e offsets → IsPlace text offset → ⊥

-- ---- widths

-- a name has a value
abbrev pub HasValue : Scope → Name → Type 0
HasValue scope x = (w : ℕ) × (scope x ≡ Some (shown w))

abbrev pub width_by : Scope → Name → ℕ
width_by scope x = status_width (scope x)

-- an expression whose names have values is judged to have a width exactly where it has one, so it is never refused for its width; and
-- where it is, the offset is that of the first token of the first part that has none, and all that is judged before that part have one
pub record HasToldWidth (scope : Scope) (e : Expr) (offsets : List ℕ) : Type 0 where
  pub typed : (w : ℕ) → EachOf (HasValue scope) (leaves (tree_of e)) → HasWidth (width_by scope) e w → judged scope e offsets ≡ Ok w
  pub fits : (w : ℕ) → judged scope e offsets ≡ Ok w → EachOf (HasValue scope) (leaves (tree_of e)) × HasWidth (width_by scope) e w
  pub misfits : (offset : ℕ) → judged scope e offsets ≡ Err (misfit offset)
      → EachOf (HasValue scope) (leaves (tree_of e)) × ((begin : ℕ) × (IsFirstMisfit (width_by scope) (parts_from 0 e) begin × (offset ≡ get_or offsets begin 0)))

-- the numbers of the parts are those of the tokens at which they are spelled
abbrev pub PartsAreSpelled : Type 0
PartsAreSpelled = (tokens : List Tok) (e : Expr) → SpellsExpr dialect.Condition e tokens [] → EachOf (IsSpelledAt tokens) (parts_from 0 e)
