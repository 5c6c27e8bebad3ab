-- What readers return.
use Rattle.std.specs.Prelude.{◌≡◌, ℕ, List, Result, Ok, Err}
use Rattle.std.specs.Borrow.{Bor}
use Rattle.gen_token.specs.declared.Placed.{Placed}
use Rattle.gen_token.specs.Words.{Tok, placed}
use Rattle.gen_token.specs.declared.TokenFault.{TokenFault}
use Rattle.gen_token.specs.declared.TokenFault.TheVariants as token_faults
use Rattle.gen_text.specs.declared.fault.TextFault.{TextFault}
use Rattle.gen_text.specs.declared.fault.TextFault.TheVariants as text_faults
use Rattle.gen_text.specs.declared.fault.ReadFault.{ReadFault}
use Rattle.gen_text.specs.declared.fault.ReadFault.TheVariants as faults

-- this fault of a reader says where reading stops, unless memory ran out
abbrev pub Fails : {Y : Type 0} → ReadFault → Result Y ℕ → Type 0
Fails (faults.At left) reading = reading ≡ Err left
Fails faults.NoMemory reading = Unit {0}

-- what a reader returned, seen by view, is what is read, unless memory ran out
abbrev pub Gives : {X Y : Type 0} → (X → Y) → Result X ReadFault → Result Y ℕ → Type 0
Gives view (Ok x) reading = reading ≡ Ok (view x)
Gives view (Err fault) reading = Fails fault reading

-- a value, seen by view, and the tokens behind it, without where they lie in memory
abbrev pub with_rest : {X Y : Type 0} → (X → Y) → X × Bor (List Placed) → Y × List Tok
with_rest view found = (view found.0, placed found.1.now)

-- a fault of tokens is the same fault of the text
abbrev pub text_fault_of : TokenFault → TextFault
text_fault_of (token_faults.BadToken line) = text_faults.BadToken line
text_fault_of token_faults.NoMemory = text_faults.NoMemory
