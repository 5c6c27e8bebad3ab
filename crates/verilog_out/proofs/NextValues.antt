-- The next values by the numbers of their registers' nodes.
use Rattle.std.proofs.Common.{◌≡◌, ℕ, zero, suc, ◌+◌, ◌<◌, Bool, true, false, ◌==◌, List, [], ◌∷◌, length, Some, None, slice_get, if◌then◌else◌, refl, sym, ap, ◌∙◌, arith, true≢false}
use Rattle.net_core.specs.Nodes.{Shape, shape_at}
use Rattle.net_core.specs.Nets.{NetParts, NextsFit, next_node}
use Rattle.verilog_out.specs.Syntax.{Numbered}
use Rattle.verilog_out.specs.Spelling.{step_text}
use Rattle.verilog_out.specs.Printed.{identifier_at, is_register, stepped}
use Rattle.verilog_out.specs.Lines.{line_of}

beside : (b : Bool) (m next n : ℕ) → m < n → next < n → (if b then m else next) < n
beside true m next n h l = h
beside false m next n h l = l

all_below : (n : ℕ) → 0 < n → (nexts : List (ℕ × ℕ)) → ((k : ℕ) (pair : ℕ × ℕ) → slice_get nexts k ≡ Some pair → pair.1 < n) → (i : ℕ) → next_node nexts i < n
all_below n some [] h i = some
all_below n some (pair ∷ nexts) h i = beside (pair.0 == i) pair.1 (next_node nexts i) n (h zero pair refl) (all_below n some nexts (λ k p at. h (suc k) p at) i)

-- what stands beside a number is a node
pub next_within : (ns : List Shape) (nexts : List (ℕ × ℕ)) → NextsFit ns nexts → (i : ℕ) → i < length ns → next_node nexts i < length ns
next_within ns nexts fit i l = all_below (length ns) (omega arith) nexts (λ k pair at. (fit.registers k pair at).next) i

-- the line of a register
pub step_line : (net : NetParts) (i next : ℕ) → next ≡ next_node net.nexts i → is_register (shape_at net.nodes i) ≡ true
    → step_text (record { register = Numbered i; next = identifier_at net.nodes next }) ≡ line_of step_text (stepped net i)
step_line net i next e r =
    ap (λ n. step_text (record { register = Numbered i; next = identifier_at net.nodes n })) e
    ∙ ap (λ b. line_of step_text (if b then Some (record { register = Numbered i; next = identifier_at net.nodes (next_node net.nexts i) }) else None)) (sym r)
