-- What a file that was written by hand tells of a table's nodes, and why it is refused for others.
use Rattle.std.specs.Prelude.{◌≡◌, ℕ, false, [], ◌∷◌, Some, None, codes}
use Rattle.bv_core.specs.declared.reference.Ref.TheVariants.{Node}
use Rattle.bv_core.specs.declared.reference.Binding.TheVariants.{Value, Unset}
use Rattle.bv_core.specs.declared.reference.Sample.{Sample}
use Rattle.bv_core.specs.declared.reference.Sample.TheVariants.{Known, Unknown}
use Rattle.symtab.specs.declared.parts.TableParts.{TableParts}
use Rattle.trace_core.specs.Samples.{Samples}
use Rattle.vcd_read.specs.Meaning.{Meaning}
use Rattle.vcd_read.specs.Examples.{told, var}
use Rattle.vcd_trace.specs.declared.fault.BindFault.TheVariants.{NoScope, MissingSignal, SizeDiffers}
use Rattle.vcd_trace.specs.Over.{samples_over}
use Rattle.vcd_trace.specs.Refused.{refusal}

-- a slot that is enabled by node 0, and names nodes 1 and 3 at this width; it does not name node 2, nor does anything
abbrev pub table_of : ℕ → TableParts
table_of width = record {
  top = codes "A";
  nodes = record { name = codes "en"; width = 1 } ∷ record { name = codes "d"; width = 8 } ∷ record { name = codes "_5"; width = 1 } ∷ record { name = codes "_4"; width = width } ∷ [];
  variants = record { «module» = codes "A"; gens = [] } ∷ [];
  instances = record { path = codes "A"; variant = 0 } ∷ [];
  slots =
      record {
        variant = 0;
        line = 10;
        gens = [];
        names = codes "d" ∷ codes "t" ∷ codes "u" ∷ [];
        rows = record { on = Node (record { 0 = 0 }) 1; cells = Value (Node (record { 0 = 1 }) 8) ∷ Value (Node (record { 0 = 3 }) width) ∷ Unset ∷ [] } ∷ [];
      }
      ∷ [];
}

abbrev pub known : ℕ → ℕ → Sample
known width number = Known (record { width = width; value = number })

abbrev pub samples : Samples
samples = samples_over told (table_of 8) (codes "tb.dut")

-- another file: a real and a second variable of a name, and a clock of two bits in another scope
abbrev pub named_twice : Meaning
named_twice = record {
  scopes = codes "a" ∷ codes "b" ∷ codes "c" ∷ [];
  vars =
      var (codes "a") (codes "clk") 0 1 ∷ record { scope = codes "a"; name = codes "en"; code = 1; size = 64; counted = false } ∷ var (codes "a") (codes "en") 2 1
      ∷ var (codes "a") (codes "en") 3 8 ∷ var (codes "a") (codes "d") 4 8 ∷ var (codes "b") (codes "clk") 5 2 ∷ [];
  changes = [];
}

-- nodes that are named have the values before the clock rises; others are not known, nor do they need a variable
pub record IsSeen : Type 0 where
  pub accepted : refusal told (table_of 8) (codes "tb.dut") ≡ None
  pub cycle_count : samples.cycles ≡ 2
  pub node_count : samples.nodes ≡ 4
  pub enable_first : samples.sample 0 0 ≡ Unknown
  pub enable_then : samples.sample 1 0 ≡ known 1 1
  pub data_then : samples.sample 1 1 ≡ known 8 5
  pub not_named : samples.sample 1 2 ≡ Unknown
  pub node_then : samples.sample 1 3 ≡ known 8 15

pub record IsRefusedFor : Type 0 where
  pub scope : refusal told (table_of 8) (codes "dut") ≡ Some NoScope
  pub clock : refusal told (table_of 8) (codes "tb") ≡ Some (MissingSignal (codes "clk"))
  pub size : refusal told (table_of 4) (codes "tb.dut") ≡ Some (SizeDiffers (codes "_4") 8 4)
  pub first_counts : refusal named_twice (table_of 8) (codes "a") ≡ Some (MissingSignal (codes "_4"))
  pub wide_clock : refusal named_twice (table_of 8) (codes "b") ≡ Some (SizeDiffers (codes "clk") 2 1)
  pub empty_scope : refusal named_twice (table_of 8) (codes "c") ≡ Some (MissingSignal (codes "clk"))
