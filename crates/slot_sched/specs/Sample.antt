-- Searches over a table of three instances and two slots and a trace of three cycles, worked by hand. The top `T` has slot 1 in every
-- cycle. Its children `T.a` and `T.b` have slot 0: the one in every cycle, the other in cycle 1 alone, since its enable is 0 in cycle 0
-- and not known in cycle 2.
use Rattle.std.specs.Prelude.{◌≡◌, ℕ, [], ◌∷◌, Some, None, codes}
use Rattle.bv_core.specs.Value.{Bits}
use Rattle.bv_core.specs.declared.Ref.{Ref}
use Rattle.bv_core.specs.declared.Ref.TheVariants.{Node, Const}
use Rattle.bv_core.specs.declared.Binding.TheVariants.{Value}
use Rattle.bv_core.specs.declared.Sample.TheVariants.{Known, Unknown}
use Rattle.gen_tree.specs.declared.Op.TheVariants as op
use Rattle.gen_tree.specs.Tree.{plain, read, value, binary}
use Rattle.symtab.specs.declared.parts.TableParts.{TableParts}
use Rattle.trace_core.specs.Samples.{Samples}
use Rattle.trace_core.specs.Rows.{samples_of}
use Rattle.trace_core.specs.declared.scan.Way.TheVariants.{Forward, Backward}
use Rattle.trace_core.specs.declared.scan.Want.{Want}
use Rattle.trace_core.specs.declared.scan.Want.TheVariants.{Breakpoints, Step}
use Rattle.trace_core.specs.declared.scan.Way.{Way}
use Rattle.world_core.specs.Seen.{seen}
use Rattle.trace_world.specs.TraceWorld.{trace_world}
use Rattle.machine_core.specs.Matching.{Breakpoint}
use Rattle.machine_core.specs.declared.found.Found.{Found}
use Rattle.machine_core.specs.declared.found.Found.TheVariants as found
use Rattle.slot_sched.specs.Scan.{searched}

abbrev bits : ℕ → ℕ → Bits
bits width number = record { width = width; value = number }

abbrev node : ℕ → ℕ → Ref
node id width = Node (record { 0 = id }) width

abbrev always : Ref
always = Const (bits 1 1)

-- nodes 0 and 1 are `n` and `e`
abbrev table_f : TableParts
table_f = record {
  top = codes "T";
  nodes = record { name = codes "n"; width = 8 } ∷ record { name = codes "e"; width = 1 } ∷ [];
  variants = record { «module» = codes "Top"; gens = [] } ∷ record { «module» = codes "Leaf"; gens = [] } ∷ [];
  instances = record { path = codes "T"; variant = 0 } ∷ record { path = codes "T.a"; variant = 1 } ∷ record { path = codes "T.b"; variant = 1 } ∷ [];
  slots =
      record {
        variant = 1;
        line = 4;
        gens = [];
        names = codes "x" ∷ [];
        rows = record { on = always; cells = Value (node 0 8) ∷ [] } ∷ record { on = node 1 1; cells = Value (node 0 8) ∷ [] } ∷ [];
      }
      ∷ record { variant = 0; line = 9; gens = []; names = []; rows = record { on = always; cells = [] } ∷ [] }
      ∷ [];
}

abbrev samples_f : Samples
samples_f = samples_of ((Known (bits 8 7) ∷ Known (bits 1 0) ∷ []) ∷ (Unknown ∷ Known (bits 1 1) ∷ []) ∷ (Known (bits 8 9) ∷ Unknown ∷ []) ∷ []) 2

-- `(x == 8'd9)` at slot 0
abbrev where_x_is_9 : Breakpoint
where_x_is_9 = record {
  number = 1;
  slots = 0 ∷ [];
  instance = None;
  condition = Some (binary op.Eq (read (record { name = codes "x"; index = None })) (value (plain 8 9)));
}

abbrev searched_f : Want → Way → ℕ → Found
searched_f want way place = searched (seen (trace_world table_f samples_f)) (where_x_is_9 ∷ []) want way place

-- position 4 is slot 0 in cycle 2, the only one where `x` is known and 9; place 5 is there, and place 7 is the end
pub record SampleIsSearched : Type 0 where
  pub next : searched_f Breakpoints Forward 0 ≡ found.At 4
  pub last : searched_f Breakpoints Backward 7 ≡ found.At 4
  pub none_before : searched_f Breakpoints Backward 5 ≡ found.Edge
  pub none_behind : searched_f Breakpoints Forward 5 ≡ found.Edge
  pub step : searched_f (Step None) Forward 3 ≡ found.At 3
  pub step_of_b : searched_f (Step (Some 2)) Forward 0 ≡ found.At 2
  pub back_to_b : searched_f (Step (Some 2)) Backward 7 ≡ found.At 2
  pub no_b_behind : searched_f (Step (Some 2)) Forward 3 ≡ found.Edge
