-- What a simulated trace keeps.
use Rattle.std.specs.Prelude.{◌≡◌, ℕ, zero, suc, ◌+◌, ◌-◌, ◌*◌, ◌<◌, ◌≤◌, List, map, length, Option, Some, None, All}
use Rattle.std.specs.Option.{ForSome}
use Rattle.bv_core.specs.Value.{Bits}
use Rattle.design_core.specs.declared.Ports.{Ports}
use Rattle.net_core.specs.Nets.{NetParts, IsNet}
use Rattle.stim_text.specs.Stimulus.{Stimulus, IsStimulus}
use Rattle.sim_core.specs.Steps.{bits_at}
use Rattle.sim_core.specs.State.{Simulated, one_more}
use Rattle.sim_hist.specs.Run.{row_inputs, inputs_in, registers_in}
use Rattle.sim_hist.specs.Recalled.{Recalled, AreRecalled}

-- the columns of a net's inputs: what stands there in a row is what the inputs have in it
pub record ArePicked (net : NetParts) (ports : Ports) (columns : List ℕ) : Type 0 where
  pub within : All (λ column. column < length ports.inputs) columns
  pub picks : (row : List Bits) → length row ≡ length ports.inputs → map (bits_at row) columns ≡ row_inputs net ports row

-- a simulator in a cycle
pub record IsAt (m : Simulated) (s : Stimulus) (t : ℕ) : Type 0 where
  pub cycle : t < length s.rows
  pub registers_then : m.registers ≡ registers_in m.net s t
  pub settled_then : m.settled ≡ Some (inputs_in m.net s t)

-- the simulator is in the cycle of the cursor, which is set where there is a cycle, and each block up to that was entered
pub record Stands (m : Simulated) (s : Stimulus) (h : Recalled) (cursor : Option ℕ) : Type 0 where
  pub placed : ForSome cursor (IsAt m s)
  pub entered : ForSome cursor (λ t. t < 256 * length h.firsts)
  pub some : cursor ≡ None → length s.rows ≡ 0

-- what a trace keeps
pub record IsTrace (m : Simulated) (s : Stimulus) (columns : List ℕ) (h : Recalled) (cursor : Option ℕ) : Type 0 where
  pub is_net : IsNet m.net
  pub is_stimulus : IsStimulus s
  pub picked : ArePicked m.net s.ports columns
  pub recalled : AreRecalled m.net s h
  pub stands : Stands m s h cursor

-- ---- what a seek costs

-- the number of settles after so many more: each is one more, up to the greatest number of 64 bits
abbrev pub more : ℕ → ℕ → ℕ
more zero before = before
more (suc n) before = one_more (more n before)

-- how often a seek may settle the net of a trace of so many cycles, from where the cursor stands: not at all beyond the last cycle, at
-- most 256 times to an earlier one, and to a later one not more often than cycles lie between
pub record Costs (cycles : ℕ) (cursor : Option ℕ) (t n : ℕ) : Type 0 where
  pub beyond : cycles ≤ t → n ≡ 0
  pub back : ForSome cursor (λ c. t < c → n ≤ 256)
  pub ahead : ForSome cursor (λ c. c ≤ t → n ≤ t - c)

-- a seek settled it so often
pub record IsSought (cycles : ℕ) (cursor : Option ℕ) (t before after : ℕ) : Type 0 where
  pub settled : ℕ
  pub counted : after ≡ more settled before
  pub costs : Costs cycles cursor t settled

-- and so many steps were counted
pub record IsSoughtIn (cycles : ℕ) (cursor : Option ℕ) (t before after steps_before steps_after : ℕ) : Type 0 where
  pub sought : IsSought cycles cursor t before after
  pub steps : steps_after ≡ steps_before + sought.settled
