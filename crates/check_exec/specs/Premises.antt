-- What the checks give for the execution of a design: each premise of the theorem on runs as a law of its own.
use Rattle.std.specs.Prelude.{◌≡◌, ℕ, true, List, length, None}
use Rattle.bv_core.specs.Value.{Bits}
use Rattle.exec_core.specs.Block.{Name, Now}
use Rattle.list_core.specs.Lists.{EachOf, AreApart}
use Rattle.exec_core.specs.Design.{driver_of, signals_of, width_in}
use Rattle.exec_core.specs.Paths.{BodySkips, SomeBit, Checked}
use Rattle.exec_core.specs.Whole.{Place, IsOrder}
use Rattle.exec_core.specs.Run.{IsTarget, slots_in}
use Rattle.exec_core.specs.Accepted.{Accepted, source_count, LinkFits, GivenFits, OriginsApart}
use Rattle.exec_core.specs.States.{RowFits, RunAgrees}
use Rattle.design_core.specs.Design.{Design}
use Rattle.design_core.specs.WellFormed.{IsDesign}
use Rattle.design_exec.specs.Processes.{processes_of}
use Rattle.check_core.specs.Verdict.{verdict}

-- a well-formed design that no check refuses
pub record IsSound (d : Design) : Type 0 where
  pub kept : IsDesign d
  pub accepted : verdict d ≡ None

-- no two statements of an instance have one slot
abbrev pub SlotsAreApart : Type 0
SlotsAreApart = (d : Design) → IsDesign d → (i : ℕ) → AreApart (slots_in (processes_of d) i)

-- no path of a block leaves a target unassigned
abbrev pub NoLatchIsLeft : Type 0
NoLatchIsLeft =
    (d : Design) → IsSound d → EachOf (λ b. (x : Name) → IsTarget (processes_of d) b x → SomeBit (width_in (processes_of d) b x) (BodySkips b.body (Now x)) → ⊥) (processes_of d).processes

-- what is given is a signal; the inputs of the top have widths from 1 to 128, and a register starts with a value of its width
abbrev pub GivensFit : Type 0
GivensFit = (d : Design) → IsSound d → EachOf (GivenFits (processes_of d)) (processes_of d).givens

-- no two that are given have one origin
abbrev pub GivensAreApart : Type 0
GivensAreApart = (d : Design) → IsSound d → OriginsApart (processes_of d).givens

-- names that are read are known, widths agree, and no own name of a block is read before it is written
abbrev pub BlocksAreChecked : Type 0
BlocksAreChecked =
    (d : Design) → IsSound d
    → EachOf (λ b. Checked (signals_of (processes_of d) b) (width_in (processes_of d) b) b.body) (processes_of d).processes

-- each link goes to a signal, from an expression over signals whose widths go together, of the width of that signal
abbrev pub LinksFit : Type 0
LinksFit = (d : Design) → IsSound d → EachOf (LinkFits (processes_of d)) (processes_of d).links

-- no signal is undriven, no input unbound, and none has two drivers: each has one link, block or given value for a source
abbrev pub OneSource : Type 0
OneSource = (d : Design) → IsSound d → (p : Place) → (processes_of d).is_signal p ≡ true → source_count (processes_of d) p ≡ 1

-- an accepted design, with an order of its driven signals, meets the premises of the theorem on runs
abbrev pub AcceptedIsReady : Type 0
AcceptedIsReady =
    (d : Design) → IsSound d → (order : List Place) → IsOrder (processes_of d).is_signal (driver_of (processes_of d)) order → Accepted (processes_of d) order

-- so its runs agree with its folded whole trees: for rows of the inputs of the top there is one run, and in each cycle the enables and
-- trees of its slots tell what execution does
abbrev pub RunsOfAcceptedAgree : Type 0
RunsOfAcceptedAgree =
    (d : Design) → IsSound d → (order : List Place) → IsOrder (processes_of d).is_signal (driver_of (processes_of d)) order
    → (rows : List (Name → Bits)) → EachOf (RowFits (processes_of d)) rows → RunAgrees (processes_of d) (length order) rows
