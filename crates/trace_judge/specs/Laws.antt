-- The lines of refusals, on samples; and that a text has one judgement.
use Rattle.std.specs.Prelude.{◌≡◌, ℕ, List, Result, codes}
use Rattle.symtab.specs.declared.parts.TableParts.{TableParts}
use Rattle.symtab_json.specs.declared.fault.Part.TheVariants as part
use Rattle.symtab_json.specs.declared.fault.TableFault.TheVariants as table_faults
use Rattle.vcd_read.specs.declared.fault.VcdFault.TheVariants as vcd_faults
use Rattle.vcd_trace.specs.declared.fault.BindFault.TheVariants as bind_faults
use Rattle.vcd_trace.specs.Kept.{Replayed}
use Rattle.trace_judge.specs.declared.trace_fault.TraceFault.{TraceFault}
use Rattle.trace_judge.specs.declared.trace_fault.TraceFault.TheVariants.{Vcd, Bind}
use Rattle.trace_judge.specs.Refusals.{table_line, trace_line}
use Rattle.trace_judge.specs.Judgement.{JudgesTraceText, shown}

pub record LinesAreSo : Type 0 where
  pub no_json : table_line table_faults.NotJson ≡ codes "table fault 1 NotJson\n"
  pub path : table_line (table_faults.BadShape part.Version) ≡ codes "table fault 2 BadShape path version\n"
  pub whole : table_line (table_faults.BadShape part.Whole) ≡ codes "table fault 2 BadShape path \n"
  pub reference : table_line (table_faults.BadReference 9 6) ≡ codes "table fault 3 BadReference id 9 size 6\n"
  pub version : table_line (table_faults.Version 3) ≡ codes "table fault 4 Version found 3\n"
  pub long_table : table_line table_faults.TooLong ≡ codes "table fault 5 TooLong\n"
  pub long : trace_line (Vcd vcd_faults.TooLong) ≡ codes "vcd fault 1 TooLong\n"
  pub word : trace_line (Vcd (vcd_faults.BadWord 0)) ≡ codes "vcd fault 2 BadWord offset 0\n"
  pub cut : trace_line (Vcd vcd_faults.CutShort) ≡ codes "vcd fault 3 CutShort\n"
  pub code : trace_line (Vcd (vcd_faults.UnknownCode 22)) ≡ codes "vcd fault 4 UnknownCode offset 22\n"
  pub wide : trace_line (Vcd (vcd_faults.TooWide 42 9 8)) ≡ codes "vcd fault 5 TooWide offset 42 digits 9 size 8\n"
  pub back : trace_line (Vcd (vcd_faults.TimeBack 24 5 4)) ≡ codes "vcd fault 6 TimeBack offset 24 old 5 new 4\n"
  pub no_end : trace_line (Vcd vcd_faults.NoEndDefinitions) ≡ codes "vcd fault 7 NoEndDefinitions\n"
  pub scope : trace_line (Bind bind_faults.NoScope) ≡ codes "bind fault 1 NoScope\n"
  pub missing : trace_line (Bind (bind_faults.MissingSignal (codes "_4"))) ≡ codes "bind fault 2 MissingSignal name _4\n"
  pub size : trace_line (Bind (bind_faults.SizeDiffers (codes "clk") 2 1)) ≡ codes "bind fault 3 SizeDiffers name clk have 2 want 1\n"

-- two judgements of a text, for a table and a scope, tell the same samples or the same fault
abbrev pub TextsHaveOneJudgement : Type 0
TextsHaveOneJudgement =
    (text : List ℕ) (parts : TableParts) (scope : List ℕ) (a b : Result Replayed TraceFault) → JudgesTraceText text parts scope a → JudgesTraceText text parts scope b → shown a ≡ shown b
