-- The lines of refusals, on samples.
use Rattle.std.specs.Prelude.{◌≡◌, [], ◌∷◌, codes}
use Rattle.places.specs.Places as places
use Rattle.gen_text.specs.declared.TextFault.TheVariants as text_faults
use Rattle.elab_core.specs.declared.fault.Count.TheVariants.{Cells}
use Rattle.elab_core.specs.declared.fault.ElabFault.TheVariants as elab_faults
use Rattle.check_core.specs.declared.fault.CheckFault.TheVariants as check_faults
use Rattle.stim_text.specs.declared.StimFault.TheVariants as stim_faults
use Rattle.design_judge.specs.declared.design_fault.DesignFault.TheVariants.{Text, TooManyFiles, Elaboration, Check, CombLoop}
use Rattle.design_judge.specs.Refusals.{design_line, stimulus_line}

pub record LinesAreSo : Type 0 where
  pub bare : design_line (Text 0 text_faults.TooLong) ≡ codes "design fault 1 TooLong\n"
  pub offset : design_line (Text 0 (text_faults.NotAscii 11)) ≡ codes "design fault 2 NotAscii offset 11\n"
  pub bare_in : design_line (Text 1 text_faults.TooLong) ≡ codes "design fault 1 TooLong file 1\n"
  pub offset_in : design_line (Text 1 (text_faults.NotAscii 0)) ≡ codes "design fault 2 NotAscii file 1 offset 0\n"
  pub line_there : design_line (Text 1 (text_faults.BadToken (places.place 1 1))) ≡ codes "design fault 3 BadToken file 1 line 1\n"
  pub too_many : design_line (TooManyFiles 3 (codes "x")) ≡ codes "design fault 21 TooManyFiles line 3 name x limit 64\n"
  pub name : design_line (Elaboration (elab_faults.UnknownModule 0 (codes "X"))) ≡ codes "design fault 5 UnknownModule line 0 name X\n"
  pub what : design_line (Elaboration (elab_faults.TooLarge 0 Cells 4000000)) ≡ codes "design fault 9 TooLarge line 0 what cells limit 4000000\n"
  pub place : design_line (Check (check_faults.Latch (record { line = 1; name = codes "x"; instance = codes "X.u" }))) ≡ codes "design fault 18 Latch line 1 name x instance X.u\n"
  pub widths : design_line (Check (check_faults.WidthMismatch (record { line = 1; name = codes "y"; instance = codes "X" }) 4 8)) ≡ codes "design fault 13 WidthMismatch line 1 name y instance X have 4 want 8\n"
  pub first : design_line (Check (check_faults.TwoDrivers (record { line = places.place 2 4; name = codes "y"; instance = codes "X" }) (places.place 2 3))) ≡ codes "design fault 16 TwoDrivers file 2 line 4 name y instance X first 3\n"
  pub paths : design_line (CombLoop (codes "X.a" ∷ codes "X.b" ∷ [])) ≡ codes "design fault 20 CombLoop X.a X.b\n"
  pub column : stimulus_line (stim_faults.DoesNotFit 0 1) ≡ codes "stimulus fault 3 DoesNotFit row 0 column 1\n"
