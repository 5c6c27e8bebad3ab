-- Variants that are judged once.
use Rattle.std.specs.Prelude.{◌≡◌, ℕ, ◌<◌, None, slice_get}
use Rattle.design_core.specs.Design.{Design}
use Rattle.check_core.specs.declared.fault.Refusal.{Refusal}
use Rattle.check_core.specs.Verdict.{refused_variant}

-- the variants below this number are not refused so
abbrev pub AreClean : Refusal → Design → ℕ → Type 0
AreClean refusal d n = (k : ℕ) → k < n → refused_variant refusal d.variants (slice_get d.variants k) ≡ None
