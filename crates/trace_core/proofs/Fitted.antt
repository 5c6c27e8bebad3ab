-- The trace that was made by hand fits its widths.
use Rattle.std.proofs.Common.{◌≡◌, ℕ, zero, suc, ◌<◌, [], ◌∷◌, Some, slice_get, arith}
use Rattle.bv_core.specs.Value.{Bits}
use Rattle.bv_core.specs.declared.reference.Sample.TheVariants.{Known, Unknown}
use Rattle.trace_core.specs.Samples.{HasWidth}
use Rattle.trace_core.specs.Rows.{sample_of}
use Rattle.trace_core.specs.Fitting.{sample_rows}

-- no value was sampled where none is known
none_known : (value : Bits) (w : ℕ) → Unknown ≡ Known value → value.width ≡ w
none_known value w e = cc

pub each_width : (cycle node w : ℕ) → cycle < 3 → slice_get (8 ∷ 1 ∷ []) node ≡ Some w → HasWidth w (sample_of (slice_get sample_rows cycle) node)
each_width zero zero w within is = grind (arith, is)
each_width zero (suc zero) w within is = grind (arith, is)
each_width (suc zero) zero w within is = λ value e. none_known value w e
each_width (suc zero) (suc zero) w within is = grind (arith, is)
each_width (suc (suc zero)) zero w within is = grind (arith, is)
each_width (suc (suc zero)) (suc zero) w within is = λ value e. none_known value w e
each_width (suc (suc (suc cycle))) node w within is = absurd (omega (arith, within))
each_width cycle (suc (suc node)) w within is = grind (arith, is)
