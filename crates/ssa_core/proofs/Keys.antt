-- The processes of an instance, one after another.
use Rattle.std.proofs.Common.{◌≡◌, ℕ, ◌+◌, ◌<◌, List, [], ◌∷◌, ◌++◌, length, map, take, Option, Some, sym, ap, ◌∙◌}
use Rattle.std.specs.Prelude.{slice_get, option_map}
use Rattle.std.proofs.lemmas.Option.{get_or_from_slice_get}
use Rattle.exec_core.specs.Design.{Process}
use Rattle.design_core.specs.Design as design
use Rattle.design_exec.specs.Processes.{process, signals_in, blocks_in}
use Rattle.list_core.proofs.Listing.{some_at}
use Rattle.ssa_core.specs.declared.process.ProcessKey.{ProcessKey}
use Rattle.ssa_core.specs.Processes.{process_at}
use Rattle.list_core.proofs.Growing.{each_more}

pub keys_more : (d : design.Design) (old : List (Option Process)) (keys after : List ProcessKey) (key : ProcessKey) (i v b : ℕ) → key ≡ record { instance = i; variant = v; block = b } → b < length (blocks_in d v) →
    map (process_at d) keys ≡ old ++ map (λ p. Some p) (map (process i (signals_in d v)) (take b (blocks_in d v))) → after ≡ keys ++ key ∷ [] →
    map (process_at d) after ≡ old ++ map (λ p. Some p) (map (process i (signals_in d v)) (take (b + 1) (blocks_in d v)))
keys_more d old keys after key i v b is below inv push =
    ap (map (process_at d)) (push ∙ ap (λ k. keys ++ k ∷ []) is)
    ∙ each_more (λ p. Some p) (process i (signals_in d v)) (process_at d) old keys (record { instance = i; variant = v; block = b }) (blocks_in d v) b found.0 below (sym (get_or_from_slice_get (blocks_in d v) b found.0 found.0 found.1)) inv
    (ap (option_map (process i (signals_in d v))) found.1)
  where
    found : (block : design.Block) × (slice_get (blocks_in d v) b ≡ Some block)
    found = some_at (blocks_in d v) b below
