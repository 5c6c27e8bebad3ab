-- The watches that match at a slot in a cycle, as they are told; and the nearer of two searches.
use Rattle.std.proofs.Common.{◌≡◌, ℕ, ◌<◌, ◌≤◌, false, List, [], ◌∷◌, length, map, filter, refl, ap, ◌∙◌}
use Rattle.std.specs.List.{list_any}
use Rattle.symtab.specs.declared.parts.TableParts.{TableParts}
use Rattle.trace_core.specs.Samples.{Samples}
use Rattle.world_core.specs.World.{World}
use Rattle.machine_core.specs.Matching.{Watch, fits_watch, watches_at}
use Rattle.dbg_core.specs.World.{world_of}
use Rattle.dbg_core.proofs.Threads.{no_slot, no_cycle}

none_kept : (watches : List Watch) → filter (λ watch. false) watches ≡ []
none_kept [] = refl
none_kept (watch ∷ watches) = none_kept watches

-- none matches where nothing is executed
none_there : (w : World) (t k : ℕ) (watches : List Watch) → w.threads t k ≡ [] → map (λ (watch : Watch). watch.number) (watches_at w t k watches) ≡ []
none_there w t k watches e =
    ap (λ threads. map (λ (watch : Watch). watch.number) (filter (λ watch. list_any (λ i. fits_watch w t k i watch) threads) watches)) e ∙ ap (map (λ (watch : Watch). watch.number)) (none_kept watches)

pub none_at_slot : (parts : TableParts) (s : Samples) (t k : ℕ) (watches : List Watch) → length parts.slots ≤ k → map (λ (watch : Watch). watch.number) (watches_at (world_of parts s) t k watches) ≡ []
none_at_slot parts s t k watches past = none_there (world_of parts s) t k watches (no_slot parts s t k past)

pub none_in_cycle : (parts : TableParts) (s : Samples) (t k : ℕ) (watches : List Watch) → s.cycles ≤ t → map (λ (watch : Watch). watch.number) (watches_at (world_of parts s) t k watches) ≡ []
none_in_cycle parts s t k watches past = none_there (world_of parts s) t k watches (no_cycle parts s t k past)
