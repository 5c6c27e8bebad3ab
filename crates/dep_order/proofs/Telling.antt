-- The terms of the blocks of a design as those of its variants in order.
use Rattle.std.proofs.Common.{◌≡◌, ℕ, zero, suc, List, [], ◌∷◌, Option, Some, None, unwrap_or, refl, sym, ap, ◌∙◌, subst}
use Rattle.std.specs.Prelude.{slice_get, option_and_then}
use Rattle.std.proofs.lemmas.Option.{same_Some, none-some}
use Rattle.design_core.specs.declared.variant.Signal.{Signal}
use Rattle.design_core.specs.Design as design
use Rattle.design_exec.specs.Processes.{blocks_in, signals_in}
use Rattle.block_net.specs.Blocks.{BlockParts}
use Rattle.ssa_core.specs.Processes.{HaveTerms, terms_at}
use Rattle.dep_order.specs.Blocks.{TellBlocks, TellsBlock}
use Rattle.dep_order.specs.Linking.{TellDesign, terms_in}

record TellsAt (declared : List Signal) (ts : List BlockParts) (k : ℕ) (b : design.Block) : Type 0 where
  parts : BlockParts
  found : slice_get ts k ≡ Some parts
  tells : TellsBlock declared parts b

tell_all : (declared : List Signal) (ts : List BlockParts) (bs : List design.Block) → ((k : ℕ) (b : design.Block) → slice_get bs k ≡ Some b → TellsAt declared ts k b) → TellBlocks declared ts bs
tell_all declared ts [] h = tt
tell_all declared [] (b ∷ bs) h = let x = h 0 b refl in absurd (none-some x.parts x.found)
tell_all declared (t ∷ ts) (b ∷ bs) h =
    let x = h 0 b refl in
    (subst (λ (p : BlockParts). TellsBlock declared p b) (sym (same_Some t x.parts x.found)) x.tells, tell_all declared ts bs (λ k c e. let y = h (suc k) c e in record { parts = y.parts; found = y.found; tells = y.tells }))

pub tell_design : (d : design.Design) (all : List (List BlockParts)) → HaveTerms d all → TellDesign d all
tell_design d all have v = tell_all (signals_in d v) (terms_in all v) (blocks_in d v) (λ k b e. let x = have.each v k b e in record { parts = x.parts; found = at (slice_get all v) x.parts k x.found; tells = x.tells })
  where
    at : (o : Option (List BlockParts)) (parts : BlockParts) (k : ℕ) → option_and_then (λ ps. slice_get ps k) o ≡ Some parts → slice_get (unwrap_or o []) k ≡ Some parts
    at None parts k e = absurd (none-some parts e)
    at (Some ps) parts k e = e
