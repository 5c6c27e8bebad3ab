-- The terms of blocks, one after another.
use Rattle.std.proofs.Common.{◌≡◌, ℕ, zero, suc, ◌+◌, ◌<◌, List, [], ◌∷◌, ◌++◌, length, map, take, get_or, Some, refl, sym, ap, ◌∙◌, subst, arith}
use Rattle.std.specs.Prelude.{slice_get, option_map, unwrap_or}
use Rattle.std.proofs.lemmas.List.{map_push}
use Rattle.std.proofs.lemmas.Option.{same_Some, none-some}
use Rattle.design_core.specs.Design as design
use Rattle.design_core.specs.declared.variant.Signal.{Signal}
use Rattle.exec_core.specs.Block.{Name}
use Rattle.design_exec.specs.Processes.{body_of}
use Rattle.check_core.specs.Paths.{declared_width}
use Rattle.block_net.specs.Blocks.{BlockParts, Tells}
use Rattle.ssa_core.specs.Processes.{TellBlocks, TellVariants, terms_at}
use Rattle.list_core.specs.Lists.{EachOf}
use Rattle.list_core.proofs.Growing.{more_of}

blocks_push : (w : Name → ℕ) (ts : List BlockParts) (bs : List design.Block) (t : BlockParts) (b : design.Block) → TellBlocks w ts bs → Tells t w (body_of b.clocked b.body) → TellBlocks w (ts ++ t ∷ []) (bs ++ b ∷ [])
blocks_push w [] [] t b h g = (g, tt)
blocks_push w [] (c ∷ bs) t b h g = absurd h
blocks_push w (s ∷ ts) [] t b h g = absurd h
blocks_push w (s ∷ ts) (c ∷ bs) t b h g = (h.0, blocks_push w ts bs t b h.1 g)

pub blocks_more : {A : Type 0} (w : Name → ℕ) (view : A → design.Block) (now after : List BlockParts) (t : BlockParts) (xs : List A) (i : ℕ) (x : A) → i < length xs → x ≡ get_or xs i x →
    TellBlocks w now (map view (take i xs)) → Tells t w (body_of (view x).clocked (view x).body) → after ≡ now ++ t ∷ [] → TellBlocks w after (map view (take (i + 1) xs))
blocks_more w view now after t xs i x below at inv tells push =
    subst (λ l. TellBlocks w l (map view (take (i + 1) xs))) (sym push)
    (subst (TellBlocks w (now ++ t ∷ [])) (sym (ap (map view) (more_of xs i x below at) ∙ map_push view (take i xs) x)) (blocks_push w now (map view (take i xs)) t (view x) inv tells))

variants_push : (ts : List (List BlockParts)) (vs : List design.Variant) (t : List BlockParts) (v : design.Variant) → TellVariants ts vs → TellBlocks (declared_width v.signals) t v.blocks → TellVariants (ts ++ t ∷ []) (vs ++ v ∷ [])
variants_push [] [] t v h g = (g, tt)
variants_push [] (w ∷ vs) t v h g = absurd h
variants_push (s ∷ ts) [] t v h g = absurd h
variants_push (s ∷ ts) (w ∷ vs) t v h g = (h.0, variants_push ts vs t v h.1 g)

pub variants_more : {A : Type 0} (view : A → design.Variant) (now after : List (List BlockParts)) (t : List BlockParts) (xs : List A) (i : ℕ) (x : A) → i < length xs → x ≡ get_or xs i x →
    TellVariants now (map view (take i xs)) → TellBlocks (declared_width (view x).signals) t (view x).blocks → after ≡ now ++ t ∷ [] → TellVariants after (map view (take (i + 1) xs))
variants_more view now after t xs i x below at inv tells push =
    subst (λ l. TellVariants l (map view (take (i + 1) xs))) (sym push)
    (subst (TellVariants (now ++ t ∷ [])) (sym (ap (map view) (more_of xs i x below at) ∙ map_push view (take i xs) x)) (variants_push now (map view (take i xs)) t (view x) inv tells))

-- what holds of each holds of one
pub each_here : {A B : Type 0} (view : A → B) (P : B → Type 0) (xs : List A) (i : ℕ) (x : A) → i < length xs → x ≡ get_or xs i x → EachOf P (map view xs) → P (view x)
each_here view P [] i x below at h = absurd (omega (arith, below))
each_here view P (y ∷ xs) zero x below at h = subst (λ z. P (view z)) (sym at) h.0
each_here view P (y ∷ xs) (suc i) x below at h = each_here view P xs i x (omega (arith, below)) at h.1

-- ---- at a number

pub record TermsOf (w : Name → ℕ) (ts : List BlockParts) (b : ℕ) (block : design.Block) : Type 0 where
  pub parts : BlockParts
  pub found : slice_get ts b ≡ Some parts
  pub tells : Tells parts w (body_of block.clocked block.body)

block_at : (w : Name → ℕ) (ts : List BlockParts) (bs : List design.Block) (b : ℕ) (block : design.Block) → TellBlocks w ts bs → slice_get bs b ≡ Some block → TermsOf w ts b block
block_at w ts [] b block h e = absurd (none-some block e)
block_at w [] (c ∷ bs) b block h e = absurd h
block_at w (t ∷ ts) (c ∷ bs) zero block h e = record { parts = t; found = refl; tells = subst (λ (k : design.Block). Tells t w (body_of k.clocked k.body)) (same_Some c block e) h.0 }
block_at w (t ∷ ts) (c ∷ bs) (suc b) block h e = let found = block_at w ts bs b block h.1 e in record { parts = found.parts; found = found.found; tells = found.tells }

abbrev pub blocks_among : List design.Variant → ℕ → List design.Block
blocks_among vs v = unwrap_or (option_map (λ (w : design.Variant). w.blocks) (slice_get vs v)) []

abbrev pub signals_among : List design.Variant → ℕ → List Signal
signals_among vs v = unwrap_or (option_map (λ (w : design.Variant). w.signals) (slice_get vs v)) []

pub record TermsAt (ts : List (List BlockParts)) (vs : List design.Variant) (v b : ℕ) (block : design.Block) : Type 0 where
  pub parts : BlockParts
  pub found : terms_at ts v b ≡ Some parts
  pub tells : Tells parts (declared_width (signals_among vs v)) (body_of block.clocked block.body)

pub variant_at : (ts : List (List BlockParts)) (vs : List design.Variant) (v b : ℕ) (block : design.Block) → TellVariants ts vs → slice_get (blocks_among vs v) b ≡ Some block → TermsAt ts vs v b block
variant_at ts [] v b block h e = absurd (none-some block e)
variant_at [] (w ∷ vs) v b block h e = absurd h
variant_at (t ∷ ts) (w ∷ vs) zero b block h e = let found = block_at (declared_width w.signals) t w.blocks b block h.0 e in record { parts = found.parts; found = found.found; tells = found.tells }
variant_at (t ∷ ts) (w ∷ vs) (suc v) b block h e = let found = variant_at ts vs v b block h.1 e in record { parts = found.parts; found = found.found; tells = found.tells }
