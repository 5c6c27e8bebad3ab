-- The trail of the design of two instances that exec_core works by hand, over one cycle.
use Rattle.std.specs.Prelude.{◌≡◌, ℕ, [], ◌∷◌, ◌++◌, length, codes}
use Rattle.places.specs.Places.{place}
use Rattle.exec_core.specs.Sample.{sample_order, sample_cycle}
use Rattle.design_exec.specs.Sample.{elaborated}
use Rattle.world_core.specs.declared.mode.Mode.TheVariants.{Opt, Keep}
use Rattle.world_core.specs.World.{place_text, trail_text}
use Rattle.world_core.specs.Source.{source_world}

-- its driven signals are the child's input and output, the parent's `u.q` and `y`
abbrev pub driven : ℕ
driven = length sample_order

-- `x` is 1, `r` and `a` are 3, all others 4; so the child's then-branch is taken, and the `if` of the clocked block. Where names are
-- kept all of them are shown
abbrev pub sample_is_walked : Type 0
sample_is_walked =
    trail_text (source_world elaborated driven Keep (sample_cycle ∷ []))
    ≡ codes "0 3 Top.u a=4'h3 q=unset s=unset\n"
    ++ codes "0 4 Top.u a=4'h3 q=unset s=4'h4\n"
    ++ codes "0 4 Top.u a=4'h3 q=unset s=4'h4\n"
    ++ codes "0 9 Top x=4'h1 y=unset r=4'h3 u.q=4'h4\n"
    ++ codes "0 10 Top x=4'h1 y=4'h4 r=4'h3 u.q=4'h4\n"
    ++ codes "0 10 Top x=4'h1 y=4'h4 r=4'h3 u.q=4'h4\n"

-- and so they are where they are not: the output needs what `s` is, and the enables and the register need the others
abbrev pub sample_is_kept : Type 0
sample_is_kept = trail_text (source_world elaborated driven Opt (sample_cycle ∷ [])) ≡ trail_text (source_world elaborated driven Keep (sample_cycle ∷ []))

-- places in one word
abbrev pub places_are_told : Type 0
places_are_told = (place_text 12 ≡ codes "12") × (place_text (place 1 2) ≡ codes "1:2") × (place_text (place 63 1048576) ≡ codes "63:1048576")
