-- Ports have names.
use Rattle.std.proofs.Common.{◌≡◌, ℕ, Bool, true, false, ◌&&◌, List, [], ◌∷◌, refl, sym, true≢false}
use Rattle.std.specs.List.{list_all}
use Rattle.gen_token.specs.Spelling.{IsName, is_name}
use Rattle.gen_token.proofs.ReadName.{name_from_test}
use Rattle.exec_core.specs.Block.{Name}
use Rattle.list_core.specs.Lists.{EachOf}
use Rattle.design_core.specs.Ports.{has_name, have_names}

both : (a b : Bool) → a && b ≡ true → (a ≡ true) × (b ≡ true)
both true b e = (refl, e)
both false b e = absurd (true≢false (sym e))

abbrev pub IsNamed : Name × ℕ → Type 0
IsNamed port = IsName port.0

all_named : (ports : List (Name × ℕ)) → list_all has_name ports ≡ true → EachOf IsNamed ports
all_named [] e = tt
all_named (p ∷ ports) e = let parts = both (has_name p) (list_all has_name ports) e in (name_from_test p.0 parts.0, all_named ports parts.1)

-- the names of a module, and of its inputs and outputs
pub record AreNamed (top : Name) (inputs outputs : List (Name × ℕ)) : Type 0 where
  pub «module» : IsName top
  pub ins : EachOf IsNamed inputs
  pub outs : EachOf IsNamed outputs

pub are_named : (top : Name) (inputs outputs : List (Name × ℕ)) → have_names top inputs outputs ≡ true → AreNamed top inputs outputs
are_named top inputs outputs e =
    let parts = both (is_name top && list_all has_name inputs) (list_all has_name outputs) e in
    let first = both (is_name top) (list_all has_name inputs) parts.0 in
    record { «module» = name_from_test top first.0; ins = all_named inputs first.1; outs = all_named outputs parts.1 }
