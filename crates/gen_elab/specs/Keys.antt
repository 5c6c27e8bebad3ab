-- Modules with parameters, by which variants are found.
use Rattle.std.specs.Prelude.{ℕ, Bool, ◌&&◌, ◌==◌, List, [], ◌∷◌, ◌++◌, length, if◌then◌else◌, map, Vec, ℤ}
use Rattle.std.specs.List.{position_or_len}
use Rattle.std.specs.Global.{Global}
use Rattle.design_core.specs.Design.{Gens}
use Rattle.design_core.specs.Design as design
use Rattle.elab_core.specs.Elaborated.{Child, Instance}
use Rattle.exec_core.specs.Block.{Name}
use Rattle.elab_core.specs.Design.{same_gens, variant_of, variants_of, numbered_blocks}

-- a module by its place in the source, and its parameters
abbrev pub Key : Type 0
Key = ℕ × Gens

abbrev pub same_key : Key → Key → Bool
same_key a b = a.0 == b.0 && same_gens a.1 b.1

-- the place of a key in a list; the list's length where it is not there
abbrev pub key_place : Key → List Key → ℕ
key_place key keys = position_or_len (same_key key) keys

-- the code's parameters and keys
abbrev pub the_params : List (Vec ℕ Global × ℤ) → Gens
the_params copy = map (λ p. (p.0.items, p.1)) copy

abbrev pub the_key : ℕ × Vec (Vec ℕ Global × ℤ) Global → Key
the_key key = (key.0, the_params key.1.items)

-- the key of an instance
abbrev pub key_of : Instance → Key
key_of i = (i.place, i.params)

-- the number of each instance's variant
abbrev pub numbers_of : List Instance → List ℕ
numbers_of instances = map (λ i. variant_of i.place i.params (variants_of instances)) instances

-- the first instances with one more, unless its variant is among them
abbrev pub kept : List Instance → Instance → ℕ → List Instance
kept variants i number = if number == length variants then variants ++ i ∷ [] else variants

-- a child, with its variant by number
abbrev pub key_child : List Key → Child → design.Child
key_child keys c = record { line = c.line; name = c.name; variant = key_place (c.place, c.params) keys; conns = c.conns }

-- the variant of a first instance of a module of this name, whose slots begin with this one
abbrev pub key_variant : List Key → Name → ℕ → Instance → design.Variant
key_variant keys x slot i = record {
  «module» = x;
  params = i.params;
  signals = i.content.signals;
  children = map (key_child keys) i.content.children;
  blocks = numbered_blocks slot i.content.blocks;
}
