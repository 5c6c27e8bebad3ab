-- The statements of a design by their slots, with what is in scope at each.
use Rattle.std.specs.Prelude.{ℕ, Bool, ◌==◌, List, length, map, filter}
use Rattle.std.specs.List.{enumerate_from, flat_map}
use Rattle.design_core.specs.Design.{Gens, Block, Variant, Design}
use Rattle.design_core.specs.Slots.{Head, heads, scope}
use Rattle.list_core.specs.Lists.{from}
use Rattle.design_core.specs.WellFormed.{all_slots}
use Rattle.exec_core.specs.Block as blocks
use Rattle.exec_core.specs.Block.{Name}
use Rattle.exec_core.specs.Decided.{is_unset}
use Rattle.design_exec.specs.Processes.{Widths, body_of, body_widths, signal_width, instances_of}

-- a statement: its slot, the variant that has it, its line, the generator variables at it, the block that it stands in, the names in
-- scope there, and the width of each name
pub record Site : Type 0 where
  pub slot : ℕ
  pub variant : ℕ
  pub line : ℕ
  pub gens : Gens
  pub block : Block
  pub names : List Name
  pub widths : Widths

-- the statement of this head in a block of a variant, which has this number
abbrev pub head_site : ℕ → Variant → Block → Head → Site
head_site v w b h = record { slot = h.slot; variant = v; line = h.line; gens = h.gens; block = b; names = scope w b; widths = body_widths b.body (signal_width w.signals) }

-- those of a block, in preorder; of a variant, block by block; of a design, variant by variant
abbrev pub sites_in_block : ℕ → Variant → Block → List Site
sites_in_block v w b = map (head_site v w b) (heads b.body)

abbrev pub sites_in : ℕ → Variant → List Site
sites_in v w = flat_map (sites_in_block v w) w.blocks

abbrev pub sites_of : Design → List Site
sites_of d = flat_map (λ v. sites_in v.0 v.1) (enumerate_from 0 d.variants)

-- how many statements there are; each number below that is the slot of one
abbrev pub slot_count : Design → ℕ
slot_count d = length (all_slots d.variants)

-- the statement of a slot: a list of one
abbrev pub has_slot : ℕ → Site → Bool
has_slot k s = s.slot == k

abbrev pub sites_at : Design → ℕ → List Site
sites_at d k = filter (has_slot k) (sites_of d)

-- the statements of all slots, in the order of their numbers
abbrev pub sites_in_order : Design → List Site
sites_in_order d = flat_map (sites_at d) (from 0 (slot_count d))

-- the block of a statement, as statements that execute
abbrev pub site_body : Site → blocks.Body
site_body s = body_of s.block.clocked s.block.body

-- the numbers of the instances of a variant, in preorder
abbrev pub instances_with : Design → ℕ → List ℕ
instances_with d v = map (λ i. i.0) (filter (λ i. i.1.variant == v) (instances_of d))

-- a statement in an instance of its variant; those of all statements, in the order of slots, and for each of its instances, in preorder
abbrev pub Spot : Type 0
Spot = Site × ℕ

abbrev pub spots_of : Design → Site → List Spot
spots_of d site = map (λ i. (site, i)) (instances_with d site.variant)

abbrev pub all_spots : Design → List Spot
all_spots d = flat_map (spots_of d) (sites_in_order d)

-- ---- status `unset`

-- a name is unset at a statement where it is an own name of the block and some path to the statement leaves a bit of it unassigned
abbrev pub unset_in : Site → ℕ → Name → Bool
unset_in s k x = is_unset s.widths (site_body s) k x
