-- What each elaborated design keeps.
use Rattle.std.specs.Prelude.{◌≡◌, ℕ, zero, suc, ◌+◌, ◌<◌, ◌≤◌, ◌==◌, ◌^◌, Bool, true, false, not, List, [], ◌∷◌, ◌++◌, length, Option, Some, None, IsSomeAnd, option_map, unwrap_or, slice_get, if◌then◌else◌, codes, decimal, map, ◌⊎◌}
use Rattle.std.specs.List.{enumerate_from, flat_map, list_all, list_any}
use Rattle.design_core.specs.declared.design.Instance.{Instance}
use Rattle.design_core.specs.declared.variant.Signal.{Signal}
use Rattle.design_core.specs.declared.variant.Kind.{Kind}
use Rattle.design_core.specs.declared.variant.Kind.TheVariants.{Input, Output, Wire, Reg, ChildOut}
use Rattle.gen_token.specs.Spelling.{IsName}
use Rattle.exec_core.specs.Block.{Name}
use Rattle.list_core.specs.Lists.{EachOf, AreApart, from}
use Rattle.design_core.specs.Design.{AreInRange, Block, Child, Variant, Design}
use Rattle.design_core.specs.Slots.{variant_heads, slots_of, scope}
use Rattle.design_core.specs.Sizes.{in_all, variant_statements, variant_signals, variant_cells, variant_parts}

-- ---- instances in preorder

-- the children of the variant of this number; none where there is no such variant
abbrev pub children_at : ℕ → List Variant → List Child
children_at v variants = unwrap_or (option_map (λ w. w.children) (slice_get variants v)) []

-- what is below an instance of this path and number: for each child an instance with those below it, one after another from a
-- number on; `enter` gives them by path, parent, variant and number
abbrev pub trees : (Name → Option ℕ → ℕ → ℕ → List Instance) → Name → ℕ → ℕ → List Child → List Instance
trees enter path at next [] = []
trees enter path at next (c ∷ children) =
    enter (path ++ (codes "." ++ c.name)) (Some at) c.variant next ++ trees enter path at (next + length (enter (path ++ (codes "." ++ c.name)) (Some at) c.variant next)) children

-- an instance with those below it, in preorder, in so many levels
unfoldable pub tree : ℕ → List Variant → Name → Option ℕ → ℕ → ℕ → List Instance
tree zero variants path parent v at = []
tree (suc room) variants path parent v at = record { path = path; variant = v; parent = parent } ∷ trees (tree room variants) path at (at + 1) (children_at v variants)

-- the instances are the top and those below it, in preorder: one for each child of each instance, of that child's variant, whose path is
-- its parent's, a dot and the child's name; at most 32 levels below the top
abbrev pub AreInPreorder : Design → Type 0
AreInPreorder d = d.instances ≡ tree 33 d.variants d.top None 0 0

-- ---- each instance with those that stand in it

abbrev pub stands_in : ℕ → Option ℕ → Bool
stands_in i None = false
stands_in i (Some parent) = parent == i

-- of instances with numbers from one on, those that stand in the instance of number i, each with its number
abbrev pub standing : ℕ → ℕ → List Instance → List (ℕ × Instance)
standing i n [] = []
standing i n (r ∷ rest) = if stands_in i r.parent then (n, r) ∷ standing i (n + 1) rest else standing i (n + 1) rest

-- an instance of a child: it stands behind its parent, is of the child's variant, and its path is its parent's, a dot and the
-- child's name
pub record IsChild (i : ℕ) (path : Name) (c : Child) (r : ℕ × Instance) : Type 0 where
  pub behind : i < r.0
  pub variant : r.1.variant ≡ c.variant
  pub named : r.1.path ≡ path ++ (codes "." ++ c.name)

-- one for each child, in order
abbrev pub AreChildren : ℕ → Name → List Child → List (ℕ × Instance) → Type 0
AreChildren i path [] [] = Unit {0}
AreChildren i path [] (r ∷ rest) = ⊥
AreChildren i path (c ∷ children) [] = ⊥
AreChildren i path (c ∷ children) (r ∷ rest) = IsChild i path c r × AreChildren i path children rest

-- an instance but the top stands in one before it
abbrev pub HasParent : ℕ → Instance → Type 0
HasParent i r = IsSomeAnd r.parent (λ parent. parent < i)

-- ---- the outputs of children as signals

-- an output of the child of number k as a signal `u.q` of its parent, on the line of the child; other signals are none
abbrev pub output_of : ℕ → Child → Signal → Kind → List Signal
output_of k c s Input = []
output_of k c s Output = record { line = c.line; name = c.name ++ (codes "." ++ s.name); kind = ChildOut k s.name; width = s.width } ∷ []
output_of k c s Wire = []
output_of k c s (Reg start) = []
output_of k c s (ChildOut j port) = []

-- the signals of the variant of this number; none where there is no such variant
abbrev pub signals_at : ℕ → List Variant → List Signal
signals_at v variants = unwrap_or (option_map (λ w. w.signals) (slice_get variants v)) []

-- its blocks
abbrev pub blocks_at : ℕ → List Variant → List Block
blocks_at v variants = unwrap_or (option_map (λ w. w.blocks) (slice_get variants v)) []

-- the outputs of a child, in order
abbrev pub outputs_of : List Variant → ℕ × Child → List Signal
outputs_of variants c = flat_map (λ s. output_of c.0 c.1 s s.kind) (signals_at c.1.variant variants)

-- a signal that is an output of a child
abbrev pub if_child_out : Signal → Kind → List Signal
if_child_out s Input = []
if_child_out s Output = []
if_child_out s Wire = []
if_child_out s (Reg start) = []
if_child_out s (ChildOut k port) = s ∷ []

abbrev pub child_outs : List Signal → List Signal
child_outs signals = flat_map (λ s. if_child_out s s.kind) signals

-- ---- numbers

-- how many registers a kind of signal is
abbrev pub if_reg : Kind → ℕ
if_reg Input = 0
if_reg Output = 0
if_reg Wire = 0
if_reg (Reg start) = 1
if_reg (ChildOut k port) = 0

abbrev pub regs : List Signal → ℕ
regs [] = 0
regs (s ∷ signals) = if_reg s.kind + regs signals

-- the registers of all instances
abbrev pub registers : List Variant → List Instance → ℕ
registers variants [] = 0
registers variants (r ∷ instances) = regs (signals_at r.variant variants) + registers variants instances

-- the slots of all variants
abbrev pub all_slots : List Variant → List ℕ
all_slots variants = flat_map (λ v. slots_of (variant_heads v)) variants

-- numbers one after another, from the first of them on
abbrev pub AreInTurn : List ℕ → Type 0
AreInTurn numbers = numbers ≡ from (unwrap_or (slice_get numbers 0) 0) (length numbers)

-- ---- names

-- without a dot
abbrev pub is_plain : Name → Bool
is_plain x = list_all (λ byte. not (byte == 46)) x

-- a name, or a name, `#` and a number
abbrev pub IsMember : Name → Type 0
IsMember x = (base : Name) × (IsName base × ((x ≡ base) ⊎ ((n : ℕ) × (x ≡ base ++ (codes "#" ++ decimal n)))))

-- an input or output has such a name
abbrev pub IfPort : (Name → Type 0) → Signal → Kind → Type 0
IfPort P s Input = P s.name
IfPort P s Output = P s.name
IfPort P s Wire = Unit {0}
IfPort P s (Reg start) = Unit {0}
IfPort P s (ChildOut k port) = Unit {0}

abbrev pub child_names : List Child → List Name
child_names children = map (λ c. c.name) children

-- ---- lines and numbers of entries

abbrev pub IsLine : ℕ → Type 0
IsLine line = line < 2 ^ 30

-- so few that each entry has a number of 32 bits
abbrev pub AreFew : {A : Type 0} → List A → Type 0
AreFew list = length list < 2 ^ 32

-- a child stands on a line, and so does each of its connections
abbrev pub HasLines : Child → Type 0
HasLines c = IsLine c.line × EachOf (λ conn. IsLine conn.line) c.conns

-- ---- the design

-- a variant: its children's variants are in the design; the signals `u.q` are the outputs of its children, child by child, each
-- once and with its width; its statements have slots one after another, block by block and in preorder; its parameters and
-- generator variables are few and from -2^62 to 2^62, and the names in scope in each block are few; its module, inputs and
-- outputs have names, and its children names or members of families; its signals, children, connections, blocks and statements
-- stand on lines below 2^30
pub record IsVariant (variants : List Variant) (v : Variant) : Type 0 where
  pub children : EachOf (λ c. c.variant < length variants) v.children
  pub outputs : child_outs v.signals ≡ flat_map (outputs_of variants) (enumerate_from 0 v.children)
  pub in_turn : AreInTurn (slots_of (variant_heads v))
  pub params : AreInRange v.params
  pub few_params : AreFew v.params
  pub gens : EachOf (λ h. AreInRange h.gens) (variant_heads v)
  pub few_gens : EachOf (λ h. AreFew h.gens) (variant_heads v)
  pub few_names : EachOf (λ b. AreFew (scope v b)) v.blocks
  pub named : IsName v.module
  pub ports : EachOf (λ s. IfPort IsName s s.kind) v.signals
  pub names : EachOf (λ c. ∥ IsMember c.name ∥₁) v.children
  pub signal_lines : EachOf (λ s. IsLine s.line) v.signals
  pub child_lines : EachOf HasLines v.children
  pub block_lines : EachOf (λ b. IsLine b.line) v.blocks
  pub lines : EachOf (λ h. IsLine h.line) (variant_heads v)

pub record IsDesign (d : Design) : Type 0 where
  -- the first instance is the top, whose path is its module's name
  pub top : slice_get d.instances 0 ≡ Some (record { path = d.top; variant = 0; parent = None })
  -- which is the name of the module of variant 0
  pub top_module : option_map (λ v. v.module) (slice_get d.variants 0) ≡ Some d.top
  -- the others stand behind their parents
  pub parents : (i : ℕ) (r : Instance) → slice_get d.instances (i + 1) ≡ Some r → HasParent (i + 1) r
  -- each instance is of a variant of the design, and each variant has an instance
  pub variants : (i : ℕ) (r : Instance) → slice_get d.instances i ≡ Some r → r.variant < length d.variants
  pub instances : (v : ℕ) → v < length d.variants → list_any (λ r. r.variant == v) d.instances ≡ true
  -- those that stand in an instance are the children of its variant, in order
  pub children : (i : ℕ) (r : Instance) → slice_get d.instances i ≡ Some r → AreChildren i r.path (children_at r.variant d.variants) (standing i 0 d.instances)
  -- all of them are in preorder, at most 32 levels below the top
  pub preorder : AreInPreorder d
  -- their paths differ, where the children of each variant have different names
  pub paths : EachOf (λ v. AreApart (child_names v.children)) d.variants → AreApart (map (λ r. r.path) d.instances)
  -- each variant
  pub each : EachOf (IsVariant d.variants) d.variants
  -- each number below the number of statements is the slot of one
  pub apart : AreApart (all_slots d.variants)
  pub below : EachOf (λ k. k < length (all_slots d.variants)) (all_slots d.variants)
  -- there are no more of them than the limits say
  pub few : length d.instances ≤ 4096
  pub statements : length (all_slots d.variants) ≤ 200000
  pub registers : registers d.variants d.instances ≤ 200000
  -- nor are there in all instances: statements, signals, pairs of a statement and a name in scope, parts of expressions
  pub all_statements : in_all variant_statements d.variants d.instances ≤ 200000
  pub all_signals : in_all variant_signals d.variants d.instances ≤ 200000
  pub all_cells : in_all variant_cells d.variants d.instances ≤ 4000000
  pub all_parts : in_all variant_parts d.variants d.instances ≤ 2000000
