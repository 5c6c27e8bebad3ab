-- Blocks and connections in order.
use Rattle.std.proofs.Common.{◌≡◌, ℕ, zero, suc, ◌+◌, ◌<◌, ◌≤◌, Bool, List, [], ◌∷◌, ◌++◌, map, take, Some, None, length, get_or, refl, sym, subst, ap, ◌∙◌, arith, append_assoc}
use Rattle.std.proofs.lemmas.List.{take_more, map_push, append-nil}
use Rattle.exec_core.specs.Design.{Process, place, moved}
use Rattle.design_core.specs.declared.variant.Block as code_block
use Rattle.design_core.specs.declared.variant.Conn as code_conn
use Rattle.design_core.specs.declared.variant.Signal.{Signal}
use Rattle.block_net.specs.Blocks.{BlockParts}
use Rattle.design_core.specs.View.{block_of, conn_of}
use Rattle.design_core.specs.Design as design
use Rattle.design_exec.specs.Processes as processes
use Rattle.graph_order.specs.Graphs.{Graph}
use Rattle.place_core.specs.Numbering.{Numbers}
use Rattle.dep_order.specs.Blocks.{owns, end_trees, TellBlocks, TellsBlock}
use Rattle.dep_order.specs.Wiring.{driver_in, is_met, IsWired, met_named, driver_named, DrivesBlock, DrivesBlocks, DrivesBy, DrivesConn, DrivesConns}
use Rattle.place_core.specs.Linking.{Link}
use Rattle.dep_order.proofs.Wires.{wired_as, pick_other, not_same}
use Rattle.dep_order.proofs.Names.{block_is_process, link_is_met}

-- ---- blocks

pub blocks_none : (g : Graph) (driven : List Bool) (numbers : Numbers) (ts : List BlockParts) → DrivesBlocks g driven g driven numbers ts []
blocks_none g driven numbers ts signals number i declared links before tell low are of w =
    subst (λ (ps : List Process). IsWired signals number g driven (is_met links ps) (driver_in links ps)) (sym (append-nil before)) w

-- terms that tell of blocks and of one more
tell_parts : (declared : List Signal) (ts : List BlockParts) (bs : List design.Block) (b : design.Block) (t : BlockParts) → length bs < length ts → t ≡ get_or ts (length bs) t → TellBlocks declared ts (bs ++ b ∷ [])
    → TellBlocks declared ts bs × TellsBlock declared t b
tell_parts declared [] bs b t low at h = absurd (omega (arith, low))
tell_parts declared (u ∷ ts) [] b t low at h = (tt, subst (λ (p : BlockParts). TellsBlock declared p b) (sym at) h.0)
tell_parts declared (u ∷ ts) (c ∷ bs) b t low at h = let both = tell_parts declared ts bs b t (omega (arith, low)) at h.1 in ((h.0, both.0), both.1)

pub blocks_next : (g h k : Graph) (driven now marked : List Bool) (numbers : Numbers) (ts : List BlockParts) (t : BlockParts) (bs : List design.Block) (b : design.Block) → length bs < length ts → t ≡ get_or ts (length bs) t → length g ≤ length h
    → DrivesBlocks g driven h now numbers ts bs → DrivesBlock h now k marked numbers t b → DrivesBlocks g driven k marked numbers ts (bs ++ b ∷ [])
blocks_next g h k driven now marked numbers ts t bs b inside at more d next signals number i declared links before tell low are of w =
    let f = processes.process i declared in
    let both = tell_parts declared ts bs b t inside at tell in
    let all : (before ++ map f bs) ++ f b ∷ [] ≡ before ++ map f (bs ++ b ∷ []) = append_assoc before (map f bs) (f b ∷ []) ∙ ap (λ (ps : List Process). before ++ ps) (sym (map_push f bs b)) in
    let then : IsWired signals number k marked (met_named i (owns b) (is_met links (before ++ map f bs))) (driver_named i (owns b) (end_trees declared b) (is_met links (before ++ map f bs)) (driver_in links (before ++ map f bs))) =
    next signals number (is_met links (before ++ map f bs)) (driver_in links (before ++ map f bs)) i declared both.1 (omega (arith, low, more)) are of (d signals number i declared links before both.0 low are of w) in
    subst (λ (ps : List Process). IsWired signals number k marked (is_met links ps) (driver_in links ps)) all
    (λ p n e. let is = block_is_process links (before ++ map f bs) i declared b p in
    wired_as signals number k marked _ _ _ _ n (sym is.1) (sym is.0) (then p n e))

-- of the first i blocks there are i
pub first_count : (blocks : List code_block.Block) (i : ℕ) → i < length blocks → length (map block_of (take i blocks)) ≡ i
first_count [] i h = absurd (omega (arith, h))
first_count (b ∷ blocks) zero h = refl
first_count (b ∷ blocks) (suc i) h = ap (λ n. suc n) (first_count blocks i (omega (arith, h)))

-- blocks of which terms tell have terms
pub tell_count : (declared : List Signal) (ts : List BlockParts) (bs : List design.Block) → TellBlocks declared ts bs → length bs ≤ length ts
tell_count declared ts [] h = omega arith
tell_count declared [] (b ∷ bs) h = absurd h
tell_count declared (t ∷ ts) (b ∷ bs) h = omega (arith, tell_count declared ts bs h.1)

pub more_blocks : (blocks : List code_block.Block) (i : ℕ) (b : code_block.Block) → i < length blocks → b ≡ get_or blocks i b → map block_of (take (i + 1) blocks) ≡ map block_of (take i blocks) ++ block_of b ∷ []
more_blocks blocks i b h at = ap (map block_of) (take_more blocks i b h ∙ ap (λ (c : code_block.Block). take i blocks ++ c ∷ []) (sym at)) ∙ map_push block_of (take i blocks) b

-- ---- connections

pub conns_none : (g : Graph) (driven : List Bool) (of_child of_parent : Numbers) → DrivesConns g driven g driven of_child of_parent []
conns_none g driven of_child of_parent signals number i j links are of of' w =
    subst (λ (ls : List Link). IsWired signals number g driven (is_met ls []) (driver_in ls [])) (sym (append-nil links)) w

pub conn_drives : (g h : Graph) (driven marked : List Bool) (of_child of_parent : Numbers) (c : design.Conn) (n : ℕ) → of_child c.port ≡ Some n → DrivesBy g driven h marked n of_parent (processes.tree_of c.value) →
    DrivesConn g driven h marked of_child of_parent c
conn_drives g h driven marked of_child of_parent c n is d signals number i j met driver are of of' w = d signals number met driver (place j c.port) i are (of' c.port ∙ is) of w

pub conn_passed : (g : Graph) (driven : List Bool) (of_child of_parent : Numbers) (c : design.Conn) → of_child c.port ≡ None → DrivesConn g driven g driven of_child of_parent c
conn_passed g driven of_child of_parent c is signals number i j met driver are of of' w p n e =
    let apart : p ≡ place j c.port → ⊥ = (λ k. none_some n (sym (of' c.port ∙ is) ∙ ap number (sym k) ∙ e)) in
    let picks = pick_other (place j c.port) p (Some (moved i (processes.tree_of c.value))) met driver (not_same (place j c.port) p apart) in
    wired_as signals number g driven _ _ _ _ n picks.0 picks.1 (w p n e)
  where
    none_some : (n : ℕ) → None ≡ Some n → ⊥
    none_some n k = cc

pub conns_next : (g h k : Graph) (driven now marked : List Bool) (of_child of_parent : Numbers) (cs : List design.Conn) (c : design.Conn) → DrivesConns g driven h now of_child of_parent cs → DrivesConn h now k marked of_child of_parent c →
    DrivesConns g driven k marked of_child of_parent (cs ++ c ∷ [])
conns_next g h k driven now marked of_child of_parent cs c d next signals number i j links are of of' w =
    let f = processes.conn_link i j in
    let all : (links ++ map f cs) ++ f c ∷ [] ≡ links ++ map f (cs ++ c ∷ []) = append_assoc links (map f cs) (f c ∷ []) ∙ ap (λ (ls : List Link). links ++ ls) (sym (map_push f cs c)) in
    let then = next signals number i j (is_met (links ++ map f cs) []) (driver_in (links ++ map f cs) []) are of of' (d signals number i j links are of of' w) in
    subst (λ (ls : List Link). IsWired signals number k marked (is_met ls []) (driver_in ls [])) all
    (λ p n e. let is = link_is_met (links ++ map f cs) (place j c.port) (moved i (processes.tree_of c.value)) p in
    wired_as signals number k marked _ _ _ _ n (sym is.1) (sym is.0) (then p n e))

pub more_conns : (conns : List code_conn.Conn) (i : ℕ) (c : code_conn.Conn) → i < length conns → c ≡ get_or conns i c → map conn_of (take (i + 1) conns) ≡ map conn_of (take i conns) ++ conn_of c ∷ []
more_conns conns i c h at = ap (map conn_of) (take_more conns i c h ∙ ap (λ (b : code_conn.Conn). take i conns ++ b ∷ []) (sym at)) ∙ map_push conn_of (take i conns) c
