-- What an expression comes to by a table and a trace is what the machine says of it in a thread.
use Rattle.std.proofs.Common.{◌≡◌, ℕ, ◌/◌, ◌%◌, ◌<◌, ◌&&◌, true, List, [], ◌∷◌, length, Option, Some, None, Result, Ok, Err, refl, sym, ap, ap₂, ◌∙◌, subst, lt-ltb, if◌then◌else◌}
use Rattle.std.specs.Prelude.{nat_eq, Contains, IfOk}
use Rattle.std.specs.List.{list_any, list_all}
use Rattle.bv_core.specs.Value.{Bits}
use Rattle.bv_core.specs.declared.Binding.{Binding}
use Rattle.bv_core.specs.declared.Ref.{Ref}
use Rattle.bv_core.specs.declared.Sample.{Sample}
use Rattle.bv_core.specs.declared.Sample.TheVariants.{Known, Unknown}
use Rattle.tree_core.specs.Tree.{Tree}
use Rattle.list_core.specs.Lists.{EachOf, IsIn}
use Rattle.text_core.specs.declared.memory.NoMemory.{NoMemory}
use Rattle.exec_core.specs.Block.{Name}
use Rattle.gen_tree.specs.Tree.{Expr}
use Rattle.symtab.specs.declared.parts.TableParts.{TableParts}
use Rattle.symtab.specs.Shape.{IsTable}
use Rattle.symtab.specs.Lookups.{instances_of, binding_of}
use Rattle.trace_core.specs.Samples.{Samples}
use Rattle.trace_world.specs.TraceWorld as world
use Rattle.trace_world.specs.Fitting.{FitsTable}
use Rattle.world_core.specs.World.{value_shown}
use Rattle.cond_lang.specs.declared.fault.CondFault.{CondFault}
use Rattle.cond_lang.specs.declared.fault.CondFault.TheVariants as cond_faults
use Rattle.cond_lang.specs.declared.text.CondText.{CondText}
use Rattle.cond_lang.specs.Bound as bound
use Rattle.cond_lang.specs.Bound.{scope_of, ref_or_nought, bound_by, bound_value, EachNode}
use Rattle.cond_lang.specs.Faults.{IsCause}
use Rattle.cond_lang.specs.Judged.{Refusal, judged}
use Rattle.cond_lang.specs.Meaning as cond
use Rattle.cond_lang.specs.Meaning.{tree_of, leaves}
use Rattle.cond_lang.specs.Reading.{Reads}
use Rattle.cond_lang.specs.TextShown.{text_expr, text_offsets}
use Rattle.cond_lang.proofs.Nodes.{each_place}
use Rattle.machine_core.specs.declared.reply.Body.{Body}
use Rattle.machine_core.specs.declared.reply.Body.TheVariants as body
use Rattle.machine_core.specs.Reading.{Reading, Condition, NoCondition, Reader, IsReader}
use Rattle.machine_core.specs.Matching.{value_there}
use Rattle.machine_core.specs.Machine.{sample_of, threads_at}
use Rattle.site_core.specs.Sampled.{cycle_samples, IsNodeOf}
use Rattle.site_core.proofs.Told.{shown_told}
use Rattle.site_core.proofs.Readings.{read_never}
use Rattle.site_core.proofs.Scopes.{judged_told}
use Rattle.site_core.proofs.Values.{bound_value_is, value_told, node_of}
use Rattle.site_core.specs.Positions.{total_of}
use Rattle.dbg_core.specs.World.{world_of}
use Rattle.dbg_core.specs.Answering.{judged_body, read_body, eval_body}
use Rattle.dbg_core.specs.Eval.{is_refused_so, is_unread_so, value_or, text_body, table_body}
use Rattle.dbg_core.proofs.Positions.{slots_told}
use Rattle.dbg_core.proofs.Threads.{cycle_inside, slot_inside}
use Rattle.dbg_core.proofs.Values.{any_in}

-- ---- nodes

-- those of a condition that was bound may be asked for, and have their widths
pub nodes_own : (parts : TableParts) → IsTable parts → (s : Samples) → FitsTable parts s → (k i : ℕ) (text : CondText) (tree : Tree Ref)
    → tree ≡ bound_by (binding_of parts k i) (text_expr text) → EachNode (IsNodeOf s) tree
nodes_own parts table s fits k i text tree e =
    subst (EachNode (IsNodeOf s)) (sym e)
    (each_place (IsNodeOf s) (λ x. ref_or_nought (binding_of parts k i x)) (λ x. node_of parts table s fits k i x (binding_of parts k i x) refl) (tree_of (text_expr text)))

-- ---- the value

sample_is : (v : Sample) (o : Option Bits) → bound.known v ≡ o → v ≡ sample_of o
sample_is (Known b) None e = cc
sample_is (Known b) (Some c) e = ap Known (let f : b ≡ c = cc in f)
sample_is Unknown None e = refl
sample_is Unknown (Some c) e = cc

pub bound_body : (parts : TableParts) (samples : ℕ → Sample) (k i : ℕ) (text : CondText) (value : Sample) (width : ℕ) (tree : Tree Ref)
    → judged (scope_of (binding_of parts k i)) (text_expr text) (text_offsets text) ≡ Ok width → tree ≡ bound_by (binding_of parts k i) (text_expr text)
    → bound.known value ≡ bound_value (λ node. samples node.0) tree → body.Eval value ≡ text_body parts samples k i text
bound_body parts samples k i text value width tree own same known =
    let is : bound.known value ≡ cond.value_by (λ x. world.value_by samples (binding_of parts k i x)) (text_expr text) =
    known ∙ ap (bound_value (λ node. samples node.0)) same ∙ bound_value_is samples (binding_of parts k i) (text_expr text) (text_offsets text) own in
    ap body.Eval (sample_is value _ is) ∙ ap (value_or samples (binding_of parts k i) k (text_expr text)) (sym own)

-- a refusal by its names is one by what they stand for
refused_is : (samples : ℕ → Sample) (places : Name → Option Binding) (k : ℕ) (e : Expr) (r : Result ℕ Refusal) (told : Body) → is_refused_so k r told → told ≡ value_or samples places k e r
refused_is samples places k e (Ok width) told h = absurd h
refused_is samples places k e (Err refusal) told h = h

refused_ok : (r : Result Body NoMemory) (j : Result ℕ Refusal) (samples : ℕ → Sample) (places : Name → Option Binding) (k : ℕ) (e : Expr) → IfOk r (is_refused_so k j) → IfOk r (λ told. told ≡ value_or samples places k e j)
refused_ok (Ok told) j samples places k e h = refused_is samples places k e j told h
refused_ok (Err end) j samples places k e h = h

pub unbound_body : (parts : TableParts) (samples : ℕ → Sample) (k i : ℕ) (text : CondText) (r : Result Body NoMemory)
    → IfOk r (is_refused_so k (judged (scope_of (binding_of parts k i)) (text_expr text) (text_offsets text))) → IfOk r (λ told. told ≡ text_body parts samples k i text)
unbound_body parts samples k i text r h =
    refused_ok r (judged (scope_of (binding_of parts k i)) (text_expr text) (text_offsets text)) samples (binding_of parts k i) k (text_expr text) h

-- a text that is none
pub unread_body : (parts : TableParts) (samples : ℕ → Sample) (k i : ℕ) (read : Reader) → IsReader read → (text : List ℕ) (fault : CondFault) (r : Result Body NoMemory) → IsCause text fault
    → IfOk r (is_unread_so fault) → IfOk r (λ told. told ≡ table_body parts samples k i (read text))
unread_body parts samples k i read reader text (cond_faults.At offset) (Ok told) cause h = h ∙ ap (table_body parts samples k i) (sym (read_never read reader text offset cause))
unread_body parts samples k i read reader text cond_faults.NoMemory (Ok told) cause h = absurd h
unread_body parts samples k i read reader text fault (Err end) cause h = tt

-- ---- in a thread

module _ (parts : TableParts) (table : IsTable parts) (s : Samples) (t k i : ℕ) (inside : t < s.cycles) (below : k < length parts.slots)
    (among : Contains (instances_of parts k) i) (thread : IsIn i ((world_of parts s).threads t k)) where
  value_is : (e : Expr) → cond.value_by (λ x. world.value_by (s.sample t) (binding_of parts k i x)) e ≡ value_there (world_of parts s) t k i e
  value_is e = (λ j. cond.value_by (λ x. (sym (value_told (s.sample t) (binding_of parts k i x)) ∙ ap value_shown (sym (shown_told parts s t k inside below i x thread))) j) e)

  by_judged : (e : Expr) (r : Result ℕ Refusal) → value_or (s.sample t) (binding_of parts k i) k e r ≡ judged_body (world_of parts s) t k i e r
  by_judged e (Ok width) = ap (λ o. body.Eval (sample_of o)) (value_is e)
  by_judged e (Err refusal) = refl

  pub read_told : (reading : Reading) → table_body parts (s.sample t) k i reading ≡ read_body (world_of parts s) t k i reading
  read_told (NoCondition offset) = refl
  read_told (Condition e offsets) =
      by_judged e (judged (scope_of (binding_of parts k i)) e offsets)
      ∙ ap (judged_body (world_of parts s) t k i e) (sym (judged_told parts table s k i among e offsets))

-- at a position, where a trace was set
pub eval_at_stop : (parts : TableParts) → IsTable parts → (s : Samples) (p : ℕ) → p < total_of parts s → (now : Samples) (cursor : Option ℕ) (slot i : ℕ) → now ≡ s → cursor ≡ Some (p / length parts.slots)
    → slot ≡ p % length parts.slots → Contains (instances_of parts (p % length parts.slots)) i → list_any (nat_eq i) (threads_at (world_of parts s) p) ≡ true → (reading : Reading)
    → table_body parts (cycle_samples now cursor) slot i reading ≡ eval_body (world_of parts s) reading (p, i)
eval_at_stop parts table s p below now cursor slot i en ec ek among thread reading =
    let inside = cycle_inside s.cycles (length parts.slots) p below in
    let there = slot_inside s.cycles (length parts.slots) p below in
    let own : IsIn i ((world_of parts s).threads (p / length parts.slots) (p % length parts.slots)) =
    any_in i _ (ap (λ n. list_any (nat_eq i) ((world_of parts s).threads (p / n) (p % n))) (sym (slots_told parts s)) ∙ thread) in
    (λ j. table_body parts (cycle_samples (en j) (ec j)) (ek j) i reading)
    ∙ read_told parts table s (p / length parts.slots) (p % length parts.slots) i inside there among own reading
    ∙ ap (λ n. read_body (world_of parts s) (p / n) (p % n) i reading) (sym (slots_told parts s))
