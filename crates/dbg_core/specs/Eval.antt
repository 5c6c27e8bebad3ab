-- What an expression comes to at a slot of an instance, by a table and the samples of a cycle.
use Rattle.std.specs.Prelude.{◌≡◌, ℕ, List, Option, Result, Ok, Err}
use Rattle.bv_core.specs.declared.reference.Binding.{Binding}
use Rattle.bv_core.specs.declared.reference.Sample.{Sample}
use Rattle.exec_core.specs.Block.{Name}
use Rattle.gen_tree.specs.Tree.{Expr}
use Rattle.symtab.specs.declared.parts.TableParts.{TableParts}
use Rattle.symtab.specs.Lookups.{binding_of}
use Rattle.trace_world.specs.TraceWorld as world
use Rattle.cond_lang.specs.declared.text.CondText.{CondText}
use Rattle.cond_lang.specs.declared.fault.CondFault.{CondFault}
use Rattle.cond_lang.specs.declared.fault.CondFault.TheVariants as cond_faults
use Rattle.cond_lang.specs.Bound.{scope_of}
use Rattle.cond_lang.specs.Judged.{Refusal, judged}
use Rattle.cond_lang.specs.Meaning as cond
use Rattle.cond_lang.specs.TextShown.{text_expr, text_offsets}
use Rattle.machine_core.specs.declared.reply.Body.{Body}
use Rattle.machine_core.specs.declared.reply.Body.TheVariants as body
use Rattle.machine_core.specs.Reading.{Reading, Condition, NoCondition}
use Rattle.machine_core.specs.Arming.{refusal_at}
use Rattle.machine_core.specs.Machine.{sample_of}

-- what is answered where it has no value
abbrev pub is_refused_so : ℕ → Result ℕ Refusal → Body → Type 0
is_refused_so k (Ok width) told = ⊥
is_refused_so k (Err refusal) told = told ≡ refusal_at k refusal

-- what is answered where a text is none
abbrev pub is_unread_so : CondFault → Body → Type 0
is_unread_so (cond_faults.At offset) told = told ≡ body.BadCondAt offset
is_unread_so cond_faults.NoMemory told = ⊥

-- its value, where names stand for this
abbrev pub value_or : (ℕ → Sample) → (Name → Option Binding) → ℕ → Expr → Result ℕ Refusal → Body
value_or samples places k e (Err refusal) = refusal_at k refusal
value_or samples places k e (Ok width) = body.Eval (sample_of (cond.value_by (λ x. world.value_by samples (places x)) e))

abbrev pub expr_body : (ℕ → Sample) → (Name → Option Binding) → ℕ → Expr → List ℕ → Body
expr_body samples places k e offsets = value_or samples places k e (judged (scope_of places) e offsets)

-- of a text that was read, and of one by its reading
abbrev pub text_body : TableParts → (ℕ → Sample) → (slot instance : ℕ) → CondText → Body
text_body parts samples k i text = expr_body samples (binding_of parts k i) k (text_expr text) (text_offsets text)

abbrev pub table_body : TableParts → (ℕ → Sample) → (slot instance : ℕ) → Reading → Body
table_body parts samples k i (NoCondition offset) = body.BadCondAt offset
table_body parts samples k i (Condition e offsets) = expr_body samples (binding_of parts k i) k e offsets
