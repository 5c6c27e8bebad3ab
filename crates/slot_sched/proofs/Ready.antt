-- What is ready of a list is so of each of it.
use Rattle.std.proofs.Common.{◌≡◌, ℕ, ◌<◌, List, length, get_or, sym, ap, ◌∙◌, subst}
use Rattle.symtab.specs.declared.parts.TableParts.{TableParts}
use Rattle.trace_core.specs.Samples.{Samples}
use Rattle.slot_sched.specs.declared.armed.Armed.{Armed}
use Rattle.slot_sched.specs.Waiting.{IsArmedReady, AreReady}

pub ready_at : (parts : TableParts) (s : Samples) (armed items : List Armed) (j : ℕ) (a : Armed) → AreReady parts s armed → items ≡ armed → j < length items → a ≡ get_or items j a → IsArmedReady parts s a
ready_at parts s armed items j a h e within is =
    subst (IsArmedReady parts s) (sym (is ∙ ap (λ (l : List Armed). get_or l j a) e)) (h.each j a (subst (λ (l : List Armed). j < length l) e within))
