-- What is ready of a list is so of each of it.
use Rattle.std.proofs.Common.{◌≡◌, ℕ, ◌<◌, List, length, get_or, All, sym, ap, ◌∙◌, subst}
use Rattle.symtab.specs.declared.parts.TableParts.{TableParts}
use Rattle.trace_core.specs.Samples.{Samples}
use Rattle.watch.specs.declared.watched.Watched.{Watched}
use Rattle.watch.specs.Changing.{IsWatchReady}

pub ready_at : (parts : TableParts) (s now : Samples) (list items : List Watched) (j : ℕ) (a : Watched) → All (IsWatchReady parts s) list → now ≡ s → items ≡ list → j < length items → a ≡ get_or items j a → IsWatchReady parts now a
ready_at parts s now list items j a h same e within is =
    subst (λ (x : Samples). IsWatchReady parts x a) (sym same)
    (subst (IsWatchReady parts s) (sym (is ∙ ap (λ (l : List Watched). get_or l j a) e)) (h j a (subst (λ (l : List Watched). j < length l) e within)))
