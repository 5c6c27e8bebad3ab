-- The names of signals, put in one after another.
use Rattle.std.proofs.Common.{◌≡◌, ℕ, ◌+◌, ◌<◌, ◌≤◌, Bool, true, false, ◌||◌, ◌&&◌, length, drop, get_or, bytes_eq, List, if◌then◌else◌, refl, sym, ap, ◌∙◌}
use Rattle.std.proofs.lemmas.List.{drop_more}
use Rattle.std.proofs.Math.ListN.{drop_of_length-le}
use Rattle.design_core.specs.declared.variant.Signal.{Signal}
use Rattle.design_core.specs.declared.variant.Kind.{Kind}
use Rattle.names.specs.Known.{Name, Known, with, either}
use Rattle.check_core.specs.Names.{named}

either_end : (a : Bool) → (a || false) ≡ a
either_end true = refl
either_end false = refl

pub named_next : (kinds : Kind → Bool) (signals : List Signal) (i : ℕ) (s : Signal) (old new : Known) → i < length signals → s ≡ get_or signals i s
    → new ≡ (if kinds s.kind then with s.name old else old) → either new (named kinds (drop (i + 1) signals)) ≡ either old (named kinds (drop i signals))
named_next kinds signals i s old new inside at is =
    λ j x. (ap (λ (k : Known). k x || named kinds (drop (i + 1) signals) x) is
    ∙ by_kind x (kinds s.kind)
    ∙ ap (λ (t : Signal). old x || ((kinds t.kind && bytes_eq x t.name) || named kinds (drop (i + 1) signals) x)) at
    ∙ ap (λ (l : List Signal). old x || named kinds l x) (sym (drop_more signals i s inside))) j
  where
    swap : (a b c : Bool) → ((a || b) || c) ≡ (b || (a || c))
    swap true true c = refl
    swap true false c = refl
    swap false true c = refl
    swap false false c = refl

    by_kind : (x : Name) (b : Bool) → ((if b then with s.name old else old) x || named kinds (drop (i + 1) signals) x) ≡ (old x || ((b && bytes_eq x s.name) || named kinds (drop (i + 1) signals) x))
    by_kind x true = swap (bytes_eq x s.name) (old x) (named kinds (drop (i + 1) signals) x)
    by_kind x false = refl

pub named_end : (kinds : Kind → Bool) (signals : List Signal) (i : ℕ) (known : Known) → length signals ≤ i → either known (named kinds (drop i signals)) ≡ known
named_end kinds signals i known past = λ j x. (ap (λ (l : List Signal). known x || named kinds l x) (drop_of_length-le signals past) ∙ either_end (known x)) j
