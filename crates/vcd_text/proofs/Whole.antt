-- What is written of a file means the file.
use Rattle.std.proofs.Common.{◌≡◌, ℕ, true, List, [], ◌∷◌, ◌++◌, length, map, refl, sym, ap, ◌∙◌, arith, append-nil}
use Rattle.std.specs.Prelude.{nat_le, codes}
use Rattle.std.specs.List.{flat_map}
use Rattle.std.proofs.lemmas.Bool.Decides.{nat_tests}
use Rattle.vcd_read.specs.Head.{no_head}
use Rattle.vcd_read.specs.Meaning.{State, InHead, InChanges}
use Rattle.vcd_text.specs.Dump.{Dump, front_text, values_text, line_text, step_text, dump_text}
use Rattle.vcd_text.specs.Told.{IsDump, IsShort, DumpsAreRead, told_value, told_changes}
use Rattle.vcd_text.proofs.Words.{Goes, none_goes, then_goes, word_goes, reads}
use Rattle.vcd_text.proofs.Values.{state_of, values_goes, steps_go}
use Rattle.vcd_text.proofs.Heads.{closed, front_goes}

module _ (dump : Dump) (is : IsDump dump) where
  abbrev began : State
  began = state_of (closed dump.scope is.scope dump.variables) 0 []

  abbrev given : State
  given = state_of (closed dump.scope is.scope dump.variables) 0 (map (told_value 0) dump.first)

  dump_end : Goes InChanges given (line_text (codes "$end" ∷ [])) InChanges given
  dump_end = word_goes InChanges InChanges (λ n. InChanges) given given given (codes "$end") [] 10 (record { some = refl; all = refl }) refl (λ n. refl) (λ n. none_goes InChanges given)

  whole : (last : ℕ) × Goes InHead (state_of no_head 0 []) (front_text dump.scope dump.variables ++ (values_text dump.first ++ (line_text (codes "$end" ∷ []) ++ flat_map step_text dump.steps))) InChanges (state_of (closed dump.scope is.scope dump.variables) last (told_changes dump))
  whole =
      let steps = steps_go dump.variables (closed dump.scope is.scope dump.variables) refl 0 (map (told_value 0) dump.first) dump.steps is.steps in (
        steps.0,
        then_goes InHead InChanges InChanges (state_of no_head 0 []) began (state_of (closed dump.scope is.scope dump.variables) steps.0 (told_changes dump)) (front_text dump.scope dump.variables) (values_text dump.first ++ (line_text (codes "$end" ∷ []) ++ flat_map step_text dump.steps))
            (front_goes dump.scope is.scope dump.variables is.variables)
            (then_goes InChanges InChanges InChanges began given (state_of (closed dump.scope is.scope dump.variables) steps.0 (told_changes dump)) (values_text dump.first) (line_text (codes "$end" ∷ []) ++ flat_map step_text dump.steps)
            (values_goes dump.variables (closed dump.scope is.scope dump.variables) refl 0 [] dump.first is.first)
            (then_goes InChanges InChanges InChanges given given (state_of (closed dump.scope is.scope dump.variables) steps.0 (told_changes dump)) (line_text (codes "$end" ∷ [])) (flat_map step_text dump.steps) dump_end steps.1)),
      )

short : (text : List ℕ) → IsShort text → nat_le (length text) 67108864 ≡ true
short text is = grind (arith, nat_tests, is.most)

pub dumps_are_read : DumpsAreRead
unfolding dump_text
dumps_are_read dump is fits = rw (short (dump_text dump) fits) (
    let all = (whole dump is).1 in
    let text = front_text dump.scope dump.variables ++ (values_text dump.first ++ (line_text (codes "$end" ∷ []) ++ flat_map step_text dump.steps)) in
    ap (reads InHead (state_of no_head 0 []) 0) (sym (append-nil text)) ∙ all.goes 0 [])
