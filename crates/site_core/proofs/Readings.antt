-- A text is read in one way by every reader.
use Rattle.std.proofs.Common.{◌≡◌, ℕ, List, ap, ◌∙◌, arith, refl}
use Rattle.gen_tree.specs.Tree.{Expr}
use Rattle.cond_lang.specs.Reading.{Reads, IsFirstPlace}
use Rattle.cond_lang.proofs.FirstPlace.{one_answer}
use Rattle.machine_core.specs.Reading.{Reader, Reading, Condition, NoCondition, IsReader, IsReading}

pub read_once : (read : Reader) → IsReader read → (text : List ℕ) (e : Expr) (offsets : List ℕ) → Reads text e offsets → read text ≡ Condition e offsets
read_once read reader text e offsets reads = by_reading (read text) refl (reader text)
  where
    by_reading : (r : Reading) → read text ≡ r → IsReading text r → read text ≡ Condition e offsets
    by_reading (Condition f others) is h =
        let same = (one_answer text).one_reading f e others offsets h reads in
        is ∙ (λ j. Condition (same.0 j) (same.1 j))
    by_reading (NoCondition offset) is h = absurd ((one_answer text).no_place e offsets offset reads h.place)

pub read_never : (read : Reader) → IsReader read → (text : List ℕ) (offset : ℕ) → IsFirstPlace text offset → read text ≡ NoCondition offset
read_never read reader text offset first = by_reading (read text) refl (reader text)
  where
    by_reading : (r : Reading) → read text ≡ r → IsReading text r → read text ≡ NoCondition offset
    by_reading (Condition e offsets) is h = absurd ((one_answer text).no_place e offsets offset h first.place)
    by_reading (NoCondition other) is h =
        let up = first.least other h.place in
        let down = h.least offset first.place in
        is ∙ ap NoCondition (let same : other ≡ offset = omega (arith, up, down) in same)
