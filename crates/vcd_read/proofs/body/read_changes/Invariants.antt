use Rattle.std.proofs.Common.{◌≡◌, length}
use Rattle.vcd_read.specs.Changes.{no_story}
use Rattle.vcd_read.specs.Meaning.{told_by, InChanges}
use Rattle.vcd_read.proofs.body.read_changes.Given as goal

-- what was told, and the words that are left, tell all
abbrev pub invariant-loop-word : goal.invariant-loop-word
invariant-loop-word l =
    told_by InChanges (record { head = l.head; story = l.changes }) l.words ≡ told_by InChanges (record { head = l.head; story = no_story }) l.initial.words

abbrev pub decreases-loop-word : goal.decreases-loop-word
decreases-loop-word l = length l.words
