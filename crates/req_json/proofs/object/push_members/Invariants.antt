use Rattle.std.proofs.Common.{◌≡◌, ◌++◌, false}
use Rattle.req_json.specs.Objects.{pairs_text, texts_in}
use Rattle.req_json.proofs.object.push_members.Given as goal

-- what was added, with what is left, is all
abbrev pub invariant-loop-key : goal.invariant-loop-key
invariant-loop-key l = l.text.items ++ pairs_text l.later (texts_in l.key-iterator) ≡ l.initial.text.items ++ pairs_text false (texts_in l.members.entries)
