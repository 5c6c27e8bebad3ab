use Rattle.std.proofs.Common.{◌≡◌, ◌∙◌, ◌∷◌, ◌++◌, [], ap}
use Rattle.exec_core.specs.Block.{same_key}
use Rattle.block_net.specs.Logs.{key_of}
use Rattle.block_net.specs.Walks.{among, either}
use Rattle.block_net.proofs.SetSteps.{kept_still, more_one, more_same, put_last, there_already}
use Rattle.block_net.proofs.key_set.KeySet.add.Goals as goal

grown : (c : goal.In_ok-push) → among c.push.new.self.items ≡ either (among c.args.self.now.keys.items) (same_key (key_of c.args.key.now))
grown c = put_last _ _ c.args.key.now c.in_ok-key.key c.in_ok-key.ensures (c.in_ok-push.ensures.items ∙ ap (λ v. v.items ++ c.in_ok-key.key ∷ []) c.in_ok-note.ensures.keys)

pub returns-in_ok-push-clause-kept : goal.returns-in_ok-push-clause-kept
returns-in_ok-push-clause-kept c = kept_still c.args.self.now (record { keys = c.push.new.self; now = c.note.new.self.now; next = c.note.new.self.next }) (key_of c.args.key.now) c.requires c.in_ok-note.ensures.seen (grown c)

pub returns-in_ok-push-clause-keys : goal.returns-in_ok-push-clause-keys
returns-in_ok-push-clause-keys c = grown c

pub returns-else-branch-clause-kept : goal.returns-else-branch-clause-kept
returns-else-branch-clause-kept c = kept_still c.args.self.now c.note.new.self (key_of c.args.key.now) c.requires c.in_ok-note.ensures.seen (there_already c.args.self.now c.note.new.self (key_of c.args.key.now) c.in_ok-note.field-0 c.requires c.in_ok-note.ensures.new c.if-branch.false c.in_ok-note.ensures.keys)

pub returns-else-branch-clause-keys : goal.returns-else-branch-clause-keys
returns-else-branch-clause-keys c = there_already c.args.self.now c.note.new.self (key_of c.args.key.now) c.in_ok-note.field-0 c.requires c.in_ok-note.ensures.new c.if-branch.false c.in_ok-note.ensures.keys

pub returns-in_ok-push-clause-more : goal.returns-in_ok-push-clause-more
returns-in_ok-push-clause-more c = more_one _ _ _ (c.in_ok-push.ensures.items ∙ ap (λ v. v.items ++ c.in_ok-key.key ∷ []) c.in_ok-note.ensures.keys)

pub returns-else-branch-clause-more : goal.returns-else-branch-clause-more
returns-else-branch-clause-more c = more_same _ _ c.in_ok-note.ensures.keys
