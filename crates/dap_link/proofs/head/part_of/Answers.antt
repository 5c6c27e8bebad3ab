use Rattle.std.proofs.Common.{sym, refl, ◌∙◌, inl}
use Rattle.dap_link.proofs.Heads.{headless, too_many_bytes, too_many_fields}
use Rattle.dap_link.proofs.head.part_of.Goals as goal

pub returns-then-seen-eq-MOST_HEAD : goal.returns-then-seen-eq-MOST_HEAD
returns-then-seen-eq-MOST_HEAD c = λ text s. inl (refl, too_many_bytes c.args.seen.now text c.requires.none c.if-seen-eq-MOST_HEAD.true s)

pub returns-then-begins_beyond : goal.returns-then-begins_beyond
returns-then-begins_beyond c = λ text s. inl (refl, too_many_fields c.args.seen.now text c.requires.none (sym c.begins_beyond.ensures ∙ c.if-begins_beyond.true) s)

pub returns : goal.returns
returns c = λ text s. headless c.args.seen.now text c.requires.none c.requires.more c.if-seen-eq-MOST_HEAD.false (sym c.begins_beyond.ensures ∙ c.if-begins_beyond.false) s
