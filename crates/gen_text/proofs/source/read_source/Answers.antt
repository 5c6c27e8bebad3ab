use Rattle.gen_text.proofs.Answers.{source_text}
use Rattle.gen_text.proofs.source.read_source.Goals as goal

pub read_text-requires-clause-is_text : goal.read_text-requires-clause-is_text
read_text-requires-clause-is_text c = source_text c.args.text.now c.if-text-gt-SOURCE_MAX.false c.in-None.ensures
