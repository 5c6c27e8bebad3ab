-- The conversation that an adapter is in, and what it says.
use Rattle.std.specs.Prelude.{map}
use Rattle.dap_link.specs.declared.adapter.Adapter.{Adapter}
use Rattle.dap_link.specs.declared.adapter.Said.{Said}
use Rattle.dap_link.specs.State.{alone}
use Rattle.dap_link.specs.Conversation.{Conversation, Spoken}

-- no listener hears of it
abbrev pub conversation_of : {T : Type 0} {g : _} → Adapter T g → Conversation
conversation_of a = record { machine = alone a.session; set = a.set.items; written = a.written }

-- what was said, and the conversation that is left
abbrev pub told_of : Conversation → Said → Spoken
told_of after said = record { lines = map (λ line. line.items) said.lines.items; after = after; ended = said.ended }
