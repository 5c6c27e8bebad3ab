-- What a command led to, by what the calls of the adapter give.
use Rattle.machine_core.specs.Machine.{Machine}
use Rattle.dap_link.specs.declared.asking.Reacted.{Reacted}
use Rattle.dap_link.specs.Conversation.{Led, Reaction, Set}

abbrev pub led_of : Machine → Reacted → Led
led_of m reacted = record { after = m; told = reacted.told; happened = reacted.happened }

-- with the breakpoints that are left
abbrev pub reaction_of : Machine → Set → Reacted → Reaction
reaction_of m set reacted = record { led = led_of m reacted; set = set }
