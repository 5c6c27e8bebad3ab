use Rattle.std.proofs.Common.{◌∙◌, [], ap, ap₂, sym, map}
use Rattle.std.specs.Prelude.{string_bytes}
use Rattle.std.proofs.lemmas.Simd.{map-map}
use Rattle.dap_link.specs.Conversation.{last_part}
use Rattle.dbg_core.specs.World.{world_of}
use Rattle.dap_link.specs.Conversation.{begun}
use Rattle.dap_net.proofs.talking.adapter_for.Goals as goal

pub returns-clause-opened : goal.returns-clause-opened
returns-clause-opened c = c.in_ok-adapter.ensures.begun ∙ ap (λ m. begun m) (c.new-session.ensures.opening [])

pub returns-clause-world : goal.returns-clause-world
returns-clause-world c = λ over shows run runs.
    ap₂ (λ t s. world_of t s) (c.in_ok-adapter.ensures.table ∙ c.new-session.ensures.table) (c.in_ok-adapter.ensures.samples ∙ c.new-session.ensures.samples)
    ∙ c.in_ok-table.ensures.tells over shows run runs

pub returns-clause-names : goal.returns-clause-names
returns-clause-names c =
    c.in_ok-adapter.ensures.names ∙ c.in_ok-parts.ensures ∙ sym (map-map (λ name. last_part name) (λ name. string_bytes name) c.args.names.now)
