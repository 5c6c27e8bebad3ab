-- What the walk of the code gives, as what a walk gives.
use Rattle.std.specs.Prelude.{map}
use Rattle.design_core.specs.View.{conn_of, block_of}
use Rattle.elab_core.specs.declared.instance.Child as code_child
use Rattle.elab_core.specs.declared.instance.Content as code_content
use Rattle.elab_core.specs.declared.instance.Instance as code_instance
use Rattle.elab_core.specs.Elaborated.{Child, Content, Instance}

unfoldable pub child_of : code_child.Child → Child
child_of c = record { line = c.line; name = c.name; place = c.place; params = c.params; conns = map conn_of c.conns.items }

unfoldable pub content_of : code_content.Content → Content
content_of c = record { signals = c.signals.items; children = map child_of c.children.items; blocks = map block_of c.blocks.items }

unfoldable pub instance_of : code_instance.Instance → Instance
instance_of i = record { path = i.path; parent = i.parent; place = i.place; params = i.params; content = content_of i.content }
