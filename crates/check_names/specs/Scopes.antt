-- What the code knows of a module's names.
use Rattle.check_names.specs.declared.scope.Scope as code_scope
use Rattle.names.specs.Known.{has}
use Rattle.check_core.specs.Names.{Scope}

abbrev pub scope_in : code_scope.Scope → Scope
scope_in s = record { signal = has s.signals; child = has s.children; driven = has s.driven; register = has s.registers }
