-- Which keys a set of keys has seen.
use Rattle.std.specs.Prelude.{◌≡◌, Bool, List, ◌++◌}
use Rattle.exec_core.specs.Block.{Key, Now, Next}
use Rattle.names.specs.Known.{has}
use Rattle.block_net.specs.declared.key.Key as code_key
use Rattle.block_net.specs.declared.key_set.KeySet.{KeySet}
use Rattle.block_net.specs.Walks.{among}

abbrev pub seen : KeySet → Key → Bool
seen s (Now x) = has s.now x
seen s (Next x) = has s.next x

-- they are those of its list
abbrev pub IsKept : KeySet → Type 0
IsKept s = seen s ≡ among s.keys.items

-- its list begins with that of another
pub record KeysMore (old new : KeySet) : Type 0 where
  pub more : List code_key.Key
  pub is : new.keys.items ≡ old.keys.items ++ more
