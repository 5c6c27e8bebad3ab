use Rattle.std.proofs.Common.{◌≡◌, false, take}
use Rattle.std.specs.List.{list_any}
use Rattle.watch.specs.Watching.{is_number}
use Rattle.watch.proofs.watch_list.WatchList.has.Given as goal

abbrev pub invariant-loop-watched : goal.invariant-loop-watched
invariant-loop-watched l = list_any (is_number l.wp) (take l.watched-index l.self.watched.items) ≡ false
