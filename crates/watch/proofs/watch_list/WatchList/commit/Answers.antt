use Rattle.std.proofs.Common.{refl}
use Rattle.std.proofs.lemmas.List.Elements.{All-push, All-same}
use Rattle.watch.specs.Watching.{IsWatched}
use Rattle.watch.proofs.Order.{order_more}
use Rattle.watch.proofs.watch_list.WatchList.commit.Goals as goal

pub returns-clause-own : goal.returns-clause-own
returns-clause-own c = λ parts armable own.
    All-same (IsWatched parts) _ _ c.in_ok-push.ensures.items (All-push (IsWatched parts) c.args.self.now.watched.items _ own (record { places = armable.places; each = armable.each }))

pub returns-clause-order : goal.returns-clause-order
returns-clause-order c = order_more c.args.self.now.watched.items c.push.new.self.items _ c.args.self.now.given c.in_ok-push.ensures.items refl
