use Rattle.std.proofs.Common.{rules, ◌+◌, List, ap, sym, ◌∙◌, subst, map, All}
use Rattle.std.proofs.lemmas.Fn.{filter_same}
use Rattle.std.proofs.lemmas.List.Elements.{All-filter}
use Rattle.machine_core.specs.Matching.{Watch}
use Rattle.machine_core.specs.Machine.{is_watch}
use Rattle.machine_core.specs.Numbers.{AreRising}
use Rattle.machine_core.proofs.Numbers.{rising_filtered}
use Rattle.site_core.proofs.Any.{any_mapped}
use Rattle.watch.specs.declared.watched.Watched.{Watched}
use Rattle.watch.specs.Watching.{watch_of, watches, IsWatched}
use Rattle.watch.proofs.Order.{others, others_mapped, all_others}
use Rattle.watch.proofs.watch_list.WatchList.disarm.Goals as goal

pub returns-clause-told : goal.returns-clause-told
returns-clause-told c = c.has-told.ensures ∙ sym (any_mapped (is_watch c.args.wp) watch_of c.args.self.now.watched.items)

pub returns-clause-watches : goal.returns-clause-watches
returns-clause-watches c =
    let left = filter_same _ (others c.args.wp) _ (λ x b f k. search rules) _ _ c.retain.ensures.filtered in
    ap (map watch_of) left ∙ others_mapped c.args.wp c.args.self.now.watched.items

pub returns-clause-kept : goal.returns-clause-kept
returns-clause-kept c = λ none.
    let left = filter_same _ (others c.args.wp) _ (λ x b f k. search rules) _ _ c.retain.ensures.filtered in
    ap (map watch_of) left ∙ others_mapped c.args.wp c.args.self.now.watched.items
    ∙ all_others c.args.wp (watches c.args.self.now) (any_mapped (is_watch c.args.wp) watch_of c.args.self.now.watched.items ∙ sym c.has-told.ensures ∙ none)

pub returns-clause-own : goal.returns-clause-own
returns-clause-own c = λ parts own.
    let left = filter_same _ (others c.args.wp) _ (λ x b f k. search rules) _ _ c.retain.ensures.filtered in
    subst (λ (l : List Watched). All (IsWatched parts) l) (sym left) (All-filter (others c.args.wp) (IsWatched parts) c.args.self.now.watched.items own)

pub returns-clause-order : goal.returns-clause-order
returns-clause-order c = λ rises.
    let left = filter_same _ (others c.args.wp) _ (λ x b f k. search rules) _ _ c.retain.ensures.filtered in
    subst (λ (ws : List Watch). AreRising 1 (map (λ (watch : Watch). watch.number) ws) (c.args.self.now.given + 1))
    (sym (ap (map watch_of) left ∙ others_mapped c.args.wp c.args.self.now.watched.items))
    (rising_filtered (λ (watch : Watch). watch.number) _ 1 (watches c.args.self.now) (c.args.self.now.given + 1) rises)
