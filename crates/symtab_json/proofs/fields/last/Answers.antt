use Rattle.std.proofs.Common.{◌≡◌, Some, option_and_then, refl, sym, ap, ◌∙◌, subst, true≢false, arith}
use Rattle.std.proofs.lemmas.Slice.Eq.{bytes_eq-Decides}
use Rattle.json.specs.Json.{read_key}
use Rattle.serde_json.specs.Data.{no_members, put}
use Rattle.serde_json.specs.Find.{get_member}
use Rattle.serde_json.proofs.Views.{get_member-put, get_member-put_other}
use Rattle.symtab_json.specs.Standing.{head_members, head_value, AreMembers}
use Rattle.symtab_json.proofs.Heads.{member_turn}
use Rattle.symtab_json.proofs.fields.last.Goals as goal

pub members-init : goal.members-init
members-init g c = (c.requires, (no_members, refl, refl))

pub members-preserved-then-eq : goal.members-preserved-then-eq
members-preserved-then-eq g c =
    let l = c.members in
    let known = l.invariant.1.0 in
    let k = c.in-Some.key.now in
    let s = c.next_key.new.reader in
    let told = g.T.Told.told c.args.nodes.now in
    let named : read_key l.reader ≡ Some (Some k, s) = grind arith in
    let wanted = (bytes_eq-Decides k c.args.wanted.now).0 (sym c.eq.ensures ∙ c.if-eq.true) in
    let turn = member_turn k l.reader s l.invariant.0 named in
    let passed = c.in_ok-found.ensures.passed in (
      subst AreMembers (sym passed) turn.more,
      (
        put k (head_value s) known,
        c.in_ok-found.ensures.told ∙ ap (option_and_then told) (sym (get_member-put k (head_value s) known) ∙ ap (λ q. get_member q (put k (head_value s) known)) wanted),
        ap (head_members (put k (head_value s) known)) passed ∙ sym (turn.head_is known) ∙ l.invariant.1.2,
      ),
    )

pub members-preserved : goal.members-preserved
members-preserved g c =
    let l = c.members in
    let known = l.invariant.1.0 in
    let k = c.in-Some.key.now in
    let s = c.next_key.new.reader in
    let told = g.T.Told.told c.args.nodes.now in
    let named : read_key l.reader ≡ Some (Some k, s) = grind arith in
    let turn = member_turn k l.reader s l.invariant.0 named in
    let passed = c.pass_value.ensures in (
      subst AreMembers (sym passed) turn.more,
      (
        put k (head_value s) known,
        l.invariant.1.1 ∙ ap (option_and_then told) (sym (get_member-put_other c.args.wanted.now k (head_value s) known (λ e. true≢false (sym ((bytes_eq-Decides k c.args.wanted.now).1 (sym e)) ∙ sym c.eq.ensures ∙ c.if-eq.false)))),
        ap (head_members (put k (head_value s) known)) passed ∙ sym (turn.head_is known) ∙ l.invariant.1.2,
      ),
    )
