use Rattle.std.proofs.Common.{◌≡◌, Some, refl, sym, ap, ◌∙◌, subst, arith}
use Rattle.json.specs.Json.{read_key}
use Rattle.serde_json.specs.Data.{no_members, put}
use Rattle.symtab_json.specs.Standing.{head_members, head_value, past_members, AreMembers}
use Rattle.symtab_json.proofs.Heads.{member_turn}
use Rattle.symtab_json.proofs.fields.members.Goals as goal

pub members-init : goal.members-init
members-init g c = (c.requires, refl, (no_members, c.empty-fields.ensures c.args.nodes.now, refl))

pub members-preserved : goal.members-preserved
members-preserved g c =
    let l = c.members in
    let known = l.invariant.2.0 in
    let k = c.in-Some.key.now in
    let s = c.next_key.new.reader in
    let named : read_key l.reader ≡ Some (Some k, s) = grind arith in
    let turn = member_turn k l.reader s l.invariant.0 named in
    let passed = c.in_ok-take.ensures.passed in (
      subst AreMembers (sym passed) turn.more,
      ap past_members passed ∙ sym turn.rest ∙ l.invariant.1,
      (put k (head_value s) known, c.in_ok-take.ensures.more known l.invariant.2.1, ap (head_members (put k (head_value s) known)) passed ∙ sym (turn.head_is known) ∙ l.invariant.2.2),
    )
