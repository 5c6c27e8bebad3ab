-- Where no signal has two drivers or none, each is driven once.
use Rattle.std.proofs.Common.{◌≡◌, Bool, true, true≢false, ◌||◌, not, bytes_eq, List, [], ◌∷◌, map, None, inl, inr, refl, sym, ap, ◌∙◌, subst}
use Rattle.exec_core.specs.Block.{Name}
use Rattle.list_core.specs.Lists.{EachOf, IsIn, IsNotIn, AreApart}
use Rattle.list_core.proofs.Lists.{each_member, each_from}
use Rattle.list_core.proofs.Options.{none_if}
use Rattle.design_core.specs.declared.variant.Signal.{Signal}
use Rattle.design_core.specs.Design.{Conn, Child, Block, Variant}
use Rattle.check_core.specs.Drivers.{Drive, Lines, undriven_yet, driven_also, all_driven, second_drive, conn_drive, connected_twice, twice_in_child, driven_in, driven_twice, two_drivers, drives, is_assigned, undriven_at, undriven}
use Rattle.check_core.specs.Faults.{first_of}
use Rattle.check_core.specs.Names.{is_driven}
use Rattle.check_exec.proofs.Facts.{same_name, name_same, any_in, earlier_left, earlier_right, none_found, map_none}
use Rattle.check_exec.proofs.Widths.{is_known}
use Rattle.check_laws.specs.Driving.{BodyAssigns, AssignApart, IsAssigned, DrivenOnce, AllDriven}
use Rattle.check_laws.specs.Accepting.{AcceptedAreDriven}
use Rattle.check_laws.proofs.Driven.{told_body, found_body}
use Rattle.check_laws.proofs.Used.{used_clean}

-- ---- what is driven

first_time : (before : Lines) (d : Drive) → second_drive before d ≡ None → before d.1 ≡ None
first_time before d e = map_none _ (before d.1) e

not_also : (before : Lines) (d : Drive) (x : Name) → driven_also before d x ≡ None → (before x ≡ None) × (x ≡ d.1 → ⊥)
not_also before d x e = (
  earlier_left (before x) _ e,
  λ same. true≢false (sym (name_same x d.1 same) ∙ (none_if (bytes_eq x d.1) d.0 None (earlier_right (before x) _ e)).0),
)

not_all : (before : Lines) (list : List Drive) (x : Name) → all_driven before list x ≡ None → (before x ≡ None) × ((d : Drive) → IsIn d list → x ≡ d.1 → ⊥)
not_all before [] x e = (e, λ d i. absurd i)
not_all before (d ∷ list) x e =
    let rest = not_all (driven_also before d) list x e in
    let here = not_also before d x rest.0 in
    (here.0, λ c i same. elim i [ inl is ↦ here.1 (same ∙ ap (λ (q : Drive). q.1) is) | inr j ↦ rest.1 c j same ])

-- ---- connections

none_among : (x : Name) (conns : List Conn) → ((k : Conn) → IsIn k conns → k.port ≡ x → ⊥) → IsNotIn x (map (λ (k : Conn). k.port) conns)
none_among x [] n = tt
none_among x (c ∷ conns) n = (n c (inl refl), none_among x conns (λ k i. n k (inr i)))

record FirstTimes (before : Lines) (conns : List Conn) : Type 0 where
  each : (k : Conn) → IsIn k conns → before k.port ≡ None
  apart : AreApart (map (λ (k : Conn). k.port) conns)

ports_apart : (before : Lines) (conns : List Conn) → connected_twice before conns ≡ None → FirstTimes before conns
ports_apart before [] e = record { each = λ k i. absurd i; apart = tt }
ports_apart before (c ∷ conns) e =
    let rest = ports_apart (driven_also before (conn_drive c)) conns (earlier_right (second_drive before (conn_drive c)) _ e) in
    record {
      each = λ k i. elim i [
        | inl same ↦ ap (λ (q : Conn). before q.port) same ∙ first_time before (conn_drive c) (earlier_left (second_drive before (conn_drive c)) _ e)
        | inr j ↦ (not_also before (conn_drive c) k.port (rest.each k j)).0
      ];
      apart = (none_among c.port conns (λ k j. (not_also before (conn_drive c) k.port (rest.each k j)).1), rest.apart);
    }

-- ---- blocks

record FirstBlocks (before : Lines) (blocks : List Block) : Type 0 where
  each : (b : Block) → IsIn b blocks → (x : Name) → BodyAssigns b.body x → before x ≡ None
  apart : AssignApart blocks

blocks_apart : (before : Lines) (blocks : List Block) → driven_twice before blocks ≡ None → FirstBlocks before blocks
blocks_apart before [] e = record { each = λ b i. absurd i; apart = tt }
blocks_apart before (b ∷ blocks) e =
    let rest = blocks_apart (all_driven before (driven_in b)) blocks (earlier_right (first_of (second_drive before) (driven_in b)) _ e) in
    let firsts : EachOf (λ (d : Drive). second_drive before d ≡ None) (driven_in b) = none_found (second_drive before) (driven_in b) (earlier_left (first_of (second_drive before) (driven_in b)) _ e) in
    record {
      each = λ c i x h. elim i [
        | inl same ↦
            let d = found_body b.body x (subst (λ (q : Block). BodyAssigns q.body x) same h) in
            ap before (sym d.name) ∙ first_time before d.drive (each_member (λ (d : Drive). second_drive before d ≡ None) (driven_in b) firsts d.drive d.among)
        | inr j ↦ (not_all before (driven_in b) x (rest.each c j x h)).0
      ];
      apart = (
        each_from (λ (c : Block). (x : Name) → BodyAssigns b.body x → BodyAssigns c.body x → ⊥) blocks (λ c j x g h.
            let d = found_body b.body x g in (not_all before (driven_in b) x (rest.each c j x h)).1 d.drive d.among (sym d.name)),
        rest.apart,
      );
    }

once_back : (v : Variant) → two_drivers v ≡ None → DrivenOnce v
once_back v e = record {
  ports = each_from (λ (c : Child). AreApart (map (λ (k : Conn). k.port) c.conns)) v.children (λ c i.
      (ports_apart undriven_yet c.conns (each_member (λ (c : Child). twice_in_child c ≡ None) v.children (none_found twice_in_child v.children (earlier_left (first_of twice_in_child v.children) _ e)) c i)).apart);
  blocks = (blocks_apart undriven_yet v.blocks (earlier_right (first_of twice_in_child v.children) _ e)).apart;
}

-- ---- wires and outputs

is_on : (a b : Bool) → a ≡ true → (not a || b) ≡ true → b ≡ true
is_on a b e f = ap (λ (c : Bool). not c || b) (sym e) ∙ f

assigned_back : (blocks : List Block) (x : Name) → is_assigned blocks x ≡ true → IsAssigned blocks x
assigned_back blocks x e =
    let found = any_in (λ (b : Block). drives (driven_in b) x) blocks e in
    let d = any_in (λ (c : Drive). bytes_eq x c.1) (driven_in found.0) found.1.1 in
    record { block = found.0; among = found.1.0; assigns = subst (BodyAssigns found.0.body) (sym (same_name x d.0.1 d.1.1)) (told_body found.0.body d.0 d.1.0) }

driven_back : (v : Variant) → undriven v ≡ None → AllDriven v
driven_back v e s i kind =
    assigned_back v.blocks s.name
    (is_on (is_driven s.kind) (is_assigned v.blocks s.name) kind
    (is_known (not (is_driven s.kind) || is_assigned v.blocks s.name) _
    (each_member (λ (t : Signal). undriven_at (is_assigned v.blocks) t ≡ None) v.signals (none_found (undriven_at (is_assigned v.blocks)) v.signals e) s i)))

pub accepted_are_driven : AcceptedAreDriven
accepted_are_driven d sound v u = let c = used_clean d sound v u in (once_back v c.one_driver, driven_back v c.driven)
