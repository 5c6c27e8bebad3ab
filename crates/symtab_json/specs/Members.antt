-- What the members of a row, of a slot and of a file tell.
use Rattle.std.specs.Prelude.{◌≡◌, true, List, Some, codes, is_some, option_map, option_and_then}
use Rattle.std.specs.Option.{option_map_or}
use Rattle.symtab.specs.declared.parts.NodeName.{NodeName}
use Rattle.serde_json.specs.Data.{Data, Members}
use Rattle.serde_json.specs.Find.{as_object, as_str, get_member}
use Rattle.symtab_json.specs.Entries.{told_cell, told_count, told_gen, told_instance, told_list, told_member, told_node, told_on, told_row, told_short}
use Rattle.symtab_json.specs.Judged.{list_len, variants_len}
use Rattle.symtab_json.specs.declared.preface.Preface.{Preface}
use Rattle.symtab_json.specs.declared.readings.RowFields.{RowFields}
use Rattle.symtab_json.specs.declared.readings.SlotFields.{SlotFields}

-- the members of a row: the last of each key
abbrev pub row_fields : List NodeName → Members → RowFields
row_fields nodes ms = record {
  on = option_and_then (told_on nodes) (get_member (codes "on") ms);
  cells = option_and_then (told_short (told_cell nodes)) (get_member (codes "cells") ms);
}

-- the members of a slot: the last of each key
abbrev pub slot_fields : List NodeName → Members → SlotFields
slot_fields nodes ms = record {
  variant = option_and_then told_count (get_member (codes "variant") ms);
  file = option_and_then told_count (get_member (codes "file") ms);
  line = option_and_then told_count (get_member (codes "line") ms);
  gens = option_and_then (told_short told_gen) (get_member (codes "gens") ms);
  names = option_and_then (told_short as_str) (get_member (codes "names") ms);
  rows = option_and_then (told_short (told_row nodes)) (get_member (codes "rows") ms);
}

-- the members of a file that its slots are read over: the last of each key
abbrev pub preface : List NodeName → Members → Preface
preface nodes ms = record {
  version = option_and_then told_count (get_member (codes "version") ms);
  instances = option_and_then (told_short told_instance) (get_member (codes "instances") ms);
  nodes = option_and_then (λ d. option_map (λ xs. record { items = xs }) (told_list told_node d)) (get_member (codes "nodes") ms);
  variants = option_and_then (λ d. Some (record { 0 = list_len d })) (get_member (codes "variants") ms);
}

-- this is the preface of a value, which is an object
pub record IsPreface (d : Data) (h : Preface) : Type 0 where
  pub whole : is_some (as_object d) ≡ true
  pub version : h.version ≡ told_member told_count (codes "version") d
  pub instances : h.instances ≡ told_member (told_short told_instance) (codes "instances") d
  pub nodes : option_map (λ list. list.items) h.nodes ≡ told_member (told_list told_node) (codes "nodes") d
  pub variants : option_map_or (λ n. n.0) h.variants 0 ≡ variants_len d
