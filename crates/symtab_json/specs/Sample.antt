-- The symbol file of a design of one instance with five statements, worked by hand.
use Rattle.std.specs.Prelude.{◌≡◌, ℕ, List, [], ◌∷◌, ◌++◌, codes}
use Rattle.bv_core.specs.declared.Ref.{Ref}
use Rattle.bv_core.specs.declared.Ref.TheVariants.{Node, Const}
use Rattle.bv_core.specs.declared.Binding.{Binding}
use Rattle.bv_core.specs.declared.Binding.TheVariants.{Value, Unset}
use Rattle.symtab.specs.declared.parts.NodeName.{NodeName}
use Rattle.symtab.specs.declared.parts.Slot.{Slot}
use Rattle.symtab.specs.declared.parts.TableParts.{TableParts}
use Rattle.symtab_json.specs.Files.{symbols_text}

abbrev node : List ℕ → ℕ → NodeName
node name width = record { name = name; width = width }

abbrev at : ℕ → ℕ → Ref
at id width = Node (record { 0 = id }) width

-- the literal 1 of width 1
abbrev always : Ref
always = Const (record { width = 1; value = 1 })

abbrev slot : ℕ → Ref → Binding → Binding → Slot
slot line on q t = record {
  variant = 0;
  line = line;
  gens = [];
  names = codes "en" ∷ codes "d" ∷ codes "q" ∷ codes "t" ∷ codes "r" ∷ [];
  rows = record { on = on; cells = Value (at 0 1) ∷ Value (at 2 8) ∷ q ∷ t ∷ Value (at 1 8) ∷ [] } ∷ [];
}

abbrev pub sample_parts : TableParts
sample_parts = record {
  top = codes "A";
  nodes = node (codes "en") 1 ∷ node (codes "_1") 8 ∷ node (codes "d") 8 ∷ node (codes "_3") 8 ∷ node (codes "_4") 8 ∷ node (codes "_5") 1 ∷ [];
  variants = record { «module» = codes "A"; gens = [] } ∷ [];
  instances = record { path = codes "A"; variant = 0 } ∷ [];
  slots =
      slot 8 always Unset Unset
      ∷ slot 9 always Unset (Value (at 1 8))
      ∷ slot 10 (at 0 1) Unset (Value (at 1 8))
      ∷ slot 12 always Unset (Value (at 4 8))
      ∷ slot 14 always (Value (at 4 8)) (Value (at 4 8))
      ∷ [];
}

-- a slot's text, of the digits of its line, its cells, and its enable
abbrev slot_text : List ℕ → List ℕ → List ℕ → List ℕ
slot_text line cells on =
    codes "{\"file\":0,\"gens\":[],\"line\":" ++ line ++ codes ",\"names\":[\"en\",\"d\",\"q\",\"t\",\"r\"],\"rows\":[{\"cells\":[" ++ cells ++ codes "],\"on\":" ++ on ++ codes "}],\"variant\":0}"

-- the bytes of the file
abbrev pub sample_text : List ℕ
sample_text =
    codes "{\"instances\":[[\"A\",0]],\"nodes\":[[\"en\",1],[\"_1\",8],[\"d\",8],[\"_3\",8],[\"_4\",8],[\"_5\",1]],\"slots\":["
    ++ slot_text (codes "8") (codes "0,2,\"unset\",\"unset\",1") (codes "\"1'h1\"") ++ codes ","
    ++ slot_text (codes "9") (codes "0,2,\"unset\",1,1") (codes "\"1'h1\"") ++ codes ","
    ++ slot_text (codes "10") (codes "0,2,\"unset\",1,1") (codes "0") ++ codes ","
    ++ slot_text (codes "12") (codes "0,2,\"unset\",4,1") (codes "\"1'h1\"") ++ codes ","
    ++ slot_text (codes "14") (codes "0,2,4,4,1") (codes "\"1'h1\"")
    ++ codes "],\"top\":\"A\",\"variants\":[[\"A\",[]]],\"version\":2}"

-- the text of the file is these bytes
abbrev pub sample_is_written : Type 0
sample_is_written = symbols_text sample_parts ≡ sample_text
