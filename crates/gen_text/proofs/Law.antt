-- One tree for each spelling; what is read is exactly what is spelled within the room; a fault is the first place.
use Rattle.std.proofs.Common.{◌≡◌, ◌≤◌, ◌<◌, ◌+◌, ℕ, zero, suc, cond, List, [], ◌∷◌, ◌++◌, length, Option, Some, None, IsSome, option_and_then, Result, Ok, Err, refl, sym, ap, ap₂, subst, ◌∙◌, arith, append-nil, append_assoc, length-append, inl, inr}
use Rattle.std.proofs.lemmas.Bool.{cases_lt}
use Rattle.gen_token.specs.declared.Keyword.TheVariants as keyword
use Rattle.gen_token.specs.Words.{Tok}
use Rattle.gen_tree.specs.declared.Dialect.{Dialect}
use Rattle.gen_tree.specs.declared.Dialect.TheVariants as dialect
use Rattle.gen_tree.specs.Brackets.{opens, side, room_after, room_left, Within}
use Rattle.gen_tree.specs.Tree.{Import, Module, Source}
use Rattle.gen_tree.specs.Grammar.{Each, SpellsModule, SpellsModules, SpellsImport, Spells}
use Rattle.gen_tree.specs.Places.{IsSource, IsBad, FaultAt}
use Rattle.gen_text.specs.Forms.{is_keyword}
use Rattle.gen_text.specs.Reading.{Read, ◌>>=◌, none_left, module_at, modules_by, modules_at, begins_import, imports_at, with_imports, source_at}
use Rattle.gen_text.proofs.Machine.{Symbol, a_module, imports_end, settle, run, run_by, at_end, accepted, stopped}
use Rattle.gen_text.proofs.Moves.{Reads}
use Rattle.gen_text.proofs.WordsRead.{test}
use Rattle.gen_text.proofs.ModulesRead.{module_reads}
use Rattle.gen_text.proofs.Depth.{each_depth, module_depth}
use Rattle.gen_text.proofs.OnlyModules.{modules_only}
use Rattle.gen_text.proofs.Lists.{EachReads}
use Rattle.gen_text.proofs.ImportsRead.{imports_read, imports_only, after_imports}
use Rattle.gen_text.proofs.Completions.{Halt, halts, Why}

modules_read : (b : List Module) (room : ℕ) (ts : List Tok) → each_depth module_depth b ≤ room → SpellsModules b ts → modules_at room ts ≡ Ok b
modules_read [] room ts le h = absurd h
modules_read (m ∷ ms) room ts le h = modules_only m ms (suc (length ts)) room ts le (omega arith) h

-- how many brackets a source opens at once
abbrev pub source_depth : Source → ℕ
source_depth s = each_depth module_depth s.modules

pub spelled_read : (s : Source) (room : ℕ) (ts : List Tok) → source_depth s ≤ room → Spells s ts → source_at room ts ≡ Ok s
spelled_read s room ts le (mid, is, ms) =
    rw (imports_only s.imports s.modules ts mid is ms, modules_read s.modules room mid le ms) refl

abbrev source_or : Source → Result Source ℕ → Source
source_or d (Ok b) = b
source_or d (Err left) = d

pub one_tree : (a b : Source) (ts : List Tok) → Spells a ts → Spells b ts → a ≡ b
one_tree a b ts ha hb =
    let room : ℕ = source_depth a + source_depth b in
    let ea : source_at room ts ≡ Ok a = spelled_read a room ts (omega arith) ha in
    let eb : source_at room ts ≡ Ok b = spelled_read b room ts (omega arith) hb in
    ap (source_or a) (sym ea ∙ eb)

-- what the reader of modules answers, and what the machine does
abbrev Answer : ℕ → List Tok → Result (List Module) ℕ → Type 0
Answer room ts (Ok b) = SpellsModules b ts × (run dialect.Source room (a_module ∷ []) ts ≡ accepted)
Answer room ts (Err left) = run dialect.Source room (a_module ∷ []) ts ≡ stopped left

at_bottom : (room : ℕ) → run dialect.Source room [] [] ≡ accepted
unfolding run at_end
at_bottom room = refl

-- at the bottom another module begins as the first does
bottom : (room : ℕ) (t : Tok) (ts : List Tok) → run dialect.Source room [] (t ∷ ts) ≡ run dialect.Source room (a_module ∷ []) (t ∷ ts)
unfolding run settle
bottom room t ts = elim (test (is_keyword keyword.Module t.word)) [ inl e ↦ rw e refl | inr e ↦ rw e refl ]

abbrev ReadsModule : ℕ → List Tok → Read Module → Type 0
ReadsModule room ts o = Reads dialect.Source room (a_module ∷ []) ts room (λ m rest. SpellsModule m ts rest × (length rest < length ts)) o

answers : (n room : ℕ) (ts : List Tok) → length ts < n → Answer room ts (modules_by n room ts)
unfolding modules_by
answers zero room ts lt = absurd (omega arith)
answers (suc n) room ts lt = by (λ t1 l. answers n room t1 l) (module_at room ts) (module_reads room ts)
  where
    put : (m : Module) (t : Tok) (t1 : List Tok) → (run dialect.Source room (a_module ∷ []) ts ≡ run dialect.Source room (a_module ∷ []) (t ∷ t1)) → SpellsModule m ts (t ∷ t1) → (o : Result (List Module) ℕ) → Answer room (t ∷ t1) o → Answer room ts (o >>= λ more. Ok (m ∷ more))
    put m t t1 c s (Ok []) g = absurd g.0
    put m t t1 c s (Ok (m2 ∷ more)) g = ((t ∷ t1, s, g.0), c ∙ g.1)
    put m t t1 c s (Err left) g = c ∙ g

    by : ((t1 : List Tok) → length t1 < n → Answer room t1 (modules_by n room t1)) → (o : Read Module) → ReadsModule room ts o
        → Answer room ts (o >>= λ m. cond (none_left m.1) (Ok (m.0 ∷ [])) (modules_by n room m.1 >>= λ more. Ok (m.0 ∷ more)))
    by next (Err left) g = g.reads.stops []
    by next (Ok (m, [])) g = (([], g.reads.1.0, refl), g.reads.0.comes [] ∙ at_bottom room)
    by next (Ok (m, t ∷ t1)) g = put m t t1 (g.reads.0.comes [] ∙ bottom room t t1) g.reads.1.0 (modules_by n room (t ∷ t1)) (next (t ∷ t1) (omega (arith, g.reads.1.1)))

-- the same of a source
abbrev Whole : ℕ → List Tok → Result Source ℕ → Type 0
Whole room ts (Ok s) = Spells s ts × (run dialect.Source room (imports_end ∷ []) ts ≡ accepted)
Whole room ts (Err left) = run dialect.Source room (imports_end ∷ []) ts ≡ stopped left

whole : (room : ℕ) (ts : List Tok) → Whole room ts (source_at room ts)
whole room ts = by (imports_at ts) (imports_read room ts)
  where
    put : (is : List Import) (mid : List Tok) → (run dialect.Source room (imports_end ∷ []) ts ≡ run dialect.Source room (a_module ∷ []) mid) → Each SpellsImport is ts mid → (o : Result (List Module) ℕ) → Answer room mid o
        → Whole room ts (o >>= λ modules. Ok (with_imports is modules))
    put is mid c s (Ok ms) g = ((mid, s, g.0), c ∙ g.1)
    put is mid c s (Err left) g = c ∙ g

    by : (o : Read (List Import)) → EachReads dialect.Source room imports_end begins_import SpellsImport ts o
        → Whole room ts (o >>= λ found. modules_at room found.1 >>= λ modules. Ok (with_imports found.0 modules))
    by (Ok p) g = put p.0 p.1 (g.reads.0.comes [] ∙ (after_imports room p.1 g.reads.3).comes []) g.reads.1 (modules_at room p.1) (answers (suc (length p.1)) room p.1 (omega arith))
    by (Err left) g = g.reads.stops []

record Told (room : ℕ) (ts : List Tok) : Type 0 where
  ok : (b : Source) → source_at room ts ≡ Ok b → Spells b ts × (run dialect.Source room (imports_end ∷ []) ts ≡ accepted)
  err : (left : ℕ) → source_at room ts ≡ Err left → run dialect.Source room (imports_end ∷ []) ts ≡ stopped left

answer : (room : ℕ) (ts : List Tok) → Told room ts
answer room ts =
    let all : Whole room ts (source_at room ts) = whole room ts in
    record { ok = λ b e. subst (λ (o : Result Source ℕ). Whole room ts o) e all; err = λ left e. subst (λ (o : Result Source ℕ). Whole room ts o) e all }

-- a list that the machine accepts is the spelling of a tree
accepted_spelled : (room : ℕ) (ts : List Tok) → run dialect.Source room (imports_end ∷ []) ts ≡ accepted → IsSource ts
accepted_spelled room ts e = by (source_at room ts) refl
  where
    by : (o : Result Source ℕ) → source_at room ts ≡ o → IsSource ts
    by (Ok b) eo = (b, ((answer room ts).ok b eo).0)
    by (Err left) eo = let h : stopped left ≡ accepted = sym ((answer room ts).err left eo) ∙ e in absurd cc

spelled_accepted : (b : Source) (ts : List Tok) → Spells b ts → run dialect.Source (source_depth b) (imports_end ∷ []) ts ≡ accepted
spelled_accepted b ts h = ((answer (source_depth b) ts).ok b (spelled_read b (source_depth b) ts (omega arith) h)).1

-- ---- the room

pub accepted_within : (m : Dialect) (ts : List Tok) (room : ℕ) (stack : List Symbol) → run m room stack ts ≡ accepted → Within room ts
unfolding run
accepted_within m [] room stack e = refl
accepted_within m (t ∷ ts) room stack e = by (λ r s. accepted_within m ts r s) (settle m stack t.word) (room_after room t.word) e
  where
    by : ((r : ℕ) (s : List Symbol) → run m r s ts ≡ accepted → Within r ts) → (s : Option (List Symbol)) (r : Option ℕ) → run_by s r (suc (length ts)) (λ r s. run m r s ts) ≡ accepted → IsSome (option_and_then (λ r. room_left r ts) r)
    by more None r e = absurd cc
    by more (Some s) None e = absurd cc
    by more (Some s) (Some r) e = more r s e

pub accepted_if_within : (m : Dialect) (ts : List Tok) (big room : ℕ) (stack : List Symbol) → run m big stack ts ≡ accepted → Within room ts → run m room stack ts ≡ accepted
unfolding run
accepted_if_within m [] big room stack e w = e
accepted_if_within m (t ∷ ts) big room stack e w = by (λ r r2 s. accepted_if_within m ts r r2 s) (settle m stack t.word) (room_after big t.word) (room_after room t.word) e w
  where
    by : ((r r2 : ℕ) (s : List Symbol) → run m r s ts ≡ accepted → Within r2 ts → run m r2 s ts ≡ accepted) → (s : Option (List Symbol)) (r r2 : Option ℕ) → run_by s r (suc (length ts)) (λ r s. run m r s ts) ≡ accepted → IsSome (option_and_then (λ r. room_left r ts) r2) → run_by s r2 (suc (length ts)) (λ r s. run m r s ts) ≡ accepted
    by more None r r2 e w = absurd cc
    by more (Some s) None r2 e w = absurd cc
    by more (Some s) (Some r) None e w = absurd cc
    by more (Some s) (Some r) (Some r2) e w = more r r2 s e w

-- ---- the theorem

pub read_found : (room : ℕ) (ts : List Tok) (b : Source) → source_at room ts ≡ Ok b → Spells b ts × Within room ts
read_found room ts b e = let a = (answer room ts).ok b e in (a.0, accepted_within dialect.Source ts room (imports_end ∷ []) a.1)

pub read_only : (room : ℕ) (ts : List Tok) (b : Source) → Spells b ts → Within room ts → source_at room ts ≡ Ok b
read_only room ts b h w = by (source_at room ts) refl
  where
    by : (o : Result Source ℕ) → source_at room ts ≡ o → o ≡ Ok b
    by (Ok c) eo = ap Ok (one_tree c b ts ((answer room ts).ok c eo).0 h)
    by (Err left) eo =
        let acc : run dialect.Source room (imports_end ∷ []) ts ≡ accepted = accepted_if_within dialect.Source ts (source_depth b) room (imports_end ∷ []) (spelled_accepted b ts h) w in
        let bad : stopped left ≡ accepted = sym ((answer room ts).err left eo) ∙ acc in absurd cc

bad_is : (room : ℕ) (ts good bad : List Tok) (left : ℕ) → source_at room ts ≡ Err left → ts ≡ good ++ bad → Within room good → Why dialect.Source room (imports_end ∷ []) good bad → IsBad IsSource room good bad
bad_is room ts good [] left e parts w why = λ whole.
    let all : ts ≡ good = parts ∙ append-nil good in
    let is : source_at room good ≡ Ok whole.0 = read_only room good whole.0 whole.1 w in
    let bad : source_at room good ≡ Err left = ap (source_at room) (sym all) ∙ e in
    let wrong : Ok whole.0 ≡ Err left = sym is ∙ bad in
    absurd cc
bad_is room ts good (t ∷ rest) left e parts w (inl none) = inl (λ more whole. none more (source_depth whole.0) (spelled_accepted whole.0 (good ++ t ∷ more) whole.1))
bad_is room ts good (t ∷ rest) left e parts w (inr deep) = inr deep

pub read_fault : (room : ℕ) (ts : List Tok) (left : ℕ) → source_at room ts ≡ Err left → FaultAt IsSource room ts left
read_fault room ts left e =
    let h : Halt dialect.Source room (imports_end ∷ []) ts left = halts dialect.Source ts room left (imports_end ∷ []) ((answer room ts).err left e) in
    record { good = h.good; bad = h.bad; parts = h.parts; count = h.count; completion = h.completion; begins = accepted_spelled (room + h.extra) (h.good ++ h.completion) h.begins; within = h.within; is_bad = bad_is room ts h.good h.bad left e h.parts h.within h.why }

-- a bracket for which there is no room
too_many : (good : List Tok) (room : ℕ) (t : Tok) (more : List Tok) → room_left room good ≡ Some 0 → side t.word ≡ opens → Within room (good ++ t ∷ more) → ⊥
too_many [] room t more e h w = let z : room ≡ 0 = cc in let gone : room_after room t.word ≡ None = rw (z, h) refl in (let w2 : IsSome (option_and_then (λ r. room_left r more) None) = rw gone at w in absurd cc)
too_many (g ∷ good) room t more e h w = by (λ r. too_many good r t more) (room_after room g.word) e w
  where
    by : ((r : ℕ) → room_left r good ≡ Some 0 → side t.word ≡ opens → Within r (good ++ t ∷ more) → ⊥) → (o : Option ℕ) → option_and_then (λ r. room_left r good) o ≡ Some 0 → IsSome (option_and_then (λ r. room_left r (good ++ t ∷ more)) o) → ⊥
    by next None e w = absurd cc
    by next (Some r) e w = next r e h w

-- what is whole has no fault
pub none_in_whole : (S : List Tok → Type 0) (room : ℕ) (ts : List Tok) (left : ℕ) → S ts → Within room ts → FaultAt S room ts left → ⊥
none_in_whole S room ts left s w f = by f.bad f.parts f.is_bad
  where
    by : (bad : List Tok) → ts ≡ f.good ++ bad → IsBad S room f.good bad → ⊥
    by [] parts bad = bad (subst (λ (x : List Tok). S x) (parts ∙ append-nil f.good) s)
    by (t ∷ rest) parts (inl none) = none rest (subst (λ (x : List Tok). S x) parts s)
    by (t ∷ rest) parts (inr deep) = too_many f.good room t rest deep.0 deep.1 (subst (λ (x : List Tok). Within room x) parts w)

pub not_whole : (room : ℕ) (ts : List Tok) (source : Source) (left : ℕ) → Spells source ts → Within room ts → FaultAt IsSource room ts left → ⊥
not_whole room ts source left s w f = none_in_whole IsSource room ts left (source, s) w f

-- ---- the place is one

-- of two cuts of one list, the later goes over the earlier
record Later (a b c d : List Tok) : Type 0 where
  first : Tok
  between : List Tok
  front : c ≡ a ++ first ∷ between
  back : b ≡ first ∷ between ++ d

later : (a b c d : List Tok) → a ++ b ≡ c ++ d → length a < length c → Later a b c d
later a b [] d e lt = absurd (omega arith)
later [] b (t ∷ c) d e lt = record { first = t; between = c; front = refl; back = e }
later (u ∷ a) b (t ∷ c) d e lt =
    let same : u ≡ t = cc in
    let rest : a ++ b ≡ c ++ d = cc in
    let l : Later a b c d = later a b c d rest (omega arith) in
    record { first = l.first; between = l.between; front = ap₂ (λ x xs. x ∷ xs) (sym same) l.front; back = l.back }

not_before : (S : List Tok → Type 0) (room : ℕ) (ts : List Tok) (left left2 : ℕ) → FaultAt S room ts left → FaultAt S room ts left2 → left2 < left → ⊥
not_before S room ts left left2 f g lt = by f.bad (later f.good f.bad g.good g.bad (sym f.parts ∙ g.parts) shorter) f.is_bad
  where
    shorter : length f.good < length g.good
    shorter = omega (arith, f.count, g.count, simp length-append at (ap length (sym f.parts ∙ g.parts)))

    by : (bad : List Tok) → Later f.good bad g.good g.bad → IsBad S room f.good bad → ⊥
    by [] l h = absurd (let e = l.back in cc)
    by (t ∷ rest) l (inl none) =
        let same : l.first ≡ t = (let e = l.back in cc) in
        let goes : S (f.good ++ t ∷ (l.between ++ g.completion)) = subst (λ (x : List Tok). S x) (ap (λ (x : List Tok). x ++ g.completion) l.front ∙ append_assoc f.good (l.first ∷ l.between) g.completion ∙ ap (λ (x : Tok). f.good ++ x ∷ (l.between ++ g.completion)) same) g.begins in
        none (l.between ++ g.completion) goes
    by (t ∷ rest) l (inr deep) =
        let same : l.first ≡ t = (let e = l.back in cc) in
        too_many f.good room t l.between deep.0 deep.1 (subst (λ (x : List Tok). Within room x) (l.front ∙ ap (λ (x : Tok). f.good ++ x ∷ l.between) same) g.within)

pub one_fault : (S : List Tok → Type 0) (room : ℕ) (ts : List Tok) (left left2 : ℕ) → FaultAt S room ts left → FaultAt S room ts left2 → left ≡ left2
one_fault S room ts left left2 f g = elim (cases_lt left left2) [
  | inl lt ↦ absurd (not_before S room ts left2 left g f lt)
  | inr le ↦ elim (cases_lt left2 left) [
    | inl lt ↦ absurd (not_before S room ts left left2 f g lt)
    | inr le2 ↦ omega arith
  ]
]
